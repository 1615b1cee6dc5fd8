use Rattle.mps_laws.proofs.Entries.{ids_count, terms_ascend, columns_ascend}
use Rattle.mps_laws.proofs.term_laws.terms_ascend.Goals as goal

pub returns : goal.returns
returns c = record { ids = ids_count; terms = terms_ascend; columns = columns_ascend }
