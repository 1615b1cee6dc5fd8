use Rattle.record_values.proofs.Laws.{made_again}
use Rattle.record_values.proofs.values_make_records.Goals as goal

pub returns : goal.returns
returns c = made_again
