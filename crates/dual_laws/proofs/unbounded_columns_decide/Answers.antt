use Rattle.dual_laws.proofs.UnboundedColumn.{decides}
use Rattle.dual_laws.proofs.unbounded_columns_decide.Goals as goal

pub returns : goal.returns
returns c = decides
