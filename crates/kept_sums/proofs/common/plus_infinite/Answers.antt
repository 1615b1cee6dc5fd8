use Rattle.std.proofs.Common.{refl}
use Rattle.kept_sums.proofs.Numerators.{infinite_more}
use Rattle.kept_sums.proofs.common.plus_infinite.Goals as goal

pub returns-clause-value : goal.returns-clause-value
returns-clause-value c a b h = infinite_more a b c.args.sum.now _ h refl refl refl c.in_ok-checked_add.ensures.1
