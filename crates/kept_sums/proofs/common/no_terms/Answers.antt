use Rattle.std.proofs.Common.{refl}
use Rattle.kept_sums.proofs.Numerators.{no_terms-are}
use Rattle.kept_sums.proofs.common.no_terms.Goals as goal

pub returns : goal.returns
returns c = no_terms-are _ refl c.new.ensures refl refl
