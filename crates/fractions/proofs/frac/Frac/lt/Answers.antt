use Rattle.std.proofs.Common.{ap, ◌∙◌}
use Rattle.std.specs.Ordering.{is_lt}
use Rattle.fractions.specs.Comparisons.{is_lt-cmp}
use Rattle.fractions.proofs.frac.Frac.lt.Goals as goal

pub returns : goal.returns
returns c = c.is_lt.ensures ∙ ap is_lt c.cmp.ensures ∙ is_lt-cmp _ _
