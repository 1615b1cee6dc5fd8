use Rattle.std.proofs.Common.{sym, ap, ◌∙◌}
use Rattle.std.specs.Ordering.{is_le}
use Rattle.fractions.specs.Compare.{number_cmp-ratio}
use Rattle.fractions.specs.Comparisons.{is_le-cmp}
use Rattle.kept_sums.proofs.kept_sides.is_at_most.Goals as goal

pub returns-in-Some : goal.returns-in-Some
returns-in-Some c = c.is_le.ensures ∙ ap is_le (c.in-Some.ensures ∙ sym (number_cmp-ratio _ _ _ _ c.requires.left c.requires.right)) ∙ is_le-cmp _ _
