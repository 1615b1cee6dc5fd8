use Rattle.std.proofs.Common.{sym, ◌∙◌}
use Rattle.fractions.specs.Number.{zero_ℚ}
use Rattle.fractions.specs.Comparisons.{lt_ℚ-is}
use Rattle.simplex_steps.proofs.Moving.{move_up}
use Rattle.simplex_steps.proofs.ends.can_move.Goals as goal

pub returns-then-is_positive : goal.returns-then-is_positive
returns-then-is_positive c = move_up c.args.way.now c.args.value.now c.args.lower.now c.args.upper.now c.can_rise.result ((lt_ℚ-is zero_ℚ c.args.way.now).0 (sym c.is_positive.ensures ∙ c.if-is_positive.true)) c.can_rise.ensures
