use Rattle.std.proofs.Common.{sym, ◌∙◌, true≢false}
use Rattle.fractions.specs.Order.{◌<ℚ◌}
use Rattle.fractions.specs.Comparisons.{le_ℚ-is}
use Rattle.lp_theory.proofs.Pairs.{below_if_not}
use Rattle.simplex_steps.proofs.Nearest.{best_kept, best_taken}
use Rattle.simplex_steps.proofs.limits.nearer_of.Goals as goal

pub returns-then-le : goal.returns-then-le
returns-then-le c = λ limits e h. best_kept limits c.args.m c.args.stop c.args.far e ((le_ℚ-is c.args.stop.far c.args.far).0 (sym c.le.ensures ∙ c.if-le.true)) h

pub returns-else-le : goal.returns-else-le
returns-else-le c = λ limits e h.
    let k : c.args.far <ℚ c.args.stop.far = below_if_not (λ q. true≢false (sym ((le_ℚ-is c.args.stop.far c.args.far).1 q) ∙ sym c.le.ensures ∙ c.if-le.false)) in
    best_taken limits c.args.m c.args.stop c.args.far e k h
