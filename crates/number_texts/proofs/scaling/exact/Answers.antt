use Rattle.std.proofs.Common.{◌+◌, cond, arith, ap, ◌∙◌, sym, ℕ}
use Rattle.fractions.specs.Scaled.{scaled}
use Rattle.fractions.proofs.ScalingLaws.{known}
use Rattle.number_texts.specs.Form.{number as number_of}
use Rattle.number_texts.specs.Read.{signed}
use Rattle.number_texts.proofs.ReadingLaws.{far_none, far_past}
use Rattle.number_texts.proofs.scaling.exact.Goals as goal

pub returns-then-size-eq0 : goal.returns-then-size-eq0
returns-then-size-eq0 c = known _ _ (c.zero.ensures.value ∙ sym (far_none c.args.negative (c.args.zeros + cond c.args.below 0 (number_of c.args.exponent.now)) (c.args.places + cond c.args.below (number_of c.args.exponent.now) 0)) ∙ ap (λ (n : ℕ). scaled (signed c.args.negative n) (c.args.zeros + cond c.args.below 0 (number_of c.args.exponent.now)) (c.args.places + cond c.args.below (number_of c.args.exponent.now) 0)) (sym c.if-size-eq0.true)) c.zero.ensures.fits

pub returns-else-size-eq0 : goal.returns-else-size-eq0
returns-else-size-eq0 c = far_past c.args.negative c.args.below c.args.size c.args.zeros c.args.places (number_of c.args.exponent.now) (omega arith) c.requires.small (omega arith) (omega arith) (omega (arith, c.in-None.ensures))
