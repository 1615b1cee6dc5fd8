use Rattle.std.proofs.Common.{◌-◌, arith, ap, ◌∙◌, sym, ℤ}
use Rattle.fractions.specs.Scaled.{scaled}
use Rattle.fractions.proofs.ScalingLaws.{known, moved, scaled-shift, scaled-none, is_none}
use Rattle.fractions.proofs.scaling.scale.Goals as goal

pub returns-then-size-eq0 : goal.returns-then-size-eq0
returns-then-size-eq0 c = known _ _ (c.zero.ensures.value ∙ sym (scaled-none c.args.up c.args.down) ∙ ap (λ (z : ℤ). scaled z c.args.up c.args.down) (sym (is_none c.args.n (sym c.size.ensures.value ∙ c.if-size-eq0.true)))) c.zero.ensures.fits

pub returns-then-up-down : goal.returns-then-up-down
returns-then-up-down c = moved c.times_power.result _ _ (scaled-shift c.args.n (c.args.up - c.args.down) 0 c.args.up c.args.down (omega arith)) c.times_power.ensures

pub returns-else-up-down : goal.returns-else-up-down
returns-else-up-down c = moved c.over_power.result _ _ (scaled-shift c.args.n 0 (c.args.down - c.args.up) c.args.up c.args.down (omega arith)) c.over_power.ensures
