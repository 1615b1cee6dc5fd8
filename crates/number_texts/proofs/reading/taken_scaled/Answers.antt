use Rattle.std.proofs.Common.{arith, ap, sym, ◌∙◌, Ok}
use Rattle.fractions.specs.Number.{Number}
use Rattle.fractions.specs.Scaled.{scaled}
use Rattle.fractions.proofs.ScalingLaws.{decimal-scaled}
use Rattle.number_texts.proofs.RangeLaws.{in_range-decimal, in_range-past}
use Rattle.number_texts.proofs.reading.taken_scaled.Goals as goal

pub returns-then-saturating_sub-le38 : goal.returns-then-saturating_sub-le38
returns-then-saturating_sub-le38 c =
    let f = c.in-Ok.ensures.0 in
    ap (λ (q : Number). Ok q) c.in-Ok.ensures.1
    ∙ sym (in_range-decimal c.args.numbers (scaled c.args.whole c.args.up c.args.down) f (decimal-scaled c.args.whole c.args.up c.args.down c.requires (omega (arith, c.saturating_sub.ensures, c.if-saturating_sub-le38.true)) f))

pub returns-in-Err : goal.returns-in-Err
returns-in-Err c = sym (in_range-past c.args.numbers (scaled c.args.whole c.args.up c.args.down) c.in-Err.ensures)
