use Rattle.std.proofs.Common.{arith}
use Rattle.number_texts.proofs.ShortLaws.{whole_mantissa, point_mantissa}
use Rattle.number_texts.proofs.short.mantissa.Goals as goal

pub returns-in-None-clause-form : goal.returns-in-None-clause-form
returns-in-None-clause-form c = whole_mantissa _ _ _ c.in_ok-whole.ensures.value c.if-rest-text.true

pub returns-else-text-behind-lt2-clause-form : goal.returns-else-text-behind-lt2-clause-form
returns-else-text-behind-lt2-clause-form c =
    let s = c.in-Some.ensures in
    let n = c.in_ok-number-in-Some.ensures in
    point_mantissa _ _ _ _ _ _ c.in_ok-whole.ensures.value s.some s.point s.rest n.value (omega (arith, c.if-text-behind-lt2.false))
