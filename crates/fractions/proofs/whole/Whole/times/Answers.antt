use Rattle.std.proofs.Common.{◌<◌, ◌^◌, ℤ, ◌*ℤ◌, unsigned_abs, sym, ap₂, ◌∙◌, subst}
use Rattle.fractions.proofs.ShortProducts.{short_product, short_product_fits}
use Rattle.fractions.proofs.whole.Whole.times.Goals as goal

pub invariant_of-result : goal.invariant_of-result
invariant_of-result c =
    let short : unsigned_abs c.self.inside.value < 2 ^ 63 = subst (λ (z : ℤ). unsigned_abs z < 2 ^ 63) (sym c.self.view_is) (c.is_short.ensures.0 c.if-is_short.true) in
    let other : unsigned_abs c.other.inside.value < 2 ^ 63 = subst (λ (z : ℤ). unsigned_abs z < 2 ^ 63) (sym c.other.view_is) (c.is_short-then-is_short.ensures.0 c.if-is_short-2.true) in
    subst (λ (z : ℤ). unsigned_abs z < 2 ^ 127) (sym (short_product c.self.inside.value c.other.inside.value short other)) (short_product_fits c.self.inside.value c.other.inside.value short other)

pub returns-then-is_short-2 : goal.returns-then-is_short-2
returns-then-is_short-2 c =
    let short : unsigned_abs c.args.self < 2 ^ 63 = c.is_short.ensures.0 c.if-is_short.true in
    let other : unsigned_abs c.args.other < 2 ^ 63 = c.is_short-then-is_short.ensures.0 c.if-is_short-2.true in
    let short' : unsigned_abs c.self.inside.value < 2 ^ 63 = subst (λ (z : ℤ). unsigned_abs z < 2 ^ 63) (sym c.self.view_is) short in
    let other' : unsigned_abs c.other.inside.value < 2 ^ 63 = subst (λ (z : ℤ). unsigned_abs z < 2 ^ 63) (sym c.other.view_is) other in
    (short_product_fits c.args.self c.args.other short other, short_product c.self.inside.value c.other.inside.value short' other' ∙ ap₂ ◌*ℤ◌ c.self.view_is c.other.view_is)
