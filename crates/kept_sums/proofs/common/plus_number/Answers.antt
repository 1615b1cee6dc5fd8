use Rattle.std.proofs.Common.{◌≡◌, ◌+◌, ◌*◌, ◌/◌, ◌++◌, ◌∷◌, ℤ, ℕ, pos, ◌+ℤ◌, ◌*ℤ◌, nat_abs, List, Option, Some, None, IfSome, refl, sym, ap, ap₂, ◌∙◌, subst}
use Rattle.fractions.specs.Number.{Number}
use Rattle.fractions.specs.Lowest.{over_of, under_of}
use Rattle.kept_sums.specs.CommonSums.{IsCommonMultiple, IsCommonSum}
use Rattle.kept_sums.specs.declared.common.CommonSum.{CommonSum}
use Rattle.kept_sums.proofs.Numerators.{number_more}
use Rattle.kept_sums.proofs.Over.{of_number}
use Rattle.kept_sums.proofs.common.plus_number.Goals as goal

pub returns-clause-value : goal.returns-clause-value
returns-clause-value c a b h =
    let term : c.in-Ok.term ≡ of_number c.in_ok-denominator.denominator c.args.number.now =
    c.in-Ok.ensures.1 ∙ ap₂ (λ (z : ℤ) (n : ℕ). z *ℤ pos n) c.parts-parts.ensures.num (c.quotient.ensures ∙ ap (λ (n : ℕ). c.in_ok-denominator.denominator / n) c.parts-parts.ensures.den) in
    number_more a b c.args.number.now c.args.sum.now _ h
    (subst (λ (n : ℕ). IsCommonMultiple c.args.sum.now.denominator n c.in_ok-denominator.denominator) c.parts-parts.ensures.den c.in_ok-denominator.ensures)
    (c.in-Ok-plus.ensures.1 ∙ ap₂ ◌+ℤ◌ (c.in-Ok-scaled.ensures.1 ∙ ap (λ (n : ℕ). c.args.sum.now.total *ℤ pos n) c.quotient-scale.ensures) term)
    (c.in_ok-sizes.ensures.1 ∙ ap₂ ◌+◌ (c.in_ok-checked_mul.ensures.1 ∙ ap (λ (n : ℕ). c.args.sum.now.sizes * n) c.quotient-scale.ensures) (c.size.ensures.value ∙ ap nat_abs term))
    c.if-sizes.false refl

pub returns-then-parts-sum-clause-value : goal.returns-then-parts-sum-clause-value
returns-then-parts-sum-clause-value c = by c.plus_numerator.result c.plus_numerator.ensures.value
  where
    by : (o : Option CommonSum) → IfSome o (λ t. (q : Number) (a b : List (Option Number)) → under_of q ≡ c.args.sum.now.denominator → over_of q ≡ c.parts-parts.result.num → IsCommonSum (a ++ b) c.args.sum.now → IsCommonSum (a ++ Some q ∷ b) t)
        → IfSome o (λ t. (a b : List (Option Number)) → IsCommonSum (a ++ b) c.args.sum.now → IsCommonSum (a ++ Some c.args.number.now ∷ b) t)
    by None f = tt
    by (Some t) f = λ a b h. f c.args.number.now a b (sym c.parts-parts.ensures.den ∙ c.if-parts-sum.true) (sym c.parts-parts.ensures.num) h
