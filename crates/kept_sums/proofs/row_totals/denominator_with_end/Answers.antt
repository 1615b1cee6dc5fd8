use Rattle.std.proofs.Common.{◌<◌, ◌^◌, ◌∷◌, [], ℕ, Option, Some, None, IfSome, IfNone, subst, sym, ◌∙◌}
use Prim.Native.Nat.{◌∣◌}
use Rattle.fractions.specs.Number.{Number}
use Rattle.fractions.specs.Lowest.{under_of}
use Rattle.kept_sums.specs.RowTotals.{IsLeastMultiple, IsLeastWith, IsPastWith}
use Rattle.kept_sums.proofs.Totals.{end_past, number_with, number_past}
use Rattle.kept_sums.proofs.row_totals.denominator_with_end.Goals as goal

pub returns-in_default-clause-none : goal.returns-in_default-clause-none
returns-in_default-clause-none c m p u o l w = end_past _ _ (sym c.in_default.is ∙ c.end_of.ensures.exact) m p l o w

pub returns-in-Some-clause-some : goal.returns-in-Some-clause-some
returns-in-Some-clause-some c =
    subst (λ (e : Option Number). IfSome c.least_multiple.result (IsLeastWith c.args.common (e ∷ []))) c.in-Ok.ensures.value
    (subst (λ (e : Option Number). IfSome c.least_multiple.result (IsLeastWith c.args.common (e ∷ []))) c.in-Some.ensures (by c.least_multiple.result (subst (λ (n : ℕ). IfSome c.least_multiple.result (IsLeastMultiple c.args.common n)) c.parts.ensures.den c.least_multiple.ensures.some)))
  where
    by : (r : Option ℕ) → IfSome r (IsLeastMultiple c.args.common (under_of c.in-Some.number)) → IfSome r (IsLeastWith c.args.common (Some c.in-Some.number ∷ []))
    by None h = tt
    by (Some d) h = number_with c.args.common d c.in-Some.number h

pub returns-in-Some-clause-none : goal.returns-in-Some-clause-none
returns-in-Some-clause-none c =
    subst (λ (e : Option Number). IfNone c.least_multiple.result (IsPastWith c.args.common e)) c.in-Ok.ensures.value
    (subst (λ (e : Option Number). IfNone c.least_multiple.result (IsPastWith c.args.common e)) c.in-Some.ensures (by c.least_multiple.result (subst (λ (n : ℕ). IfNone c.least_multiple.result ((m : ℕ) → 0 < m → c.args.common ∣ m → n ∣ m → 2 ^ 63 < m)) c.parts.ensures.den c.least_multiple.ensures.none)))
  where
    by : (r : Option ℕ) → IfNone r ((m : ℕ) → 0 < m → c.args.common ∣ m → under_of c.in-Some.number ∣ m → 2 ^ 63 < m) → IfNone r (IsPastWith c.args.common (Some c.in-Some.number))
    by None h = number_past c.args.common c.in-Some.number h
    by (Some d) h = tt
