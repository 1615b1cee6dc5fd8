-- The fields of an `Ext` from its end.
use Rattle.std.proofs.Common.{◌≡◌, ◌⊎◌, inl, inr, ℕ, ◌<◌, Bool, false, nat_eq, ℤ, pos, Option, Some, None, sym, ap, ◌∙◌, arith}
use Rattle.std.specs.Prelude.{if◌then◌else◌}
use Rattle.std.proofs.lemmas.Bool.Decides.{nat_tests}
use Rattle.fractions.specs.Number.{Number}
use Rattle.fractions.specs.Lowest.{ratio, IsLowest, over_of, under_of, over_of-ratio, under_of-ratio}
use Rattle.fractions.specs.declared.ext.Ext.TheInside.{Inside}

-- n / d is an end, or none where d is 0
abbrev pub end_of : ℤ → ℕ → Option Number
end_of n d = if nat_eq d 0 then None else Some (ratio n d)

-- in lowest terms, or 0 over 0
abbrev pub IsEnd : ℤ → ℕ → Type 0
IsEnd n d = ((n ≡ pos 0) × (d ≡ 0)) ⊎ IsLowest n d

-- the numerator and the denominator
abbrev pub end_over : Option Number → ℤ
end_over None = pos 0
end_over (Some q) = over_of q

abbrev pub end_under : Option Number → ℕ
end_under None = 0
end_under (Some q) = under_of q

pub end_is : (n : ℤ) (d : ℕ) → 0 < d → end_of n d ≡ Some (ratio n d)
end_is n d p = ap (λ (b : Bool). if b then None else Some (ratio n d)) (apart d p)
  where
    apart : (k : ℕ) → 0 < k → nat_eq k 0 ≡ false
    apart k q = grind (arith, nat_tests, q)

-- they give the fields back
pub end_right : (e : Inside) → IsEnd e.parts.num e.parts.den → ◌≡◌ {A = Inside} (record { parts = record { num = end_over (end_of e.parts.num e.parts.den); den = end_under (end_of e.parts.num e.parts.den) } }) e
end_right e (inl h) =
    let num : end_over (end_of e.parts.num e.parts.den) ≡ e.parts.num = ap (λ d. end_over (end_of e.parts.num d)) h.1 ∙ sym h.0 in
    let den : end_under (end_of e.parts.num e.parts.den) ≡ e.parts.den = ap (λ d. end_under (end_of e.parts.num d)) h.1 ∙ sym h.1 in
    λ i. record { parts = record { num = num i; den = den i } }
end_right e (inr h) =
    let is : end_of e.parts.num e.parts.den ≡ Some (ratio e.parts.num e.parts.den) = end_is e.parts.num e.parts.den h.positive in
    let num : end_over (end_of e.parts.num e.parts.den) ≡ e.parts.num = ap end_over is ∙ over_of-ratio e.parts.num e.parts.den h in
    let den : end_under (end_of e.parts.num e.parts.den) ≡ e.parts.den = ap end_under is ∙ under_of-ratio e.parts.num e.parts.den h in
    λ i. record { parts = record { num = num i; den = den i } }
