-- A column's bounds, and its reach and its gap, ask the same of a value.
use Rattle.std.proofs.Common.{◌≡◌, ◌≢◌, ◌⊎◌, inl, inr, refl, sym, ap, subst, Bool, true, false, IsTrue, Option, Some, None}
use Rattle.std.specs.Prelude.{if◌then◌else◌}
use Rattle.fractions.specs.Number.{Number, zero_ℚ}
use Rattle.fractions.specs.Order.{◌≤ℚ◌, ◌<ℚ◌, ≤ℚ_refl, ≤ℚ_trans, ≤ℚ_cases, <ℚ-not}
use Rattle.fractions.specs.Ends.{AtLeast, AtMost, Between}
use Rattle.fractions.specs.MinMax.{min_ℚ, max_ℚ}
use Rattle.fractions.proofs.MinMaxLaws.{min_ℚ-≤_left, min_ℚ-≤_right, ≤ℚ-max_ℚ_left, ≤ℚ-max_ℚ_right}
use Rattle.fractions.specs.Comparisons.{lt_ℚ-is}
use Rattle.lp_model.specs.EndTests.{is_crossed}
use Rattle.lp_model.specs.Gaps.{Gap, OffGap, Lies, Clears, gap_of, low_or_zero, high_or_zero, hull_lower, hull_upper, reach_lower, reach_upper}

zero_low : (l : Option Number) → AtLeast (low_or_zero l) zero_ℚ
zero_low None = tt
zero_low (Some l) = min_ℚ-≤_left zero_ℚ l

zero_high : (u : Option Number) → AtMost (high_or_zero u) zero_ℚ
zero_high None = tt
zero_high (Some u) = ≤ℚ-max_ℚ_left zero_ℚ u

hull_zero : (l u : Option Number) → Between (hull_lower l u) (hull_upper l u) zero_ℚ
hull_zero l u = elim (is_crossed l u) as (λ t. Between (if t then Some zero_ℚ else low_or_zero l) (if t then Some zero_ℚ else high_or_zero u) zero_ℚ) [
  | true ↦ record { low = ≤ℚ_refl zero_ℚ; high = ≤ℚ_refl zero_ℚ }
  | false ↦ record { low = zero_low l; high = zero_high u }
]

between_low : (l : Option Number) (v : Number) → AtLeast l v → AtLeast (low_or_zero l) v
between_low None v h = tt
between_low (Some l) v h = ≤ℚ_trans (min_ℚ-≤_right zero_ℚ l) h

between_high : (u : Option Number) (v : Number) → AtMost u v → AtMost (high_or_zero u) v
between_high None v h = tt
between_high (Some u) v h = ≤ℚ_trans h (≤ℚ-max_ℚ_right zero_ℚ u)

not_both : (l u : Option Number) (v : Number) → Between l u v → is_crossed l u ≡ true → ⊥
not_both None u v b e = cc
not_both (Some l) None v b e = cc
not_both (Some l) (Some u) v b e = <ℚ-not ((lt_ℚ-is u l).0 e) (≤ℚ_trans b.low b.high)

hull_between : (l u : Option Number) (v : Number) → Between l u v → Between (hull_lower l u) (hull_upper l u) v
hull_between l u v b = by (is_crossed l u) refl
  where
    by : (t : Bool) → is_crossed l u ≡ t → Between (if t then Some zero_ℚ else low_or_zero l) (if t then Some zero_ℚ else high_or_zero u) v
    by true e = absurd (not_both l u v b e)
    by false e = record { low = between_low l v b.low; high = between_high u v b.high }

-- what lies within its bounds, or is 0 where that is let through, is within the column's reach and clears its gap
pub reaches : (semi : Bool) (l u : Option Number) (v : Number) → Lies semi l u v → Between (reach_lower semi l u) (reach_upper semi l u) v × Clears (gap_of semi l u) v
reaches true l u v (inl b) = (hull_between l u v b, inr b)
reaches true l u v (inr z) = (subst (Between (hull_lower l u) (hull_upper l u)) (sym z.1) (hull_zero l u), inl z.1)
reaches false l u v (inl b) = (b, tt)
reaches false l u v (inr z) = absurd (let e = z.0 in cc)

-- and the other way
pub lies : (semi : Bool) (l u : Option Number) (v : Number) → Between (reach_lower semi l u) (reach_upper semi l u) v → Clears (gap_of semi l u) v → Lies semi l u v
lies true l u v b (inl z) = inr (refl, z)
lies true l u v b (inr c) = inl c
lies false l u v b c = inl b
