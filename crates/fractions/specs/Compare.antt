-- The order of numbers as an answer.
use Rattle.std.proofs.Common.{refl, ◌≡◌, ℕ, ◌<◌, ℤ, pos, ◌*ℤ◌, Bool, true, false, not, ◌&&◌, Ordering, Less, Equal, Greater, ap₂, ◌∙◌, arith}
use lib.Signed.{le_z}
use Rattle.std.proofs.lemmas.Int.{ints}
use Rattle.std.specs.Ordering.{int_cmp}
use Rattle.fractions.specs.Number.{Number, Fraction, fraction, ◌-ℚ◌, same_bool}
use Rattle.fractions.specs.Order.{non_neg_ℚ, ≤ℚ-cross}
use Rattle.fractions.specs.Lowest.{ratio, ratio-is}

-- p ≤ q
abbrev pub le_ℚ : Number → Number → Bool
le_ℚ p q = non_neg_ℚ (q -ℚ p)

-- p < q
abbrev pub lt_ℚ : Number → Number → Bool
lt_ℚ p q = not (non_neg_ℚ (p -ℚ q))

-- p = q
abbrev pub eq_ℚ : Number → Number → Bool
eq_ℚ p q = le_ℚ p q && le_ℚ q p

abbrev pub cmp_by : Bool → Bool → Ordering
cmp_by true true = Equal
cmp_by true false = Less
cmp_by false b = Greater

unfoldable pub number_cmp : Number → Number → Ordering
number_cmp p q = cmp_by (le_ℚ p q) (le_ℚ q p)

le-cross : (x y : Fraction) → le_ℚ (fraction x) (fraction y) ≡ le_z (x.over *ℤ pos y.under) (y.over *ℤ pos x.under)
le-cross x y = same_bool _ _ (λ t. ((≤ℚ-cross x y).0 (record { le = t })).le) (λ t. ((≤ℚ-cross x y).1 (record { le = t })).le)

as_int_cmp : (a b : ℤ) → cmp_by (le_z a b) (le_z b a) ≡ int_cmp a b
as_int_cmp a b = grind (arith, ints)

pub number_cmp-ratio : (n m : ℤ) (d e : ℕ) → 0 < d → 0 < e → number_cmp (ratio n d) (ratio m e) ≡ int_cmp (n *ℤ pos e) (m *ℤ pos d)
unfolding number_cmp
number_cmp-ratio n m d e p q =
    let x : Fraction = record { over = n; under = d; positive = p } in
    let y : Fraction = record { over = m; under = e; positive = q } in
    ap₂ (λ u w. cmp_by (le_ℚ u w) (le_ℚ w u)) (ratio-is n d p) (ratio-is m e q)
    ∙ ap₂ cmp_by (le-cross x y) (le-cross y x)
    ∙ as_int_cmp (n *ℤ pos e) (m *ℤ pos d)

pub not_le_by_cmp : (p q : Number) → number_cmp p q ≡ Greater → false ≡ le_ℚ p q
unfolding number_cmp
not_le_by_cmp p q = by (le_ℚ p q) (le_ℚ q p)
  where
    by : (s t : Bool) → cmp_by s t ≡ Greater → false ≡ s
    by true true e = cc
    by true false e = cc
    by false t e = refl

pub le_by_cmp : (p q : Number) (r : Ordering) → r ≡ number_cmp p q → (r ≡ Greater → ⊥) → true ≡ le_ℚ p q
unfolding number_cmp
le_by_cmp p q r f = by (le_ℚ p q) (le_ℚ q p) f
  where
    by : (s t : Bool) → r ≡ cmp_by s t → (r ≡ Greater → ⊥) → true ≡ s
    by true t e n = refl
    by false t e n = absurd (n e)
