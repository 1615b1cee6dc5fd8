-- What the terms of a row come to, over the least denominator that they have in common.
use Rattle.std.specs.Prelude.{◌≡◌, ℕ, ◌+◌, ◌^◌, ◌<◌, ◌≤◌, pos, ◌+ℤ◌, unsigned_abs, Option, List, ◌++◌}
use Prim.Native.Nat.{◌∣◌}
use Rattle.fractions.specs.Number.{Number}
use Rattle.row_spans.specs.declared.span.Span.{Span}
use Rattle.row_spans.specs.declared.span.Extreme.TheVariants.{Least, Greatest}
use Rattle.row_spans.specs.Spans.{ends_at}
use Rattle.kept_sums.specs.CommonSums.{numerator, sum_of_numerators, sum_of_sizes, EndOver, AreOver, infinite_count}
use Rattle.kept_sums.specs.declared.row_totals.RowTotals.{RowTotals}
use Rattle.kept_sums.specs.declared.row_totals.EndSum.{EndSum}
use Rattle.kept_sums.specs.declared.row_totals.RowSums.{RowSums}

-- the least that each span gives, and the greatest
abbrev pub both_ends : List Span → List (Option Number)
both_ends ss = ends_at Least ss ++ ends_at Greatest ss

-- d is the least common denominator of the finite terms
pub record IsLeastCommon (d : ℕ) (es : List (Option Number)) : Type 0 where
  pub positive : 0 < d
  pub over : AreOver d es
  pub least : (m : ℕ) → 0 < m → AreOver m es → d ∣ m

-- a row's least common denominator, and over it the sum of its least terms and of its greatest ones, and how many of them are infinite
pub record AreTotals (ss : List Span) (r : RowTotals) : Type 0 where
  pub denominator : IsLeastCommon r.denominator (both_ends ss)
  pub least : r.least ≡ sum_of_numerators r.denominator (ends_at Least ss)
  pub greatest : r.greatest ≡ sum_of_numerators r.denominator (ends_at Greatest ss)
  pub least_infinite : r.least_infinite ≡ infinite_count (ends_at Least ss)
  pub greatest_infinite : r.greatest_infinite ≡ infinite_count (ends_at Greatest ss)

-- a denominator and the sums of the absolute numerators over it are at most 2 ^ 63
pub record IsLight (d : ℕ) (ss : List Span) : Type 0 where
  pub short : d ≤ 2 ^ 63
  pub least : sum_of_sizes d (ends_at Least ss) ≤ 2 ^ 63
  pub greatest : sum_of_sizes d (ends_at Greatest ss) ≤ 2 ^ 63

-- those of the least common denominator are
pub record IsTame (ss : List Span) : Type 0 where
  pub denominator : ℕ
  pub common : IsLeastCommon denominator (both_ends ss)
  pub light : IsLight denominator ss

-- ---- one step
-- d is the least common multiple of b and c, at most 2 ^ 63
pub record IsLeastMultiple (b c d : ℕ) : Type 0 where
  pub positive : 0 < d
  pub short : d ≤ 2 ^ 63
  pub first : b ∣ d
  pub second : c ∣ d
  pub least : (m : ℕ) → 0 < m → b ∣ m → c ∣ m → d ∣ m

-- d is the least multiple of c over which the finite terms can be written, at most 2 ^ 63
pub record IsLeastWith (c : ℕ) (es : List (Option Number)) (d : ℕ) : Type 0 where
  pub positive : 0 < d
  pub short : d ≤ 2 ^ 63
  pub first : c ∣ d
  pub over : AreOver d es
  pub least : (m : ℕ) → 0 < m → c ∣ m → AreOver m es → d ∣ m

-- no multiple of c over which the term can be written is at most 2 ^ 63, with a numerator that is
abbrev pub IsPastWith : ℕ → Option Number → Type 0
IsPastWith c e = (m : ℕ) → 0 < m → c ∣ m → EndOver m e → m ≤ 2 ^ 63 → unsigned_abs (numerator m e) ≤ 2 ^ 63 → ⊥

-- over no multiple of c are the terms of spans light
abbrev pub ArePastWith : ℕ → List Span → Type 0
ArePastWith c ss = (m : ℕ) → 0 < m → c ∣ m → AreOver m (both_ends ss) → IsLight m ss → ⊥

-- the absolute value of a sum of numerators is at most the sum of their absolute values, and this is at most 2 ^ 63
pub record IsWithin (s : EndSum) : Type 0 where
  pub near : unsigned_abs s.total ≤ s.sizes
  pub light : s.sizes ≤ 2 ^ 63

-- the sums of no terms
abbrev pub no_sum : EndSum
no_sum = record { total = pos 0; sizes = 0; infinite = 0 }

abbrev pub no_sums : RowSums
no_sums = record { least = no_sum; greatest = no_sum }

-- t is the sum s with further terms over d
pub record IsSumWith (d : ℕ) (es : List (Option Number)) (s t : EndSum) : Type 0 where
  pub total : t.total ≡ s.total +ℤ sum_of_numerators d es
  pub sizes : t.sizes ≡ s.sizes + sum_of_sizes d es
  pub infinite : t.infinite ≡ s.infinite + infinite_count es
  pub within : IsWithin t

-- so are both sums of a row
pub record AreSumsWith (d : ℕ) (ss : List Span) (s t : RowSums) : Type 0 where
  pub least : IsSumWith d (ends_at Least ss) s.least t.least
  pub greatest : IsSumWith d (ends_at Greatest ss) s.greatest t.greatest

-- the absolute numerators of further spans over d are too many for one of the sums
abbrev pub AreTooHeavy : ℕ → List Span → RowSums → Type 0
AreTooHeavy d ss s = s.least.sizes + sum_of_sizes d (ends_at Least ss) ≤ 2 ^ 63 → s.greatest.sizes + sum_of_sizes d (ends_at Greatest ss) ≤ 2 ^ 63 → ⊥

-- both sums of a row can take a term more
pub record HaveRoomOver (d : ℕ) (s : RowSums) : Type 0 where
  pub positive : 0 < d
  pub short : d ≤ 2 ^ 63
  pub least : IsWithin s.least
  pub greatest : IsWithin s.greatest
  pub least_few : s.least.infinite + 1 < 2 ^ 32
  pub greatest_few : s.greatest.infinite + 1 < 2 ^ 32
