-- Sums of fractions over one denominator that have room in whatever order they are made.
use Rattle.std.specs.Prelude.{◌≡◌, ℕ, ◌+◌, ◌/◌, ◌^◌, ◌<◌, ℤ, pos, ◌+ℤ◌, ◌*ℤ◌, unsigned_abs, ⊤, Option, Some, None, List, [], ◌∷◌}
use Prim.Native.Nat.{◌∣◌}
use Rattle.fractions.specs.Number.{Number}
use Rattle.fractions.specs.Lowest.{over_of, under_of}
use Rattle.kept_sums.specs.declared.common.CommonSum.{CommonSum}

-- the numerator of a number that is written over d; an infinite term has none
abbrev pub numerator : ℕ → Option Number → ℤ
numerator d None = pos 0
numerator d (Some q) = over_of q *ℤ pos (d / under_of q)

abbrev pub sum_of_numerators : ℕ → List (Option Number) → ℤ
sum_of_numerators d [] = pos 0
sum_of_numerators d (e ∷ es) = numerator d e +ℤ sum_of_numerators d es

abbrev pub sum_of_sizes : ℕ → List (Option Number) → ℕ
sum_of_sizes d [] = 0
sum_of_sizes d (e ∷ es) = unsigned_abs (numerator d e) + sum_of_sizes d es

-- a finite term can be written over d
abbrev pub EndOver : ℕ → Option Number → Type 0
EndOver d None = ⊤
EndOver d (Some q) = under_of q ∣ d

abbrev pub AreOver : ℕ → List (Option Number) → Type 0
AreOver d [] = ⊤
AreOver d (e ∷ es) = EndOver d e × AreOver d es

abbrev pub plus_infinite : Option Number → ℕ → ℕ
plus_infinite None n = n + 1
plus_infinite (Some q) n = n

abbrev pub infinite_count : List (Option Number) → ℕ
infinite_count [] = 0
infinite_count (e ∷ es) = plus_infinite e (infinite_count es)

-- the finite terms can be written over one denominator; it and the sum of the absolute numerators have room
pub record IsCommonSum (es : List (Option Number)) (s : CommonSum) : Type 0 where
  pub positive : 0 < s.denominator
  pub short : s.denominator < 2 ^ 127
  pub over : AreOver s.denominator es
  pub total : s.total ≡ sum_of_numerators s.denominator es
  pub sizes : s.sizes ≡ sum_of_sizes s.denominator es
  pub light : s.sizes < 2 ^ 127
  pub infinite : s.infinite ≡ infinite_count es

-- a denominator that can stand below a number
pub record HasRoom (s : CommonSum) : Type 0 where
  pub positive : 0 < s.denominator
  pub short : s.denominator < 2 ^ 127

-- d is a common multiple of b and c that has room
pub record IsCommonMultiple (b c d : ℕ) : Type 0 where
  pub positive : 0 < d
  pub short : d < 2 ^ 127
  pub first : b ∣ d
  pub second : c ∣ d
