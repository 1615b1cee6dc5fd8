-- Sides that a row keeps with one of its columns at its other end.
use Rattle.std.specs.Prelude.{◌≡◌, ◌⊎◌, ℕ, ℤ, ⊤, Option, Some, None, Result, Ok}
use Prim.Native.Nat.{◌∣◌}
use Rattle.fractions.specs.Number.{Number, ◌+ℚ◌}
use Rattle.fractions.specs.Lowest.{under_of}
use Rattle.fractions.specs.Order.{◌≤ℚ◌}
use Rattle.fractions.specs.declared.Past.{Past}
use Rattle.row_spans.specs.declared.span.Span.{Span}
use Rattle.row_spans.specs.declared.span.Extreme.{Extreme}
use Rattle.row_spans.specs.declared.span.Extreme.TheVariants.{Least, Greatest}
use Rattle.row_spans.specs.Spans.{end_at}
use Rattle.kept_sums.specs.CommonSums.{numerator}

-- a number can be written over d, with the numerator z
abbrev pub IsNumerator : ℕ → Number → ℤ → Type 0
IsNumerator d q z = (under_of q ∣ d) × (z ≡ numerator d (Some q))

-- an end is a number that can be written so
abbrev pub EndIs : ℕ → Option Number → ℤ → Type 0
EndIs d e z = (q : Number) × (e ≡ Some q) × IsNumerator d q z

abbrev pub opposite : Extreme → Extreme
opposite Least = Greatest
opposite Greatest = Least

-- a number keeps the side that goes with an extreme: the lower side goes with the greatest, the upper one with the least
abbrev pub Keeps : Extreme → Number → Number → Type 0
Keeps Greatest side n = side ≤ℚ n
Keeps Least side n = n ≤ℚ side

-- n is a sum that has room, and is finite, with the number t more
abbrev pub IsWith : Number → Number → Result (Option Number) Past → Type 0
IsWith t n sum = (q : Number) × (sum ≡ Ok (Some q)) × (n ≡ q +ℚ t)

-- such a sum with the number t more keeps the side
abbrev pub KeepsWith : Extreme → Number → Number → Result (Option Number) Past → Type 0
KeepsWith extreme side t sum = (q : Number) × (sum ≡ Ok (Some q)) × Keeps extreme side (q +ℚ t)

-- n is the sum of the other entries with what an entry gives at its other end
abbrev pub IsTurned : Extreme → Span → Number → Result (Option Number) Past → Type 0
IsTurned extreme s n sum = (t : Number) × (end_at (opposite extreme) s ≡ Some t) × IsWith t n sum

-- that sum keeps the side
abbrev pub KeepsTurned : Extreme → Number → Span → Result (Option Number) Past → Type 0
KeepsTurned extreme side s sum = (t : Number) × (end_at (opposite extreme) s ≡ Some t) × KeepsWith extreme side t sum

-- the same of a side that may be infinite
abbrev pub EndKept : Extreme → Option Number → Span → Result (Option Number) Past → Type 0
EndKept extreme None s sum = ⊤
EndKept extreme (Some b) s sum = KeepsTurned extreme b s sum

-- a side tells of no better bound of an entry's column: it is kept so, or the sum of the other entries is infinite
abbrev pub IsQuiet : Extreme → Option Number → Span → Result (Option Number) Past → Type 0
IsQuiet extreme side s sum = EndKept extreme side s sum ⊎ (sum ≡ Ok None)
