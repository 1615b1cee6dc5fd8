-- What a column asks of all that stand beside it, in a set of 64 bits each way.
use Rattle.std.specs.Prelude.{◌≡◌, ℕ, ◌+◌, ◌*◌, ◌/◌, ◌%◌, ◌^◌, Bool, not, ◌&&◌, ◌||◌, nat_eq, List, [], ◌∷◌, slice_index_or, Option, None, Some, IfSome, is_none, if◌then◌else◌, unsigned_abs, bit_or}
use Rattle.fractions.specs.Number.{Number, zero_ℚ}
use Rattle.fractions.specs.Compare.{lt_ℚ}
use Rattle.fractions.specs.Lowest.{over_of}
use Rattle.lp_model.specs.declared.terms.Term.{Term}
use Rattle.problem_model.specs.Problems.{column_entries, sides_at}
use Rattle.problem_model.specs.Sparse.{Sparse}
use Rattle.dual_rules.specs.declared.footprints.Footprint.{Footprint}
use Rattle.dual_rules.specs.declared.footprints.Kept.{Kept}

-- a row of these sides asks something of a column with this entry: it doesn't take it for one without
abbrev pub asks : Option Number → Option Number → Number → Bool
asks l u a = (lt_ℚ zero_ℚ a && not (is_none u)) || (lt_ℚ a zero_ℚ && not (is_none l))

-- or offers something by it: it doesn't take one without for the column
abbrev pub offers : Option Number → Option Number → Number → Bool
offers l u a = asks u l a

-- a bit for a number: the six high digits of the low half of a product
abbrev pub bit_of : ℕ → ℕ
bit_of n = 2 ^ (n % 2 ^ 32 * 2654435761 % 2 ^ 32 / 2 ^ 26)

-- the bit of the entry a in the row i: in a row with two sides its number counts too
abbrev pub mark : Option Number → Option Number → ℕ → Number → ℕ
mark l u i a = if is_none l || is_none u then bit_of i else bit_of (i + unsigned_abs (over_of a) % 2 ^ 16)

-- what the entry a in the row i adds each way
abbrev pub asked : Sparse → ℕ → Number → ℕ
asked p i a = if asks (sides_at p i).lower (sides_at p i).upper a then mark (sides_at p i).lower (sides_at p i).upper i a else 0

abbrev pub offered : Sparse → ℕ → Number → ℕ
offered p i a = if offers (sides_at p i).lower (sides_at p i).upper a then mark (sides_at p i).lower (sides_at p i).upper i a else 0

-- all bits that terms add
abbrev pub bits_of : (ℕ → Number → ℕ) → List Term → ℕ
bits_of f [] = 0
bits_of f (t ∷ ts) = bit_or (f t.id t.value) (bits_of f ts)

-- no bit stands in the first set alone
abbrev pub IsWithin : ℕ → ℕ → Type 0
IsWithin a b = bit_or a b ≡ b

-- what the terms of a column add in all
pub record IsFootprint (p : Sparse) (ts : List Term) (f : Footprint) : Type 0 where
  pub asked : f.asked ≡ bits_of (asked p) ts
  pub offered : f.offered ≡ bits_of (offered p) ts

-- the footprint that is kept, if it was made in this turn
abbrev pub kept_in : ℕ → Kept → Option Footprint
kept_in n k = if nat_eq k.turn n then Some k.footprint else None

-- footprints by column: those that are kept are what the columns' entries add
abbrev pub AreFootprints : Sparse → List (Option Footprint) → Type 0
AreFootprints p fs = (j : ℕ) → IfSome (slice_index_or fs j None) (λ f. IsFootprint p (column_entries p j) f)
