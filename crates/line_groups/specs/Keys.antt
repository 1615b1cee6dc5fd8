-- Keys of rows and columns: where one is a multiple of another, their keys are the same.
use Rattle.std.specs.Prelude.{ℕ, ◌+◌, ◌*◌, ◌%◌, ◌^◌, ℤ, pos, negsuc, unsigned_abs, List, [], ◌∷◌, Option, Some, None, if◌then◌else◌}
use Rattle.fractions.specs.Number.{Number, zero_ℚ}
use Rattle.fractions.specs.Division.{◌/ℚ◌}
use Rattle.fractions.specs.Lowest.{over_of, under_of}
use Rattle.lp_model.specs.declared.terms.Term.{Term}
use Rattle.problem_model.specs.declared.part.Contents.{Contents}
use Rattle.problem_model.specs.declared.part.Contents.TheVariants.{Gone, Entries, Sides, Column, Bounds, Semi}
use Rattle.problem_model.specs.declared.part.Part.{Part}
use Rattle.problem_model.specs.Parts.{contents_of}
use Rattle.problem_model.specs.Sparse.{Sparse}
use Rattle.row_spans.specs.Exact.{fits}

-- a key with one more word in it
abbrev pub mixed : ℕ → ℕ → ℕ
mixed h x = (h * 0x9e37_79b9_7f4a_7c15 % 2 ^ 64 + x) % 2 ^ 64

-- 1 for a number below 0, and else 0
abbrev pub sign_of : ℤ → ℕ
sign_of (pos n) = 0
sign_of (negsuc n) = 1

-- a key with a numerator and a denominator in it
abbrev pub with_parts : ℕ → ℤ → ℕ → ℕ
with_parts h n d = mixed (mixed (mixed h (sign_of n)) (unsigned_abs n % 2 ^ 64)) (d % 2 ^ 64)

-- a key with a number in it; of all that have no room the same is in it
unfoldable pub with_number : ℕ → Number → ℕ
with_number h q = if fits q then with_parts h (over_of q) (under_of q) else mixed h 0

-- a key with the ids of terms in it
abbrev pub with_ids : ℕ → List Term → ℕ
with_ids h [] = h
with_ids h (t ∷ ts) = with_ids (mixed h t.id) ts

-- the number of the first term, and of the last one
abbrev pub first_number : List Term → Option Number
first_number [] = None
first_number (t ∷ ts) = Some t.value

abbrev pub last_number : List Term → Option Number
last_number [] = None
last_number (t ∷ []) = Some t.value
last_number (t ∷ u ∷ ts) = last_number (u ∷ ts)

-- a key with a cost and a last number in it, both over the first one
abbrev pub with_ends : ℕ → Number → Number → Number → ℕ
with_ends h a b c = with_number (with_number h (c /ℚ a)) (b /ℚ a)

-- where there is a first one and a last one
abbrev pub by_ends : ℕ → Number → Option Number → Option Number → Option ℕ
by_ends h c (Some a) (Some b) = Some (with_ends h a b c)
by_ends h c (Some a) None = None
by_ends h c None b = None

-- The key of a line with a cost: of its ids, and of the cost and the last entry over the first one. Without entries it has none. Lines with
-- other entries between may have the same key.
abbrev pub key_of : Number → List Term → Option ℕ
key_of c ts = by_ends (with_ids 0 ts) c (first_number ts) (last_number ts)

-- the key of a row or a column that is there
abbrev pub key_in : Contents → Option ℕ
key_in Gone = None
key_in (Entries ts) = key_of zero_ℚ ts
key_in (Sides l u) = None
key_in (Column ts c) = key_of c ts
key_in (Bounds l u w) = None
key_in (Semi l u w) = None

abbrev pub key_at : Sparse → Part → Option ℕ
key_at p a = key_in (contents_of p a)
