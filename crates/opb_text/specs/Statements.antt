-- The statements of tokens. The nearest token stands first, and so does the nearest term.
use Rattle.std.specs.Prelude.{ℕ, suc, ℤ, pos, neg_ℤ, ◌+ℤ◌, ◌^◌, ◌==◌, ◌&&◌, nat_lt, Bool, true, List, [], ◌∷◌, ◌++◌, unsigned_abs, if◌then◌else◌}
use Rattle.std.specs.Str.{bytes_eq}
use Rattle.mps_profile.specs.declared.row_kinds.RowKind.{RowKind}
use Rattle.mps_profile.specs.declared.row_kinds.RowKind as kinds
use Rattle.opb_text.specs.Words.{Text}
use Rattle.opb_text.specs.Tokens.{Token, Minimum, AtLeast, Equal, End, Number, Plain, Negated}

-- the number that the nearest token is
abbrev pub last_number : List Token → ℤ
last_number (Number value ∷ before) = value
last_number tokens = pos 0

-- a column's name, and what a term adds to its coefficient
pub record Term : Type 0 where
  pub name : Text
  pub value : ℤ

-- the terms of the statement that is open; a negated literal adds the negative of its number
abbrev pub open_terms : List Token → List Term
open_terms [] = []
open_terms (End ∷ before) = []
open_terms (Plain name ∷ before) = record { name = name; value = last_number before } ∷ open_terms before
open_terms (Negated name ∷ before) = record { name = name; value = neg_ℤ (last_number before) } ∷ open_terms before
open_terms (token ∷ before) = open_terms before

-- the numbers of its negated literals
abbrev pub negated_numbers : List Token → List ℤ
negated_numbers [] = []
negated_numbers (End ∷ before) = []
negated_numbers (Negated name ∷ before) = last_number before ∷ negated_numbers before
negated_numbers (token ∷ before) = negated_numbers before

-- the row that it is: `min:` is row 0, and the constraints go on from 1
abbrev pub open_row : List Token → ℕ
open_row [] = 1
open_row (Minimum ∷ before) = 0
open_row (End ∷ before) = suc (open_row before)
open_row (token ∷ before) = open_row before

-- the kinds of the rows: that of `min:` is free
abbrev pub row_kinds : List Token → List RowKind
row_kinds [] = kinds.TheVariants.Free ∷ []
row_kinds (AtLeast ∷ before) = row_kinds before ++ kinds.TheVariants.AtLeast ∷ []
row_kinds (Equal ∷ before) = row_kinds before ++ kinds.TheVariants.Equal ∷ []
row_kinds (token ∷ before) = row_kinds before

-- the sum of the terms that name a column, added in text order
abbrev pub sum_at : Text → List Term → ℤ
sum_at name [] = pos 0
sum_at name (term ∷ before) = if bytes_eq term.name name then sum_at name before +ℤ term.value else sum_at name before

-- the sum of numbers, and what is left of a number, in text order
abbrev pub sum_of : List ℤ → ℤ
sum_of [] = pos 0
sum_of (n ∷ before) = sum_of before +ℤ n

abbrev pub left_of : ℤ → List ℤ → ℤ
left_of side [] = side
left_of side (n ∷ before) = left_of side before +ℤ neg_ℤ n

abbrev pub in_range : ℤ → Bool
in_range n = nat_lt (unsigned_abs n) (2 ^ 127)

-- whether each step of such a sum is in range
abbrev pub terms_fit : List Term → Bool
terms_fit [] = true
terms_fit (term ∷ before) = terms_fit before && in_range (sum_at term.name (term ∷ before))

abbrev pub sum_fits : List ℤ → Bool
sum_fits [] = true
sum_fits (n ∷ before) = sum_fits before && in_range (sum_of (n ∷ before))

abbrev pub left_fits : ℤ → List ℤ → Bool
left_fits side [] = true
left_fits side (n ∷ before) = left_fits side before && in_range (left_of side (n ∷ before))

-- whether all sums of the statement that ends behind the tokens are in range
abbrev pub statement_fits : List Token → Bool
statement_fits before =
    terms_fit (open_terms before)
    && (if open_row before == 0 then sum_fits (negated_numbers before) else left_fits (last_number before) (negated_numbers before))
