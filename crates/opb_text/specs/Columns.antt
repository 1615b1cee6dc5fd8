-- What the statements that ended say of rows and columns. The nearest token stands first.
use Rattle.std.specs.Prelude.{ℕ, ℤ, pos, ◌==◌, List, [], ◌∷◌, if◌then◌else◌}
use Rattle.mps_profile.specs.Columns.{joined}
use Rattle.opb_text.specs.Words.{Text}
use Rattle.opb_text.specs.Tokens.{Token, End, Plain, Negated}
use Rattle.opb_text.specs.Statements.{last_number, open_terms, negated_numbers, open_row, sum_at, sum_of, left_of}

-- the columns, in the order in which they are first named
abbrev pub column_names : List Token → List Text
column_names [] = []
column_names (Plain name ∷ before) = joined name (column_names before)
column_names (Negated name ∷ before) = joined name (column_names before)
column_names (token ∷ before) = column_names before

-- the coefficient of a column in row i: the sum of the terms that name it
abbrev pub coefficient : List Token → ℕ → Text → ℤ
coefficient [] i name = pos 0
coefficient (End ∷ before) i name = if open_row before == i then sum_at name (open_terms before) else coefficient before i name
coefficient (token ∷ before) i name = coefficient before i name

-- the right side of row i: the number that is written less those of the negated literals
abbrev pub right_side : List Token → ℕ → ℤ
right_side [] i = pos 0
right_side (End ∷ before) i = if open_row before == i then left_of (last_number before) (negated_numbers before) else right_side before i
right_side (token ∷ before) i = right_side before i

-- the sum of the numbers of the negated literals of `min:`
abbrev pub constant : List Token → ℤ
constant [] = pos 0
constant (End ∷ before) = if open_row before == 0 then sum_of (negated_numbers before) else constant before
constant (token ∷ before) = constant before
