-- The entries of two columns, walked together by ascending row.
use Rattle.std.specs.Prelude.{ℕ, Bool, false, not, ◌&&◌, ◌||◌, nat_eq, nat_le, List, [], ◌∷◌, map, Option, Some, None, if◌then◌else◌}
use Rattle.std.specs.List.{filter}
use Rattle.fractions.specs.Number.{Number, zero_ℚ}
use Rattle.lp_model.specs.declared.terms.Term.{Term}
use Rattle.lp_model.specs.Sparse.{dense, has}
use Rattle.undo_records.specs.Ids.{ids_of}
use Rattle.problem_model.specs.declared.part.Contents.{Contents}
use Rattle.problem_model.specs.declared.part.Part.{Part}
use Rattle.problem_model.specs.declared.part.Part.TheVariants as part
use Rattle.problem_model.specs.Matrices.{live_only}
use Rattle.problem_model.specs.Parts.{contents_of}
use Rattle.problem_model.specs.Problems.{row_at}
use Rattle.problem_model.specs.Sparse.{Sparse}
use Rattle.dual_laws.specs.DominatedColumn.{all_take_over, rows_of_both, takes_over}
use Rattle.dual_laws.specs.Locks.{are_uncrossed, is_uncrossed}

-- the first id of either
abbrev pub first_row : List Term → List Term → Option ℕ
first_row [] [] = None
first_row [] (u ∷ us) = Some u.id
first_row (t ∷ ts) [] = Some t.id
first_row (t ∷ ts) (u ∷ us) = Some (if nat_le t.id u.id then t.id else u.id)

-- whether the first term has this id
abbrev pub starts : ℕ → List Term → Bool
starts k [] = false
starts k (t ∷ ts) = nat_eq t.id k

-- its number then, else 0
abbrev pub value_there : ℕ → List Term → Number
value_there k [] = zero_ℚ
value_there k (t ∷ ts) = if nat_eq t.id k then t.value else zero_ℚ

-- the terms after it then, else all
abbrev pub past : ℕ → List Term → List Term
past k [] = []
past k (t ∷ ts) = if nat_eq t.id k then ts else t ∷ ts

-- a row's sides aren't crossed, and it takes a column with the entry a for one with the entry b
abbrev pub admits : Number → Number → Contents → Bool
admits a b sides = is_uncrossed sides && takes_over a b sides

-- so, or the row isn't live
abbrev pub passes : Sparse → ℕ → Number → Number → Bool
passes p i a b = not (row_at p i).live || admits a b (contents_of p (part.Sides i))

-- what the sides of the rows of both hold
abbrev pub sides_of_both : Sparse → List Term → List Term → List Contents
sides_of_both p ts us = map (contents_of p) (map part.Sides (rows_of_both ts us))

-- each of these rows admits it
abbrev pub all_admit : Sparse → List Term → List Term → Bool
all_admit p ts us = are_uncrossed (sides_of_both p ts us) && all_take_over (dense ts) (dense us) (rows_of_both ts us) (sides_of_both p ts us)

-- the sides of a row, or none
abbrev pub sides_if : Bool → ℕ → List Part
sides_if b i = if b then part.Sides i ∷ [] else []

-- the sides of the live rows of a column
abbrev pub sides_named : Sparse → List Term → List Part
sides_named p ts = map part.Sides (ids_of (live_only p.matrix.rows ts))

-- a row is live, and not that of the first term
abbrev pub is_besides : Sparse → ℕ → List Term → Bool
is_besides p i ts = (row_at p i).live && not (starts i ts)

-- those of the second that are not among the first's
abbrev pub sides_besides : Sparse → List Term → List Term → List Part
sides_besides p ts us = map part.Sides (ids_of (filter (λ u. not (has u.id (live_only p.matrix.rows ts))) (live_only p.matrix.rows us)))
