-- K16: a column that is a multiple of another was merged into it and deleted.
use Rattle.std.specs.Prelude.{◌≢◌, ℕ, ◌<◌, List, [], ◌∷◌, Some}
use Rattle.fractions.specs.Number.{Number, zero_ℚ, ◌-ℚ◌, ◌*ℚ◌}
use Rattle.fractions.specs.Ends.{minus_ends}
use Rattle.fractions.specs.Total.{put}
use Rattle.fractions.specs.Room.{Room}
use Rattle.lp_model.specs.Vectors.{Vector}
use Rattle.undo_records.specs.declared.kinds.parallel_columns.ParallelColumns.{ParallelColumns}
use Rattle.undo_records.specs.Ids.{AreTwo}
use Rattle.undo_records.specs.Near.{near_within}
use Rattle.undo_records.specs.Fitting.{LessFits, ShareFits}

-- what is asked of it by itself, in a program of n columns
abbrev pub IsSound : ℕ → ParallelColumns → Type 0
IsSound n r = AreTwo n r.column r.kept × (r.factor ≢ zero_ℚ)

-- it can be undone among n columns
abbrev pub CanUndo : ℕ → ParallelColumns → Type 0
CanUndo n r = (r.column < n) × (r.kept < n) × (r.factor ≢ zero_ℚ)

-- the columns that it names
abbrev pub columns_named : ParallelColumns → List ℕ
columns_named r = r.column ∷ r.kept ∷ []

-- the column that it deletes
abbrev pub columns_deleted : ParallelColumns → List ℕ
columns_deleted r = r.column ∷ []

-- x_k was x_k + s x_j: x_j = v is taken out of it
abbrev pub part : Vector → ℕ → ℕ → Number → Number → Vector
part x j k s v = put (put x j v) k (x k -ℚ s *ℚ v)

-- the number nearest to 0 within the column's bounds that leaves the kept one within its own
abbrev pub share : ParallelColumns → Vector → Number
share r x = near_within r.factor (minus_ends (Some (x r.kept)) r.kept_upper) (minus_ends (Some (x r.kept)) r.kept_lower) r.lower r.upper

-- undone: the column's share is taken out of the kept one
abbrev pub undone : ParallelColumns → Vector → Vector
undone r x = part x r.column r.kept r.factor (share r x)

-- what the undoing computes has room
abbrev pub UndoFits : Room → ParallelColumns → Vector → Type 0
UndoFits m r x = ShareFits m r.factor r.kept_lower r.kept_upper (x r.kept) × LessFits m (x r.kept) r.factor (share r x)
