-- The parts of a problem: what each holds, and how often it has changed. A part past the ids is gone and has never changed.
use Rattle.std.specs.Prelude.{ℕ, Bool, Option, if◌then◌else◌}
use Rattle.problem_model.specs.declared.part.Part.{Part}
use Rattle.problem_model.specs.declared.part.Part.TheVariants.{Row, Sides, Col, Bounds}
use Rattle.problem_model.specs.declared.part.Contents.{Contents}
use Rattle.problem_model.specs.declared.part.Contents.TheVariants as holds
use Rattle.problem_model.specs.Problems.{row_at, column_at, sides_at, bounds_at, cost_at, row_entries, column_entries}
use Rattle.problem_model.specs.Sparse.{Sparse}
use Rattle.fractions.specs.Number.{Number}

-- bounds hold their ends and whether the column is whole; those of a semi-continuous column are of a kind of their own
abbrev pub bounds_held : Bool → Option Number → Option Number → Bool → Contents
bounds_held semi l u w = if semi then holds.Semi l u w else holds.Bounds l u w

-- a row's entries in live columns, its sides, a column's entries in live rows and its cost, its bounds and whether it is whole;
-- of a row or column that isn't live they are gone
abbrev pub contents_of : Sparse → Part → Contents
contents_of p (Row i) = if (row_at p i).live then holds.Entries (row_entries p i) else holds.Gone
contents_of p (Sides i) = if (row_at p i).live then holds.Sides (sides_at p i).lower (sides_at p i).upper else holds.Gone
contents_of p (Col j) = if (column_at p j).live then holds.Column (column_entries p j) (cost_at p j) else holds.Gone
contents_of p (Bounds j) = if (column_at p j).live then bounds_held (bounds_at p j).semi (bounds_at p j).lower (bounds_at p j).upper (bounds_at p j).whole else holds.Gone

-- how often a part has changed
abbrev pub changes_of : Sparse → Part → ℕ
changes_of p (Row i) = (row_at p i).changes
changes_of p (Sides i) = (sides_at p i).changes
changes_of p (Col j) = (column_at p j).changes
changes_of p (Bounds j) = (bounds_at p j).changes
