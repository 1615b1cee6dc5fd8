-- How often a bound on a side of a column was tightened. Counts stop at ten, and from there on the bound is tightened no more.
use Rattle.std.specs.Prelude.{◌≡◌, ℕ, ◌+◌, min, nat_eq, nat_lt, Bool, true, false, ◌&&◌, if◌then◌else◌, List, length, replicate, slice_index_or, slice_set}
use Rattle.std.specs.List.{filter}
use Rattle.undo_records.specs.declared.side.Side.{Side}
use Rattle.undo_records.specs.declared.side.Side.TheVariants.{Lower, Upper}
use Rattle.undo_records.specs.declared.undo.Undo.{Undo}
use Rattle.undo_records.specs.declared.undo.Undo.TheVariants as undo

-- by column, for lower and upper bounds
pub record Counts : Type 0 where
  pub lower : List ℕ
  pub upper : List ℕ

abbrev pub lower_count : Counts → ℕ → ℕ
lower_count c j = slice_index_or c.lower j 0

abbrev pub upper_count : Counts → ℕ → ℕ
upper_count c j = slice_index_or c.upper j 0

abbrev pub count_on : Counts → ℕ → Side → ℕ
count_on c j Lower = lower_count c j
count_on c j Upper = upper_count c j

-- none on so many columns
abbrev pub no_counts : ℕ → Counts
no_counts n = record { lower = replicate n 0; upper = replicate n 0 }

abbrev pub one_more : ℕ → ℕ
one_more n = if nat_lt n 10 then n + 1 else n

-- one more on this side of this column, and no other change
abbrev pub counted : Counts → ℕ → Side → Counts
counted c j Lower = record c { lower = slice_set c.lower j (one_more (lower_count c j)) }
counted c j Upper = record c { upper = slice_set c.upper j (one_more (upper_count c j)) }

-- counts on so many columns
pub record AreCountsOf (n : ℕ) (c : Counts) : Type 0 where
  pub lower : length c.lower ≡ n
  pub upper : length c.upper ≡ n

-- ---- by records
abbrev pub same_side : Side → Side → Bool
same_side Lower Lower = true
same_side Lower Upper = false
same_side Upper Lower = false
same_side Upper Upper = true

-- whether a record is that of a bound tightened on this side of this column
abbrev pub is_tightening : ℕ → Side → Undo → Bool
is_tightening j side (undo.BoundTightening r) = nat_eq r.column j && same_side r.side side
is_tightening j side other = false

-- how many are
abbrev pub tightenings : List Undo → ℕ → Side → ℕ
tightenings us j side = length (filter (is_tightening j side) us)

-- ---- the bounds that may be tightened
abbrev pub Open : Type 0
Open = ℕ → Side → Bool

abbrev pub open_on : Counts → Open
open_on c j side = nat_lt (count_on c j side) 10

abbrev pub open_by : List Undo → Open
open_by us j side = nat_lt (tightenings us j side) 10

-- the counts are those of the records
abbrev pub IsTally : Counts → List Undo → Type 0
IsTally c us = (j : ℕ) (side : Side) → count_on c j side ≡ min (tightenings us j side) 10
