-- The words of bounds and sides, and of what became of a row.
use Rattle.std.specs.Prelude.{ℕ, Bool, true, ◌||◌, not, List, Option, Some, None, codes, if◌then◌else◌}
use Rattle.std.specs.Str.{bytes_eq}
use Rattle.fractions.specs.Number.{Number}
use Rattle.undo_records.specs.declared.side.Side.{Side}
use Rattle.undo_records.specs.declared.side.Side.TheVariants.{Lower, Upper}
use Rattle.undo_records.specs.declared.side.RowFate.{RowFate}
use Rattle.undo_records.specs.declared.side.RowFate.TheVariants.{Kept, Dropped}
use Rattle.record_fields.specs.Ratios.{ratio_of}

abbrev pub is_below : List ℕ → Bool
is_below w = bytes_eq w (codes "-inf")

abbrev pub is_above : List ℕ → Bool
is_above w = bytes_eq w (codes "inf")

abbrev pub is_endless : List ℕ → Bool
is_endless w = is_below w || is_above w

-- a number, or no end
abbrev pub end_of : List ℕ → Option Number
end_of w = if is_endless w then None else Some (ratio_of w)

-- a side of a row
abbrev pub letter_of : List ℕ → Option Side
letter_of w = if bytes_eq w (codes "L") then Some Lower else if bytes_eq w (codes "U") then Some Upper else None

-- a bound of a column
abbrev pub bound_of : List ℕ → Option Side
bound_of w = if bytes_eq w (codes "lower") then Some Lower else if bytes_eq w (codes "upper") then Some Upper else None

-- what became of a row
abbrev pub fate_of : List ℕ → Option RowFate
fate_of w = if bytes_eq w (codes "keep") then Some Kept else if bytes_eq w (codes "drop") then Some Dropped else None

-- the end that a bound may be without: -inf below, inf above
abbrev pub has_end : Option Side → List ℕ → Bool
has_end (Some Lower) w = not (is_above w)
has_end (Some Upper) w = not (is_below w)
has_end None w = true
