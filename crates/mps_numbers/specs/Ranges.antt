-- The sides that ranges make, and where they are past.
use Rattle.std.specs.Prelude.{Option, Some, Result, Ok, Err, if◌then◌else◌}
use Rattle.fractions.specs.Number.{Number, ◌+ℚ◌, ◌-ℚ◌, neg_ℚ}
use Rattle.fractions.specs.declared.Numbers.{Numbers}
use Rattle.fractions.specs.declared.Past.{Past}
use Rattle.mps_profile.specs.Sides.{ranged, is_past_sum, is_past_range}
use Rattle.mps_profile.specs.declared.row_kinds.RowKind.{RowKind}
use Rattle.mps_profile.specs.declared.row_kinds.Interval.{Interval}

-- a sum that has room and is among the numbers that are taken
abbrev pub sum_in : Numbers → Number → Number → Result Number Past
sum_in numbers p q = if is_past_sum numbers p q then Err (record {}) else Ok (p +ℚ q)

-- from a right side b upwards or downwards
abbrev pub raised : Numbers → Number → Number → Result (Option Interval) Past
raised numbers b size = if is_past_sum numbers b size then Err (record {}) else Ok (Some (record { lower = b; upper = b +ℚ size }))

abbrev pub lowered : Numbers → Number → Number → Result (Option Interval) Past
lowered numbers b size = if is_past_sum numbers b (neg_ℚ size) then Err (record {}) else Ok (Some (record { lower = b -ℚ size; upper = b }))

-- the sides that the range r gives a row with the right side b, where they are not past
abbrev pub range_in : Numbers → RowKind → Number → Number → Result (Option Interval) Past
range_in numbers kind b r = if is_past_range numbers kind b r then Err (record {}) else Ok (ranged kind b r)
