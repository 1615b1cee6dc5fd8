-- Tests of a lower and an upper end; none is infinite.
use Rattle.std.specs.Prelude.{Bool, true, false, not, ◌&&◌, ◌||◌, Option, Some, None}
use Rattle.fractions.specs.Number.{Number, zero_ℚ}
use Rattle.fractions.specs.Compare.{le_ℚ, lt_ℚ, eq_ℚ}
use Rattle.fractions.specs.Floor.{is_whole}

-- l is at most u
abbrev pub is_in_order : Option Number → Option Number → Bool
is_in_order None u = true
is_in_order (Some l) None = true
is_in_order (Some l) (Some u) = le_ℚ l u

-- l is above u
abbrev pub is_crossed : Option Number → Option Number → Bool
is_crossed None u = false
is_crossed (Some l) None = false
is_crossed (Some l) (Some u) = lt_ℚ u l

-- l is below u
abbrev pub is_apart : Option Number → Option Number → Bool
is_apart None u = true
is_apart (Some l) None = true
is_apart (Some l) (Some u) = lt_ℚ l u

-- 0 lies between them
abbrev pub holds_zero : Option Number → Option Number → Bool
holds_zero l u = is_in_order l (Some zero_ℚ) && is_in_order (Some zero_ℚ) u

-- they are one number, a whole one if it has to be
abbrev pub is_fixed : Option Number → Option Number → Bool → Bool
is_fixed None u w = false
is_fixed (Some l) None w = false
is_fixed (Some l) (Some u) w = eq_ℚ l u && (not w || is_whole l)

-- it is finite and not whole
abbrev pub is_broken : Option Number → Bool
is_broken None = false
is_broken (Some e) = not (is_whole e)

-- it is finite, and whole if it has to be
abbrev pub is_place : Option Number → Bool → Bool
is_place None w = false
is_place (Some v) w = not w || is_whole v
