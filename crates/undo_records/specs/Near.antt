-- The number of a range that is nearest to 0.
use Rattle.std.specs.Prelude.{if◌then◌else◌, Option, Some, None}
use Rattle.fractions.specs.Number.{Number, zero_ℚ}
use Rattle.fractions.specs.Compare.{lt_ℚ}
use Rattle.fractions.specs.Ends.{meet_low, meet_high, over}

-- hi where hi < 0, else 0
abbrev pub zero_or_below : Option Number → Number
zero_or_below None = zero_ℚ
zero_or_below (Some hi) = if lt_ℚ hi zero_ℚ then hi else zero_ℚ

-- the number from lo to hi that is nearest to 0: lo where lo > 0, else hi where hi < 0, else 0
abbrev pub near : Option Number → Option Number → Number
near None hi = zero_or_below hi
near (Some lo) hi = if lt_ℚ zero_ℚ lo then lo else zero_or_below hi

-- the ends lo/a and hi/a, changed over for a < 0
abbrev pub low_over : Number → Option Number → Option Number → Option Number
low_over a lo hi = if lt_ℚ zero_ℚ a then over lo a else over hi a

abbrev pub high_over : Number → Option Number → Option Number → Option Number
high_over a lo hi = if lt_ℚ zero_ℚ a then over hi a else over lo a

-- the number nearest to 0 from l to u whose product with a is from lo to hi
abbrev pub near_within : Number → Option Number → Option Number → Option Number → Option Number → Number
near_within a lo hi l u = near (meet_low l (low_over a lo hi)) (meet_high u (high_over a lo hi))
