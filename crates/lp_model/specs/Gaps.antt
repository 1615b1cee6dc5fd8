-- Semi-continuous columns: 0, or a number between two ends.
use Rattle.std.specs.Prelude.{◌≡◌, ◌⊎◌, Bool, IsTrue, Option, Some, None, IfSome, if◌then◌else◌}
use Rattle.fractions.specs.Number.{Number, zero_ℚ}
use Rattle.fractions.specs.Ends.{Between}
use Rattle.fractions.specs.MinMax.{min_ℚ, max_ℚ}
use Rattle.lp_model.specs.EndTests.{is_crossed}

-- the ends between which the column lies where it is not 0
pub record Gap : Type 0 where
  pub lower : Option Number
  pub upper : Option Number

-- x is 0 or lies between the ends
abbrev pub OffGap : Gap → Number → Type 0
OffGap g x = (x ≡ zero_ℚ) ⊎ Between g.lower g.upper x

-- v lies between these bounds, or it is 0 where the column is semi-continuous
abbrev pub Lies : Bool → Option Number → Option Number → Number → Type 0
Lies semi l u v = Between l u v ⊎ (IsTrue semi × (v ≡ zero_ℚ))

-- nothing is asked where there is no gap
abbrev pub Clears : Option Gap → Number → Type 0
Clears g x = IfSome g (λ ends. OffGap ends x)

-- the gap of a column with these bounds
abbrev pub gap_of : Bool → Option Number → Option Number → Option Gap
gap_of semi l u = if semi then Some (record { lower = l; upper = u }) else None

-- the hull of 0 and the numbers between two ends; 0 alone where the ends are crossed
abbrev pub low_or_zero : Option Number → Option Number
low_or_zero None = None
low_or_zero (Some l) = Some (min_ℚ zero_ℚ l)

abbrev pub high_or_zero : Option Number → Option Number
high_or_zero None = None
high_or_zero (Some u) = Some (max_ℚ zero_ℚ u)

abbrev pub hull_lower : Option Number → Option Number → Option Number
hull_lower l u = if is_crossed l u then Some zero_ℚ else low_or_zero l

abbrev pub hull_upper : Option Number → Option Number → Option Number
hull_upper l u = if is_crossed l u then Some zero_ℚ else high_or_zero u

-- the ends between which each value of a column lies: its bounds, or their hull with 0 where it is semi-continuous
abbrev pub reach_lower : Bool → Option Number → Option Number → Option Number
reach_lower semi l u = if semi then hull_lower l u else l

abbrev pub reach_upper : Bool → Option Number → Option Number → Option Number
reach_upper semi l u = if semi then hull_upper l u else u

-- the ends that a column was given: those of its gap, where it has one
abbrev pub given_lower : Option Gap → Option Number → Option Number
given_lower None l = l
given_lower (Some g) l = g.lower

abbrev pub given_upper : Option Gap → Option Number → Option Number
given_upper None u = u
given_upper (Some g) u = g.upper
