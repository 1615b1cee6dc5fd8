-- What cards of BOUNDS set. A bound that is infinite is none.
use Rattle.std.specs.Prelude.{Bool, true, false, Option, Some, None}
use Rattle.std.specs.Option.{option_map}
use Rattle.fractions.specs.Number.{Number, zero_ℚ, one_ℚ}
use Rattle.mps_profile.specs.declared.bounds.Valued.{Valued}
use Rattle.mps_profile.specs.declared.bounds.Valued as valued
use Rattle.mps_profile.specs.declared.bounds.Bare.{Bare}
use Rattle.mps_profile.specs.declared.bounds.Bare as bare
use Rattle.mps_profile.specs.declared.bounds.Change.{Change}
use Rattle.mps_profile.specs.declared.bounds.Limit.{Limit}
use Rattle.mps_profile.specs.declared.bounds.Limit.TheVariants.{Below, At, Above}

-- a lower bound may be -inf, an upper bound inf, and a fixed one neither
abbrev pub lower_end : Limit → Option (Option Number)
lower_end Below = Some None
lower_end (At value) = Some (Some value)
lower_end Above = None

abbrev pub upper_end : Limit → Option (Option Number)
upper_end Below = None
upper_end (At value) = Some (Some value)
upper_end Above = Some None

abbrev pub fixed_end : Limit → Option (Option Number)
fixed_end Below = None
fixed_end (At value) = Some (Some value)
fixed_end Above = None

-- what a card without a value sets
abbrev pub bare_change : Bare → Change
bare_change bare.TheVariants.Free = record { whole = false; semi = false; lower = Some None; upper = Some None }
bare_change bare.TheVariants.NoLower = record { whole = false; semi = false; lower = Some None; upper = None }
bare_change bare.TheVariants.NoUpper = record { whole = false; semi = false; lower = None; upper = Some None }
bare_change bare.TheVariants.Binary = record { whole = true; semi = false; lower = Some (Some zero_ℚ); upper = Some (Some one_ℚ) }

-- what a card with a value sets: LI and UI make the column whole too, and SC makes it semi-continuous
abbrev pub sets_lower : Bool → Option Number → Change
sets_lower whole end = record { whole = whole; semi = false; lower = Some end; upper = None }

abbrev pub sets_upper : Bool → Bool → Option Number → Change
sets_upper whole semi end = record { whole = whole; semi = semi; lower = None; upper = Some end }

abbrev pub sets_both : Option Number → Change
sets_both end = record { whole = false; semi = false; lower = Some end; upper = Some end }

abbrev pub valued_change : Valued → Limit → Option Change
valued_change valued.TheVariants.Lower limit = option_map (sets_lower false) (lower_end limit)
valued_change valued.TheVariants.Upper limit = option_map (sets_upper false false) (upper_end limit)
valued_change valued.TheVariants.Fixed limit = option_map sets_both (fixed_end limit)
valued_change valued.TheVariants.WholeLower limit = option_map (sets_lower true) (lower_end limit)
valued_change valued.TheVariants.WholeUpper limit = option_map (sets_upper true false) (upper_end limit)
valued_change valued.TheVariants.SemiContinuous limit = option_map (sets_upper false true) (upper_end limit)
