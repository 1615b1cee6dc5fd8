-- Sets of right sides, ranges and bounds, of which the first in each section counts.
use Rattle.std.specs.Prelude.{Bool, true, false, List, [], ◌∷◌, Option, Some, None}
use Rattle.std.specs.Str.{bytes_eq}
use Rattle.mps_profile.specs.Texts.{Text}
use Rattle.mps_profile.specs.Cards.{Card, SideCard, RangeCard, ValuedCard, BareCard}

-- no name is a set of its own
abbrev pub same_set : Option Text → Option Text → Bool
same_set None None = true
same_set (Some first) (Some second) = bytes_eq first second
same_set None (Some second) = false
same_set (Some first) None = false

-- whether a card of a set counts where this is the first set, if there is one yet
abbrev pub counts : Option (Option Text) → Option Text → Bool
counts None set = true
counts (Some first) set = same_set first set

abbrev pub or_first : Option (Option Text) → Option Text → Option (Option Text)
or_first None set = Some set
or_first (Some first) set = Some first

-- the set of the first card of RHS
abbrev pub side_set : List Card → Option (Option Text)
side_set [] = None
side_set (SideCard set pairs ∷ before) = or_first (side_set before) set
side_set (card ∷ before) = side_set before

-- the set of the first card of RANGES
abbrev pub range_set : List Card → Option (Option Text)
range_set [] = None
range_set (RangeCard set pairs ∷ before) = or_first (range_set before) set
range_set (card ∷ before) = range_set before

-- the set of the first card of BOUNDS
abbrev pub bound_set : List Card → Option (Option Text)
bound_set [] = None
bound_set (ValuedCard set kind column number ∷ before) = or_first (bound_set before) set
bound_set (BareCard set kind column ∷ before) = or_first (bound_set before) set
bound_set (card ∷ before) = bound_set before
