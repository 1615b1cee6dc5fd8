-- What the cards say of rows. The nearest card stands first.
use Rattle.std.specs.Prelude.{ℕ, ◌==◌, ◌++◌, Bool, true, false, List, [], ◌∷◌, Option, Some, None, Result, Ok, Err, unwrap_or, if◌then◌else◌, slice_index_or}
use Rattle.fractions.specs.Number.{Number, zero_ℚ}
use Rattle.names.specs.Names.{place}
use Rattle.number_texts.specs.declared.reading.ReadNumber.{ReadNumber}
use Rattle.mps_profile.specs.Texts.{Text}
use Rattle.mps_profile.specs.Cards.{Pair, Pairs, One, Two, Card, RowCard, SideCard, RangeCard}
use Rattle.mps_profile.specs.Words.{kind_named}
use Rattle.mps_profile.specs.Numerals.{number_on}
use Rattle.mps_profile.specs.Sets.{counts, side_set, range_set}
use Rattle.mps_profile.specs.Sides.{ranged}
use Rattle.mps_profile.specs.declared.row_kinds.Interval.{Interval}
use Rattle.mps_profile.specs.declared.dialect.Dialect.{Dialect}
use Rattle.mps_profile.specs.declared.row_kinds.RowKind.{RowKind}
use Rattle.mps_profile.specs.declared.row_kinds.RowKind.TheVariants.{Free}

-- the rows, N rows among them, in the order of their cards
abbrev pub row_names : List Card → List Text
row_names [] = []
row_names (RowCard kind name ∷ before) = row_names before ++ name ∷ []
row_names (card ∷ before) = row_names before

-- their types
abbrev pub row_kinds : List Card → List RowKind
row_kinds [] = []
row_kinds (RowCard kind name ∷ before) = row_kinds before ++ unwrap_or (kind_named kind) Free ∷ []
row_kinds (card ∷ before) = row_kinds before

abbrev pub row_kind : List Card → ℕ → RowKind
row_kind cards i = slice_index_or (row_kinds cards) i Free

abbrev pub is_free : RowKind → Bool
is_free Free = true
is_free kind = false

-- whether a place is this one
abbrev pub is_at : Option ℕ → ℕ → Bool
is_at None i = false
is_at (Some k) i = k == i

-- whether a pair names row i of some rows
abbrev pub names_row : List Text → ℕ → Pair → Bool
names_row rows i pair = is_at (place pair.row rows) i

-- the number that a read gives, where it gives one
abbrev pub value_in : Result Number ReadNumber → Option Number
value_in (Ok q) = Some q
value_in (Err fault) = None

-- the number of the last of the pairs that names row i, or what stands before it
abbrev pub pair_value : Dialect → List Text → ℕ → Pair → Option Number → Option Number
pair_value dialect rows i pair before = if names_row rows i pair then value_in (number_on dialect pair.number) else before

abbrev pub pairs_value : Dialect → List Text → ℕ → Pairs → Option Number → Option Number
pairs_value dialect rows i (One pair) before = pair_value dialect rows i pair before
pairs_value dialect rows i (Two pair other) before = pair_value dialect rows i other (pair_value dialect rows i pair before)

-- the right side of row i: the number on the card of RHS that names it, of those that count
abbrev pub side_of : Dialect → List Card → ℕ → Option Number
side_of dialect [] i = None
side_of dialect (SideCard set pairs ∷ before) i =
    if counts (side_set before) set then pairs_value dialect (row_names before) i pairs (side_of dialect before i) else side_of dialect before i
side_of dialect (card ∷ before) i = side_of dialect before i

-- 0 where no card names the row
abbrev pub right_side : Dialect → List Card → ℕ → Number
right_side dialect cards i = unwrap_or (side_of dialect cards i) zero_ℚ

-- the sides that the number on a pair of RANGES makes
abbrev pub interval_in : RowKind → Number → Result Number ReadNumber → Option Interval
interval_in kind side (Ok q) = ranged kind side q
interval_in kind side (Err fault) = None

abbrev pub interval_on : Dialect → List Card → ℕ → Pair → Option Interval
interval_on dialect cards i pair = interval_in (row_kind cards i) (right_side dialect cards i) (number_on dialect pair.number)

abbrev pub pair_range : Dialect → List Card → ℕ → Pair → Option Interval → Option Interval
pair_range dialect cards i pair before = if names_row (row_names cards) i pair then interval_on dialect cards i pair else before

abbrev pub pairs_range : Dialect → List Card → ℕ → Pairs → Option Interval → Option Interval
pairs_range dialect cards i (One pair) before = pair_range dialect cards i pair before
pairs_range dialect cards i (Two pair other) before = pair_range dialect cards i other (pair_range dialect cards i pair before)

-- the sides of row i by the card of RANGES that names it, of those that count
abbrev pub range_of : Dialect → List Card → ℕ → Option Interval
range_of dialect [] i = None
range_of dialect (RangeCard set pairs ∷ before) i =
    if counts (range_set before) set then pairs_range dialect before i pairs (range_of dialect before i) else range_of dialect before i
range_of dialect (card ∷ before) i = range_of dialect before i
