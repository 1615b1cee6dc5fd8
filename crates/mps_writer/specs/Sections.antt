-- What an MPS text says of a row and of a column.
use Rattle.std.specs.Prelude.{ℕ, List, [], ◌∷◌, ◌++◌, length, Option, Some, None, Bool, true, false, ◌==◌, ◌&&◌, not, if◌then◌else◌, codes, slice_get, flat_map}
use Rattle.std.specs.Option.{option_map_or}
use Rattle.fractions.specs.Number.{Number, ◌-ℚ◌, zero_ℚ}
use Rattle.fractions.specs.Compare.{eq_ℚ, lt_ℚ}
use Rattle.number_texts.specs.Written.{written}
use Rattle.lp_model.specs.declared.terms.Term.{Term}
use Rattle.lp_model.specs.declared.program.RowDef.{RowDef}
use Rattle.lp_model.specs.declared.program.ColumnDef.{ColumnDef}
use Rattle.mps_writer.specs.declared.rows.RowType.{RowType}
use Rattle.mps_writer.specs.declared.rows.RowType.TheVariants.{Equal, AtMost, AtLeast}
use Rattle.mps_writer.specs.Cards.{card}

-- equal where both sides are one number, at most where only the upper side is finite, else at least
abbrev pub type_by : Option Number → Option Number → RowType
type_by (Some lower) (Some upper) = if eq_ℚ lower upper then Equal else AtLeast
type_by (Some lower) None = AtLeast
type_by None (Some upper) = AtMost
type_by None None = AtLeast

abbrev pub type_word : RowType → List ℕ
type_word Equal = codes "E"
type_word AtMost = codes "L"
type_word AtLeast = codes "G"

abbrev pub row_text : RowDef → List ℕ
row_text row = card (type_word (type_by row.lower row.upper) ∷ row.name ∷ [])

-- a right side, where it isn't 0
abbrev pub right_side_card : List ℕ → Option Number → List ℕ
right_side_card name None = []
right_side_card name (Some q) = if eq_ℚ q zero_ℚ then [] else card (codes "RHS" ∷ name ∷ written q ∷ [])

-- the lower side, or the upper one where that is infinite
abbrev pub right_side_by : Option Number → Option Number → Option Number
right_side_by (Some lower) upper = Some lower
right_side_by None upper = upper

abbrev pub right_side_text : RowDef → List ℕ
right_side_text row = right_side_card row.name (right_side_by row.lower row.upper)

-- the width between two different finite sides
abbrev pub range_by : List ℕ → Option Number → Option Number → List ℕ
range_by name (Some lower) (Some upper) = if eq_ℚ lower upper then [] else card (codes "RNG" ∷ name ∷ written (upper -ℚ lower) ∷ [])
range_by name (Some lower) None = []
range_by name None upper = []

abbrev pub range_text : RowDef → List ℕ
range_text row = range_by row.name row.lower row.upper

-- the cost, where it isn't 0 or the column has no entry
abbrev pub cost_text : List ℕ → ColumnDef → List ℕ
cost_text objective c = if eq_ℚ c.cost zero_ℚ && not (length c.entries == 0) then [] else card (c.name ∷ objective ∷ written c.cost ∷ [])

-- an entry, at the name of its row
abbrev pub entry_text : List RowDef → List ℕ → Term → List ℕ
entry_text rows name t = option_map_or (λ row. card (name ∷ row.name ∷ written t.value ∷ [])) (slice_get rows t.id) []

abbrev pub column_text : List ℕ → List RowDef → ColumnDef → List ℕ
column_text objective rows c = cost_text objective c ++ flat_map (entry_text rows c.name) c.entries

-- a marker stands where whole columns begin and where they end
abbrev pub marker_text : Bool → Bool → List ℕ
marker_text false true = card (codes "MARKER" ∷ codes "'MARKER'" ∷ codes "'INTORG'" ∷ [])
marker_text true false = card (codes "MARKER" ∷ codes "'MARKER'" ∷ codes "'INTEND'" ∷ [])
marker_text false false = []
marker_text true true = []

-- columns behind one that is whole or not
abbrev pub columns_text : List ℕ → List RowDef → Bool → List ColumnDef → List ℕ
columns_text objective rows whole [] = marker_text whole false
columns_text objective rows whole (c ∷ cs) = marker_text whole c.whole ++ (column_text objective rows c ++ columns_text objective rows c.whole cs)

abbrev pub bound_card : List ℕ → List ℕ → List ℕ
bound_card kind name = card (kind ∷ codes "BND" ∷ name ∷ [])

abbrev pub bound_at_card : List ℕ → List ℕ → Number → List ℕ
bound_at_card kind name q = card (kind ∷ codes "BND" ∷ name ∷ written q ∷ [])

-- a bound that is infinite, with the word for it
abbrev pub infinite_bound_card : List ℕ → List ℕ → List ℕ
infinite_bound_card kind name = card (kind ∷ codes "BND" ∷ name ∷ codes "inf" ∷ [])

abbrev pub is_below_zero : Option Number → Bool
is_below_zero None = false
is_below_zero (Some q) = lt_ℚ q zero_ℚ

-- the lower bound: 0 is left out, unless the upper one is negative
abbrev pub lower_text : List ℕ → Option Number → Option Number → List ℕ
lower_text name None upper = bound_card (codes "MI") name
lower_text name (Some q) upper = if eq_ℚ q zero_ℚ && not (is_below_zero upper) then [] else bound_at_card (codes "LO") name q

-- the upper bound: none is left out, unless the column is whole
abbrev pub upper_text : List ℕ → Bool → Option Number → List ℕ
upper_text name whole None = if whole then bound_card (codes "PL") name else []
upper_text name whole (Some q) = bound_at_card (codes "UP") name q

abbrev pub ends_text : ColumnDef → List ℕ
ends_text c = lower_text c.name c.lower c.upper ++ upper_text c.name c.whole c.upper

-- the bounds of a column that isn't semi-continuous: free, fixed, or each end by itself
abbrev pub bounds_by : ColumnDef → Option Number → Option Number → List ℕ
bounds_by c None None = bound_card (codes "FR") c.name
bounds_by c None (Some u) = ends_text c
bounds_by c (Some l) None = ends_text c
bounds_by c (Some l) (Some u) = if eq_ℚ l u then bound_at_card (codes "FX") c.name l else ends_text c

-- the lower bound of a semi-continuous column: 0 is left out
abbrev pub semi_lower_text : List ℕ → Option Number → List ℕ
semi_lower_text name None = bound_card (codes "MI") name
semi_lower_text name (Some q) = if eq_ℚ q zero_ℚ then [] else bound_at_card (codes "LO") name q

-- its upper bound, which makes it semi-continuous
abbrev pub semi_upper_text : List ℕ → Option Number → List ℕ
semi_upper_text name None = infinite_bound_card (codes "SC") name
semi_upper_text name (Some q) = bound_at_card (codes "SC") name q

abbrev pub semi_text : ColumnDef → List ℕ
semi_text c = semi_lower_text c.name c.lower ++ semi_upper_text c.name c.upper

abbrev pub bounds_text : ColumnDef → List ℕ
bounds_text c = if c.semi then semi_text c else bounds_by c c.lower c.upper
