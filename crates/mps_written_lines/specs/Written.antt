-- The text that is written of a program, card by card.
use Rattle.std.specs.Prelude.{◌≡◌, ℕ, suc, ◌==◌, ◌&&◌, ◌||◌, not, Bool, true, false, List, [], ◌∷◌, ◌++◌, map, length, codes, flat_map, Option, Some, None, if◌then◌else◌}
use Rattle.std.specs.List.{list_all}
use Rattle.fractions.specs.Number.{Number, neg_ℚ, ◌-ℚ◌, zero_ℚ}
use Rattle.fractions.specs.Compare.{eq_ℚ}
use Rattle.number_texts.specs.Written.{written}
use Rattle.lp_model.specs.declared.program.Sense.{Sense}
use Rattle.lp_model.specs.declared.program.Sense.TheVariants.{Min, Max}
use Rattle.lp_model.specs.declared.program.RowDef.{RowDef}
use Rattle.lp_model.specs.declared.program.ColumnDef.{ColumnDef}
use Rattle.lp_model.specs.declared.terms.Term.{Term}
use Rattle.lp_model.specs.ProgramData.{ProgramData}
use Rattle.lp_model.specs.Names.{names_of_rows}
use Rattle.mps_profile.specs.Texts.{Text, field}
use Rattle.mps_profile.specs.Cards.{One, Card, RowCard, MarkerCard, ColumnCard, SideCard, RangeCard, ValuedCard, BareCard}
use Rattle.mps_profile.specs.declared.bounds.Valued.{Valued}
use Rattle.mps_profile.specs.declared.bounds.Valued.TheVariants.{Lower, Upper, Fixed, WholeLower, WholeUpper, SemiContinuous}
use Rattle.mps_profile.specs.declared.bounds.Bare.{Bare}
use Rattle.mps_profile.specs.declared.bounds.Bare.TheVariants.{Free, NoLower, NoUpper, Binary}
use Rattle.mps_writer.specs.Cards.{spaced}
use Rattle.mps_writer.specs.Sections.{type_by, type_word, right_side_by, is_below_zero}

-- the words of a card, and what they say
pub record WrittenCard : Type 0 where
  pub words : List Text
  pub card : Card

-- the objective as a row: its right side is minus the constant
abbrev pub objective_row : ProgramData → RowDef
objective_row p = record { name = p.objective; lower = Some (neg_ℚ p.constant); upper = None }

abbrev pub all_rows : ProgramData → List RowDef
all_rows p = objective_row p ∷ p.rows

abbrev pub row_written : RowDef → WrittenCard
row_written row = record { words = type_word (type_by row.lower row.upper) ∷ row.name ∷ []; card = RowCard (type_word (type_by row.lower row.upper)) row.name }

abbrev pub objective_written : Text → WrittenCard
objective_written name = record { words = codes "N" ∷ name ∷ []; card = RowCard (codes "N") name }

abbrev pub rows_written : ProgramData → List WrittenCard
rows_written p = objective_written p.objective ∷ map row_written p.rows

abbrev pub mark_written : Text → WrittenCard
mark_written word = record { words = codes "MARKER" ∷ codes "'MARKER'" ∷ word ∷ []; card = MarkerCard word }

-- a marker stands where whole columns begin and where they end
abbrev pub marks : Bool → Bool → List WrittenCard
marks false true = mark_written (codes "'INTORG'") ∷ []
marks true false = mark_written (codes "'INTEND'") ∷ []
marks false false = []
marks true true = []

-- a number of a column at the place of a row
abbrev pub entry_written : List Text → Text → Term → WrittenCard
entry_written rows name t = record {
  words = name ∷ field rows t.id ∷ written t.value ∷ [];
  card = ColumnCard name (One (record { row = field rows t.id; number = written t.value }));
}

-- the cost, where it isn't 0 or the column has no entry
abbrev pub cost_terms : ColumnDef → List Term
cost_terms c = if eq_ℚ c.cost zero_ℚ && not (length c.entries == 0) then [] else record { id = 0; value = c.cost } ∷ []

-- the objective stands above the rows
abbrev pub moved : Term → Term
moved t = record { id = suc t.id; value = t.value }

abbrev pub all_terms : ColumnDef → List Term
all_terms c = cost_terms c ++ map moved c.entries

abbrev pub columns_written : List Text → Bool → List ColumnDef → List WrittenCard
columns_written rows whole [] = marks whole false
columns_written rows whole (c ∷ cs) = marks whole c.whole ++ (map (entry_written rows c.name) (all_terms c) ++ columns_written rows c.whole cs)

abbrev pub side_written : Text → Number → WrittenCard
side_written name q = record { words = codes "RHS" ∷ name ∷ written q ∷ []; card = SideCard (Some (codes "RHS")) (One (record { row = name; number = written q })) }

-- a right side, where it isn't 0
abbrev pub side_by : Text → Option Number → List WrittenCard
side_by name None = []
side_by name (Some q) = if eq_ℚ q zero_ℚ then [] else side_written name q ∷ []

abbrev pub sides_written : RowDef → List WrittenCard
sides_written row = side_by row.name (right_side_by row.lower row.upper)

abbrev pub range_written : Text → Number → WrittenCard
range_written name q = record { words = codes "RNG" ∷ name ∷ written q ∷ []; card = RangeCard (Some (codes "RNG")) (One (record { row = name; number = written q })) }

-- the width between two different finite sides
abbrev pub range_by : Text → Option Number → Option Number → List WrittenCard
range_by name (Some lower) (Some upper) = if eq_ℚ lower upper then [] else range_written name (upper -ℚ lower) ∷ []
range_by name (Some lower) None = []
range_by name None upper = []

abbrev pub ranges_written : RowDef → List WrittenCard
ranges_written row = range_by row.name row.lower row.upper

abbrev pub valued_word : Valued → Text
valued_word Lower = codes "LO"
valued_word Upper = codes "UP"
valued_word Fixed = codes "FX"
valued_word WholeLower = codes "LI"
valued_word WholeUpper = codes "UI"
valued_word SemiContinuous = codes "SC"

abbrev pub bare_word : Bare → Text
bare_word Free = codes "FR"
bare_word NoLower = codes "MI"
bare_word NoUpper = codes "PL"
bare_word Binary = codes "BV"

abbrev pub valued_written : Valued → Text → Number → WrittenCard
valued_written kind name q = record { words = valued_word kind ∷ codes "BND" ∷ name ∷ written q ∷ []; card = ValuedCard (Some (codes "BND")) kind name (written q) }

-- a bound that is infinite, with the word for it
abbrev pub infinite_written : Valued → Text → WrittenCard
infinite_written kind name = record { words = valued_word kind ∷ codes "BND" ∷ name ∷ codes "inf" ∷ []; card = ValuedCard (Some (codes "BND")) kind name (codes "inf") }

abbrev pub bare_written : Bare → Text → WrittenCard
bare_written kind name = record { words = bare_word kind ∷ codes "BND" ∷ name ∷ []; card = BareCard (Some (codes "BND")) kind name }

-- the lower bound: 0 is left out, unless the upper one is negative
abbrev pub lower_written : Text → Option Number → Option Number → List WrittenCard
lower_written name None upper = bare_written NoLower name ∷ []
lower_written name (Some q) upper = if eq_ℚ q zero_ℚ && not (is_below_zero upper) then [] else valued_written Lower name q ∷ []

-- the upper bound: none is left out, unless the column is whole
abbrev pub upper_written : Text → Bool → Option Number → List WrittenCard
upper_written name whole None = if whole then bare_written NoUpper name ∷ [] else []
upper_written name whole (Some q) = valued_written Upper name q ∷ []

abbrev pub ends_written : ColumnDef → List WrittenCard
ends_written c = lower_written c.name c.lower c.upper ++ upper_written c.name c.whole c.upper

-- the bounds of a column that isn't semi-continuous: free, fixed, or each end by itself
abbrev pub bounds_by : ColumnDef → Option Number → Option Number → List WrittenCard
bounds_by c None None = bare_written Free c.name ∷ []
bounds_by c None (Some u) = ends_written c
bounds_by c (Some l) None = ends_written c
bounds_by c (Some l) (Some u) = if eq_ℚ l u then valued_written Fixed c.name l ∷ [] else ends_written c

-- the lower bound of a semi-continuous column: 0 is left out
abbrev pub semi_lower_written : Text → Option Number → List WrittenCard
semi_lower_written name None = bare_written NoLower name ∷ []
semi_lower_written name (Some q) = if eq_ℚ q zero_ℚ then [] else valued_written Lower name q ∷ []

-- its upper bound, which makes it semi-continuous
abbrev pub semi_upper_written : Text → Option Number → WrittenCard
semi_upper_written name None = infinite_written SemiContinuous name
semi_upper_written name (Some q) = valued_written SemiContinuous name q

abbrev pub semi_written : ColumnDef → List WrittenCard
semi_written c = semi_lower_written c.name c.lower ++ semi_upper_written c.name c.upper ∷ []

abbrev pub bounds_written : ColumnDef → List WrittenCard
bounds_written c = if c.semi then semi_written c else bounds_by c c.lower c.upper

-- cards after those before them, of which the nearest stands first
abbrev pub onto : List Card → List WrittenCard → List Card
onto before [] = before
onto before (w ∷ ws) = onto (w.card ∷ before) ws

abbrev pub row_cards : ProgramData → List Card
row_cards p = onto [] (rows_written p)

abbrev pub column_cards : ProgramData → List Card
column_cards p = onto (row_cards p) (columns_written (names_of_rows (all_rows p)) false p.columns)

abbrev pub side_cards : ProgramData → List Card
side_cards p = onto (column_cards p) (flat_map sides_written (all_rows p))

abbrev pub range_cards : ProgramData → List Card
range_cards p = onto (side_cards p) (flat_map ranges_written (all_rows p))

-- the cards of the text, the nearest to its end first
abbrev pub written_cards : ProgramData → List Card
written_cards p = onto (range_cards p) (flat_map bounds_written p.columns)

abbrev pub line : WrittenCard → Text
line w = spaced w.words

abbrev pub sense_lines : Sense → List Text
sense_lines Min = []
sense_lines Max = codes "OBJSENSE" ∷ codes " MAX" ∷ []

-- a section stands where it has a card
abbrev pub section_lines : Text → List WrittenCard → List Text
section_lines heading [] = []
section_lines heading (w ∷ ws) = heading ∷ map line (w ∷ ws)

-- the lines of the text
abbrev pub written_lines : ProgramData → List Text
written_lines p =
    codes "NAME presolved" ∷ (sense_lines p.sense
    ++ (codes "ROWS" ∷ (map line (rows_written p)
    ++ (codes "COLUMNS" ∷ (map line (columns_written (names_of_rows (all_rows p)) false p.columns)
    ++ (section_lines (codes "RHS") (flat_map sides_written (all_rows p))
    ++ (section_lines (codes "RANGES") (flat_map ranges_written (all_rows p))
    ++ (section_lines (codes "BOUNDS") (flat_map bounds_written p.columns)
    ++ codes "ENDATA" ∷ []))))))))

-- whether a byte ends a line: a line feed, or a carriage return before one
abbrev pub ends_line : ℕ → Bool
ends_line b = (b == 10) || (b == 13)

-- no byte ends a line
abbrev pub IsLine : Text → Type 0
IsLine text = list_all (λ b. not (ends_line b)) text ≡ true

-- lines, each ended with a line feed
abbrev pub unlined : List Text → List ℕ
unlined [] = []
unlined (text ∷ texts) = text ++ 10 ∷ unlined texts
