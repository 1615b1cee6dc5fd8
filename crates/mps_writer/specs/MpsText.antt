-- The MPS text of a program.
use Rattle.std.specs.Prelude.{ℕ, List, [], ◌∷◌, ◌++◌, Option, Some, None, false, codes, flat_map, ◌≢◌}
use Rattle.std.specs.List.{AllByRecursion}
use Rattle.fractions.specs.Number.{Number, neg_ℚ}
use Rattle.fractions.specs.FracWords.{SumFits}
use Rattle.lp_model.specs.declared.program.Sense.{Sense}
use Rattle.lp_model.specs.declared.program.Sense.TheVariants.{Min, Max}
use Rattle.lp_model.specs.declared.program.RowDef.{RowDef}
use Rattle.lp_model.specs.declared.program.ColumnDef.{ColumnDef}
use Rattle.lp_model.specs.ProgramData.{ProgramData}
use Rattle.mps_writer.specs.Cards.{card}
use Rattle.mps_writer.specs.Sections.{row_text, columns_text, right_side_card, right_side_text, range_text, bounds_text}

-- a section stands where it has a card
abbrev pub section : List ℕ → List ℕ → List ℕ
section heading [] = []
section heading (b ∷ bs) = heading ++ 10 ∷ b ∷ bs

abbrev pub sense_text : Sense → List ℕ
sense_text Min = []
sense_text Max = codes "OBJSENSE\n MAX\n"

abbrev pub rows_section : List ℕ → List RowDef → List ℕ
rows_section objective rows = codes "ROWS\n" ++ (card (codes "N" ∷ objective ∷ []) ++ flat_map row_text rows)

abbrev pub columns_section : List ℕ → List RowDef → List ColumnDef → List ℕ
columns_section objective rows columns = codes "COLUMNS\n" ++ columns_text objective rows false columns

-- the objective's right side is minus the constant
abbrev pub right_sides : List ℕ → Number → List RowDef → List ℕ
right_sides objective constant rows = right_side_card objective (Some (neg_ℚ constant)) ++ flat_map right_side_text rows

unfoldable pub mps_text : ProgramData → List ℕ
mps_text p =
    codes "NAME presolved\n"
    ++ (sense_text p.sense
    ++ (rows_section p.objective p.rows
    ++ (columns_section p.objective p.rows p.columns
    ++ (section (codes "RHS") (right_sides p.objective p.constant p.rows)
    ++ (section (codes "RANGES") (flat_map range_text p.rows)
    ++ (section (codes "BOUNDS") (flat_map bounds_text p.columns)
    ++ codes "ENDATA\n"))))))

-- the width between two different finite sides is in range
abbrev pub WidthFitsBy : Option Number → Option Number → Type 0
WidthFitsBy (Some lower) (Some upper) = lower ≢ upper → SumFits upper (neg_ℚ lower)
WidthFitsBy (Some lower) None = Unit {0}
WidthFitsBy None upper = Unit {0}

abbrev pub WidthFits : RowDef → Type 0
WidthFits row = WidthFitsBy row.lower row.upper

abbrev pub WidthsFit : List RowDef → Type 0
WidthsFit rows = AllByRecursion WidthFits rows
