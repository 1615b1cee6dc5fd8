-- A text has no more cards than lines, and no more rows and columns than cards.
use Rattle.std.proofs.Common.{ℕ, zero, suc, ◌+◌, ◌≤◌, List, [], ◌∷◌, ◌++◌, length, length-append, true, cond, Option, Some, None, Result, Ok, Err, is_some, arith}
use Rattle.fractions.specs.Number.{Number}
use Rattle.names.specs.Names.{place}
use Rattle.lp_model.specs.declared.program.ColumnDef.{ColumnDef}
use Rattle.mps_profile.specs.Texts.{Text, field}
use Rattle.mps_profile.specs.Cards.{Card, RowCard, MarkerCard, ColumnCard, SideCard, RangeCard, ValuedCard, BareCard, UnknownCard}
use Rattle.mps_profile.specs.Rows.{row_names, row_kind, right_side, range_of}
use Rattle.mps_profile.specs.Columns.{column_names, joined}
use Rattle.mps_profile.specs.Items.{Item, Silent, Moves, Says, item_of, progress_of, cards_of, cards_after}
use Rattle.mps_profile.specs.Sides.{sides_of}
use Rattle.mps_profile.specs.Reading.{lines_read}
use Rattle.mps_profile.specs.Program.{row_defs, row_defs_at, column_def, columns_below, program_of}
use Rattle.mps_profile.specs.declared.dialect.Dialect.{Dialect}
use Rattle.mps_profile.specs.declared.dialect.Format.{Format}
use Rattle.mps_profile.specs.declared.faults.MpsFaultKind.{MpsFaultKind}

one_item : (cards : List Card) (r : Result Item MpsFaultKind) → length (cards_after cards r) ≤ length cards + 1
one_item cards (Ok Silent) = omega arith
one_item cards (Ok (Moves next)) = omega arith
one_item cards (Ok (Says card)) = omega arith
one_item cards (Err fault) = omega arith

pub cards_few : (format : Format) (lines : List Text) → length (cards_of format lines) ≤ length lines
cards_few format [] = omega arith
cards_few format (line ∷ before) = omega (arith, cards_few format before, one_item (cards_of format before) (item_of format (progress_of format before) line true))

one_name : (name : Text) (names : List Text) → length (joined name names) ≤ length names + 1
one_name name names = by_place (place name names)
  where
    by_place : (o : Option ℕ) → length (cond (is_some o) names (names ++ name ∷ [])) ≤ length names + 1
    by_place (Some k) = omega arith
    by_place None = omega (arith, length-append names (name ∷ []))

rows_few : (cards : List Card) → length (row_names cards) ≤ length cards
rows_few [] = omega arith
rows_few (RowCard kind name ∷ before) = omega (arith, rows_few before, length-append (row_names before) (name ∷ []))
rows_few (MarkerCard word ∷ before) = omega (arith, rows_few before)
rows_few (ColumnCard name pairs ∷ before) = omega (arith, rows_few before)
rows_few (SideCard set pairs ∷ before) = omega (arith, rows_few before)
rows_few (RangeCard set pairs ∷ before) = omega (arith, rows_few before)
rows_few (ValuedCard set kind column number ∷ before) = omega (arith, rows_few before)
rows_few (BareCard set kind column ∷ before) = omega (arith, rows_few before)
rows_few (UnknownCard ∷ before) = omega (arith, rows_few before)

columns_few : (cards : List Card) → length (column_names cards) ≤ length cards
columns_few [] = omega arith
columns_few (RowCard kind name ∷ before) = omega (arith, columns_few before)
columns_few (MarkerCard word ∷ before) = omega (arith, columns_few before)
columns_few (ColumnCard name pairs ∷ before) = omega (arith, columns_few before, one_name name (column_names before))
columns_few (SideCard set pairs ∷ before) = omega (arith, columns_few before)
columns_few (RangeCard set pairs ∷ before) = omega (arith, columns_few before)
columns_few (ValuedCard set kind column number ∷ before) = omega (arith, columns_few before)
columns_few (BareCard set kind column ∷ before) = omega (arith, columns_few before)
columns_few (UnknownCard ∷ before) = omega (arith, columns_few before)

pub rows_per_line : (format : Format) (lines : List Text) → length (row_names (cards_of format lines)) ≤ length lines
rows_per_line format lines = omega (arith, rows_few (cards_of format lines), cards_few format lines)

pub columns_per_line : (format : Format) (lines : List Text) → length (column_names (cards_of format lines)) ≤ length lines
columns_per_line format lines = omega (arith, columns_few (cards_of format lines), cards_few format lines)

one_row : (name : Text) (sides : Option (Option Number × Option Number)) → length (row_defs_at name sides) ≤ 1
one_row name None = omega arith
one_row name (Some sides) = omega arith

row_defs_few : (dialect : Dialect) (cards : List Card) (n : ℕ) → length (row_defs dialect cards n) ≤ n
row_defs_few dialect cards zero = omega arith
row_defs_few dialect cards (suc i) =
    let sides = sides_of (row_kind cards i) (right_side dialect cards i) (range_of dialect cards i) in
    let added = row_defs_at (field (row_names cards) i) sides in
    omega (arith, row_defs_few dialect cards i, one_row (field (row_names cards) i) sides, length-append (row_defs dialect cards i) added)

column_defs_few : (column : ℕ → ColumnDef) (n : ℕ) → length (columns_below column n) ≤ n
column_defs_few column zero = omega arith
column_defs_few column (suc j) = omega (arith, column_defs_few column j, length-append (columns_below column j) (column j ∷ []))

-- and so has its program
pub program_rows_per_line : (dialect : Dialect) (text : List ℕ) → length (program_of dialect text).rows ≤ length (lines_read dialect text)
program_rows_per_line dialect text =
    let lines = lines_read dialect text in
    let cards = cards_of dialect.format lines in
    omega (arith, row_defs_few dialect cards (length (row_names cards)), rows_per_line dialect.format lines)

pub program_columns_per_line : (dialect : Dialect) (text : List ℕ) → length (program_of dialect text).columns ≤ length (lines_read dialect text)
program_columns_per_line dialect text =
    let lines = lines_read dialect text in
    let cards = cards_of dialect.format lines in
    omega (arith, column_defs_few (column_def dialect cards) (length (column_names cards)), columns_per_line dialect.format lines)
