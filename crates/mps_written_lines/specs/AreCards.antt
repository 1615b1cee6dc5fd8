-- When the words that are written are read as the cards that they stand for.
use Rattle.std.specs.Prelude.{◌≡◌, Option, Some, false, Ok, flat_map}
use Rattle.std.specs.List.{AllByRecursion}
use Rattle.lp_model.specs.ProgramData.{ProgramData}
use Rattle.lp_model.specs.Names.{names_of_rows}
use Rattle.mps_profile.specs.FreeCards.{free_card}
use Rattle.mps_profile.specs.Items.{CardLine, line_of}
use Rattle.mps_profile.specs.declared.sections.Section.{Section}
use Rattle.mps_profile.specs.declared.sections.Section.TheVariants.{Rows, Columns, Rhs, Ranges, Bounds}
use Rattle.mps_writer.specs.Cards.{spaced}
use Rattle.mps_written_lines.specs.Words.{IsWord}
use Rattle.mps_written_lines.specs.Written.{WrittenCard, all_rows, rows_written, columns_written, sides_written, ranges_written, bounds_written}

-- words that are read as a card of a section
pub record IsCardOf (section : Option Section) (w : WrittenCard) : Type 0 where
  pub words : AllByRecursion IsWord w.words
  pub kind : line_of (spaced w.words) ≡ CardLine
  pub says : free_card section w.words ≡ Ok w.card

-- the words of each section are read as its cards
pub record AreCards (p : ProgramData) : Type 0 where
  pub rows : AllByRecursion (IsCardOf (Some Rows)) (rows_written p)
  pub columns : AllByRecursion (IsCardOf (Some Columns)) (columns_written (names_of_rows (all_rows p)) false p.columns)
  pub sides : AllByRecursion (IsCardOf (Some Rhs)) (flat_map sides_written (all_rows p))
  pub ranges : AllByRecursion (IsCardOf (Some Ranges)) (flat_map ranges_written (all_rows p))
  pub bounds : AllByRecursion (IsCardOf (Some Bounds)) (flat_map bounds_written p.columns)
