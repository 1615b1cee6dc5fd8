-- The written text is read as the program.
use Rattle.std.proofs.Common.{◌≡◌, List, [], ◌∷◌, ◌++◌, map, true, false, Option, Some, None, refl, sym, ap, ap₂, ◌∙◌}
use Rattle.std.specs.Prelude.{codes, flat_map}
use Rattle.std.specs.List.{AllByRecursion, list_any}
use Rattle.fractions.specs.declared.Numbers.{Numbers}
use Rattle.lp_model.specs.declared.program.Sense.{Sense}
use Rattle.lp_model.specs.declared.program.Sense.TheVariants.{Min, Max}
use Rattle.lp_model.specs.declared.program.RowDef.{RowDef}
use Rattle.lp_model.specs.declared.program.ColumnDef.{ColumnDef}
use Rattle.lp_model.specs.ProgramData.{ProgramData}
use Rattle.lp_model.specs.Names.{names_of_rows, WellNamed}
use Rattle.text_lines.specs.Lines.{lines_of}
use Rattle.mps_profile.specs.Texts.{Text}
use Rattle.mps_profile.specs.Cards.{Card}
use Rattle.mps_profile.specs.Rows.{row_kinds, is_free}
use Rattle.mps_profile.specs.Items.{start, cards_of, progress_of}
use Rattle.mps_profile.specs.Reading.{first_fault, fault_from, read_from, lines_read}
use Rattle.mps_profile.specs.Program.{program_in, program_of}
use Rattle.mps_profile.specs.declared.dialect.Dialect.{Dialect}
use Rattle.mps_profile.specs.declared.dialect.Format.TheVariants.{Free}
use Rattle.mps_profile.specs.declared.progress.Progress.{Progress}
use Rattle.mps_profile.specs.declared.sections.Section.{Section}
use Rattle.mps_profile.specs.declared.sections.Section.TheVariants.{Rows, Columns, Rhs, Ranges, Bounds, Endata}
use Rattle.mps_profile.specs.declared.bounds.Valued.TheVariants.{SemiContinuous}
use Rattle.mps_writer.specs.MpsText.{mps_text}
use Rattle.mps_writer.specs.Sections.{right_side_by}
use Rattle.mps_written_lines.specs.Words.{IsWord}
use Rattle.mps_written_lines.specs.Written.{IsLine}
use Rattle.mps_written_lines.specs.Formats.{free_format}
use Rattle.mps_written_lines.specs.Words.{IsRowName}
use Rattle.mps_round_trip.specs.Plain.{Plain}
use Rattle.lp_model.specs.Writable.{Writable, EntriesAscend}
use Rattle.mps_written_lines.specs.Written.{WrittenCard, all_rows, row_written, rows_written, columns_written, sides_written, ranges_written, bounds_written, row_cards, written_cards, line, sense_lines, section_lines, written_lines}
use Rattle.mps_written_cards.proofs.Segments.{all_append, all_map, all_flat}
use Rattle.mps_written_lines.proofs.Lines.{lines_again, spaced_line}
use Rattle.mps_written_lines.proofs.Texts.{text_lines}
use Rattle.mps_written_lines.specs.AreCards.{IsCardOf, AreCards}
use Rattle.mps_written_lines.proofs.Reading.{Reads, at, told_of, lines_reads}
use Rattle.mps_written_cards.proofs.RowCards.{kinds_said}
use Rattle.mps_written_cards.proofs.SideCards.{IsReadIn}
use Rattle.mps_round_trip.proofs.RangeCards.{WidthIn}
use Rattle.mps_round_trip.proofs.CardWords.{row_read, objective_read, columns_read, side_read, sides_all, range_read, ranges_all, valued_read, infinite_read, bare_read, bounds_all}
use Rattle.mps_round_trip.proofs.Ready.{Ready, ready, both}
use Rattle.mps_round_trip.proofs.Said.{columns_ready, said}
use Rattle.mps_round_trip.proofs.Program.{program_back}

-- a row with a name and what is read of it
abbrev SideRow : Numbers → RowDef → Type 0
SideRow numbers row = IsRowName row.name × IsReadIn numbers (right_side_by row.lower row.upper)

abbrev RangeRow : Numbers → RowDef → Type 0
RangeRow numbers row = IsRowName row.name × WidthIn numbers row.lower row.upper

abbrev BoundColumn : Numbers → ColumnDef → Type 0
BoundColumn numbers c = IsWord c.name × (IsReadIn numbers c.lower × IsReadIn numbers c.upper)

are_cards : (numbers : Numbers) (p : ProgramData) → Ready numbers p → AreCards p
are_cards numbers p r = record {
  rows = (
    objective_read p.objective r.rows_named.0.word,
    all_map (IsCardOf (Some Rows)) (λ (row : RowDef). IsRowName row.name) row_written (λ row named. row_read row named.word) p.rows r.rows_named.1,
  );
  columns = columns_read numbers (names_of_rows (all_rows p)) p.columns
      (all_map IsRowName (λ (row : RowDef). IsRowName row.name) (λ (row : RowDef). row.name) (λ row named. named) (all_rows p) r.rows_named) (columns_ready numbers p r);
  sides = all_flat (IsCardOf (Some Rhs)) (SideRow numbers) sides_written
      (λ row is. sides_all (IsCardOf (Some Rhs)) numbers row.name (right_side_by row.lower row.upper) is.1 (λ q read. side_read numbers row.name q is.0.word read))
      (all_rows p) (both (λ (row : RowDef) a b. (a, b)) (all_rows p) r.rows_named r.sides);
  ranges = all_flat (IsCardOf (Some Ranges)) (RangeRow numbers) ranges_written
      (λ row is. ranges_all (IsCardOf (Some Ranges)) numbers row.name row.lower row.upper is.1 (λ q read. range_read numbers row.name q is.0.word read))
      p.rows (both (λ (row : RowDef) a b. (a, b)) p.rows r.rows_named.1 r.widths);
  bounds = all_flat (IsCardOf (Some Bounds)) (BoundColumn numbers) bounds_written
      (λ c is. bounds_all (IsCardOf (Some Bounds)) numbers c (λ kind. bare_read kind c.name is.0) (λ kind q read. valued_read numbers kind c.name q is.0 read)
      (infinite_read SemiContinuous c.name is.0) is.1.0 is.1.1)
      p.columns (both (λ (c : ColumnDef) a b. (a, b)) p.columns r.columns_named r.bounds_read);
}

-- the lines are lines
card_lines : (section : Option Section) (ws : List WrittenCard) → AllByRecursion (IsCardOf section) ws → AllByRecursion IsLine (map line ws)
card_lines section [] all = tt
card_lines section (w ∷ ws) all = (spaced_line w.words all.0.words, card_lines section ws all.1)

section_are_lines : (section : Option Section) (heading : Text) (ws : List WrittenCard) → IsLine heading → AllByRecursion (IsCardOf section) ws → AllByRecursion IsLine (section_lines heading ws)
section_are_lines section heading [] is all = tt
section_are_lines section heading (w ∷ ws) is all = (is, card_lines section (w ∷ ws) all)

sense_are_lines : (sense : Sense) → AllByRecursion IsLine (sense_lines sense)
sense_are_lines Min = tt
sense_are_lines Max = (refl, (refl, tt))

lines_are : (p : ProgramData) → AreCards p → AllByRecursion IsLine (written_lines p)
lines_are p are =
    let columns : List WrittenCard = columns_written (names_of_rows (all_rows p)) false p.columns in
    let sides : List WrittenCard = flat_map sides_written (all_rows p) in
    let ranges : List WrittenCard = flat_map ranges_written (all_rows p) in
    let bounds : List WrittenCard = flat_map bounds_written p.columns in
    let end : List Text = codes "ENDATA" ∷ [] in
    let from_bounds : List Text = section_lines (codes "BOUNDS") bounds ++ end in
    let from_ranges : List Text = section_lines (codes "RANGES") ranges ++ from_bounds in
    let from_sides : List Text = section_lines (codes "RHS") sides ++ from_ranges in
    let from_columns : List Text = codes "COLUMNS" ∷ (map line columns ++ from_sides) in
    let from_rows : List Text = codes "ROWS" ∷ (map line (rows_written p) ++ from_columns) in (
      refl,
      all_append IsLine (sense_lines p.sense) from_rows (sense_are_lines p.sense) (
        refl,
        all_append IsLine (map line (rows_written p)) from_columns (card_lines (Some Rows) (rows_written p) are.rows) (
          refl,
          all_append IsLine (map line columns) from_sides (card_lines (Some Columns) columns are.columns)
              (all_append IsLine (section_lines (codes "RHS") sides) from_ranges (section_are_lines (Some Rhs) (codes "RHS") sides refl are.sides)
              (all_append IsLine (section_lines (codes "RANGES") ranges) from_bounds (section_are_lines (Some Ranges) (codes "RANGES") ranges refl are.ranges)
              (all_append IsLine (section_lines (codes "BOUNDS") bounds) end (section_are_lines (Some Bounds) (codes "BOUNDS") bounds refl are.bounds) (refl, tt)))),
        ),
      ),
    )

module _ (numbers : Numbers) (p : ProgramData) (named : WellNamed p.objective p.rows p.columns) (plain : Plain p) (w : Writable numbers p) (ascend : EntriesAscend p) where
  abbrev d : Dialect
  d = free_format numbers

  is_ready : Ready numbers p
  is_ready = ready numbers p named plain w ascend

  cut_again : lines_of (mps_text p) ≡ written_lines p
  cut_again = ap lines_of (text_lines p ascend) ∙ lines_again (written_lines p) (lines_are p (are_cards numbers p is_ready))

  has_objective : list_any is_free (row_kinds (row_cards p)) ≡ true
  has_objective = ap (list_any is_free) (kinds_said p)

  reads : Reads numbers (written_lines p) start [] (at Endata (told_of p.sense)) (written_cards p)
  reads = lines_reads numbers p (are_cards numbers p is_ready) (said numbers p is_ready).sound has_objective

  pub no_fault : first_fault d (mps_text p) ≡ None
  no_fault = ap (fault_from d []) cut_again ∙ (reads [] refl refl).0

  read_again : lines_read d (mps_text p) ≡ read_from d [] (written_lines p)
  read_again = ap (read_from d []) cut_again

  pub cards_again : cards_of Free (lines_read d (mps_text p)) ≡ written_cards p
  cards_again = ap (cards_of Free) read_again ∙ (reads [] refl refl).2

  pub again : program_of d (mps_text p) ≡ p
  again =
      ap₂ (λ (progress : Progress) (cards : List Card). program_in d progress.sense cards) (ap (progress_of Free) read_again ∙ (reads [] refl refl).1) cards_again
      ∙ program_back numbers p is_ready (said numbers p is_ready)

-- programs with the same text are the same
pub same_programs : (numbers : Numbers) (p q : ProgramData) → WellNamed p.objective p.rows p.columns → Plain p → Writable numbers p → EntriesAscend p
    → WellNamed q.objective q.rows q.columns → Plain q → Writable numbers q → EntriesAscend q → mps_text p ≡ mps_text q → p ≡ q
same_programs numbers p q named_p plain_p w_p ascend_p named_q plain_q w_q ascend_q same =
    sym (again numbers p named_p plain_p w_p ascend_p) ∙ ap (program_of (free_format numbers)) same ∙ again numbers q named_q plain_q w_q ascend_q
