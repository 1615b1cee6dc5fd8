-- What all the written cards say of a program that is ready.
use Rattle.std.proofs.Common.{◌≡◌, ℕ, zero, suc, List, [], ◌∷◌, length, Bool, true, false, Option, Some, None, refl, sym, ap, ◌∙◌}
use Rattle.std.specs.Prelude.{slice_get, codes, flat_map}
use Rattle.std.specs.List.{AllByRecursion}
use Rattle.fractions.specs.declared.Numbers.{Numbers}
use Rattle.lp_model.specs.declared.program.RowDef.{RowDef}
use Rattle.lp_model.specs.declared.program.ColumnDef.{ColumnDef}
use Rattle.lp_model.specs.ProgramData.{ProgramData}
use Rattle.lp_model.specs.Names.{names_of_rows, names_of_columns}
use Rattle.mps_profile.specs.Texts.{Text}
use Rattle.mps_profile.specs.Cards.{Pairs, Card, RowCard, MarkerCard, ColumnCard, SideCard, RangeCard, ValuedCard, BareCard}
use Rattle.mps_profile.specs.declared.bounds.Valued.{Valued}
use Rattle.mps_profile.specs.declared.bounds.Bare.{Bare}
use Rattle.mps_profile.specs.Sets.{counts, side_set, range_set, bound_set}
use Rattle.mps_profile.specs.Rows.{row_names, row_kinds, side_of, range_of}
use Rattle.mps_profile.specs.Columns.{column_names, number_at, in_run, lower_of, upper_of, semi_upper_of, is_whole, is_semi}
use Rattle.mps_profile.specs.declared.dialect.Dialect.{Dialect}
use Rattle.mps_profile.specs.declared.row_kinds.RowKind as kinds
use Rattle.mps_laws.specs.Faultless.{IsFaultless}
use Rattle.mps_writer.specs.Sections.{right_side_by}
use Rattle.mps_written_lines.specs.Words.{IsWord}
use Rattle.mps_written_lines.specs.Formats.{free_format}
use Rattle.mps_written_lines.specs.Written.{WrittenCard, all_rows, objective_row, all_terms, row_written, rows_written, marks, columns_written, sides_written, ranges_written, bounds_written, row_cards, column_cards, side_cards, range_cards, written_cards}
use Rattle.mps_written_cards.proofs.Segments.{OfRows, OfColumns, OfSides, OfRanges, OfBounds, kept_rows, kept_columns, kept_sides, kept_ranges, kept_bounds, all_any, all_map, all_flat}
use Rattle.mps_written_cards.proofs.RowCards.{names_said, kinds_said, rows_sound}
use Rattle.mps_written_cards.proofs.EntryCards.{Told}
use Rattle.mps_written_cards.proofs.ColumnCards.{told, whole_of, Columned, columns_run}
use Rattle.mps_written_cards.proofs.SideCards.{IsReadIn, side_told, Sided, sides_run}
use Rattle.mps_round_trip.proofs.RangeCards.{WidthIn, range_told, Ranged, ranges_run}
use Rattle.mps_round_trip.proofs.BoundCards.{lower_told, upper_told, semi_told, semi_upper_told, Bounded, bounds_run}
use Rattle.mps_written_cards.proofs.Terms.{written_kinds}
use Rattle.mps_round_trip.proofs.CardWords.{ReadColumn, columns_all, sides_all, ranges_all, bounds_all}
use Rattle.mps_round_trip.proofs.Ready.{Ready}

-- what the cards say
pub record Says (numbers : Numbers) (p : ProgramData) (cards : List Card) : Type 0 where
  pub row_names_are : row_names cards ≡ names_of_rows (all_rows p)
  pub row_kinds_are : row_kinds cards ≡ written_kinds p.rows
  pub sides : (i : ℕ) → side_of (free_format numbers) cards i ≡ side_told (slice_get (all_rows p) i)
  pub ranges : (i : ℕ) → range_of (free_format numbers) cards i ≡ range_told (slice_get (all_rows p) i)
  pub column_names_are : column_names cards ≡ names_of_columns p.columns
  pub entries : (j i : ℕ) → number_at (free_format numbers) cards j i ≡ told (slice_get p.columns j) i
  pub lower : (j : ℕ) → lower_of (free_format numbers) cards j ≡ lower_told (slice_get p.columns j)
  pub upper : (j : ℕ) → upper_of (free_format numbers) cards j ≡ upper_told (slice_get p.columns j)
  pub semis : (j : ℕ) → is_semi (free_format numbers) cards j ≡ semi_told (slice_get p.columns j)
  pub semi_uppers : (j : ℕ) → semi_upper_of (free_format numbers) cards j ≡ semi_upper_told (slice_get p.columns j)
  pub wholes : (j : ℕ) → is_whole (free_format numbers) cards j ≡ whole_of (slice_get p.columns j)
  pub sound : IsFaultless (free_format numbers) cards

module _ (numbers : Numbers) (p : ProgramData) (r : Ready numbers p) where
  abbrev d : Dialect
  d = free_format numbers

  abbrev names : List Text
  names = names_of_rows (all_rows p)

  abbrev columns : List WrittenCard
  columns = columns_written names false p.columns

  abbrev sides : List WrittenCard
  sides = flat_map sides_written (all_rows p)

  abbrev ranges : List WrittenCard
  ranges = flat_map ranges_written p.rows

  abbrev bounds : List WrittenCard
  bounds = flat_map bounds_written p.columns

  of_rows : AllByRecursion (λ (w : WrittenCard). OfRows w.card) (rows_written p)
  of_rows = (tt, all_map (λ (w : WrittenCard). OfRows w.card) (λ (row : RowDef). Unit {0}) row_written (λ row u. tt) p.rows (all_any (λ (row : RowDef). Unit {0}) (λ row. tt) p.rows))

  of_marks : (a b : Bool) → AllByRecursion (λ (w : WrittenCard). OfColumns w.card) (marks a b)
  of_marks false true = (tt, tt)
  of_marks true false = (tt, tt)
  of_marks false false = tt
  of_marks true true = tt

  read_columns : (cs : List ColumnDef) → AllByRecursion (λ (c : ColumnDef). IsWord c.name) cs
      → AllByRecursion (λ (c : ColumnDef). Told numbers 0 (length names) (all_terms c)) cs → AllByRecursion (ReadColumn numbers names) cs
  read_columns [] words tolds = tt
  read_columns (c ∷ cs) words tolds = (record { word = words.0; told = tolds.0 }, read_columns cs words.1 tolds.1)

  pub columns_ready : AllByRecursion (ReadColumn numbers names) p.columns
  columns_ready = read_columns p.columns r.columns_named r.told

  of_columns : AllByRecursion (λ (w : WrittenCard). OfColumns w.card) columns
  of_columns = columns_all (λ (w : WrittenCard). OfColumns w.card) numbers names false p.columns columns_ready of_marks (λ name t word within read. tt)

  of_sides : AllByRecursion (λ (w : WrittenCard). OfSides w.card) sides
  of_sides = all_flat (λ (w : WrittenCard). OfSides w.card) (λ (row : RowDef). IsReadIn numbers (right_side_by row.lower row.upper)) sides_written
      (λ row read. sides_all (λ (w : WrittenCard). OfSides w.card) numbers row.name (right_side_by row.lower row.upper) read (λ q is. tt)) (all_rows p) r.sides

  of_ranges : AllByRecursion (λ (w : WrittenCard). OfRanges w.card) ranges
  of_ranges = all_flat (λ (w : WrittenCard). OfRanges w.card) (λ (row : RowDef). WidthIn numbers row.lower row.upper) ranges_written
      (λ row has. ranges_all (λ (w : WrittenCard). OfRanges w.card) numbers row.name row.lower row.upper has (λ q is. tt)) p.rows r.widths

  of_bounds : AllByRecursion (λ (w : WrittenCard). OfBounds w.card) bounds
  of_bounds = all_flat (λ (w : WrittenCard). OfBounds w.card) (λ (c : ColumnDef). IsReadIn numbers c.lower × IsReadIn numbers c.upper) bounds_written
      (λ c read. bounds_all (λ (w : WrittenCard). OfBounds w.card) numbers c (λ kind. tt) (λ kind q is. tt) tt read.0 read.1) p.columns r.bounds_read

  -- after ROWS and COLUMNS
  columned : Columned numbers names p.columns (column_cards p) false
  columned = columns_run numbers names r.rows_numbered p.columns [] (row_cards p) false
      (record {
        rows_are = names_said p;
        names = kept_rows column_names (λ kind name before. refl) (rows_written p) [] of_rows;
        entries = λ j i. kept_rows (λ (cards : List Card). number_at d cards j i) (λ kind name before. refl) (rows_written p) [] of_rows;
        wholes = λ j. kept_rows (λ (cards : List Card). is_whole d cards j) (λ kind name before. refl) (rows_written p) [] of_rows;
        run_is = kept_rows in_run (λ kind name before. refl) (rows_written p) [] of_rows;
        sound = rows_sound d p r.rows_numbered;
      }) r.columns_numbered r.told

  -- cards of ROWS and COLUMNS say nothing of it
  untold : {Y : Type 0} (W : List Card → Y) → ((kind name : Text) (before : List Card) → W (RowCard kind name ∷ before) ≡ W before)
      → ((word : Text) (before : List Card) → W (MarkerCard word ∷ before) ≡ W before)
      → ((name : Text) (pairs : Pairs) (before : List Card) → W (ColumnCard name pairs ∷ before) ≡ W before)
      → W (column_cards p) ≡ W []
  untold W row mark column = kept_columns W mark column columns (row_cards p) of_columns ∙ kept_rows W row (rows_written p) [] of_rows

  sided : Sided numbers names (all_rows p) (side_cards p)
  sided = sides_run numbers names (all_rows p) [] (column_cards p)
      (record {
        rows_are = columned.rows_are;
        set_is = ap (λ (o : Option (Option Text)). counts o (Some (codes "RHS"))) (untold side_set (λ kind name before. refl) (λ word before. refl) (λ name pairs before. refl));
        sides = λ i. untold (λ (cards : List Card). side_of d cards i) (λ kind name before. refl) (λ word before. refl) (λ name pairs before. refl);
        sound = columned.sound;
      }) r.rows_numbered refl r.sides

  past_sides : {Y : Type 0} (W : List Card → Y) → ((set : Option Text) (pairs : Pairs) (before : List Card) → W (SideCard set pairs ∷ before) ≡ W before)
      → W (side_cards p) ≡ W (column_cards p)
  past_sides W side = kept_sides W side sides (column_cards p) of_sides

  row_kinds_said : row_kinds (side_cards p) ≡ written_kinds p.rows
  row_kinds_said =
      past_sides row_kinds (λ set pairs before. refl) ∙ kept_columns row_kinds (λ word before. refl) (λ name pairs before. refl) columns (row_cards p) of_columns ∙ kinds_said p

  no_range_yet : (i : ℕ) → range_told (slice_get (objective_row p ∷ []) i) ≡ None
  no_range_yet zero = refl
  no_range_yet (suc i) = refl

  ranged_all : Ranged numbers names (written_kinds p.rows) (all_rows p) (all_rows p) (range_cards p)
  ranged_all = ranges_run numbers names (written_kinds p.rows) (all_rows p) p.rows (objective_row p ∷ []) (kinds.TheVariants.Free ∷ []) (side_cards p)
      (record {
        rows_are = sided.rows_are;
        kinds_are = row_kinds_said;
        sides = sided.sides;
        set_is = ap (λ (o : Option (Option Text)). counts o (Some (codes "RNG")))
            (past_sides range_set (λ set pairs before. refl) ∙ untold range_set (λ kind name before. refl) (λ word before. refl) (λ name pairs before. refl));
        ranges = λ i. past_sides (λ (cards : List Card). range_of d cards i) (λ set pairs before. refl)
            ∙ untold (λ (cards : List Card). range_of d cards i) (λ kind name before. refl) (λ word before. refl) (λ name pairs before. refl) ∙ sym (no_range_yet i);
        sound = sided.sound;
      }) r.rows_numbered refl refl refl refl r.widths

  past_ranges : {Y : Type 0} (W : List Card → Y) → ((set : Option Text) (pairs : Pairs) (before : List Card) → W (SideCard set pairs ∷ before) ≡ W before)
      → ((set : Option Text) (pairs : Pairs) (before : List Card) → W (RangeCard set pairs ∷ before) ≡ W before)
      → W (range_cards p) ≡ W (column_cards p)
  past_ranges W side range = kept_ranges W range ranges (side_cards p) of_ranges ∙ past_sides W side

  bounded : Bounded numbers (names_of_columns p.columns) (range_cards p) p.columns (written_cards p)
  bounded = bounds_run numbers (names_of_columns p.columns) (range_cards p) p.columns [] (range_cards p)
      (record {
        names_are = past_ranges column_names (λ set pairs before. refl) (λ set pairs before. refl) ∙ columned.names;
        set_is = ap (λ (o : Option (Option Text)). counts o (Some (codes "BND")))
            (past_ranges bound_set (λ set pairs before. refl) (λ set pairs before. refl) ∙ untold bound_set (λ kind name before. refl) (λ word before. refl) (λ name pairs before. refl));
        lower = λ j. past_ranges (λ (cards : List Card). lower_of d cards j) (λ set pairs before. refl) (λ set pairs before. refl)
            ∙ untold (λ (cards : List Card). lower_of d cards j) (λ kind name before. refl) (λ word before. refl) (λ name pairs before. refl);
        upper = λ j. past_ranges (λ (cards : List Card). upper_of d cards j) (λ set pairs before. refl) (λ set pairs before. refl)
            ∙ untold (λ (cards : List Card). upper_of d cards j) (λ kind name before. refl) (λ word before. refl) (λ name pairs before. refl);
        semi = λ j. past_ranges (λ (cards : List Card). is_semi d cards j) (λ set pairs before. refl) (λ set pairs before. refl)
            ∙ untold (λ (cards : List Card). is_semi d cards j) (λ kind name before. refl) (λ word before. refl) (λ name pairs before. refl);
        semi_upper = λ j. past_ranges (λ (cards : List Card). semi_upper_of d cards j) (λ set pairs before. refl) (λ set pairs before. refl)
            ∙ untold (λ (cards : List Card). semi_upper_of d cards j) (λ kind name before. refl) (λ word before. refl) (λ name pairs before. refl);
        whole = λ j. refl;
        sound = ranged_all.sound;
      }) r.columns_numbered refl r.bounds

  -- cards of BOUNDS say nothing of it
  past_bounds : {Y : Type 0} (W : List Card → Y)
      → ((set : Option Text) (kind : Valued) (column number : Text) (before : List Card) → W (ValuedCard set kind column number ∷ before) ≡ W before)
      → ((set : Option Text) (kind : Bare) (column : Text) (before : List Card) → W (BareCard set kind column ∷ before) ≡ W before)
      → W (written_cards p) ≡ W (range_cards p)
  past_bounds W valued bare = kept_bounds W valued bare bounds (range_cards p) of_bounds

  pub said : Says numbers p (written_cards p)
  said = record {
    row_names_are = past_bounds row_names (λ set kind column number before. refl) (λ set kind column before. refl) ∙ ranged_all.rows_are;
    row_kinds_are = past_bounds row_kinds (λ set kind column number before. refl) (λ set kind column before. refl) ∙ ranged_all.kinds_are;
    sides = λ i. past_bounds (λ (cards : List Card). side_of d cards i) (λ set kind column number before. refl) (λ set kind column before. refl) ∙ ranged_all.sides i;
    ranges = λ i. past_bounds (λ (cards : List Card). range_of d cards i) (λ set kind column number before. refl) (λ set kind column before. refl) ∙ ranged_all.ranges i;
    column_names_are = bounded.names_are;
    entries = λ j i. past_bounds (λ (cards : List Card). number_at d cards j i) (λ set kind column number before. refl) (λ set kind column before. refl)
        ∙ past_ranges (λ (cards : List Card). number_at d cards j i) (λ set pairs before. refl) (λ set pairs before. refl) ∙ columned.entries j i;
    lower = bounded.lower;
    upper = bounded.upper;
    semis = bounded.semi;
    semi_uppers = bounded.semi_upper;
    wholes = λ j. bounded.whole j ∙ past_ranges (λ (cards : List Card). is_whole d cards j) (λ set pairs before. refl) (λ set pairs before. refl) ∙ columned.wholes j;
    sound = bounded.sound;
  }
