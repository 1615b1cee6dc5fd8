-- The program that the written cards say is the one that was written.
use Rattle.std.proofs.Common.{◌≡◌, ℕ, zero, suc, ◌<◌, ◌≤◌, List, [], ◌∷◌, ◌++◌, length, take, get_or, Bool, true, false, cond, Option, Some, None, unwrap_or, refl, sym, ap, ap₂, ◌∙◌, arith, add-one}
use Rattle.std.specs.Prelude.{slice_get, position}
use Rattle.std.proofs.lemmas.List.{take_more, take_all, get_or-map, length-map}
use Rattle.std.proofs.lemmas.List.Elements.{All-from_recursion}
use Rattle.std.proofs.lemmas.Option.{slice_get-get_or}
use Rattle.std.proofs.lemmas.Iterator.Adapters.{position_from-zero}
use Rattle.fractions.specs.Number.{Number, neg_ℚ, zero_ℚ}
use Rattle.fractions.specs.Compare.{eq_ℚ}
use Rattle.fractions.specs.Comparisons.{eq_ℚ-is}
use Rattle.fractions.specs.declared.Numbers.{Numbers}
use Rattle.lp_model.specs.declared.program.Sense.{Sense}
use Rattle.lp_model.specs.declared.program.Sense.TheVariants.{Min, Max}
use Rattle.lp_model.specs.declared.program.RowDef.{RowDef}
use Rattle.lp_model.specs.declared.program.ColumnDef.{ColumnDef}
use Rattle.lp_model.specs.declared.terms.Term.{Term}
use Rattle.lp_model.specs.ProgramData.{ProgramData}
use Rattle.lp_model.specs.Names.{names_of_rows}
use Rattle.lp_model.specs.Sparse.{Ascends}
use Rattle.mps_profile.specs.Texts.{Text, field}
use Rattle.mps_profile.specs.Cards.{Card}
use Rattle.mps_profile.specs.Sides.{sides_of}
use Rattle.mps_profile.specs.Rows.{row_names, is_free, right_side, range_of}
use Rattle.mps_profile.specs.Columns.{column_names, coefficient, lower_under, lower_bound, upper_bound, semi_upper_of, is_whole, is_semi}
use Rattle.mps_profile.specs.Program.{objective_place, kind_at, row_defs_at, rows_below, row_defs, terms_below, terms_of, column_def, columns_below, column_defs, sense_in, program_in}
use Rattle.mps_profile.specs.declared.dialect.Dialect.{Dialect}
use Rattle.mps_profile.specs.declared.row_kinds.Interval.{Interval}
use Rattle.mps_profile.specs.declared.row_kinds.RowKind.{RowKind}
use Rattle.mps_profile.specs.declared.row_kinds.RowKind as kinds
use Rattle.mps_writer.specs.declared.rows.RowType.TheVariants.{Equal, AtLeast}
use Rattle.mps_writer.specs.Sections.{type_by, right_side_by}
use Rattle.mps_written_lines.specs.Formats.{free_format}
use Rattle.lp_model.specs.Writable.{WritableSides, WritableRow}
use Rattle.mps_written_lines.specs.Written.{all_rows, objective_row, all_terms, written_cards}
use Rattle.mps_written_lines.proofs.Reading.{told_of}
use Rattle.mps_written_cards.proofs.RowCards.{kind_by, kind_of}
use Rattle.mps_written_cards.proofs.EntryCards.{latest}
use Rattle.mps_written_cards.proofs.ColumnCards.{told, whole_of}
use Rattle.mps_written_cards.proofs.Arithmetic.{neg_neg, or_zero}
use Rattle.mps_written_cards.proofs.SideCards.{side_told}
use Rattle.mps_round_trip.proofs.RangeCards.{interval, interval_by, range_told}
use Rattle.mps_round_trip.proofs.BoundCards.{lower_told, upper_told, semi_told, semi_upper_told, gives}
use Rattle.mps_written_cards.proofs.Terms.{cost_is, entry_is, written_kinds, terms_are}
use Rattle.mps_round_trip.proofs.Ready.{Ready}
use Rattle.mps_round_trip.proofs.Said.{Says}

-- the sides of a row by its type, its right side and its range
sides_back : (numbers : Numbers) (lower upper : Option Number) → WritableSides numbers lower upper
    → sides_of (kind_by (type_by lower upper)) (unwrap_or (right_side_by lower upper) zero_ℚ) (interval_by lower upper) ≡ Some (lower, upper)
sides_back numbers None None w = absurd w
sides_back numbers (Some l) None w = refl
sides_back numbers None (Some u) w = refl
sides_back numbers (Some l) (Some u) w = by_test (eq_ℚ l u) refl
  where
    by_test : (b : Bool) → eq_ℚ l u ≡ b → sides_of (kind_by (cond b Equal AtLeast)) l (cond b None (Some (interval l u))) ≡ Some (Some l, Some u)
    by_test true is = ap (λ (x : Number). Some (Some l, Some x)) ((eq_ℚ-is l u).0 is)
    by_test false is = refl

-- stands for a column past the last
abbrev no_column : ColumnDef
no_column = record { name = []; cost = zero_ℚ; lower = None; upper = None; whole = false; semi = false; entries = [] }

columns_to : (column : ℕ → ColumnDef) (cs : List ColumnDef) → ((j : ℕ) → j < length cs → column j ≡ get_or cs j no_column) → (n : ℕ) → n ≤ length cs → columns_below column n ≡ take n cs
columns_to column cs same zero le = refl
columns_to column cs same (suc j) le =
    ap₂ (λ (xs : List ColumnDef) (c : ColumnDef). xs ++ c ∷ []) (columns_to column cs same j (omega (arith, le))) (same j (omega (arith, le)))
    ∙ sym (take_more cs j no_column (omega (arith, le))) ∙ ap (λ (n : ℕ). take n cs) (add-one j)

first_free : (rows : List RowDef) → position is_free (written_kinds rows) ≡ Some 0
first_free rows = position_from-zero is_free (written_kinds rows)

module _ (numbers : Numbers) (p : ProgramData) (r : Ready numbers p) (s : Says numbers p (written_cards p)) where
  abbrev d : Dialect
  d = free_format numbers

  abbrev cards : List Card
  cards = written_cards p

  place_is : objective_place cards ≡ 0
  place_is = ap (λ (ks : List RowKind). unwrap_or (position is_free ks) 0) s.row_kinds_are ∙ ap (λ (o : Option ℕ). unwrap_or o 0) (first_free p.rows)

  side_is : (i : ℕ) (row : RowDef) → slice_get (all_rows p) i ≡ Some row → right_side d cards i ≡ unwrap_or (right_side_by row.lower row.upper) zero_ℚ
  side_is i row at =
      ap (λ (o : Option Number). unwrap_or o zero_ℚ) (s.sides i ∙ ap side_told at) ∙ or_zero (right_side_by row.lower row.upper)

  range_is : (i : ℕ) (row : RowDef) → slice_get (all_rows p) i ≡ Some row → range_of d cards i ≡ interval_by row.lower row.upper
  range_is i row at = s.ranges i ∙ ap range_told at

  objective_is : field (row_names cards) (objective_place cards) ≡ p.objective
  objective_is = ap₂ field s.row_names_are place_is

  constant_is : neg_ℚ (right_side d cards (objective_place cards)) ≡ p.constant
  constant_is = ap (λ (i : ℕ). neg_ℚ (right_side d cards i)) place_is ∙ ap neg_ℚ (side_is 0 (objective_row p) refl) ∙ neg_neg p.constant

  -- a row of the program
  row_at : (k : ℕ) → k < length p.rows
      → row_defs_at (field (names_of_rows (all_rows p)) (suc k)) (sides_of (kind_at (written_kinds p.rows) (suc k)) (right_side d cards (suc k)) (range_of d cards (suc k)))
      ≡ get_or p.rows k (objective_row p) ∷ []
  row_at k lt =
      let row : RowDef = get_or p.rows k (objective_row p) in
      let there : slice_get (all_rows p) (suc k) ≡ Some row = slice_get-get_or p.rows k (objective_row p) lt in
      let w : WritableRow numbers row = All-from_recursion (WritableRow numbers) p.rows r.finite k (objective_row p) lt in
      let name : field (names_of_rows (all_rows p)) (suc k) ≡ row.name = get_or-map (λ (x : RowDef). x.name) p.rows k (objective_row p) [] lt in
      let kind : kind_at (written_kinds p.rows) (suc k) ≡ kind_of row = get_or-map kind_of p.rows k (objective_row p) kinds.TheVariants.Free lt in
      let both : sides_of (kind_at (written_kinds p.rows) (suc k)) (right_side d cards (suc k)) (range_of d cards (suc k)) ≡ Some (row.lower, row.upper) =
      ap₂ (λ (t : RowKind) (x : Number). sides_of t x (range_of d cards (suc k))) kind (side_is (suc k) row there)
      ∙ ap (λ (g : Option Interval). sides_of (kind_of row) (unwrap_or (right_side_by row.lower row.upper) zero_ℚ) g) (range_is (suc k) row there)
      ∙ sides_back numbers row.lower row.upper w in
      ap₂ row_defs_at name both

  rows_to : (k : ℕ) → k ≤ length p.rows → rows_below (names_of_rows (all_rows p)) (written_kinds p.rows) (right_side d cards) (range_of d cards) (suc k) ≡ take k p.rows
  rows_to zero le = refl
  rows_to (suc k) le =
      ap₂ (λ (xs ys : List RowDef). xs ++ ys) (rows_to k (omega (arith, le))) (row_at k (omega (arith, le)))
      ∙ sym (take_more p.rows k (objective_row p) (omega (arith, le))) ∙ ap (λ (n : ℕ). take n p.rows) (add-one k)

  row_count : length (row_names cards) ≡ suc (length p.rows)
  row_count = ap length s.row_names_are ∙ ap suc (length-map p.rows (λ (x : RowDef). x.name))

  rows_are : row_defs d cards (length (row_names cards)) ≡ p.rows
  rows_are =
      ap (row_defs d cards) row_count
      ∙ ap₂ (λ (names : List Text) (ks : List RowKind). rows_below names ks (right_side d cards) (range_of d cards) (suc (length p.rows))) s.row_names_are s.row_kinds_are
      ∙ rows_to (length p.rows) (omega arith) ∙ take_all (length p.rows) p.rows (omega arith)

  number_is : (j i : ℕ) (c : ColumnDef) → slice_get p.columns j ≡ Some c → coefficient d cards j i ≡ unwrap_or (latest (all_terms c) i None) zero_ℚ
  number_is j i c at = ap (λ (o : Option Number). unwrap_or o zero_ℚ) (s.entries j i ∙ ap (λ (o : Option ColumnDef). told o i) at)

  upper_at : (j : ℕ) (c : ColumnDef) → slice_get p.columns j ≡ Some c → upper_bound d cards j ≡ c.upper
  upper_at j c at = ap (λ (o : Option (Option Number)). unwrap_or o None) (s.upper j ∙ ap upper_told at) ∙ (gives c).upper_is

  semi_upper_at : (j : ℕ) (c : ColumnDef) → slice_get p.columns j ≡ Some c → unwrap_or (semi_upper_of d cards j) false ≡ c.semi
  semi_upper_at j c at = ap (λ (o : Option Bool). unwrap_or o false) (s.semi_uppers j ∙ ap semi_upper_told at) ∙ (gives c).semi_upper_is

  lower_at : (j : ℕ) (c : ColumnDef) → slice_get p.columns j ≡ Some c → lower_bound d cards j ≡ c.lower
  lower_at j c at =
      ap₂ (λ (o : Option (Option Number)) (u : Option Number). unwrap_or o (lower_under (unwrap_or (semi_upper_of d cards j) false) u)) (s.lower j ∙ ap lower_told at) (upper_at j c at)
      ∙ ap (λ (b : Bool). unwrap_or (lower_told (Some c)) (lower_under b c.upper)) (semi_upper_at j c at) ∙ (gives c).lower_is

  terms_at : (j : ℕ) (c : ColumnDef) → slice_get p.columns j ≡ Some c → Ascends 0 (length p.rows) c.entries → terms_of d cards j (length (row_names cards)) ≡ c.entries
  terms_at j c at ascend =
      ap₂ (λ (ks : List RowKind) (n : ℕ). terms_below ks (coefficient d cards j) n) s.row_kinds_are row_count
      ∙ terms_are p.rows (coefficient d cards j) c.entries ascend (λ k. number_is j (suc k) c at ∙ ap (λ (o : Option Number). unwrap_or o zero_ℚ) (entry_is c k))

  made : Text → Number → Option Number → Option Number → Bool → Bool → List Term → ColumnDef
  made name cost lower upper whole semi entries = record { name = name; cost = cost; lower = lower; upper = upper; whole = whole; semi = semi; entries = entries }

  column_at : (j : ℕ) → j < length p.columns → column_def d cards j ≡ get_or p.columns j no_column
  unfolding made
  column_at j lt =
      let c : ColumnDef = get_or p.columns j no_column in
      let at : slice_get p.columns j ≡ Some c = slice_get-get_or p.columns j no_column lt in
      let name : field (column_names cards) j ≡ c.name = ap (λ (names : List Text). field names j) s.column_names_are ∙ get_or-map (λ (x : ColumnDef). x.name) p.columns j no_column [] lt in
      let cost : coefficient d cards j (objective_place cards) ≡ c.cost = ap (coefficient d cards j) place_is ∙ number_is j 0 c at ∙ cost_is c in
      let whole : is_whole d cards j ≡ c.whole = s.wholes j ∙ ap whole_of at in
      let semi : is_semi d cards j ≡ c.semi = s.semis j ∙ ap semi_told at ∙ (gives c).semi_is in
      let entries : terms_of d cards j (length (row_names cards)) ≡ c.entries =
      terms_at j c at (All-from_recursion (λ (x : ColumnDef). Ascends 0 (length p.rows) x.entries) p.columns r.ascend j no_column lt) in
      ap₂ (λ (n : Text) (v : Number). made n v (lower_bound d cards j) (upper_bound d cards j) (is_whole d cards j) (is_semi d cards j) (terms_of d cards j (length (row_names cards)))) name cost
      ∙ ap₂ (λ (l u : Option Number). made c.name c.cost l u (is_whole d cards j) (is_semi d cards j) (terms_of d cards j (length (row_names cards)))) (lower_at j c at) (upper_at j c at)
      ∙ ap₂ (λ (w s : Bool). made c.name c.cost c.lower c.upper w s (terms_of d cards j (length (row_names cards)))) whole semi
      ∙ ap (λ (ts : List Term). made c.name c.cost c.lower c.upper c.whole c.semi ts) entries

  column_count : length (column_names cards) ≡ length p.columns
  column_count = ap length s.column_names_are ∙ length-map p.columns (λ (x : ColumnDef). x.name)

  columns_are : column_defs d cards (length (column_names cards)) ≡ p.columns
  columns_are =
      ap (column_defs d cards) column_count ∙ columns_to (column_def d cards) p.columns column_at (length p.columns) (omega arith)
      ∙ take_all (length p.columns) p.columns (omega arith)

  sense_is : (sense : Sense) → sense_in (told_of sense) ≡ sense
  sense_is Min = refl
  sense_is Max = refl

  program : Sense → Text → Number → List RowDef → List ColumnDef → ProgramData
  program sense objective constant rows columns = record { sense = sense; objective = objective; constant = constant; rows = rows; columns = columns }

  pub program_back : program_in d (told_of p.sense) cards ≡ p
  unfolding program
  program_back =
      ap₂ (λ (t : Sense) (o : Text). program t o (neg_ℚ (right_side d cards (objective_place cards))) (row_defs d cards (length (row_names cards))) (column_defs d cards (length (column_names cards))))
      (sense_is p.sense) objective_is
      ∙ ap (λ (c : Number). program p.sense p.objective c (row_defs d cards (length (row_names cards))) (column_defs d cards (length (column_names cards)))) constant_is
      ∙ ap₂ (λ (rows : List RowDef) (columns : List ColumnDef). program p.sense p.objective p.constant rows columns) rows_are columns_are
