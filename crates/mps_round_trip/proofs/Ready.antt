-- What a plain program that is writable keeps.
use Rattle.std.proofs.Common.{ℕ, suc, ◌==◌, List, [], ◌∷◌, ◌++◌, map, length, not, ◌&&◌, Bool, true, false, cond, Option, Some, None, sym, arith, subst}
use Rattle.std.specs.Prelude.{IfSome}
use Rattle.std.specs.List.{AllByRecursion}
use Rattle.std.proofs.lemmas.Bool.{both_ways}
use Rattle.std.proofs.lemmas.List.{length-map}
use Rattle.std.proofs.lemmas.List.Elements.{All-head, All-tail, recursion_from_All}
use Rattle.fractions.specs.Number.{Number, zero_ℚ}
use Rattle.fractions.specs.Compare.{eq_ℚ}
use Rattle.fractions.specs.Comparisons.{eq_ℚ-is}
use Rattle.fractions.specs.declared.Numbers.{Numbers}
use Rattle.lp_model.specs.declared.program.RowDef.{RowDef}
use Rattle.lp_model.specs.declared.program.ColumnDef.{ColumnDef}
use Rattle.lp_model.specs.declared.terms.Term.{Term}
use Rattle.lp_model.specs.ProgramData.{ProgramData}
use Rattle.lp_model.specs.Name.{IsName}
use Rattle.lp_model.specs.Names.{names_of_rows, names_of_columns, WellNamed}
use Rattle.lp_model.specs.Sparse.{Ascends}
use Rattle.mps_writer.specs.Sections.{right_side_by}
use Rattle.mps_laws.specs.Names.{IsNumbered}
use Rattle.mps_written_lines.specs.Words.{IsWord}
use Rattle.mps_written_lines.specs.Words.{IsRowName}
use Rattle.lp_model.proofs.Differing.{all_names}
use Rattle.mps_round_trip.specs.Plain.{Plain}
use Rattle.mps_round_trip.proofs.Naming.{row_name_of, row_names_of, words_of}
use Rattle.lp_model.specs.Writable.{WritableNumber, WritableBound, WritableSides, WritableRow, WritableColumn, Writable, EntriesAscend}
use Rattle.mps_written_lines.specs.Written.{all_rows, moved, all_terms}
use Rattle.mps_written_cards.proofs.Places.{numbered}
use Rattle.mps_written_cards.proofs.Numerals.{readable, negated_readable, taken_of}
use Rattle.mps_written_cards.proofs.EntryCards.{Told}
use Rattle.mps_written_cards.proofs.SideCards.{IsReadIn}
use Rattle.mps_round_trip.proofs.RangeCards.{WidthIn}
use Rattle.mps_round_trip.proofs.BoundCards.{ReadBound}

side_ready : (numbers : Numbers) (lower upper : Option Number) → WritableSides numbers lower upper → IsReadIn numbers (right_side_by lower upper)
side_ready numbers None None w = absurd w
side_ready numbers None (Some u) w = readable numbers u w
side_ready numbers (Some l) None w = readable numbers l w
side_ready numbers (Some l) (Some u) w = readable numbers l w.lower_number

width_ready : (numbers : Numbers) (lower upper : Option Number) → WritableSides numbers lower upper → WidthIn numbers lower upper
width_ready numbers None upper w = tt
width_ready numbers (Some l) None w = tt
width_ready numbers (Some l) (Some u) w = λ differ.
    let width = w.width (λ same. both_ways (eq_ℚ l u) differ ((eq_ℚ-is l u).1 same)) in
    record { read = readable numbers _ width.width; fits = width.sum_fits; above = w.ascends; taken = taken_of numbers u w.upper_number }

bound_ready : (numbers : Numbers) (o : Option Number) → IfSome o (WritableBound numbers) → ReadBound numbers o
bound_ready numbers None w = tt
bound_ready numbers (Some q) w = w

bound_read : (numbers : Numbers) (o : Option Number) → IfSome o (WritableBound numbers) → IsReadIn numbers o
bound_read numbers None w = tt
bound_read numbers (Some q) w = readable numbers q w.0

each : {X : Type 0} {P Q : X → Type 0} → ((x : X) → P x → Q x) → (xs : List X) → AllByRecursion P xs → AllByRecursion Q xs
each weaker [] all = tt
each weaker (x ∷ xs) all = (weaker x all.0, each weaker xs all.1)

pub both : {X : Type 0} {P Q R : X → Type 0} → ((x : X) → P x → Q x → R x) → (xs : List X) → AllByRecursion P xs → AllByRecursion Q xs → AllByRecursion R xs
both joins [] first second = tt
both joins (x ∷ xs) first second = (joins x first.0 second.0, both joins xs first.1 second.1)

told_moved : (numbers : Numbers) (m n : ℕ) (ts : List Term) → Ascends m n ts → AllByRecursion (λ (t : Term). WritableNumber numbers t.value) ts → Told numbers (suc m) (suc n) (map moved ts)
told_moved numbers m n [] all ws = tt
told_moved numbers m n (t ∷ ts) all ws =
    (omega (arith, all.0), omega (arith, all.1), readable numbers t.value ws.0, told_moved numbers (suc t.id) n ts all.3 ws.1)

told_from : (numbers : Numbers) (n : ℕ) (ts : List Term) → Told numbers 1 n ts → Told numbers 0 n ts
told_from numbers n [] told = tt
told_from numbers n (t ∷ ts) told = (omega arith, told.1, told.2, told.3)

column_ready : (numbers : Numbers) (n : ℕ) (c : ColumnDef) → Ascends 0 n c.entries → WritableColumn numbers c → Told numbers 0 (suc n) (all_terms c)
column_ready numbers n c ascend w = by_test (eq_ℚ c.cost zero_ℚ && not (length c.entries == 0))
  where
    entries : Told numbers 1 (suc n) (map moved c.entries)
    entries = told_moved numbers 0 n c.entries ascend (recursion_from_All (λ (t : Term). WritableNumber numbers t.value) c.entries w.entries)

    by_test : (b : Bool) → Told numbers 0 (suc n) (cond b [] (record { id = 0; value = c.cost } ∷ []) ++ map moved c.entries)
    by_test true = told_from numbers (suc n) (map moved c.entries) entries
    by_test false = (omega arith, omega arith, readable numbers c.cost w.cost, entries)

-- what the cards of the program rest on
pub record Ready (numbers : Numbers) (p : ProgramData) : Type 0 where
  pub rows_numbered : IsNumbered (names_of_rows (all_rows p))
  pub columns_numbered : IsNumbered (names_of_columns p.columns)
  pub rows_named : AllByRecursion (λ (row : RowDef). IsRowName row.name) (all_rows p)
  pub columns_named : AllByRecursion (λ (c : ColumnDef). IsWord c.name) p.columns
  pub told : AllByRecursion (λ (c : ColumnDef). Told numbers 0 (length (names_of_rows (all_rows p))) (all_terms c)) p.columns
  pub ascend : AllByRecursion (λ (c : ColumnDef). Ascends 0 (length p.rows) c.entries) p.columns
  pub sides : AllByRecursion (λ (row : RowDef). IsReadIn numbers (right_side_by row.lower row.upper)) (all_rows p)
  pub widths : AllByRecursion (λ (row : RowDef). WidthIn numbers row.lower row.upper) p.rows
  pub bounds : AllByRecursion (λ (c : ColumnDef). ReadBound numbers c.lower × ReadBound numbers c.upper) p.columns
  pub bounds_read : AllByRecursion (λ (c : ColumnDef). IsReadIn numbers c.lower × IsReadIn numbers c.upper) p.columns
  pub finite : AllByRecursion (WritableRow numbers) p.rows

pub ready : (numbers : Numbers) (p : ProgramData) → WellNamed p.objective p.rows p.columns → Plain p → Writable numbers p → EntriesAscend p → Ready numbers p
ready numbers p named plain w ascend =
    let rows : AllByRecursion (WritableRow numbers) p.rows = recursion_from_All (WritableRow numbers) p.rows w.rows in
    let columns : AllByRecursion (WritableColumn numbers) p.columns = recursion_from_All (WritableColumn numbers) p.columns w.columns in
    let ascends : AllByRecursion (λ (c : ColumnDef). Ascends 0 (length p.rows) c.entries) p.columns = recursion_from_All (λ (c : ColumnDef). Ascends 0 (length p.rows) c.entries) p.columns ascend in
    record {
      rows_numbered = numbered (names_of_rows (all_rows p)) named.rows;
      columns_numbered = numbered (names_of_columns p.columns) named.columns;
      rows_named = (
        row_name_of p.objective (All-head IsName p.objective (names_of_rows p.rows) named.row_names) plain.objective,
        recursion_from_All (λ (row : RowDef). IsRowName row.name) p.rows (all_names IsRowName (λ (row : RowDef). row.name) p.rows
            (row_names_of (names_of_rows p.rows) (All-tail IsName p.objective (names_of_rows p.rows) named.row_names) plain.rows)),
      );
      columns_named = recursion_from_All (λ (c : ColumnDef). IsWord c.name) p.columns (all_names IsWord (λ (c : ColumnDef). c.name) p.columns
          (words_of (names_of_columns p.columns) named.column_names plain.columns));
      told = subst (λ (n : ℕ). AllByRecursion (λ (c : ColumnDef). Told numbers 0 n (all_terms c)) p.columns) (sym (length-map (all_rows p) (λ (r : RowDef). r.name)))
          (both (λ (c : ColumnDef) a v. column_ready numbers (length p.rows) c a v) p.columns ascends columns);
      ascend = ascends;
      sides = (negated_readable numbers p.constant w.constant, each (λ (r : RowDef) v. side_ready numbers r.lower r.upper v) p.rows rows);
      widths = each (λ (r : RowDef) v. width_ready numbers r.lower r.upper v) p.rows rows;
      bounds = each (λ (c : ColumnDef) v. (bound_ready numbers c.lower v.lower, bound_ready numbers c.upper v.upper)) p.columns columns;
      bounds_read = each (λ (c : ColumnDef) v. (bound_read numbers c.lower v.lower, bound_read numbers c.upper v.upper)) p.columns columns;
      finite = rows;
    }
