-- What can be written of a program can be written of its problem, and back.
use Rattle.std.proofs.Common.{◌≡◌, ℕ, ◌<◌, true, List, ◌∷◌, length, get_or, sym, ap, ◌∙◌, subst, arith, Option, Some, None, IfSome}
use Rattle.std.specs.List.{All}
use Rattle.std.proofs.lemmas.List.Elements.{All-cons, All-get_or, All-head, All-tail}
use Rattle.fractions.specs.Number.{Number}
use Rattle.fractions.specs.Comparisons.{le_ℚ-is}
use Rattle.fractions.specs.declared.Numbers.{Numbers}
use Rattle.lp_model.specs.declared.terms.Term.{Term}
use Rattle.lp_model.specs.declared.program.RowDef.{RowDef}
use Rattle.lp_model.specs.declared.program.ColumnDef.{ColumnDef}
use Rattle.lp_model.specs.Meaning.{no_row, no_column}
use Rattle.lp_model.specs.Name.{IsName}
use Rattle.lp_model.specs.Names.{WellNamed, names_of_rows, names_of_columns, Differ}
use Rattle.lp_model.specs.ProgramData.{ProgramData}
use Rattle.lp_model.specs.Writable.{WritableNumber, WritableBound, WritableSides, WritableRow, WritableColumn, Writable}
use Rattle.problem_model.specs.declared.line.Sides.{Sides}
use Rattle.problem_model.specs.declared.line.Bounds.{Bounds}
use Rattle.lp_model.specs.EndTests.{is_in_order}
use Rattle.problem_model.specs.Problems.{row_at, column_at, sides_at, bounds_at, cost_at, IsSparse}
use Rattle.problem_model.specs.Programs.{IsProblemOf, written_column, written_program}
use Rattle.problem_model.specs.Sparse.{Sparse}
use Rattle.problem_model.specs.Writing.{KeptSides, KeptColumn, IsWritable}
use Rattle.problem_laws.proofs.AtIds.{row_inside, column_inside}
use Rattle.program_laws.specs.Chosen.{at_live, names_at}
use Rattle.program_laws.specs.Shapes.{IsOf, NoCrossedSides}
use Rattle.program_laws.proofs.Choosing.{all_names, chosen-all, chosen-map, names_differ, names_differ_from}
use Rattle.program_laws.proofs.Negating.{writable_signed}
use Rattle.program_laws.proofs.Renumbering.{numbers_stay}
use Rattle.program_laws.proofs.Making.{made_rows, made_columns, made_rows-length, made_columns-length, made_row-at, made_column-at, written-rows, written-columns, as_many_sides, as_many_columns, rows_with-names, columns_with-names}
use Rattle.program_laws.proofs.ProblemsShow.{columns_length, sides_are, bounds_are, cost_is, entries_are}

-- ---- sides
sides_kept : (numbers : Numbers) (l u : Option Number) → WritableSides numbers l u → KeptSides numbers l u
sides_kept numbers None None w = w
sides_kept numbers (Some l) None w = w
sides_kept numbers None (Some u) w = w
sides_kept numbers (Some l) (Some u) w = (w.lower_number, w.upper_number, w.width)

sides_back : (numbers : Numbers) (l u : Option Number) → KeptSides numbers l u → is_in_order l u ≡ true → WritableSides numbers l u
sides_back numbers None None k e = k
sides_back numbers (Some l) None k e = k
sides_back numbers None (Some u) k e = k
sides_back numbers (Some l) (Some u) k e = record { lower_number = k.0; upper_number = k.1; ascends = (le_ℚ-is l u).0 e; width = k.2 }

-- ---- the problem of a program that can be written
module _ (numbers : Numbers) (program : ProgramData) (p : Sparse) (w : Writable numbers program) (h : IsProblemOf program p) where
  row_kept : (i : ℕ) → (row_at p i).live ≡ true → KeptSides numbers (sides_at p i).lower (sides_at p i).upper
  row_kept i live =
      let l : i < length program.rows = omega (arith, row_inside p i live, h.rows) in
      subst (λ (s : Sides). KeptSides numbers s.lower s.upper) (sym (sides_are program p h i))
      (sides_kept numbers (get_or program.rows i no_row).lower (get_or program.rows i no_row).upper (All-get_or (WritableRow numbers) program.rows i no_row l w.rows))

  column_kept : (j : ℕ) → (column_at p j).live ≡ true → KeptColumn numbers p j
  column_kept j live =
      let l : j < length program.columns = omega (arith, column_inside p j live, columns_length program p h) in
      let c : WritableColumn numbers (get_or program.columns j no_column) = All-get_or (WritableColumn numbers) program.columns j no_column l w.columns in
      record {
        cost = subst (λ (q : Number). WritableNumber numbers q) (sym (cost_is program p h j)) (writable_signed numbers program.sense (get_or program.columns j no_column).cost c.cost);
        lower = subst (λ (b : Bounds). IfSome b.lower (WritableBound numbers)) (sym (bounds_are program p h j)) c.lower;
        upper = subst (λ (b : Bounds). IfSome b.upper (WritableBound numbers)) (sym (bounds_are program p h j)) c.upper;
        entries = subst (λ (ts : List Term). All (λ (t : Term). WritableNumber numbers t.value) ts) (sym (entries_are program p h j)) c.entries;
      }

  pub problem_writable : IsWritable numbers p
  problem_writable = record { rows = row_kept; columns = column_kept }

-- ---- the written program of a problem that can be written
module _ (numbers : Numbers) (program : ProgramData) (p : Sparse) (s : IsSparse p) (o : IsOf program p) (w : IsWritable numbers p) (uncrossed : NoCrossedSides p) where
  rows_back : All (WritableRow numbers) (written_program program p).rows
  rows_back = subst (All (WritableRow numbers)) (sym (written-rows program p s o))
      (chosen-all (WritableRow numbers) no_row p.matrix.rows (made_rows program p) (made_rows-length program p s o)
      (λ i l live. subst (WritableRow numbers) (sym (made_row-at program p s o i (omega (arith, l, made_rows-length program p s o))))
      (sides_back numbers (sides_at p i).lower (sides_at p i).upper (w.rows i live) (uncrossed i live))))

  column_back : (j : ℕ) → (column_at p j).live ≡ true
      → WritableColumn numbers (written_column program.sense p.matrix.rows (get_or program.columns j no_column) (column_at p j) (bounds_at p j) (cost_at p j))
  column_back j live = let k = w.columns j live in record {
    cost = writable_signed numbers program.sense (cost_at p j) k.cost;
    lower = k.lower;
    upper = k.upper;
    entries = numbers_stay (WritableNumber numbers) p.matrix.rows (column_at p j).entries k.entries;
  }

  columns_back : All (WritableColumn numbers) (written_program program p).columns
  columns_back = subst (All (WritableColumn numbers)) (sym (written-columns program p s o))
      (chosen-all (WritableColumn numbers) no_column p.matrix.columns (made_columns program p) (made_columns-length program p s o)
      (λ j l live. subst (WritableColumn numbers) (sym (made_column-at program p s o j (omega (arith, l, made_columns-length program p s o)))) (column_back j live)))

  pub written_writable : WritableNumber numbers program.constant → Writable numbers (written_program program p)
  written_writable c = record { constant = c; rows = rows_back; columns = columns_back }

-- ---- names
module _ (program : ProgramData) (p : Sparse) (s : IsSparse p) (o : IsOf program p) where
  pub written_row_names : names_of_rows (written_program program p).rows ≡ names_at (names_of_rows program.rows) p.matrix.rows
  written_row_names = ap names_of_rows (written-rows program p s o) ∙ chosen-map (λ (r : RowDef). r.name) p.matrix.rows (made_rows program p)
      ∙ ap (λ (ns : List (List ℕ)). at_live p.matrix.rows ns) (rows_with-names program.rows p.sides (as_many_sides program p s o))

  pub written_column_names : names_of_columns (written_program program p).columns ≡ names_at (names_of_columns program.columns) p.matrix.columns
  written_column_names = ap names_of_columns (written-columns program p s o) ∙ chosen-map (λ (c : ColumnDef). c.name) p.matrix.columns (made_columns program p)
      ∙ ap (λ (ns : List (List ℕ)). at_live p.matrix.columns ns)
      (columns_with-names program.sense p.matrix.rows program.columns p.matrix.columns p.bounds p.costs (as_many_columns program p s o))

  pub written_well_named : WellNamed program.objective program.rows program.columns
      → WellNamed (written_program program p).objective (written_program program p).rows (written_program program p).columns
  written_well_named d = record {
    row_names = subst (λ (ns : List (List ℕ)). All IsName (program.objective ∷ ns)) (sym written_row_names)
        (All-cons IsName program.objective (names_at (names_of_rows program.rows) p.matrix.rows) (All-head IsName program.objective (names_of_rows program.rows) d.row_names)
        (all_names IsName p.matrix.rows (names_of_rows program.rows) (All-tail IsName program.objective (names_of_rows program.rows) d.row_names)));
    column_names = subst (All IsName) (sym written_column_names) (all_names IsName p.matrix.columns (names_of_columns program.columns) d.column_names);
    rows = subst (λ (ns : List (List ℕ)). Differ (program.objective ∷ ns)) (sym written_row_names) (names_differ_from program.objective p.matrix.rows (names_of_rows program.rows) d.rows);
    columns = subst (λ (ns : List (List ℕ)). Differ ns) (sym written_column_names) (names_differ p.matrix.columns (names_of_columns program.columns) d.columns);
  }
