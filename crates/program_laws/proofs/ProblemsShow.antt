-- The problem of a program shows the program.
use Rattle.std.proofs.Common.{◌≡◌, ℕ, ◌<◌, ◌≤◌, Bool, true, false, ◌&&◌, List, length, map, get_or, sym, refl, ap, ◌∙◌, arith, ◌⊎◌, inl, inr, Option, None}
use Rattle.std.specs.Prelude.{if◌then◌else◌}
use Rattle.std.proofs.lemmas.Bool.{cases_lt}
use Rattle.std.proofs.lemmas.List.{get_or_past, length-map}
use Rattle.std.proofs.lemmas.List as lists
use Rattle.std.proofs.Math.ListN as everywhere
use Rattle.fractions.specs.Number.{Number, zero_ℚ}
use Rattle.lp_model.specs.declared.terms.Term.{Term}
use Rattle.lp_model.specs.declared.program.RowDef.{RowDef}
use Rattle.lp_model.specs.declared.program.ColumnDef.{ColumnDef}
use Rattle.lp_model.specs.Meaning.{no_row, no_column, meaning}
use Rattle.lp_model.specs.ProgramData.{ProgramData}
use Rattle.lp_model.specs.Sparse.{dense}
use Rattle.lp_model.specs.Turning.{signed, minimizing}
use Rattle.problem_model.specs.declared.line.Line.{Line}
use Rattle.problem_model.specs.declared.line.Sides.{Sides}
use Rattle.problem_model.specs.declared.line.Bounds.{Bounds}
use Rattle.problem_model.specs.Matrices.{no_line, line_at}
use Rattle.problem_model.specs.Problems.{no_sides, no_bounds, row_at, column_at, sides_at, bounds_at, cost_at}
use Rattle.problem_model.specs.Programs.{IsProblemOf, line_of, sides_of, bounds_of}
use Rattle.problem_model.specs.Showing.{coefficient_of, end_if, shown, reach_low, reach_high, gap_if}
use Rattle.problem_model.specs.Sparse.{Sparse}
use Rattle.problem_laws.proofs.Terms.{dense-absent, has-beyond}
use Rattle.problem_laws.proofs.ShowingEdits.{cell, cell_dead}
use Rattle.program_laws.proofs.Negating.{signed_zero, with_signs, minimizing_signs}
use Rattle.lp_model.specs.Gaps.{gap_of, reach_lower, reach_upper}

module _ (program : ProgramData) (p : Sparse) (h : IsProblemOf program p) where
  pub columns_length : length p.matrix.columns ≡ length program.columns
  columns_length = ap length h.columns ∙ length-map program.columns (λ (c : ColumnDef). line_of c.entries)

  -- ---- rows
  pub row_live : (i : ℕ) → i < length program.rows → (row_at p i).live ≡ true
  row_live i l = ap (λ (y : Line). y.live) (h.live i l)

  row_dead : (i : ℕ) → length program.rows ≤ i → (row_at p i).live ≡ false
  row_dead i g = ap (λ (y : Line). y.live) (get_or_past p.matrix.rows i no_line (omega (arith, g, h.rows)))

  pub sides_are : (i : ℕ) → sides_at p i ≡ sides_of (get_or program.rows i no_row)
  sides_are i = ap (λ (ss : List Sides). get_or ss i no_sides) h.sides ∙ everywhere.get_or-map sides_of program.rows i no_row

  end_shown : (end_of : Sides → Option Number) (end : RowDef → Option Number) → ((r : RowDef) → end_of (sides_of r) ≡ end r) → end no_row ≡ None
      → (i : ℕ) → end_if (row_at p i).live (end_of (sides_at p i)) ≡ end (get_or program.rows i no_row)
  end_shown end_of end same none i = by (cases_lt i (length program.rows))
    where
      by : (i < length program.rows) ⊎ (length program.rows ≤ i) → end_if (row_at p i).live (end_of (sides_at p i)) ≡ end (get_or program.rows i no_row)
      by (inl l) = ap (λ (b : Bool). end_if b (end_of (sides_at p i))) (row_live i l) ∙ ap end_of (sides_are i) ∙ same (get_or program.rows i no_row)
      by (inr g) = ap (λ (b : Bool). end_if b (end_of (sides_at p i))) (row_dead i g) ∙ sym (ap end (get_or_past program.rows i no_row g) ∙ none)

  -- ---- columns
  pub column_is : (j : ℕ) → j < length program.columns → column_at p j ≡ line_of (get_or program.columns j no_column).entries
  column_is j l = ap (λ (cs : List Line). line_at cs j) h.columns ∙ lists.get_or-map (λ (c : ColumnDef). line_of c.entries) program.columns j no_column no_line l

  pub column_live : (j : ℕ) → j < length program.columns → (column_at p j).live ≡ true
  column_live j l = ap (λ (y : Line). y.live) (column_is j l)

  column_gone : (j : ℕ) → length program.columns ≤ j → column_at p j ≡ no_line
  column_gone j g = get_or_past p.matrix.columns j no_line (omega (arith, g, columns_length))

  pub entries_are : (j : ℕ) → (column_at p j).entries ≡ (get_or program.columns j no_column).entries
  entries_are j = by (cases_lt j (length program.columns))
    where
      by : (j < length program.columns) ⊎ (length program.columns ≤ j) → (column_at p j).entries ≡ (get_or program.columns j no_column).entries
      by (inl l) = ap (λ (y : Line). y.entries) (column_is j l)
      by (inr g) = ap (λ (y : Line). y.entries) (column_gone j g) ∙ sym (ap (λ (c : ColumnDef). c.entries) (get_or_past program.columns j no_column g))

  pub bounds_are : (j : ℕ) → bounds_at p j ≡ bounds_of (get_or program.columns j no_column)
  bounds_are j = ap (λ (bs : List Bounds). get_or bs j no_bounds) h.bounds ∙ everywhere.get_or-map bounds_of program.columns j no_column

  pub cost_is : (j : ℕ) → cost_at p j ≡ signed program.sense (get_or program.columns j no_column).cost
  cost_is j = ap (λ (qs : List Number). get_or qs j zero_ℚ) h.costs
      ∙ ap (λ (d : Number). get_or (map (λ (c : ColumnDef). signed program.sense c.cost) program.columns) j d) (sym (signed_zero program.sense))
      ∙ everywhere.get_or-map (λ (c : ColumnDef). signed program.sense c.cost) program.columns j no_column

  -- what a column shows, of whether it is live, its bounds and its cost
  column_shown : {A : Type 0} (of_problem : Bool → Bounds → Number → A) (of_program : ColumnDef → A)
      → ((c : ColumnDef) → of_problem true (bounds_of c) (signed program.sense c.cost) ≡ of_program c) → ((b : Bounds) (q : Number) → of_problem false b q ≡ of_program no_column)
      → (j : ℕ) → of_problem (column_at p j).live (bounds_at p j) (cost_at p j) ≡ of_program (get_or program.columns j no_column)
  column_shown of_problem of_program same none j = by (cases_lt j (length program.columns))
    where
      by : (j < length program.columns) ⊎ (length program.columns ≤ j) → of_problem (column_at p j).live (bounds_at p j) (cost_at p j) ≡ of_program (get_or program.columns j no_column)
      by (inl l) = (λ t. of_problem (column_live j l t) (bounds_are j t) (cost_is j t)) ∙ same (get_or program.columns j no_column)
      by (inr g) = ap (λ (y : Line). of_problem y.live (bounds_at p j) (cost_at p j)) (column_gone j g) ∙ none (bounds_at p j) (cost_at p j)
          ∙ sym (ap of_program (get_or_past program.columns j no_column g))

  -- ---- coefficients
  coefficient_shown : (i j : ℕ) → coefficient_of p i j ≡ dense (get_or program.columns j no_column).entries i
  coefficient_shown i j = by (cases_lt i (length program.rows)) (cases_lt j (length program.columns)) ∙ ap (λ (ts : List Term). dense ts i) (entries_are j)
    where
      by : (i < length program.rows) ⊎ (length program.rows ≤ i) → (j < length program.columns) ⊎ (length program.columns ≤ j)
          → cell (row_at p i).live (column_at p j).live (dense (row_at p i).entries j) ≡ dense (column_at p j).entries i
      by (inl l) (inl m) = λ t. cell (row_live i l t) (column_live j m t) (h.sound.matrix.agree i j (row_live i l) (column_live j m) t)
      by (inl l) (inr g) = ap (λ (y : Line). cell (row_at p i).live y.live (dense (row_at p i).entries j)) (column_gone j g) ∙ cell_dead (row_at p i).live (dense (row_at p i).entries j)
          ∙ sym (ap (λ (y : Line). dense y.entries i) (column_gone j g))
      by (inr g) o = ap (λ (b : Bool). cell b (column_at p j).live (dense (row_at p i).entries j)) (row_dead i g)
          ∙ sym (dense-absent i (column_at p j).entries (has-beyond (column_at p j).entries 0 (length p.matrix.rows) i (h.sound.matrix.columns.ascends j) (omega (arith, g, h.rows))))

  shows_signs : shown p ≡ with_signs program.sense (meaning program)
  shows_signs t = record {
    rows = h.rows t;
    columns = columns_length t;
    coefficient = λ i j. coefficient_shown i j t;
    lower_side = λ i. end_shown (λ s. s.lower) (λ r. r.lower) (λ r. refl) refl i t;
    upper_side = λ i. end_shown (λ s. s.upper) (λ r. r.upper) (λ r. refl) refl i t;
    lower_bound = λ j. column_shown (λ b e q. end_if b (reach_low e)) (λ c. reach_lower c.semi c.lower c.upper) (λ c. refl) (λ b q. refl) j t;
    upper_bound = λ j. column_shown (λ b e q. end_if b (reach_high e)) (λ c. reach_upper c.semi c.lower c.upper) (λ c. refl) (λ b q. refl) j t;
    whole = λ j. column_shown (λ b e q. b && e.whole) (λ c. c.whole) (λ c. refl) (λ b q. refl) j t;
    gap = λ j. column_shown (λ b e q. gap_if b e) (λ c. gap_of c.semi c.lower c.upper) (λ c. refl) (λ b q. refl) j t;
    costs = λ j. column_shown (λ b e q. if b then q else zero_ℚ) (λ c. signed program.sense c.cost) (λ c. refl) (λ b q. sym (signed_zero program.sense)) j t;
    constant = h.constant t;
  }

  pub problem_shows_program : shown p ≡ minimizing program.sense (meaning program)
  problem_shows_program = shows_signs ∙ sym (minimizing_signs program.sense (meaning program))
