-- The written program is the shown one without the ids of what was deleted.
use Rattle.std.proofs.Common.{◌≡◌, ℕ, ◌<◌, Bool, true, ◌&&◌, [], length, get_or, slice_index, pos, sym, refl, ap, ap₂, ◌∙◌, subst, arith, Option}
use Rattle.std.specs.Prelude.{if◌then◌else◌}
use Rattle.std.specs.List.{All}
use Rattle.fractions.specs.Ring.{ring, num, ◌:+◌}
use Rattle.fractions.specs.Number.{Number, rational, zero_ℚ, ◌+ℚ◌}
use Rattle.lp_model.specs.declared.program.Sense.TheVariants.{Min}
use Rattle.lp_model.specs.declared.program.RowDef.{RowDef}
use Rattle.lp_model.specs.declared.program.ColumnDef.{ColumnDef}
use Rattle.lp_model.specs.LinearProgram.{LinearProgram}
use Rattle.lp_model.specs.Meaning.{no_row, no_column, meaning}
use Rattle.lp_model.specs.ProgramData.{ProgramData}
use Rattle.lp_model.specs.Reductions.{Reduces, ReducesPairs}
use Rattle.lp_model.specs.Sparse.{Ascends, dense}
use Rattle.lp_model.specs.Writable.{EntriesAscend}
use Rattle.lp_passages.specs.Renumbering.{IsRest, gathered, spread, spread_pair, written}
use Rattle.lp_model.specs.Turning.{signed, minimizing}
use Rattle.lp_passages.proofs.Renumbered.{pairs_to_written, reduces_to_written, written_reduces_to}
use Rattle.lp_theory.proofs.Steps.{compose, compose_pairs}
use Rattle.problem_model.specs.declared.line.Sides.{Sides}
use Rattle.problem_model.specs.Problems.{row_at, column_at, sides_at, bounds_at, cost_at, IsSparse}
use Rattle.problem_model.specs.Programs.{renumbered, written_program, live_ids}
use Rattle.problem_model.specs.Showing.{coefficient_of, end_if, shown, reach_low, reach_high, gap_if}
use Rattle.problem_model.specs.Sparse.{Sparse}
use Rattle.problem_laws.proofs.Entries.{dense-live}
use Rattle.problem_laws.proofs.ShowingEdits.{cell, cell_dead}
use Rattle.program_laws.specs.Alike.{AreAlike}
use Rattle.program_laws.specs.Shapes.{IsOf}
use Rattle.program_laws.proofs.Ranks.{live_ids_ascend, left_out-dead, id_live}
use Rattle.program_laws.proofs.Choosing.{chosen-all}
use Rattle.program_laws.proofs.Negating.{signed_twice, with_signs, minimizing_signs}
use Rattle.program_laws.proofs.Renumbering.{dense-renumbered, ascends-renumbered}
use Rattle.program_laws.proofs.Making.{made_columns, made_columns-length, made_column-at, written-columns, written_rows-length, written_columns-length, written_row-at, written_column-at}
use Rattle.program_laws.proofs.Alikeness.{alike_back, alike_pairs, alike_reduces}
use Rattle.lp_model.specs.Gaps.{Gap, gap_of, reach_lower, reach_upper}

-- what is not live has nothing
pub rest : (p : Sparse) → IsSparse p → IsRest (shown p) (live_ids p.matrix.rows) (live_ids p.matrix.columns)
rest p s = record {
  rows_ascend = live_ids_ascend p.matrix.rows;
  columns_ascend = live_ids_ascend p.matrix.columns;
  no_lower_side = λ i l o. ap (λ (b : Bool). end_if b (sides_at p i).lower) (left_out-dead p.matrix.rows i o);
  no_upper_side = λ i l o. ap (λ (b : Bool). end_if b (sides_at p i).upper) (left_out-dead p.matrix.rows i o);
  no_coefficient = λ i j l o. ap (λ (b : Bool). cell (row_at p i).live b (dense (row_at p i).entries j)) (left_out-dead p.matrix.columns j o) ∙ cell_dead (row_at p i).live (dense (row_at p i).entries j);
  no_lower_bound = λ j l o. ap (λ (b : Bool). end_if b (reach_low (bounds_at p j))) (left_out-dead p.matrix.columns j o);
  no_upper_bound = λ j l o. ap (λ (b : Bool). end_if b (reach_high (bounds_at p j))) (left_out-dead p.matrix.columns j o);
  not_whole = λ j l o. ap (λ (b : Bool). b && (bounds_at p j).whole) (left_out-dead p.matrix.columns j o);
  no_gap = λ j l o. ap (λ (b : Bool). gap_if b (bounds_at p j)) (left_out-dead p.matrix.columns j o);
  no_cost = λ j l o. ap (λ (b : Bool). if b then cost_at p j else zero_ℚ) (left_out-dead p.matrix.columns j o);
}

-- what a column's data mean
abbrev reach_of : ColumnDef → Option Number
reach_of c = reach_lower c.semi c.lower c.upper

abbrev reach_over : ColumnDef → Option Number
reach_over c = reach_upper c.semi c.lower c.upper

abbrev gap_in : ColumnDef → Option Gap
gap_in c = gap_of c.semi c.lower c.upper

both_live : (row column : Bool) (a : Number) → row ≡ true → column ≡ true → cell row column a ≡ a
both_live row column a e f = ap₂ (λ (b c : Bool). cell b c a) e f

module _ (program : ProgramData) (p : Sparse) (s : IsSparse p) (o : IsOf program p) where
  coefficients : (a b : ℕ) → a < length (live_ids p.matrix.rows) → b < length (live_ids p.matrix.columns)
      → dense (get_or (written_program program p).columns b no_column).entries a ≡ coefficient_of p (slice_index (live_ids p.matrix.rows) a) (slice_index (live_ids p.matrix.columns) b)
  coefficients a b l m =
      let i : ℕ = slice_index (live_ids p.matrix.rows) a in
      let j : ℕ = slice_index (live_ids p.matrix.columns) b in
      ap (λ (c : ColumnDef). dense c.entries a) (written_column-at program p s o b m)
      ∙ dense-renumbered p.matrix.rows a l (column_at p j).entries
      ∙ dense-live p.matrix.rows i (column_at p j).entries (id_live p.matrix.rows a l)
      ∙ sym (s.matrix.agree i j (id_live p.matrix.rows a l) (id_live p.matrix.columns b m))
      ∙ sym (both_live (row_at p i).live (column_at p j).live (dense (row_at p i).entries j) (id_live p.matrix.rows a l) (id_live p.matrix.columns b m))

  side : (end : RowDef → Option Number) (end_of : Sides → Option Number) (a : ℕ) → a < length (live_ids p.matrix.rows)
      → ((r : RowDef) (x : Sides) → end (record r { lower = x.lower; upper = x.upper }) ≡ end_of x)
      → end (get_or (written_program program p).rows a no_row) ≡ end_if (row_at p (slice_index (live_ids p.matrix.rows) a)).live (end_of (sides_at p (slice_index (live_ids p.matrix.rows) a)))
  side end end_of a l same = ap end (written_row-at program p s o a l) ∙ same (get_or program.rows (slice_index (live_ids p.matrix.rows) a) no_row) (sides_at p (slice_index (live_ids p.matrix.rows) a))
      ∙ sym (ap (λ (b : Bool). end_if b (end_of (sides_at p (slice_index (live_ids p.matrix.rows) a)))) (id_live p.matrix.rows a l))

  signs_alike : AreAlike (with_signs program.sense (meaning (written_program program p))) (written (shown p) (live_ids p.matrix.rows) (live_ids p.matrix.columns))
  signs_alike =
      let rows : length (written_program program p).rows ≡ length (live_ids p.matrix.rows) = written_rows-length program p s o in
      let columns : length (written_program program p).columns ≡ length (live_ids p.matrix.columns) = written_columns-length program p s o in
      record {
        rows = rows;
        columns = columns;
        coefficient = λ a b l m. coefficients a b (omega (arith, l, rows)) (omega (arith, m, columns));
        lower_side = λ a l. side (λ r. r.lower) (λ x. x.lower) a (omega (arith, l, rows)) (λ r x. refl);
        upper_side = λ a l. side (λ r. r.upper) (λ x. x.upper) a (omega (arith, l, rows)) (λ r x. refl);
        lower_bound = λ b l. column_lower b (omega (arith, l, columns));
        upper_bound = λ b l. column_upper b (omega (arith, l, columns));
        whole = λ b l. column_whole b (omega (arith, l, columns));
        gap = λ b l. column_gap b (omega (arith, l, columns));
        costs = λ b l. column_cost b (omega (arith, l, columns));
        constant = sym o.constant;
      }
    where
      column_lower : (b : ℕ) → b < length (live_ids p.matrix.columns) → reach_of (get_or (written_program program p).columns b no_column)
          ≡ end_if (column_at p (slice_index (live_ids p.matrix.columns) b)).live (reach_low (bounds_at p (slice_index (live_ids p.matrix.columns) b)))
      column_lower b l = ap reach_of (written_column-at program p s o b l)
          ∙ sym (ap (λ (y : Bool). end_if y (reach_low (bounds_at p (slice_index (live_ids p.matrix.columns) b)))) (id_live p.matrix.columns b l))

      column_upper : (b : ℕ) → b < length (live_ids p.matrix.columns) → reach_over (get_or (written_program program p).columns b no_column)
          ≡ end_if (column_at p (slice_index (live_ids p.matrix.columns) b)).live (reach_high (bounds_at p (slice_index (live_ids p.matrix.columns) b)))
      column_upper b l = ap reach_over (written_column-at program p s o b l)
          ∙ sym (ap (λ (y : Bool). end_if y (reach_high (bounds_at p (slice_index (live_ids p.matrix.columns) b)))) (id_live p.matrix.columns b l))

      column_whole : (b : ℕ) → b < length (live_ids p.matrix.columns) → (get_or (written_program program p).columns b no_column).whole
          ≡ ((column_at p (slice_index (live_ids p.matrix.columns) b)).live && (bounds_at p (slice_index (live_ids p.matrix.columns) b)).whole)
      column_whole b l = ap (λ (c : ColumnDef). c.whole) (written_column-at program p s o b l)
          ∙ sym (ap (λ (y : Bool). y && (bounds_at p (slice_index (live_ids p.matrix.columns) b)).whole) (id_live p.matrix.columns b l))

      column_gap : (b : ℕ) → b < length (live_ids p.matrix.columns) → gap_in (get_or (written_program program p).columns b no_column)
          ≡ gap_if (column_at p (slice_index (live_ids p.matrix.columns) b)).live (bounds_at p (slice_index (live_ids p.matrix.columns) b))
      column_gap b l = ap gap_in (written_column-at program p s o b l)
          ∙ sym (ap (λ (y : Bool). gap_if y (bounds_at p (slice_index (live_ids p.matrix.columns) b))) (id_live p.matrix.columns b l))

      column_cost : (b : ℕ) → b < length (live_ids p.matrix.columns) → signed program.sense (get_or (written_program program p).columns b no_column).cost
          ≡ if (column_at p (slice_index (live_ids p.matrix.columns) b)).live then cost_at p (slice_index (live_ids p.matrix.columns) b) else zero_ℚ
      column_cost b l = ap (λ (c : ColumnDef). signed program.sense c.cost) (written_column-at program p s o b l)
          ∙ signed_twice program.sense (cost_at p (slice_index (live_ids p.matrix.columns) b))
          ∙ sym (ap (λ (y : Bool). if y then cost_at p (slice_index (live_ids p.matrix.columns) b) else zero_ℚ) (id_live p.matrix.columns b l))

  pub written_alike : AreAlike (minimizing program.sense (meaning (written_program program p))) (written (shown p) (live_ids p.matrix.rows) (live_ids p.matrix.columns))
  written_alike = subst (λ (M : LinearProgram). AreAlike M (written (shown p) (live_ids p.matrix.rows) (live_ids p.matrix.columns))) (sym (minimizing_signs program.sense (meaning (written_program program p)))) signs_alike

  no_more : zero_ℚ +ℚ zero_ℚ ≡ zero_ℚ
  no_more = ring rational [] (num (pos 0) :+ num (pos 0)) (num (pos 0)) refl

  pub written_points : Reduces Min (shown p) (minimizing program.sense (meaning (written_program program p))) (spread (live_ids p.matrix.columns)) zero_ℚ
  written_points =
      let M : LinearProgram = minimizing program.sense (meaning (written_program program p)) in
      let R : LinearProgram = written (shown p) (live_ids p.matrix.rows) (live_ids p.matrix.columns) in
      subst (λ (k : Number). Reduces Min (shown p) M (spread (live_ids p.matrix.columns)) k) no_more
      (compose Min (shown p) R M (spread (live_ids p.matrix.columns)) (λ x. x) zero_ℚ zero_ℚ
      (reduces_to_written (shown p) (live_ids p.matrix.rows) (live_ids p.matrix.columns) (rest p s) Min) (alike_reduces Min R M (alike_back M R written_alike)))

  pub written_pairs : ReducesPairs Min (shown p) (minimizing program.sense (meaning (written_program program p))) (spread_pair (live_ids p.matrix.rows) (live_ids p.matrix.columns))
  written_pairs =
      let M : LinearProgram = minimizing program.sense (meaning (written_program program p)) in
      let R : LinearProgram = written (shown p) (live_ids p.matrix.rows) (live_ids p.matrix.columns) in
      compose_pairs Min (shown p) R M (spread_pair (live_ids p.matrix.rows) (live_ids p.matrix.columns)) (λ x. x)
      (pairs_to_written (shown p) (live_ids p.matrix.rows) (live_ids p.matrix.columns) (rest p s) Min) (alike_pairs Min R M (alike_back M R written_alike))

  pub written_points_back : Reduces Min (minimizing program.sense (meaning (written_program program p))) (shown p) (gathered (live_ids p.matrix.columns)) zero_ℚ
  written_points_back =
      let M : LinearProgram = minimizing program.sense (meaning (written_program program p)) in
      let R : LinearProgram = written (shown p) (live_ids p.matrix.rows) (live_ids p.matrix.columns) in
      subst (λ (k : Number). Reduces Min M (shown p) (gathered (live_ids p.matrix.columns)) k) no_more
      (compose Min M R (shown p) (λ x. x) (gathered (live_ids p.matrix.columns)) zero_ℚ zero_ℚ
      (alike_reduces Min M R written_alike) (written_reduces_to (shown p) (live_ids p.matrix.rows) (live_ids p.matrix.columns) (rest p s) Min))

  pub written_ascends : EntriesAscend (written_program program p)
  written_ascends = subst (All (λ (c : ColumnDef). Ascends 0 (length (written_program program p).rows) c.entries)) (sym (written-columns program p s o))
      (chosen-all (λ (c : ColumnDef). Ascends 0 (length (written_program program p).rows) c.entries) no_column p.matrix.columns (made_columns program p) (made_columns-length program p s o)
      (λ j l live. subst (λ (c : ColumnDef). Ascends 0 (length (written_program program p).rows) c.entries) (sym (made_column-at program p s o j (omega (arith, l, made_columns-length program p s o))))
      (subst (λ (n : ℕ). Ascends 0 n (renumbered p.matrix.rows (column_at p j).entries)) (sym (written_rows-length program p s o))
      (ascends-renumbered p.matrix.rows (column_at p j).entries (s.matrix.columns.ascends j)))))
