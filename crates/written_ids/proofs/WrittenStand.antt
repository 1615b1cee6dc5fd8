-- The problem of the written program is the problem without what was deleted.
use Rattle.std.proofs.Common.{◌≡◌, ℕ, ◌<◌, Bool, true, false, ◌&&◌, List, length, slice_index, Option, Some, None, is_some, true≢false, refl, sym, ap, ◌∙◌, subst, arith}
use Rattle.std.specs.Prelude.{if◌then◌else◌}
use Rattle.fractions.specs.Number.{Number, zero_ℚ}
use Rattle.lp_model.specs.Gaps.{Gap, gap_of, given_lower, given_upper, reach_lower, reach_upper}
use Rattle.lp_model.specs.LinearProgram.{LinearProgram}
use Rattle.lp_model.specs.ProgramData.{ProgramData}
use Rattle.lp_model.specs.Sparse.{Ascends, dense}
use Rattle.lp_passages.specs.Renumbering.{written}
use Rattle.problem_model.specs.declared.line.Line.{Line}
use Rattle.problem_model.specs.Edits.{offset_set}
use Rattle.problem_model.specs.Problems.{IsSparse, bounds_at, column_at, column_entries, cost_at, row_at, row_entries, sides_at}
use Rattle.problem_model.specs.Programs.{IsProblemOf, live_ids, rank, renumbered, written_program}
use Rattle.problem_model.specs.Showing.{coefficient_of, gap_if, reach_high, reach_low, shown}
use Rattle.problem_model.specs.Sparse.{Sparse}
use Rattle.problem_laws.proofs.Entries.{column_entries-ascend, row_entries-ascend}
use Rattle.edit_laws.specs.Sizes.{SameSize}
use Rattle.program_laws.specs.Alike.{AreAlike}
use Rattle.program_laws.specs.Shapes.{IsOf}
use Rattle.program_laws.proofs.Making.{written_columns-length, written_rows-length}
use Rattle.program_laws.proofs.ProblemsShow.{column_live, columns_length, problem_shows_program, row_live}
use Rattle.program_laws.proofs.Ranks.{rank-id, rank-inside}
use Rattle.program_laws.proofs.Renumbering.{ascends-renumbered, dense-renumbered}
use Rattle.program_laws.proofs.WrittenShow.{written_alike}
use Rattle.rule_words.proofs.Coefficients.{coefficient_in_column, coefficient_in_row, end_live}
use Rattle.written_ids.specs.NewIds.{new_ids}
use Rattle.written_ids.specs.Standing.{AreOneToOne, ColumnStands, IsLeft, IsOneToOne, RowStands}
use Rattle.written_ids.proofs.SameTerms.{TellAlike, same_terms}

-- a problem of the same size is of the program too
pub still_of : (program : ProgramData) (start p : Sparse) → IsProblemOf program start → SameSize start p → IsOf program p
still_of program start p h z = record { rows = z.rows ∙ h.rows; columns = z.columns ∙ columns_length program start h; constant = z.constant ∙ h.constant }

-- ---- the bounds of a column are told by its gap and by the ends of its values
record AreBounds (has : Bool) (l u : Option Number) (had : Bool) (m v : Option Number) : Type 0 where
  semi : has ≡ had
  lower : l ≡ m
  upper : u ≡ v

told_bounds : (has : Bool) (l u : Option Number) (had : Bool) (m v : Option Number) → gap_of has l u ≡ gap_of had m v
    → reach_lower has l u ≡ reach_lower had m v → reach_upper has l u ≡ reach_upper had m v → AreBounds has l u had m v
told_bounds true l u true m v e a b = record { semi = refl; lower = ap (λ (g : Option Gap). given_lower g None) e; upper = ap (λ (g : Option Gap). given_upper g None) e }
told_bounds true l u false m v e a b = absurd (true≢false (ap is_some e))
told_bounds false l u true m v e a b = absurd (true≢false (sym (ap is_some e)))
told_bounds false l u false m v e a b = record { semi = refl; lower = a; upper = b }

-- live lines with the same rank are the same
ranks_apart : (ls : List Line) → IsOneToOne (rank ls) ls
ranks_apart ls i k h g e = sym (rank-id ls i h) ∙ ap (slice_index (live_ids ls)) e ∙ rank-id ls k g

module _ (program : ProgramData) (p q : Sparse) (s : IsSparse p) (o : IsOf program p) (h : IsProblemOf (written_program program p) q) where
  abbrev rows : List ℕ
  rows = live_ids p.matrix.rows

  abbrev columns : List ℕ
  columns = live_ids p.matrix.columns

  rows_long : length q.matrix.rows ≡ length rows
  rows_long = h.rows ∙ written_rows-length program p s o

  columns_long : length q.matrix.columns ≡ length columns
  columns_long = columns_length (written_program program p) q h ∙ written_columns-length program p s o

  rows_live : (a : ℕ) → a < length rows → (row_at q a).live ≡ true
  rows_live a l = row_live (written_program program p) q h a (omega (arith, l, written_rows-length program p s o))

  columns_live : (b : ℕ) → b < length columns → (column_at q b).live ≡ true
  columns_live b l = column_live (written_program program p) q h b (omega (arith, l, written_columns-length program p s o))

  -- what they show is the same
  alike : AreAlike (shown q) (written (shown p) rows columns)
  alike = subst (λ (M : LinearProgram). AreAlike M (written (shown p) rows columns)) (sym (problem_shows_program (written_program program p) q h)) (written_alike program p s o)

  coefficients : (a b : ℕ) → a < length rows → b < length columns → coefficient_of q a b ≡ coefficient_of p (slice_index rows a) (slice_index columns b)
  coefficients a b l m = alike.coefficient a b (omega (arith, l, rows_long)) (omega (arith, m, columns_long))

  module _ (i : ℕ) (on : (row_at p i).live ≡ true) where
    abbrev a : ℕ
    a = rank p.matrix.rows i

    l : a < length rows
    l = rank-inside p.matrix.rows i on

    place : slice_index rows a ≡ i
    place = rank-id p.matrix.rows i on

    row_told : TellAlike 0 (length columns) (row_entries q a) (renumbered p.matrix.columns (row_at p i).entries)
    row_told b z m =
        ap (λ (y : Bool). if y then dense (row_entries q a) b else zero_ℚ) (sym (rows_live a l))
        ∙ sym (coefficient_in_row q a b)
        ∙ coefficients a b l m
        ∙ ap (λ (k : ℕ). coefficient_of p k (slice_index columns b)) place
        ∙ coefficient_in_row p i (slice_index columns b)
        ∙ ap (λ (y : Bool). if y then dense (row_entries p i) (slice_index columns b) else zero_ℚ) on
        ∙ sym (dense-renumbered p.matrix.columns b m (row_at p i).entries)

    row_stands : RowStands (new_ids p) p (offset_set q p.offset) i
    row_stands = record {
      live = rows_live a l;
      entries = same_terms 0 (length columns) (row_entries q a) (renumbered p.matrix.columns (row_at p i).entries)
          (subst (λ (n : ℕ). Ascends 0 n (row_entries q a)) columns_long (row_entries-ascend q a h.sound))
          (ascends-renumbered p.matrix.columns (row_at p i).entries (s.matrix.rows.ascends i)) row_told;
      lower = sym (end_live (row_at q a).live (sides_at q a).lower (rows_live a l)) ∙ alike.lower_side a (omega (arith, l, rows_long))
          ∙ ap (shown p).lower_side place ∙ end_live (row_at p i).live (sides_at p i).lower on;
      upper = sym (end_live (row_at q a).live (sides_at q a).upper (rows_live a l)) ∙ alike.upper_side a (omega (arith, l, rows_long))
          ∙ ap (shown p).upper_side place ∙ end_live (row_at p i).live (sides_at p i).upper on;
    }

  module _ (j : ℕ) (on : (column_at p j).live ≡ true) where
    abbrev b : ℕ
    b = rank p.matrix.columns j

    m : b < length columns
    m = rank-inside p.matrix.columns j on

    place_of : slice_index columns b ≡ j
    place_of = rank-id p.matrix.columns j on

    inside : b < length q.matrix.columns
    inside = omega (arith, m, columns_long)

    column_told : TellAlike 0 (length rows) (column_entries q b) (renumbered p.matrix.rows (column_at p j).entries)
    column_told a z l =
        ap (λ (y : Bool). if y then dense (column_entries q b) a else zero_ℚ) (sym (columns_live b m))
        ∙ sym (coefficient_in_column q a b h.sound.matrix)
        ∙ coefficients a b l m
        ∙ ap (λ (k : ℕ). coefficient_of p (slice_index rows a) k) place_of
        ∙ coefficient_in_column p (slice_index rows a) j s.matrix
        ∙ ap (λ (y : Bool). if y then dense (column_entries p j) (slice_index rows a) else zero_ℚ) on
        ∙ sym (dense-renumbered p.matrix.rows a l (column_at p j).entries)

    gap_same : gap_of (bounds_at q b).semi (bounds_at q b).lower (bounds_at q b).upper ≡ gap_of (bounds_at p j).semi (bounds_at p j).lower (bounds_at p j).upper
    gap_same = sym (ap (λ (y : Bool). gap_if y (bounds_at q b)) (columns_live b m)) ∙ alike.gap b inside
        ∙ ap (shown p).gap place_of ∙ ap (λ (y : Bool). gap_if y (bounds_at p j)) on

    low_same : reach_low (bounds_at q b) ≡ reach_low (bounds_at p j)
    low_same = sym (end_live (column_at q b).live (reach_low (bounds_at q b)) (columns_live b m)) ∙ alike.lower_bound b inside
        ∙ ap (shown p).lower_bound place_of ∙ end_live (column_at p j).live (reach_low (bounds_at p j)) on

    high_same : reach_high (bounds_at q b) ≡ reach_high (bounds_at p j)
    high_same = sym (end_live (column_at q b).live (reach_high (bounds_at q b)) (columns_live b m)) ∙ alike.upper_bound b inside
        ∙ ap (shown p).upper_bound place_of ∙ end_live (column_at p j).live (reach_high (bounds_at p j)) on

    bounds_same : AreBounds (bounds_at q b).semi (bounds_at q b).lower (bounds_at q b).upper (bounds_at p j).semi (bounds_at p j).lower (bounds_at p j).upper
    bounds_same = told_bounds (bounds_at q b).semi (bounds_at q b).lower (bounds_at q b).upper (bounds_at p j).semi (bounds_at p j).lower (bounds_at p j).upper gap_same low_same high_same

    column_stands : ColumnStands (new_ids p) p (offset_set q p.offset) j
    column_stands = record {
      live = columns_live b m;
      entries = same_terms 0 (length rows) (column_entries q b) (renumbered p.matrix.rows (column_at p j).entries)
          (subst (λ (n : ℕ). Ascends 0 n (column_entries q b)) rows_long (column_entries-ascend q b h.sound))
          (ascends-renumbered p.matrix.rows (column_at p j).entries (s.matrix.columns.ascends j)) column_told;
      cost = sym (ap (λ (y : Bool). if y then cost_at q b else zero_ℚ) (columns_live b m)) ∙ alike.costs b inside
          ∙ ap (shown p).costs place_of ∙ ap (λ (y : Bool). if y then cost_at p j else zero_ℚ) on;
      lower = bounds_same.lower;
      upper = bounds_same.upper;
      semi = bounds_same.semi;
      whole = sym (ap (λ (y : Bool). y && (bounds_at q b).whole) (columns_live b m)) ∙ alike.whole b inside
          ∙ ap (shown p).whole place_of ∙ ap (λ (y : Bool). y && (bounds_at p j).whole) on;
    }

  pub written_left : IsLeft p (offset_set q p.offset)
  written_left = let apart : AreOneToOne (new_ids p) p = record { row = ranks_apart p.matrix.rows; column = ranks_apart p.matrix.columns } in
      record { stands = record { apart = apart; row = row_stands; column = column_stands }; rows = rows_long; columns = columns_long; offset = refl }
