-- K9 at new ids: its condition looks at one id, that of its column, and what it makes of a row at none.
use Rattle.std.proofs.Common.{◌≡◌, ◌↔◌, ℕ, true, ◌&&◌, List, [], ◌∷◌, ◌++◌, map, Option, Some, None, is_some, option_map, refl, sym, ap, ◌∙◌}
use Rattle.std.specs.List.{All}
use Rattle.fractions.specs.Number.{Number}
use Rattle.lp_model.specs.EndTests.{is_in_order}
use Rattle.undo_records.specs.declared.side.Side.{Side}
use Rattle.undo_records.specs.declared.side.Side.TheVariants.{Lower, Upper}
use Rattle.problem_model.specs.declared.edit.Edit.{Edit}
use Rattle.problem_model.specs.declared.edit.Edit.TheVariants.{SetEntry}
use Rattle.problem_model.specs.declared.part.Part.TheVariants.{Bounds}
use Rattle.problem_model.specs.Problems.{column_at, row_at, sides_at}
use Rattle.problem_model.specs.Sparse.{Sparse}
use Rattle.row_spans.specs.declared.span.Span.{Span}
use Rattle.row_spans.specs.RowSums.{rest}
use Rattle.row_spans.specs.Spans.{spans_of}
use Rattle.activity_laws.specs.Rows.{RowTest, all_in_order, heads, row_found}
use Rattle.activity_laws.specs.BoundTightening.{entry_at}
use Rattle.activity_laws.proofs.Rows.{tested}
use Rattle.coef_laws.specs.declared.tightening.Tightening.{Tightening}
use Rattle.coef_laws.specs.CoefficientTightening as coefficient
use Rattle.coef_laws.proofs.Changing.{column_live, row_live}
use Rattle.written_ids.specs.NewIds.{Ids}
use Rattle.written_ids.specs.Standing.{AreOneToOne, LinesStand}
use Rattle.written_ids.proofs.Lists.{both_by}
use Rattle.written_ids.proofs.NewIds.{contents_at, edit_at}
use Rattle.written_ids.proofs.Standing.{AreThere}
use Rattle.written_ids.proofs.Spans.{NamesAlike, on_row_at, rest_by, span_by, spans_by, spans_stand, test_by}
use Rattle.written_rules.proofs.Activities.{bound_there, entry_by, spans_alike}

-- ---- how a row is tightened
module _ (f : ℕ → ℕ) (j : ℕ) (ss : List Span) (h : All (NamesAlike f j) ss) where
  tightened_in_by : (side : Side) (b : Number) → coefficient.tightened_in side b (f j) (spans_by f ss) ≡ coefficient.tightened_in side b j ss
  tightened_in_by side b =
      let e = entry_by f j ss h ss h in
      let r = rest_by f (coefficient.extreme_of side) j ss h in
      (λ t. coefficient.given (e t) (λ s. coefficient.tightened_at side b s (r t)))
      ∙ step (entry_at j ss)
    where
      step : (o : Option Span) → coefficient.given (option_map (span_by f) o) (λ s. coefficient.tightened_at side b s (rest (coefficient.extreme_of side) j ss))
          ≡ coefficient.given o (λ s. coefficient.tightened_at side b s (rest (coefficient.extreme_of side) j ss))
      step None = refl
      step (Some s) = refl

  tightening_by : (l u : Option Number) → coefficient.tightening (f j) l u (spans_by f ss) ≡ coefficient.tightening j l u ss
  tightening_by l u = λ t. coefficient.given (coefficient.one_side l u) (λ side. tightened_in_by side.0 side.1 t)

-- ---- its condition
pub coefficient_alike : (n : Ids) (p : Sparse) → AreOneToOne n p → (i j : ℕ) → (column_at p j).live ≡ true
    → coefficient.holds (n.column j) (map (contents_at n) (row_found p i)) ≡ coefficient.holds j (row_found p i)
coefficient_alike n p o i j on =
    let new : RowTest = coefficient.is_coefficient_tightening (n.column j) in
    let old : RowTest = coefficient.is_coefficient_tightening j in
    let l : Option Number = (sides_at p i).lower in
    let u : Option Number = (sides_at p i).upper in
    let ss : List Span = spans_of p i in
    on_row_at n new (row_found p i)
    ∙ tested (test_by n.column new) p i
    ∙ ap (λ (x : Option Tightening). (row_at p i).live && (is_in_order l u && (all_in_order ss && is_some x))) (tightening_by n.column j ss (spans_alike n p o i j on) l u)
    ∙ sym (tested old p i)

-- where it is enabled, the row is live, and so is the column
pub coefficient_there : (p : Sparse) (i j : ℕ) → coefficient.enabled p i j ≡ true → AreThere p (heads i ++ Bounds j ∷ [])
coefficient_there p i j e = bound_there p i j (row_live p i j e) (column_live p i j e)

-- ---- its edits, and the numbers that it computes
set_at : (n : Ids) (i : ℕ) (side : Side) (b : Number) → coefficient.side_set side (n.row i) b ≡ edit_at n (coefficient.side_set side i b)
set_at n i Lower b = refl
set_at n i Upper b = refl

edits_at : (n : Ids) (i j : ℕ) (o : Option Tightening) → coefficient.edits_by (n.row i) (n.column j) o ≡ map (edit_at n) (coefficient.edits_by i j o)
edits_at n i j None = refl
edits_at n i j (Some t) = ap (λ (e : Edit). SetEntry (n.row i) (n.column j) (coefficient.turned t.side (coefficient.new_coefficient t)) ∷ e ∷ []) (set_at n i t.side (coefficient.turned t.side (coefficient.new_limit t)))

module _ (n : Ids) (p q : Sparse) (s : LinesStand n p q) (i j : ℕ) (on : (row_at p i).live ≡ true) (named : (column_at p j).live ≡ true) where
  tightening_stands : coefficient.tightening_of q (n.row i) (n.column j) ≡ coefficient.tightening_of p i j
  tightening_stands = let r = s.row i on in let spans = spans_stand n p q s i on in
      (λ t. coefficient.tightening (n.column j) (r.lower t) (r.upper t) (spans t))
      ∙ tightening_by n.column j (spans_of p i) (spans_alike n p s.apart i j named) (sides_at p i).lower (sides_at p i).upper

  pub coefficient_edits : coefficient.edits q (n.row i) (n.column j) ≡ map (edit_at n) (coefficient.edits p i j)
  coefficient_edits = ap (coefficient.edits_by (n.row i) (n.column j)) tightening_stands ∙ edits_at n i j (coefficient.tightening_of p i j)

  pub coefficient_computes : coefficient.Computes p i j ↔ coefficient.Computes q (n.row i) (n.column j)
  coefficient_computes = both_by coefficient.ComputedBy (coefficient.tightening_of p i j) (coefficient.tightening_of q (n.row i) (n.column j)) (sym tightening_stands)
