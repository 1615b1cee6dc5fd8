-- K5.
use Rattle.std.proofs.Common.{ℕ, false, Option, refl, sym, subst, ◌&&◌}
use Rattle.std.proofs.lemmas.Bool.{and_parts}
use Rattle.fractions.specs.Number.{Number, zero_ℚ}
use Rattle.fractions.specs.Ends.{LowBelow, HighAbove}
use Rattle.lp_model.specs.declared.program.Sense.TheVariants.{Min}
use Rattle.lp_model.specs.Edits.{without_row}
use Rattle.lp_theory.specs.Activities.{least, greatest}
use Rattle.lp_rows.specs.RedundantRow.{IsRedundantRow}
use Rattle.lp_rows.proofs.RedundantRow.{row_kept}
use Rattle.pair_laws.specs.LiftPair.{undone_pair}
use Rattle.pair_laws.proofs.RowPairs.{redundant_row_pair}
use Rattle.problem_model.specs.declared.edit.Edit.TheVariants.{DeleteRow}
use Rattle.problem_model.specs.Problems.{row_at, sides_at, IsSparse}
use Rattle.problem_model.specs.Showing.{shown}
use Rattle.problem_model.specs.Sparse.{Sparse}
use Rattle.problem_laws.proofs.AtIds.{row_inside}
use Rattle.rule_words.specs.Owed.{RuleOwes}
use Rattle.rule_words.proofs.Coefficients.{end_live}
use Rattle.rule_words.proofs.Named.{none_on, nothing, one_on, one_sided}
use Rattle.edit_laws.proofs.Reducing.{by_edits, pairs_by_edits}
use Rattle.ray_step_laws.proofs.Records as ray
use Rattle.ray_step_laws.proofs.RaysBack.{rays_by_edits}
use Rattle.row_spans.specs.Spans.{spans_of}
use Rattle.activity_laws.specs.Rows.{has_some, keeps_lower, keeps_upper, on_activities}
use Rattle.activity_laws.specs.RedundantRow.{edits, enabled, is_redundant_row, record_of}
use Rattle.activity_laws.proofs.Rows.{high_above, known, low_below, said, Said}

abbrev pub SaidAt : Sparse → ℕ → Type 0
SaidAt p i = Said (row_at p i).live (sides_at p i).lower (sides_at p i).upper (spans_of p i) is_redundant_row

shows : (p : Sparse) (i : ℕ) → IsSparse p → SaidAt p i → IsRedundantRow (shown p) i
shows p i s r =
    let l : Option Number = (sides_at p i).lower in
    let u : Option Number = (sides_at p i).upper in
    let k = known p i (λ a b. keeps_lower l a && keeps_upper u b) s r.live (and_parts (has_some (spans_of p i)) (on_activities (λ a b. keeps_lower l a && keeps_upper u b) (spans_of p i)) r.holds).1 in
    let h = and_parts (keeps_lower l (least (shown p) i)) (keeps_upper u (greatest (shown p) i)) k.holds in
    record {
      row = row_inside p i r.live;
      lower = subst (λ o. LowBelow o (least (shown p) i)) (sym (end_live (row_at p i).live l r.live)) (low_below l (least (shown p) i) h.0);
      upper = subst (λ o. HighAbove o (greatest (shown p) i)) (sym (end_live (row_at p i).live u r.live)) (high_above u (greatest (shown p) i) h.1);
    }

pub owes : RuleOwes enabled edits record_of
owes p i s e = let r = said is_redundant_row p i e in record {
  allowed = (r.live, tt);
  ordered = tt;
  reduces = by_edits p (edits p i) (without_row (shown p) i) (λ x. x) zero_ℚ s (r.live, tt) refl nothing (row_kept Min (shown p) i (shows p i s r));
  pairs = λ continuous. pairs_by_edits p (edits p i) (without_row (shown p) i) (undone_pair (record_of p i)) s (r.live, tt) refl (redundant_row_pair (shown p) i (shows p i s r));
  rays = λ continuous. rays_by_edits p (edits p i) (without_row (shown p) i) (record_of p i) s (r.live, tt) refl (ray.redundant_row false false (shown p) i (row_inside p i r.live));
  sided = λ numbers h. one_sided (DeleteRow i) tt;
  sound = row_inside p i r.live;
  names = (one_on p.matrix.rows i r.live, none_on p.matrix.columns);
  deletes = refl;
}
