-- K1.
use Rattle.std.proofs.Common.{◌≡◌, ℕ, Bool, true, false, List, [], ◌∷◌, Option, refl, sym, ap, ◌∙◌, subst}
use Rattle.std.specs.Prelude.{if◌then◌else◌}
use Rattle.fractions.specs.Number.{Number, zero_ℚ}
use Rattle.fractions.specs.Ends.{Between}
use Rattle.lp_model.specs.declared.program.Sense.TheVariants.{Min}
use Rattle.lp_model.specs.declared.terms.Term.{Term}
use Rattle.lp_model.specs.Sparse.{dense}
use Rattle.lp_model.specs.Edits.{without_row}
use Rattle.lp_rows.specs.EmptyRow.{IsEmptyRow}
use Rattle.lp_rows.proofs.EmptyRow.{empty_row}
use Rattle.undo_pairs.specs.LiftPair.{undone_pair}
use Rattle.pair_laws.proofs.RowPairs.{empty_row_pair}
use Rattle.problem_model.specs.declared.edit.Edit.TheVariants.{DeleteRow}
use Rattle.problem_model.specs.declared.part.Contents.TheVariants as holding
use Rattle.problem_model.specs.Problems.{row_at, sides_at, row_entries}
use Rattle.problem_model.specs.Showing.{end_if, shown}
use Rattle.problem_model.specs.Sparse.{Sparse}
use Rattle.problem_laws.proofs.AtIds.{row_inside}
use Rattle.rule_words.specs.Owed.{RuleOwes}
use Rattle.rule_words.proofs.Coefficients.{zero_either, coefficient_in_row}
use Rattle.rule_words.proofs.EndTestsSay.{not_true, zero_held}
use Rattle.rule_words.proofs.Named.{one_on, none_on, one_sided, nothing}
use Rattle.edit_laws.proofs.Reducing.{by_edits, pairs_by_edits}
use Rattle.ray_step_laws.proofs.Records as ray
use Rattle.ray_step_laws.proofs.RaysBack.{rays_by_edits}
use Rattle.singleton_laws.specs.EmptyRow.{is_empty_row, enabled, edits, record_of}

-- what the condition says: a live row without live entries, whose sides hold 0
pub record Said (on : Bool) (ts : List Term) (l u : Option Number) : Type 0 where
  pub live : on ≡ true
  pub none : ts ≡ []
  pub within : Between l u zero_ℚ

says : (on : Bool) (ts : List Term) (l u : Option Number)
    → is_empty_row (if on then holding.Entries ts else holding.Gone) (if on then holding.Sides l u else holding.Gone) ≡ true → Said on ts l u
says true [] l u e = record { live = refl; none = refl; within = zero_held l u e }
says true (t ∷ ts) l u e = absurd (not_true e)
says false ts l u e = absurd (not_true e)

pub said : (p : Sparse) (i : ℕ) → enabled p i ≡ true → Said (row_at p i).live (row_entries p i) (sides_at p i).lower (sides_at p i).upper
said p i = says (row_at p i).live (row_entries p i) (sides_at p i).lower (sides_at p i).upper

shows : (p : Sparse) (i : ℕ) → Said (row_at p i).live (row_entries p i) (sides_at p i).lower (sides_at p i).upper → IsEmptyRow (shown p) i
shows p i h = record {
  row = row_inside p i h.live;
  empty = λ j l. coefficient_in_row p i j ∙ ap (λ (ts : List Term). if (row_at p i).live then dense ts j else zero_ℚ) h.none ∙ zero_either (row_at p i).live;
  within = subst (λ (on : Bool). Between (end_if on (sides_at p i).lower) (end_if on (sides_at p i).upper) zero_ℚ) (sym h.live) h.within;
}

pub owes : RuleOwes enabled edits record_of
owes p i s e = let h = said p i e in record {
  allowed = (h.live, tt);
  ordered = tt;
  reduces = by_edits p (edits p i) (without_row (shown p) i) (λ x. x) zero_ℚ s (h.live, tt) refl nothing (empty_row Min (shown p) i (shows p i h));
  pairs = λ continuous. pairs_by_edits p (edits p i) (without_row (shown p) i) (undone_pair (record_of p i)) s (h.live, tt) refl (empty_row_pair (shown p) i (shows p i h));
  rays = λ continuous. rays_by_edits p (edits p i) (without_row (shown p) i) (record_of p i) s (h.live, tt) refl (ray.empty_row false false (shown p) i (row_inside p i h.live));
  sided = λ numbers w. one_sided (DeleteRow i) tt;
  sound = row_inside p i h.live;
  names = (one_on p.matrix.rows i h.live, none_on p.matrix.columns);
  deletes = refl;
}
