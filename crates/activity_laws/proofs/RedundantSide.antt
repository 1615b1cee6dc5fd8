-- K6.
use Rattle.std.proofs.Common.{◌≡◌, ℕ, Bool, true, false, not, ◌&&◌, [], ◌∷◌, Option, Some, None, is_none, refl, sym, ap, subst}
use Rattle.std.proofs.lemmas.Bool.{and_parts}
use Rattle.fractions.specs.Number.{Number, zero_ℚ}
use Rattle.fractions.specs.Ends.{LowBelow, HighAbove}
use Rattle.lp_model.specs.declared.program.Sense.TheVariants.{Min}
use Rattle.lp_model.specs.Edits.{with_sides}
use Rattle.lp_model.specs.Ends.{IsSided}
use Rattle.lp_theory.specs.Activities.{least, greatest}
use Rattle.lp_rows.specs.RedundantSide.{IsRedundantLowerSide, IsRedundantUpperSide, lower_side_dropped, upper_side_dropped}
use Rattle.lp_rows.proofs.RedundantSide.{lower_side_kept, upper_side_kept}
use Rattle.pair_laws.specs.LiftPair.{undone_pair}
use Rattle.pair_laws.proofs.RowPairs.{lower_side_pair, upper_side_pair}
use Rattle.problem_model.specs.declared.edit.Edit.TheVariants.{SetSides}
use Rattle.problem_model.specs.EditedPrograms.{programs_edited}
use Rattle.problem_model.specs.Problems.{row_at, sides_at, IsSparse}
use Rattle.problem_model.specs.Showing.{shown}
use Rattle.problem_model.specs.Sparse.{Sparse}
use Rattle.problem_laws.proofs.AtIds.{row_inside}
use Rattle.rule_words.specs.Owed.{Owes, RuleOwes}
use Rattle.rule_words.proofs.Coefficients.{end_live}
use Rattle.rule_words.proofs.EndTestsSay.{not_true}
use Rattle.rule_words.proofs.Named.{none_on, nothing, one_on, one_sided}
use Rattle.edit_laws.proofs.Reducing.{by_edits, pairs_by_edits}
use Rattle.ray_step_laws.proofs.Records as ray
use Rattle.ray_step_laws.proofs.RaysBack.{rays_by_edits}
use Rattle.row_spans.specs.Spans.{spans_of}
use Rattle.activity_laws.specs.Rows.{has_some, keeps_lower, keeps_upper, on_activities}
use Rattle.activity_laws.specs.RedundantSide.{differ, edits, enabled, has_redundant_side, lower_is_kept, record_of, side_dropped}
use Rattle.activity_laws.proofs.Rows.{high_above, known, low_below, made, said}

-- where the lower side is not kept, the upper one is
other_kept : (a b : Bool) → differ a b ≡ true → a ≡ false → b ≡ true
other_kept true b e f = absurd (not_true (sym f))
other_kept false b e f = e

sided_above : (u : Option Number) → not (is_none u) ≡ true → IsSided None u
sided_above None e = absurd (not_true e)
sided_above (Some x) e = tt

sided_below : (l : Option Number) → not (is_none l) ≡ true → IsSided l None
sided_below None e = absurd (not_true e)
sided_below (Some x) e = tt

module _ (p : Sparse) (i : ℕ) (s : IsSparse p) (live : (row_at p i).live ≡ true) where
  abbrev l : Option Number
  l = (sides_at p i).lower

  abbrev u : Option Number
  u = (sides_at p i).upper

  low_shown : (shown p).lower_side i ≡ l
  low_shown = end_live (row_at p i).live l live

  high_shown : (shown p).upper_side i ≡ u
  high_shown = end_live (row_at p i).live u live

  shows_lower : keeps_lower l (least (shown p) i) ≡ true → IsRedundantLowerSide (shown p) i
  shows_lower e = record { row = row_inside p i live; lower = subst (λ o. LowBelow o (least (shown p) i)) (sym low_shown) (low_below l (least (shown p) i) e) }

  shows_upper : keeps_upper u (greatest (shown p) i) ≡ true → IsRedundantUpperSide (shown p) i
  shows_upper e = record { row = row_inside p i live; upper = subst (λ o. HighAbove o (greatest (shown p) i)) (sym high_shown) (high_above u (greatest (shown p) i) e) }

  lower_goes : programs_edited (shown p) (SetSides i None u ∷ []) ≡ lower_side_dropped (shown p) i
  lower_goes = ap (with_sides (shown p) i None) (sym high_shown)

  upper_goes : programs_edited (shown p) (SetSides i l None ∷ []) ≡ upper_side_dropped (shown p) i
  upper_goes = ap (λ o. with_sides (shown p) i o None) (sym low_shown)

  owes_by : (b : Bool) → not (is_none l) ≡ true → not (is_none u) ≡ true → differ (keeps_lower l (least (shown p) i)) (keeps_upper u (greatest (shown p) i)) ≡ true → keeps_lower l (least (shown p) i) ≡ b
      → Owes p (side_dropped b i l u ∷ []) (record_of p i)
  owes_by true f g d e = record {
    allowed = (live, tt);
    ordered = tt;
    reduces = by_edits p (SetSides i None u ∷ []) (lower_side_dropped (shown p) i) (λ x. x) zero_ℚ s (live, tt) lower_goes nothing (lower_side_kept Min (shown p) i (shows_lower e));
    pairs = λ continuous. pairs_by_edits p (SetSides i None u ∷ []) (lower_side_dropped (shown p) i) (undone_pair (record_of p i)) s (live, tt) lower_goes (lower_side_pair (shown p) i (shows_lower e));
    rays = λ continuous. rays_by_edits p (SetSides i None u ∷ []) (lower_side_dropped (shown p) i) (record_of p i) s (live, tt) lower_goes (ray.redundant_lower false false (shown p) i (row_inside p i live));
    sided = λ numbers h. one_sided (SetSides i None u) (sided_above u g);
    sound = row_inside p i live;
    names = (one_on p.matrix.rows i live, none_on p.matrix.columns);
    deletes = refl;
  }
  owes_by false f g d e = let k = other_kept (keeps_lower l (least (shown p) i)) (keeps_upper u (greatest (shown p) i)) d e in record {
    allowed = (live, tt);
    ordered = tt;
    reduces = by_edits p (SetSides i l None ∷ []) (upper_side_dropped (shown p) i) (λ x. x) zero_ℚ s (live, tt) upper_goes nothing (upper_side_kept Min (shown p) i (shows_upper k));
    pairs = λ continuous. pairs_by_edits p (SetSides i l None ∷ []) (upper_side_dropped (shown p) i) (undone_pair (record_of p i)) s (live, tt) upper_goes (upper_side_pair (shown p) i (shows_upper k));
    rays = λ continuous. rays_by_edits p (SetSides i l None ∷ []) (upper_side_dropped (shown p) i) (record_of p i) s (live, tt) upper_goes (ray.redundant_upper false false (shown p) i (row_inside p i live));
    sided = λ numbers h. one_sided (SetSides i l None) (sided_below l f);
    sound = row_inside p i live;
    names = (one_on p.matrix.rows i live, none_on p.matrix.columns);
    deletes = refl;
  }

pub owes : RuleOwes enabled edits record_of
owes p i s e =
    let r = said has_redundant_side p i e in
    let l : Option Number = (sides_at p i).lower in
    let u : Option Number = (sides_at p i).upper in
    let both : Bool = on_activities (λ a b. differ (keeps_lower l a) (keeps_upper u b)) (spans_of p i) in
    let a = and_parts (has_some (spans_of p i)) (not (is_none l) && (not (is_none u) && both)) r.holds in
    let b = and_parts (not (is_none l)) (not (is_none u) && both) a.1 in
    let c = and_parts (not (is_none u)) both b.1 in
    let k = known p i (λ a b. differ (keeps_lower l a) (keeps_upper u b)) s r.live c.1 in
    owes_by p i s r.live (lower_is_kept l (spans_of p i)) b.0 c.0 k.holds (sym (made p i (λ a b. keeps_lower l a) k.low k.high))
