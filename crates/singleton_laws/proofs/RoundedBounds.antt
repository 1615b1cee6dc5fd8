-- K4.
use Rattle.std.proofs.Common.{◌≡◌, ℕ, Bool, true, false, ◌&&◌, List, [], ◌∷◌, Option, refl, sym, ap, ap₂, ◌∙◌, true≢false}
use Rattle.std.specs.Prelude.{if◌then◌else◌}
use Rattle.fractions.specs.Number.{Number, zero_ℚ}
use Rattle.lp_model.specs.declared.program.Sense.TheVariants.{Min}
use Rattle.lp_model.specs.Edits.{with_bounds}
use Rattle.lp_columns.specs.RoundedBounds.{IsWholeColumn, rounded_up, rounded_down, bounds_rounded}
use Rattle.lp_columns.proofs.RoundedBounds.{bounds_rounded_reduce}
use Rattle.undo_pairs.specs.LiftPair.{undone_pair}
use Rattle.pair_laws.proofs.ColumnPairs.{rounded_bounds_pair}
use Rattle.problem_model.specs.declared.edit.Edit.{Edit}
use Rattle.problem_model.specs.declared.edit.Edit.TheVariants.{SetBounds}
use Rattle.problem_model.specs.declared.part.Contents.{Contents}
use Rattle.problem_model.specs.declared.part.Contents.TheVariants as holding
use Rattle.problem_model.specs.declared.part.Part.TheVariants as part
use Rattle.problem_model.specs.EditedPrograms.{programs_edited}
use Rattle.problem_model.specs.Parts.{bounds_held, contents_of}
use Rattle.problem_model.specs.Problems.{column_at, bounds_at}
use Rattle.problem_model.specs.Showing.{end_if, shown, reach_low, reach_high}
use Rattle.problem_model.specs.Sparse.{Sparse}
use Rattle.problem_laws.proofs.AtIds.{column_inside}
use Rattle.rule_words.specs.Owed.{RuleOwes}
use Rattle.rule_words.proofs.EndTestsSay.{not_true}
use Rattle.rule_words.proofs.Named.{one_on, none_on, one_sided, nothing}
use Rattle.edit_laws.proofs.Reducing.{by_edits, pairs_by_edits}
use Rattle.singleton_laws.specs.RoundedBounds.{is_to_be_rounded, enabled, edits, record_of}
use Rattle.rule_words.proofs.Solid.{low_solid, high_solid}

-- what the condition says: a live column that must be whole
pub record Said (on semi w : Bool) : Type 0 where
  pub live : on ≡ true
  pub solid : semi ≡ false
  pub whole : w ≡ true

says : (on semi : Bool) (l u : Option Number) (w : Bool) → is_to_be_rounded (if on then bounds_held semi l u w else holding.Gone) ≡ true → Said on semi w
says true true l u w e = absurd (not_true e)
says true false l u true e = record { live = refl; solid = refl; whole = refl }
says true false l u false e = absurd (not_true e)
says false semi l u w e = absurd (not_true e)

pub said : (p : Sparse) (j : ℕ) → enabled p j ≡ true → Said (column_at p j).live (bounds_at p j).semi (bounds_at p j).whole
said p j = says (column_at p j).live (bounds_at p j).semi (bounds_at p j).lower (bounds_at p j).upper (bounds_at p j).whole

rounded : (p : Sparse) (j : ℕ) → (column_at p j).live ≡ true → (bounds_at p j).semi ≡ false → programs_edited (shown p) (edits p j) ≡ bounds_rounded (shown p) j
rounded p j live solid = ap₂ (λ (l u : Option Number). with_bounds (shown p) j (rounded_up l) (rounded_down u)) (sym (low_solid (bounds_at p j) solid)) (sym (high_solid (bounds_at p j) solid))
    ∙ ap (λ (on : Bool). with_bounds (shown p) j (rounded_up (end_if on (reach_low (bounds_at p j)))) (rounded_down (end_if on (reach_high (bounds_at p j))))) (sym live)

shows : (p : Sparse) (j : ℕ) → Said (column_at p j).live (bounds_at p j).semi (bounds_at p j).whole → IsWholeColumn (shown p) j
shows p j b = record { column = column_inside p j b.live; whole = ap₂ (λ (x y : Bool). x && y) b.live b.whole }

pub owes : RuleOwes enabled edits record_of
owes p j s e = let b = said p j e in record {
  allowed = ((b.live, b.solid), tt);
  ordered = tt;
  reduces = by_edits p (edits p j) (bounds_rounded (shown p) j) (λ x. x) zero_ℚ s ((b.live, b.solid), tt) (rounded p j b.live b.solid) nothing (bounds_rounded_reduce Min (shown p) j (shows p j b));
  pairs = λ continuous. pairs_by_edits p (edits p j) (bounds_rounded (shown p) j) (undone_pair (record_of p j)) s ((b.live, b.solid), tt) (rounded p j b.live b.solid) (rounded_bounds_pair (shown p) j (shows p j b));
  rays = λ continuous. absurd (true≢false (sym (shows p j b).whole ∙ (continuous j (column_inside p j b.live)).0));
  sided = λ numbers w. one_sided (SetBounds j (rounded_up (bounds_at p j).lower) (rounded_down (bounds_at p j).upper)) tt;
  sound = column_inside p j b.live;
  names = (none_on p.matrix.rows, one_on p.matrix.columns j b.live);
  deletes = refl;
}

-- ---- its edits are those of what the bounds hold, so where these hold the same its edits are the same
abbrev edits_of : ℕ → Contents → List Edit
edits_of j (holding.Bounds l u w) = SetBounds j (rounded_up l) (rounded_down u) ∷ []
edits_of j other = []

edits_told : (p : Sparse) (j : ℕ) → (column_at p j).live ≡ true → (bounds_at p j).semi ≡ false → edits_of j (contents_of p (part.Bounds j)) ≡ edits p j
edits_told p j live solid = ap₂ (λ (on semi : Bool). edits_of j (if on then bounds_held semi (bounds_at p j).lower (bounds_at p j).upper (bounds_at p j).whole else holding.Gone)) live solid

pub edits_same : (p q : Sparse) (j : ℕ) → enabled p j ≡ true → contents_of q (part.Bounds j) ≡ contents_of p (part.Bounds j) → edits q j ≡ edits p j
edits_same p q j e h =
    let there : enabled q j ≡ true = ap is_to_be_rounded h ∙ e in
    sym (edits_told q j (said q j there).live (said q j there).solid) ∙ ap (edits_of j) h ∙ edits_told p j (said p j e).live (said p j e).solid
