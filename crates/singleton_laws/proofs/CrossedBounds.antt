-- V1 of columns.
use Rattle.std.proofs.Common.{◌≡◌, ℕ, Bool, true, false, Option, refl, sym, subst}
use Rattle.std.specs.Prelude.{if◌then◌else◌}
use Rattle.fractions.specs.Number.{Number}
use Rattle.lp_model.specs.Verdicts.{NoPoint}
use Rattle.lp_theory.specs.Crossed.{AreCrossed}
use Rattle.lp_columns.proofs.CrossedBounds.{crossed_column}
use Rattle.problem_model.specs.declared.part.Contents.TheVariants as holding
use Rattle.problem_model.specs.Problems.{column_at, bounds_at}
use Rattle.problem_model.specs.Showing.{end_if, shown}
use Rattle.problem_model.specs.Sparse.{Sparse}
use Rattle.problem_laws.proofs.AtIds.{column_inside}
use Rattle.rule_words.specs.Owed.{RuleDecides}
use Rattle.rule_words.proofs.EndTestsSay.{not_true, crossed_ends}
use Rattle.singleton_laws.specs.CrossedBounds.{are_crossed, enabled}
use Rattle.problem_model.specs.Parts.{bounds_held}
use Rattle.lp_model.specs.Gaps.{reach_lower, reach_upper}

-- what the condition says: a live column with crossed bounds
pub record Said (on semi : Bool) (l u : Option Number) : Type 0 where
  pub live : on ≡ true
  pub solid : semi ≡ false
  pub ends : AreCrossed l u

says : (on semi : Bool) (l u : Option Number) (w : Bool) → are_crossed (if on then bounds_held semi l u w else holding.Gone) ≡ true → Said on semi l u
says true true l u w e = absurd (not_true e)
says true false l u w e = record { live = refl; solid = refl; ends = crossed_ends l u e }
says false semi l u w e = absurd (not_true e)

pub said : (p : Sparse) (j : ℕ) → enabled p j ≡ true → Said (column_at p j).live (bounds_at p j).semi (bounds_at p j).lower (bounds_at p j).upper
said p j = says (column_at p j).live (bounds_at p j).semi (bounds_at p j).lower (bounds_at p j).upper (bounds_at p j).whole

shown_crossed : (on semi : Bool) (l u : Option Number) → Said on semi l u → AreCrossed (end_if on (reach_lower semi l u)) (end_if on (reach_upper semi l u))
shown_crossed on semi l u c = subst (λ (t : Bool). AreCrossed (end_if on (reach_lower t l u)) (end_if on (reach_upper t l u))) (sym c.solid) (subst (λ (b : Bool). AreCrossed (end_if b l) (end_if b u)) (sym c.live) c.ends)

pub decides : RuleDecides enabled NoPoint
decides p j s e = let c = said p j e in
    crossed_column (shown p) j (record { column = column_inside p j c.live; crossed = shown_crossed (column_at p j).live (bounds_at p j).semi (bounds_at p j).lower (bounds_at p j).upper c })
