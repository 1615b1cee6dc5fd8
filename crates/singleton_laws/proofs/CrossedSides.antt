-- V1 of rows.
use Rattle.std.proofs.Common.{◌≡◌, ℕ, Bool, true, false, Option, refl, sym, subst}
use Rattle.std.specs.Prelude.{if◌then◌else◌}
use Rattle.fractions.specs.Number.{Number}
use Rattle.lp_model.specs.Verdicts.{NoPoint}
use Rattle.lp_theory.specs.Crossed.{AreCrossed}
use Rattle.lp_rows.proofs.CrossedSides.{crossed_row}
use Rattle.problem_model.specs.declared.part.Contents.TheVariants as holding
use Rattle.problem_model.specs.Problems.{row_at, sides_at}
use Rattle.problem_model.specs.Showing.{end_if, shown}
use Rattle.problem_model.specs.Sparse.{Sparse}
use Rattle.problem_laws.proofs.AtIds.{row_inside}
use Rattle.rule_words.specs.Owed.{RuleDecides}
use Rattle.rule_words.proofs.EndTestsSay.{not_true, crossed_ends}
use Rattle.singleton_laws.specs.CrossedSides.{are_crossed, enabled}

-- what the condition says: a live row with crossed sides
pub record Said (on : Bool) (l u : Option Number) : Type 0 where
  pub live : on ≡ true
  pub ends : AreCrossed l u

says : (on : Bool) (l u : Option Number) → are_crossed (if on then holding.Sides l u else holding.Gone) ≡ true → Said on l u
says true l u e = record { live = refl; ends = crossed_ends l u e }
says false l u e = absurd (not_true e)

pub said : (p : Sparse) (i : ℕ) → enabled p i ≡ true → Said (row_at p i).live (sides_at p i).lower (sides_at p i).upper
said p i = says (row_at p i).live (sides_at p i).lower (sides_at p i).upper

shown_crossed : (on : Bool) (l u : Option Number) → Said on l u → AreCrossed (end_if on l) (end_if on u)
shown_crossed on l u c = subst (λ (b : Bool). AreCrossed (end_if b l) (end_if b u)) (sym c.live) c.ends

pub decides : RuleDecides enabled NoPoint
decides p i s e = let c = said p i e in
    crossed_row (shown p) i (record { row = row_inside p i c.live; crossed = shown_crossed (row_at p i).live (sides_at p i).lower (sides_at p i).upper c })
