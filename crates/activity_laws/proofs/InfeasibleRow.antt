-- V2.
use Rattle.std.proofs.Common.{◌≡◌, ◌⊎◌, inl, inr, ℕ, Bool, true, false, ◌||◌, Option, refl, sym, subst}
use Rattle.fractions.specs.Number.{Number}
use Rattle.lp_model.specs.EndTests.{is_crossed}
use Rattle.lp_model.specs.Verdicts.{NoPoint}
use Rattle.lp_theory.specs.Activities.{least, greatest}
use Rattle.lp_theory.specs.Crossed.{AreCrossed}
use Rattle.lp_rows.proofs.InfeasibleRow.{above_upper_side, below_lower_side}
use Rattle.problem_model.specs.Problems.{row_at, sides_at}
use Rattle.problem_model.specs.Showing.{shown}
use Rattle.problem_model.specs.Sparse.{Sparse}
use Rattle.problem_laws.proofs.AtIds.{row_inside}
use Rattle.rule_words.specs.Owed.{RuleDecides}
use Rattle.rule_words.proofs.Coefficients.{end_live}
use Rattle.rule_words.proofs.EndTestsSay.{crossed_ends}
use Rattle.activity_laws.specs.InfeasibleRow.{enabled, is_infeasible_row}
use Rattle.activity_laws.proofs.Rows.{known, said}

either : (a b : Bool) → (a || b) ≡ true → (a ≡ true) ⊎ (b ≡ true)
either true b e = inl refl
either false b e = inr e

module _ (p : Sparse) (i : ℕ) (live : (row_at p i).live ≡ true) where
  abbrev l : Option Number
  l = (sides_at p i).lower

  abbrev u : Option Number
  u = (sides_at p i).upper

  no_point : (is_crossed (least (shown p) i) u ≡ true) ⊎ (is_crossed l (greatest (shown p) i) ≡ true) → NoPoint (shown p)
  no_point (inl e) = above_upper_side (shown p) i (record {
    row = row_inside p i live;
    above = subst (AreCrossed (least (shown p) i)) (sym (end_live (row_at p i).live u live)) (crossed_ends (least (shown p) i) u e);
  })
  no_point (inr e) = below_lower_side (shown p) i (record {
    row = row_inside p i live;
    below = subst (λ o. AreCrossed o (greatest (shown p) i)) (sym (end_live (row_at p i).live l live)) (crossed_ends l (greatest (shown p) i) e);
  })

pub decides : RuleDecides enabled NoPoint
decides p i s e =
    let r = said is_infeasible_row p i e in
    let l : Option Number = (sides_at p i).lower in
    let u : Option Number = (sides_at p i).upper in
    let k = known p i (λ a b. is_crossed a u || is_crossed l b) s r.live r.holds in
    no_point p i r.live (either (is_crossed (least (shown p) i) u) (is_crossed l (greatest (shown p) i)) k.holds)
