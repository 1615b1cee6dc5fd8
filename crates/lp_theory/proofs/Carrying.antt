-- The optimality conditions of the sense Min, one by one, with reduced costs as an undoing carries them.
use Rattle.std.proofs.Common.{◌≡◌, ℕ, ◌<◌, sym, subst, Some, ◌∙◌}
use Rattle.fractions.specs.Number.{zero_ℚ}
use Rattle.fractions.specs.Order.{◌<ℚ◌}
use Rattle.lp_model.specs.declared.program.Sense.TheVariants.{Min}
use Rattle.lp_model.specs.Vectors.{Vector}
use Rattle.lp_model.specs.LinearProgram.{LinearProgram, value_at, Feasible}
use Rattle.lp_model.specs.Optimality.{Continuous, reduced_cost, Meets}
use Rattle.lp_model.specs.Reductions.{Priced, IsPriced, ReducesPairs}

pub record Carries (M : LinearProgram) (p : Priced) : Type 0 where
  pub continuous : Continuous M
  pub feasible : Feasible M p.x
  pub left : (j : ℕ) → j < M.columns → p.z j ≡ reduced_cost M p.y j
  pub pays_low : (i : ℕ) → i < M.rows → zero_ℚ <ℚ p.y i → M.lower_side i ≡ Some (value_at M i p.x)
  pub pays_high : (i : ℕ) → i < M.rows → p.y i <ℚ zero_ℚ → M.upper_side i ≡ Some (value_at M i p.x)
  pub at_low : (j : ℕ) → j < M.columns → zero_ℚ <ℚ p.z j → M.lower_bound j ≡ Some (p.x j)
  pub at_high : (j : ℕ) → j < M.columns → p.z j <ℚ zero_ℚ → M.upper_bound j ≡ Some (p.x j)

pub carries_of : (M : LinearProgram) (p : Priced) → IsPriced M p → Meets Min M p.x p.y → Carries M p
carries_of M p i m = record {
  continuous = m.continuous;
  feasible = m.feasible;
  left = i;
  pays_low = λ k l. (m.rows k l).0;
  pays_high = λ k l. (m.rows k l).1;
  at_low = λ j l h. (m.columns j l).0 (subst (λ c. zero_ℚ <ℚ c) (i j l) h);
  at_high = λ j l h. (m.columns j l).1 (subst (λ c. c <ℚ zero_ℚ) (i j l) h);
}

pub meets_of : (M : LinearProgram) (p : Priced) → Carries M p → Meets Min M p.x p.y
meets_of M p c = record {
  continuous = c.continuous;
  feasible = c.feasible;
  rows = λ i l. (c.pays_low i l, c.pays_high i l);
  columns = λ j l. ((λ h. c.at_low j l (subst (λ z. zero_ℚ <ℚ z) (sym (c.left j l)) h)), λ h. c.at_high j l (subst (λ z. z <ℚ zero_ℚ) (sym (c.left j l)) h));
}

-- what carries the conditions of R lifts to what carries those of M
pub record PairsReduce (M R : LinearProgram) (lift : Priced → Priced) : Type 0 where
  pub carries : (p : Priced) → Carries R p → Carries M (lift p)

pub pairs_of : (M R : LinearProgram) (lift : Priced → Priced) → PairsReduce M R lift → ReducesPairs Min M R lift
pairs_of M R lift a = record {
  priced = λ p i m. (a.carries p (carries_of R p i m)).left;
  meets = λ p i m. meets_of M (lift p) (a.carries p (carries_of R p i m));
}

-- reduced costs of ids past the last do not matter
pub carries_same_z : (M : LinearProgram) (x y z w : Vector) → ((j : ℕ) → j < M.columns → w j ≡ z j) → Carries M (record { x = x; y = y; z = z }) → Carries M (record { x = x; y = y; z = w })
carries_same_z M x y z w e c = record {
  continuous = c.continuous;
  feasible = c.feasible;
  left = λ j l. e j l ∙ c.left j l;
  pays_low = c.pays_low;
  pays_high = c.pays_high;
  at_low = λ j l h. c.at_low j l (subst (λ a. zero_ℚ <ℚ a) (e j l) h);
  at_high = λ j l h. c.at_high j l (subst (λ a. a <ℚ zero_ℚ) (e j l) h);
}
