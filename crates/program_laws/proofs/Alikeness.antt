-- Programs that are alike have the same points at the same costs, and the same pairs.
use Rattle.std.proofs.Common.{◌≡◌, ℕ, ◌<◌, Bool, IsTrue, sym, refl, ap, ap₂, ◌∙◌, subst, arith, Option}
use Rattle.fractions.specs.Number.{Number, zero_ℚ, ◌+ℚ◌, ◌-ℚ◌, ◌*ℚ◌}
use Rattle.fractions.specs.Ends.{Between}
use Rattle.fractions.specs.Total.{total}
use Rattle.fractions.proofs.Totals.{total_same}
use Rattle.lp_model.specs.declared.program.Sense.{Sense}
use Rattle.lp_model.specs.Vectors.{Vector}
use Rattle.lp_model.specs.LinearProgram.{LinearProgram, value_at, cost_at, Feasible}
use Rattle.lp_model.specs.Optimality.{reduced_cost, Meets}
use Rattle.lp_model.specs.Reductions.{Reduces, ReducesPairs}
use Rattle.lp_model.specs.Senses.{Sits}
use Rattle.lp_theory.proofs.Steps.{same_points}
use Rattle.program_laws.specs.Alike.{AreAlike}
use Rattle.lp_model.specs.Gaps.{Gap, Clears}

pub alike_back : (M R : LinearProgram) → AreAlike M R → AreAlike R M
alike_back M R h = record {
  rows = sym h.rows;
  columns = sym h.columns;
  coefficient = λ i j l m. sym (h.coefficient i j (omega (arith, l, h.rows)) (omega (arith, m, h.columns)));
  lower_side = λ i l. sym (h.lower_side i (omega (arith, l, h.rows)));
  upper_side = λ i l. sym (h.upper_side i (omega (arith, l, h.rows)));
  lower_bound = λ j l. sym (h.lower_bound j (omega (arith, l, h.columns)));
  upper_bound = λ j l. sym (h.upper_bound j (omega (arith, l, h.columns)));
  whole = λ j l. sym (h.whole j (omega (arith, l, h.columns)));
  gap = λ j l. sym (h.gap j (omega (arith, l, h.columns)));
  costs = λ j l. sym (h.costs j (omega (arith, l, h.columns)));
  constant = sym h.constant;
}

same_between : {l m u w : Option Number} {v x : Number} → l ≡ m → u ≡ w → v ≡ x → Between l u v → Between m w x
same_between {l} {m} {u} {w} {v} {x} e f g b = subst (λ (a : Number). Between m w a) g (subst (λ (o : Option Number). Between m o v) f (subst (λ (o : Option Number). Between o u v) e b))

module _ (M R : LinearProgram) (h : AreAlike M R) where
  cost_same : (x : Vector) → cost_at M x ≡ cost_at R x
  cost_same x = ap₂ ◌+ℚ◌
      (total_same M.columns (λ j. M.costs j *ℚ x j) (λ j. R.costs j *ℚ x j) (λ j l. ap (λ (c : Number). c *ℚ x j) (h.costs j l)) ∙ ap (λ (n : ℕ). total n (λ j. R.costs j *ℚ x j)) h.columns)
      h.constant

  value_same : (i : ℕ) (x : Vector) → i < M.rows → value_at M i x ≡ value_at R i x
  value_same i x l =
      total_same M.columns (λ j. M.coefficient i j *ℚ x j) (λ j. R.coefficient i j *ℚ x j) (λ j m. ap (λ (c : Number). c *ℚ x j) (h.coefficient i j l m))
      ∙ ap (λ (n : ℕ). total n (λ j. R.coefficient i j *ℚ x j)) h.columns

  pub feasible_alike : (x : Vector) → Feasible M x → Feasible R x
  feasible_alike x f = record {
    rows = λ i l. let m : i < M.rows = omega (arith, l, h.rows) in same_between (h.lower_side i m) (h.upper_side i m) (value_same i x m) (f.rows i m);
    columns = λ j l. let m : j < M.columns = omega (arith, l, h.columns) in same_between (h.lower_bound j m) (h.upper_bound j m) refl (f.columns j m);
    whole = λ j l w. let m : j < M.columns = omega (arith, l, h.columns) in f.whole j m (subst (λ (b : Bool). IsTrue b) (sym (h.whole j m)) w);
    gaps = λ j l. let m : j < M.columns = omega (arith, l, h.columns) in subst (λ (o : Option Gap). Clears o (x j)) (h.gap j m) (f.gaps j m);
  }

pub alike_reduces : (d : Sense) (M R : LinearProgram) → AreAlike M R → Reduces d M R (λ x. x) zero_ℚ
alike_reduces d M R h = same_points d M R (cost_same M R h) (feasible_alike R M (alike_back M R h)) (feasible_alike M R h)

-- ---- pairs
same_sits : (d : Sense) (l m u w : Option Number) (v x a b : Number) → l ≡ m → u ≡ w → v ≡ x → a ≡ b → Sits d l u v a → Sits d m w x b
same_sits d l m u w v x a b e f g k s = rw (sym e, sym f, sym g, sym k) s

module _ (d : Sense) (M R : LinearProgram) (h : AreAlike M R) where
  price_same : (y : Vector) (j : ℕ) → j < M.columns → reduced_cost M y j ≡ reduced_cost R y j
  price_same y j l = ap₂ ◌-ℚ◌ (h.costs j l)
      (total_same M.rows (λ i. y i *ℚ M.coefficient i j) (λ i. y i *ℚ R.coefficient i j) (λ i m. ap (λ (c : Number). y i *ℚ c) (h.coefficient i j m l))
      ∙ ap (λ (n : ℕ). total n (λ i. y i *ℚ R.coefficient i j)) h.rows)

  meets_alike : (x y : Vector) → Meets d M x y → Meets d R x y
  meets_alike x y meets = record {
    continuous = λ j l. let m : j < M.columns = omega (arith, l, h.columns) in (sym (h.whole j m) ∙ (meets.continuous j m).0, sym (h.gap j m) ∙ (meets.continuous j m).1);
    feasible = feasible_alike M R h x meets.feasible;
    rows = λ i l. let m : i < M.rows = omega (arith, l, h.rows) in
        same_sits d (M.lower_side i) (R.lower_side i) (M.upper_side i) (R.upper_side i) (value_at M i x) (value_at R i x) (y i) (y i)
        (h.lower_side i m) (h.upper_side i m) (value_same M R h i x m) refl (meets.rows i m);
    columns = λ j l. let m : j < M.columns = omega (arith, l, h.columns) in
        same_sits d (M.lower_bound j) (R.lower_bound j) (M.upper_bound j) (R.upper_bound j) (x j) (x j) (reduced_cost M y j) (reduced_cost R y j)
        (h.lower_bound j m) (h.upper_bound j m) refl (price_same y j m) (meets.columns j m);
  }

pub alike_pairs : (d : Sense) (M R : LinearProgram) → AreAlike M R → ReducesPairs d M R (λ p. p)
alike_pairs d M R h = record {
  priced = λ p priced meets j l. priced j (omega (arith, l, h.columns)) ∙ sym (price_same d M R h p.y j l);
  meets = λ p priced meets. meets_alike d R M (alike_back M R h) p.x p.y meets;
}
