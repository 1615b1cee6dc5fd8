-- Where a kind of numbers has room for each number and each sum, the verdict is yes exactly where it is so, and never past.
use Rattle.std.proofs.Common.{◌≡◌, ℕ, zero, suc, false, true, refl, ap, arith}
use Rattle.fractions.specs.Number.{Number, neg_ℚ, ◌*ℚ◌}
use Rattle.fractions.specs.Total.{total}
use Rattle.fractions.specs.Room.{Room}
use Rattle.lp_model.specs.declared.program.Sense.{Sense}
use Rattle.lp_model.specs.LinearProgram.{LinearProgram, cost_at, Feasible}
use Rattle.lp_model.specs.Optimality.{Continuous, Meets}
use Rattle.lp_model.specs.Room.{ProductsFitIn}
use Rattle.lp_model.specs.Vectors.{Vector}
use Rattle.lp_prices.specs.Prices.{ReducedCostFitsIn}
use Rattle.lp_check.specs.declared.verdicts.Item.{Item}
use Rattle.lp_check.specs.declared.verdicts.Item.TheVariants.{Column, Row, Cost}
use Rattle.lp_check.specs.declared.verdicts.Verdict.{Verdict}
use Rattle.lp_check.specs.declared.verdicts.Verdict.TheVariants.{Yes, No, Past}
use Rattle.lp_check.specs.declared.pair_verdicts.PairVerdict.{PairVerdict}
use Rattle.lp_check.specs.declared.pair_verdicts.PairVerdict.TheVariants.{OnPoint, Dual, ReducedCost, PastReducedCost}
use Rattle.lp_check.specs.Deciding.{HasNoRoomIn, DecidesIn}
use Rattle.lp_check.specs.DecidingPairs.{DecidesPairIn}
use Rattle.lp_check.proofs.OneVerdict.{one_verdict}
use Rattle.lp_check.proofs.OnePairVerdict.{pair_same}
use Rattle.lp_check.proofs.Pairs.{meets_of}
use Rattle.check_command.specs.Checked.{HasRoomForAll, IsDecided}
use Rattle.check_command.specs.VerdictText.{status_of_verdict, status_of_pair_verdict}

not_so : false ≡ true → ⊥
not_so e = cc

nine_not_zero : (n : ℕ) → n ≡ 9 → n ≡ 0 → ⊥
nine_not_zero n nine none = omega (arith, nine, none)

module _ (m : Room) (all : HasRoomForAll m) where
  products_fit : (n : ℕ) (a x : Vector) → ProductsFitIn m n a x
  products_fit zero a x = tt
  products_fit (suc n) a x = (products_fit n a x, (all (a n *ℚ x n) (a n *ℚ x n)).0, (all (total n (λ k. a k *ℚ x k)) (a n *ℚ x n)).1)

  never_past : (M : LinearProgram) (x : Vector) (item : Item) → HasNoRoomIn m M x item → ⊥
  never_past M x (Column j) h = h
  never_past M x (Row i) h = h.1 (products_fit M.columns (M.coefficient i) x)
  never_past M x Cost h = h (products_fit M.columns M.costs x, (all (total M.columns (λ j. M.costs j *ℚ x j)) M.constant).1)

  reduced_cost_fits : (M : LinearProgram) (y : Vector) (j : ℕ) → ReducedCostFitsIn m M y j
  reduced_cost_fits M y j = (products_fit M.rows y (λ i. M.coefficient i j), (all (M.costs j) (neg_ℚ (total M.rows (λ i. y i *ℚ M.coefficient i j)))).1)

  yes_decides : (M : LinearProgram) (x : Vector) → Feasible M x → DecidesIn m M x (Yes (cost_at M x))
  yes_decides M x f = (
    (λ j l. ((f.columns j l, f.whole j l), f.gaps j l), λ i l. (products_fit M.columns (M.coefficient i) x, (f.rows i l, λ e. absurd (not_so e)))),
    (products_fit M.columns M.costs x, (all (total M.columns (λ j. M.costs j *ℚ x j)) M.constant).1),
    refl,
  )

  feasible_of : (M : LinearProgram) (x : Vector) (c : Number) → DecidesIn m M x (Yes c) → Feasible M x
  feasible_of M x c d = record {
    rows = λ i l. (d.0.1 i l).1.0;
    columns = λ j l. (d.0.0 j l).0.0;
    whole = λ j l. (d.0.0 j l).0.1;
    gaps = λ j l. (d.0.0 j l).1;
  }

  -- a verdict on a feasible point is yes
  at_feasible : (M : LinearProgram) (x : Vector) (verdict : Verdict Number) → DecidesIn m M x verdict → Feasible M x → status_of_verdict verdict ≡ 0
  at_feasible M x verdict d f = ap status_of_verdict (one_verdict m M x verdict (Yes (cost_at M x)) d (yes_decides M x f))

  pub point_decided : (M : LinearProgram) (x : Vector) (verdict : Verdict Number) → DecidesIn m M x verdict → IsDecided (status_of_verdict verdict) (Feasible M x)
  point_decided M x (Yes c) d = record {
    yes = (λ z. feasible_of M x c d, λ f. refl);
    no = (λ z. absurd (omega arith), λ n. absurd (n (feasible_of M x c d)));
    never_past = λ z. omega arith;
  }
  point_decided M x (No item v limit) d = record {
    yes = (λ z. absurd (omega arith), λ f. at_feasible M x (No item v limit) d f);
    no = (λ z f. nine_not_zero (status_of_verdict (No item v limit)) refl (at_feasible M x (No item v limit) d f), λ n. refl);
    never_past = λ z. omega arith;
  }
  point_decided M x (Past item) d = absurd (never_past M x item d.1)

  meets_decides : (s : Sense) (M : LinearProgram) (x y : Vector) → Meets s M x y → DecidesPairIn m s M x y (OnPoint (Yes (cost_at M x)))
  meets_decides s M x y meets = (yes_decides M x meets.feasible, λ _. (meets.rows, λ j l. (reduced_cost_fits M y j, meets.columns j l)))

  at_best : (s : Sense) (M : LinearProgram) (x y : Vector) (verdict : PairVerdict Number) → DecidesPairIn m s M x y verdict → Meets s M x y → status_of_pair_verdict verdict ≡ 0
  at_best s M x y verdict d meets = ap status_of_pair_verdict (pair_same m (one_verdict m) s M x y verdict (OnPoint (Yes (cost_at M x))) d (meets_decides s M x y meets))

  apart : (s : Sense) (M : LinearProgram) (x y : Vector) (verdict : PairVerdict Number) → DecidesPairIn m s M x y verdict → status_of_pair_verdict verdict ≡ 9
      → IsDecided (status_of_pair_verdict verdict) (Meets s M x y)
  apart s M x y verdict d nine = record {
    yes = (λ z. absurd (omega (arith, z, nine)), λ f. at_best s M x y verdict d f);
    no = (λ z f. omega (arith, nine, at_best s M x y verdict d f), λ n. nine);
    never_past = λ z. omega (arith, z, nine);
  }

  pub pair_decided : (s : Sense) (M : LinearProgram) (x y : Vector) (verdict : PairVerdict Number) → Continuous M → DecidesPairIn m s M x y verdict
      → IsDecided (status_of_pair_verdict verdict) (Meets s M x y)
  pair_decided s M x y (OnPoint (Yes c)) continuous d = record {
    yes = (λ z. meets_of m s M x y c continuous d, λ f. refl);
    no = (λ z. absurd (omega arith), λ n. absurd (n (meets_of m s M x y c continuous d)));
    never_past = λ z. omega arith;
  }
  pair_decided s M x y (OnPoint (No item v limit)) continuous d = apart s M x y (OnPoint (No item v limit)) d refl
  pair_decided s M x y (OnPoint (Past item)) continuous d = absurd (never_past M x item d.0.1)
  pair_decided s M x y (Dual i found) continuous d = apart s M x y (Dual i found) d refl
  pair_decided s M x y (ReducedCost j found) continuous d = apart s M x y (ReducedCost j found) d refl
  pair_decided s M x y (PastReducedCost j) continuous d = absurd (d.4 (reduced_cost_fits M y j))
