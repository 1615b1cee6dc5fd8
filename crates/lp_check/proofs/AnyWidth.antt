-- With numbers of any width each sum has room.
use Rattle.std.proofs.Common.{◌≡◌, ℕ, zero, suc, false, true, refl}
use Rattle.fractions.specs.Number.{Number}
use Rattle.fractions.specs.Room.{in_any_width}
use Rattle.lp_model.specs.declared.program.Sense.{Sense}
use Rattle.lp_model.specs.LinearProgram.{LinearProgram, cost_at, Feasible}
use Rattle.lp_model.specs.Optimality.{Meets}
use Rattle.lp_model.specs.Room.{ProductsFitIn}
use Rattle.lp_model.specs.Vectors.{Vector}
use Rattle.lp_prices.specs.Prices.{ReducedCostFitsIn}
use Rattle.lp_check.specs.declared.verdicts.Item.{Item}
use Rattle.lp_check.specs.declared.verdicts.Item.TheVariants.{Column, Row, Cost}
use Rattle.lp_check.specs.declared.verdicts.Limit.{Limit}
use Rattle.lp_check.specs.declared.verdicts.Verdict.{Verdict}
use Rattle.lp_check.specs.declared.verdicts.Verdict.TheVariants.{Yes, No}
use Rattle.lp_check.specs.declared.pair_verdicts.PairVerdict.{PairVerdict}
use Rattle.lp_check.specs.declared.pair_verdicts.PairVerdict.TheVariants.{OnPoint}
use Rattle.lp_check.specs.Deciding.{HasNoRoomIn, DecidesIn}
use Rattle.lp_check.specs.DecidingPairs.{DecidesPairIn}
use Rattle.lp_check.proofs.OneVerdict.{one_verdict}
use Rattle.lp_check.proofs.OnePairVerdict.{pair_same}

products_fit : (n : ℕ) (a x : Vector) → ProductsFitIn in_any_width n a x
products_fit zero a x = tt
products_fit (suc n) a x = (products_fit n a x, tt, tt)

pub never_past : (M : LinearProgram) (x : Vector) (item : Item) → HasNoRoomIn in_any_width M x item → ⊥
never_past M x (Column j) h = h
never_past M x (Row i) h = h.1 (products_fit M.columns (M.coefficient i) x)
never_past M x Cost h = h (products_fit M.columns M.costs x, tt)

pub reduced_cost_fits : (M : LinearProgram) (y : Vector) (j : ℕ) → ReducedCostFitsIn in_any_width M y j
reduced_cost_fits M y j = (products_fit M.rows y (λ i. M.coefficient i j), tt)

not_so : false ≡ true → ⊥
not_so e = cc

-- a feasible point
yes_decides : (M : LinearProgram) (x : Vector) → Feasible M x → DecidesIn in_any_width M x (Yes (cost_at M x))
yes_decides M x f = (
  (λ j l. ((f.columns j l, f.whole j l), f.gaps j l), λ i l. (products_fit M.columns (M.coefficient i) x, (f.rows i l, λ e. absurd (not_so e)))),
  (products_fit M.columns M.costs x, tt),
  refl,
)

pub yes_of : (M : LinearProgram) (x : Vector) (verdict : Verdict Number) → Feasible M x → DecidesIn in_any_width M x verdict → verdict ≡ Yes (cost_at M x)
yes_of M x verdict f d = one_verdict in_any_width M x verdict (Yes (cost_at M x)) d (yes_decides M x f)

pub feasible_of : (M : LinearProgram) (x : Vector) (c : Number) → DecidesIn in_any_width M x (Yes c) → Feasible M x
feasible_of M x c d = record {
  rows = λ i l. (d.0.1 i l).1.0;
  columns = λ j l. (d.0.0 j l).0.0;
  whole = λ j l. (d.0.0 j l).0.1;
  gaps = λ j l. (d.0.0 j l).1;
}

yes_not_no : (item : Item) (v c : Number) (limit : Limit) → No item v limit ≡ Yes c → ⊥
yes_not_no item v c limit e = cc

pub no_not : (M : LinearProgram) (x : Vector) (item : Item) (v : Number) (limit : Limit) → DecidesIn in_any_width M x (No item v limit) → Feasible M x → ⊥
no_not M x item v limit d f = yes_not_no item v (cost_at M x) limit (yes_of M x (No item v limit) f d)

-- a pair that meets the optimality conditions
pub pair_yes_of : (s : Sense) (M : LinearProgram) (x y : Vector) (verdict : PairVerdict Number) → Meets s M x y → DecidesPairIn in_any_width s M x y verdict → verdict ≡ OnPoint (Yes (cost_at M x))
pair_yes_of s M x y verdict meets d = pair_same in_any_width (one_verdict in_any_width) s M x y verdict (OnPoint (Yes (cost_at M x))) d
    (yes_decides M x meets.feasible, λ _. (meets.rows, λ j l. (reduced_cost_fits M y j, meets.columns j l)))
