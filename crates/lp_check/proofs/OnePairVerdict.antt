-- There is one verdict on a point with duals.
use Rattle.std.proofs.Common.{rules, ◌≡◌, ◌⊎◌, inl, inr, ℕ, ◌<◌, ◌≤◌, Option, sym, ap, ◌∙◌, subst, arith}
use Rattle.std.proofs.lemmas.Bool.{cases_lt}
use Rattle.fractions.specs.Number.{Number}
use Rattle.fractions.specs.Room.{Room}
use Rattle.fractions.specs.Order.{<ℚ-not, <ℚ-≤ℚ}
use Rattle.lp_model.specs.declared.program.Sense.{Sense}
use Rattle.lp_model.specs.declared.program.Sense.TheVariants.{Min, Max}
use Rattle.lp_model.specs.LinearProgram.{LinearProgram, value_at}
use Rattle.lp_model.specs.Optimality.{reduced_cost}
use Rattle.lp_model.specs.Senses.{Sits}
use Rattle.lp_model.specs.Vectors.{Vector}
use Rattle.lp_check.specs.declared.pair_verdicts.End.{End}
use Rattle.lp_check.specs.declared.pair_verdicts.End.TheVariants.{Lower, Upper}
use Rattle.lp_check.specs.declared.pair_verdicts.Misplaced.{Misplaced}
use Rattle.lp_check.specs.declared.pair_verdicts.PairVerdict.{PairVerdict}
use Rattle.lp_check.specs.declared.pair_verdicts.PairVerdict.TheVariants.{OnPoint, Dual, ReducedCost, PastReducedCost}
use Rattle.lp_check.specs.declared.verdicts.Item.TheVariants.{Column, Row, Cost}
use Rattle.lp_check.specs.declared.verdicts.Verdict.{Verdict}
use Rattle.lp_check.specs.declared.verdicts.Verdict.TheVariants.{Yes, No, Past}
use Rattle.lp_check.specs.Deciding.{DecidesIn, EarlierPassIn}
use Rattle.lp_prices.specs.Prices.{ReducedCostFitsIn}
use Rattle.lp_check.specs.DecidingPairs.{DecidesPairIn, IsMisplaced, IsOnCost}
use Rattle.lp_check.specs.Placing.{AsksLower, AsksUpper, IsAway}

-- ---- the end at which a value is not
two_signs : (s : Sense) (m : Number) → AsksLower s m → AsksUpper s m → ⊥
two_signs Min m a b = <ℚ-not a (<ℚ-≤ℚ b)
two_signs Max m a b = <ℚ-not b (<ℚ-≤ℚ a)

end_same : (s : Sense) (l u : Option Number) (v m : Number) (d e : End) → IsAway s l u v m d → IsAway s l u v m e → d ≡ e
end_same s l u v m (Lower d) (Lower e) x y = ap (λ (o : Option Number). Lower o) (x.1 ∙ sym y.1)
end_same s l u v m (Lower d) (Upper e) x y = absurd (two_signs s m x.0 y.0)
end_same s l u v m (Upper d) (Lower e) x y = absurd (two_signs s m y.0 x.0)
end_same s l u v m (Upper d) (Upper e) x y = ap (λ (o : Option Number). Upper o) (x.1 ∙ sym y.1)

not_there : (s : Sense) (l u : Option Number) (v m : Number) (e : End) → IsAway s l u v m e → Sits s l u v m → ⊥
not_there Min l u v m (Lower e) x t = x.2 (t.0 x.0)
not_there Min l u v m (Upper e) x t = x.2 (t.1 x.0)
not_there Max l u v m (Lower e) x t = x.2 (t.0 x.0)
not_there Max l u v m (Upper e) x t = x.2 (t.1 x.0)

misplaced_same : (s : Sense) (m v : Number) (l u : Option Number) (f g : Misplaced Number) → IsMisplaced s m v l u f → IsMisplaced s m v l u g → f ≡ g
misplaced_same s m v l u f g x y =
    let e1 = x.0 ∙ sym y.0 in
    let e2 = x.1 ∙ sym y.1 in
    let e3 = end_same s l u v m f.end g.end x.2 y.2 in
    λ t. record { multiplier = e1 t; value = e2 t; end = e3 t }

-- where all columns and rows pass, a verdict on the point is one on the cost
on_cost : (r : Room) (M : LinearProgram) (x : Vector) (v : Verdict Number) → EarlierPassIn r M x Cost → DecidesIn r M x v → IsOnCost v
on_cost r M x (Yes c) a d = tt
on_cost r M x (No (Column j) w limit) a d = search rules
on_cost r M x (No (Row i) w limit) a d = search rules
on_cost r M x (No Cost w limit) a d = d.1
on_cost r M x (Past (Column j)) a d = d.1
on_cost r M x (Past (Row i)) a d = d.1.1 (a.1 i d.1.0).0
on_cost r M x (Past Cost) a d = tt

abbrev pub OnePoint : Room → Type 0
OnePoint r = (M : LinearProgram) (x : Vector) (one other : Verdict Number) → DecidesIn r M x one → DecidesIn r M x other → one ≡ other

abbrev past_at : ℕ → PairVerdict Number
past_at j = PastReducedCost j

-- of two ids neither is first
by_order : (P : Type 0) (j k : ℕ) → (j < k → P) → (k < j → P) → (j ≡ k → P) → P
by_order P j k f g h = by (cases_lt j k) (cases_lt k j)
  where
    by : (j < k) ⊎ (k ≤ j) → (k < j) ⊎ (j ≤ k) → P
    by (inl l) m = f l
    by (inr n) (inl m) = g m
    by (inr n) (inr m) = h (omega (arith, n, m))

module _ (r : Room) (point : OnePoint r) (s : Sense) (M : LinearProgram) (x y : Vector) where
  away_dual : (i : ℕ) (f : Misplaced Number) → IsMisplaced s (y i) (value_at M i x) (M.lower_side i) (M.upper_side i) f → Sits s (M.lower_side i) (M.upper_side i) (value_at M i x) (y i) → ⊥
  away_dual i f m t = not_there s (M.lower_side i) (M.upper_side i) (value_at M i x) (y i) f.end m.2 t

  away_cost : (j : ℕ) (f : Misplaced Number) → IsMisplaced s (reduced_cost M y j) (x j) (M.lower_bound j) (M.upper_bound j) f → Sits s (M.lower_bound j) (M.upper_bound j) (x j) (reduced_cost M y j) → ⊥
  away_cost j f m t = not_there s (M.lower_bound j) (M.upper_bound j) (x j) (reduced_cost M y j) f.end m.2 t

  -- an item that decides, and a verdict on the point
  point_dual : (v : Verdict Number) (i : ℕ) (f : Misplaced Number) → DecidesPairIn r s M x y (OnPoint v) → DecidesPairIn r s M x y (Dual i f) → ⊥
  point_dual v i f d e = away_dual i f e.3 ((d.1 (on_cost r M x v e.0 d.0)).0 i e.2)

  point_cost : (v : Verdict Number) (j : ℕ) (f : Misplaced Number) → DecidesPairIn r s M x y (OnPoint v) → DecidesPairIn r s M x y (ReducedCost j f) → ⊥
  point_cost v j f d e = away_cost j f e.5 ((d.1 (on_cost r M x v e.0 d.0)).1 j e.3).1

  point_past : (v : Verdict Number) (j : ℕ) → DecidesPairIn r s M x y (OnPoint v) → DecidesPairIn r s M x y (PastReducedCost j) → ⊥
  point_past v j d e = e.4 ((d.1 (on_cost r M x v e.0 d.0)).1 j e.3).0

  dual_dual : (i k : ℕ) (f g : Misplaced Number) → DecidesPairIn r s M x y (Dual i f) → DecidesPairIn r s M x y (Dual k g) → Dual i f ≡ Dual k g
  dual_dual i k f g d e = by_order (Dual i f ≡ Dual k g) i k (λ l. absurd (away_dual i f d.3 (e.1 i l))) (λ l. absurd (away_dual k g e.3 (d.1 k l)))
      (λ same. let other = misplaced_same s (y i) (value_at M i x) (M.lower_side i) (M.upper_side i) f g d.3
      (subst (λ (m : ℕ). IsMisplaced s (y m) (value_at M m x) (M.lower_side m) (M.upper_side m) g) (sym same) e.3) in λ t. Dual (same t) (other t))

  dual_cost : (i j : ℕ) (f g : Misplaced Number) → DecidesPairIn r s M x y (Dual i f) → DecidesPairIn r s M x y (ReducedCost j g) → ⊥
  dual_cost i j f g d e = away_dual i f d.3 (e.1 i d.2)

  dual_past : (i j : ℕ) (f : Misplaced Number) → DecidesPairIn r s M x y (Dual i f) → DecidesPairIn r s M x y (PastReducedCost j) → ⊥
  dual_past i j f d e = away_dual i f d.3 (e.1 i d.2)

  cost_cost : (j k : ℕ) (f g : Misplaced Number) → DecidesPairIn r s M x y (ReducedCost j f) → DecidesPairIn r s M x y (ReducedCost k g) → ReducedCost j f ≡ ReducedCost k g
  cost_cost j k f g d e = by_order (ReducedCost j f ≡ ReducedCost k g) j k (λ l. absurd (away_cost j f d.5 (e.2 j l).1)) (λ l. absurd (away_cost k g e.5 (d.2 k l).1))
      (λ same. let other = misplaced_same s (reduced_cost M y j) (x j) (M.lower_bound j) (M.upper_bound j) f g d.5
      (subst (λ (m : ℕ). IsMisplaced s (reduced_cost M y m) (x m) (M.lower_bound m) (M.upper_bound m) g) (sym same) e.5) in λ t. ReducedCost (same t) (other t))

  cost_past : (j k : ℕ) (f : Misplaced Number) → DecidesPairIn r s M x y (ReducedCost j f) → DecidesPairIn r s M x y (PastReducedCost k) → ⊥
  cost_past j k f d e = by_order ⊥ j k (λ l. away_cost j f d.5 (e.2 j l).1) (λ l. e.4 (d.2 k l).0) (λ same. e.4 (subst (λ (m : ℕ). ReducedCostFitsIn r M y m) same d.4))

  past_past : (j k : ℕ) → DecidesPairIn r s M x y (PastReducedCost j) → DecidesPairIn r s M x y (PastReducedCost k) → past_at j ≡ past_at k
  past_past j k d e = by_order (past_at j ≡ past_at k) j k (λ l. absurd (d.4 (e.2 j l).0)) (λ l. absurd (e.4 (d.2 k l).0)) (λ same. ap past_at same)

  pub pair_same : (one other : PairVerdict Number) → DecidesPairIn r s M x y one → DecidesPairIn r s M x y other → one ≡ other
  pair_same (OnPoint v) (OnPoint w) d e = ap (λ (z : Verdict Number). OnPoint z) (point M x v w d.0 e.0)
  pair_same (OnPoint v) (Dual i f) d e = absurd (point_dual v i f d e)
  pair_same (OnPoint v) (ReducedCost j f) d e = absurd (point_cost v j f d e)
  pair_same (OnPoint v) (PastReducedCost j) d e = absurd (point_past v j d e)
  pair_same (Dual i f) (OnPoint v) d e = absurd (point_dual v i f e d)
  pair_same (Dual i f) (Dual k g) d e = dual_dual i k f g d e
  pair_same (Dual i f) (ReducedCost j g) d e = absurd (dual_cost i j f g d e)
  pair_same (Dual i f) (PastReducedCost j) d e = absurd (dual_past i j f d e)
  pair_same (ReducedCost j f) (OnPoint v) d e = absurd (point_cost v j f e d)
  pair_same (ReducedCost j f) (Dual i g) d e = absurd (dual_cost i j g f e d)
  pair_same (ReducedCost j f) (ReducedCost k g) d e = cost_cost j k f g d e
  pair_same (ReducedCost j f) (PastReducedCost k) d e = absurd (cost_past j k f d e)
  pair_same (PastReducedCost j) (OnPoint v) d e = absurd (point_past v j e d)
  pair_same (PastReducedCost j) (Dual i f) d e = absurd (dual_past i j f e d)
  pair_same (PastReducedCost j) (ReducedCost k f) d e = absurd (cost_past k j f e d)
  pair_same (PastReducedCost j) (PastReducedCost k) d e = past_past j k d e
