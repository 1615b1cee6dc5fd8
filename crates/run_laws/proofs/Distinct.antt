-- Nothing stands twice among the instances of rules in order.
use Rattle.std.proofs.Common.{◌≡◌, ◌≢◌, ℕ, zero, List, [], ◌∷◌, length, map, refl, sym, ap, ◌∙◌, subst, arith}
use Rattle.std.specs.List.{AllPairs, Contains, filter, range_with_len}
use Rattle.std.proofs.lemmas.Simd.{map-map}
use Rattle.undo_records.specs.declared.side.Side.{Side}
use Rattle.undo_records.specs.declared.side.Side.TheVariants.{Lower, Upper}
use Rattle.lp_model.specs.declared.terms.Term.{Term}
use Rattle.problem_model.specs.Problems.{column_entries, IsSparse, row_entries}
use Rattle.problem_model.specs.Sparse.{Sparse}
use Rattle.problem_laws.proofs.Entries.{row_entries-ascend}
use Rattle.activity_laws.specs.BoundTightening.{bounds_of}
use Rattle.dual_laws.specs.DominatedColumn.{pairs_of}
use Rattle.presolve_model.specs.declared.instance.Instance.{Instance}
use Rattle.presolve_model.specs.declared.instance.Instance.TheVariants as at
use Rattle.presolve_model.specs.declared.instance.Reduction.TheVariants.{DominatedColumn, DoubletonEquation, FreeColumnSingleton, ParallelColumns, ParallelRows, SlackColumnSingleton, BoundTightening, CoefficientTightening}
use Rattle.presolve_model.specs.declared.instance.Rule.{Rule}
use Rattle.presolve_model.specs.declared.instance.Rule.TheVariants as rule
use Rattle.presolve_model.specs.Enabled.{enabled_on}
use Rattle.presolve_model.specs.Instances.{both_orders, id_count, instances_from, rule_at, sole_row}
use Rattle.presolve_model.specs.Order.{reduction_order}
use Rattle.presolve_model.specs.Scans.{all_ids, all_of, instances_at}
use Rattle.presolve_model.specs.Stuck.{enabled_reductions}
use Rattle.presolve_model.specs.Tallies.{Open}
use Rattle.place_laws.proofs.Places.{from_is}
use Rattle.place_laws.proofs.ShortLists.{comes_from, two_in}
use Rattle.run_laws.proofs.Apart.{all_pairs, Apart, apart_by, apart_filter, apart_flat, apart_ids, apart_map, apart_one, apart_range, apart_two, mapped_from}

-- ---- what a rule with a first id lists
bounds_apart : (ts : List Term) → Apart (map (λ t. t.id) ts) → Apart (bounds_of ts)
bounds_apart ts a = apart_flat (λ (t : Term). (t.id, Lower) ∷ (t.id, Upper) ∷ []) (λ t. t.id) ts a
    (λ t c. apart_two (t.id, Lower) (t.id, Upper) (λ e. let f : Lower ≡ Upper = ap (λ (x : ℕ × Side). x.1) e in cc))
    (λ t u y c d. sym (own t y c) ∙ own u y d)
  where
    own : (t : Term) (y : ℕ × Side) → Contains ((t.id, Lower) ∷ (t.id, Upper) ∷ []) y → y.0 ≡ t.id
    own t y c = two_in (λ (x : ℕ × Side). x.0 ≡ t.id) (t.id, Lower) (t.id, Upper) y refl refl c

pairs_apart : (ts : List Term) → Apart (map (λ t. t.id) ts) → Apart (pairs_of ts)
pairs_apart ts a = apart_flat (λ (t : Term). map (λ (u : Term). (t.id, u.id)) ts) (λ t. t.id) ts a
    (λ t c. subst (λ (xs : List (ℕ × ℕ)). Apart xs) (map-map (λ (k : ℕ). (t.id, k)) (λ (u : Term). u.id) ts) (apart_map (λ (k : ℕ). (t.id, k)) (map (λ (u : Term). u.id) ts) (λ j k e. ap (λ (x : ℕ × ℕ). x.1) e) a))
    (λ t u y c d. own t y c ∙ sym (own u y d))
  where
    own : (t : Term) (y : ℕ × ℕ) → Contains (map (λ (u : Term). (t.id, u.id)) ts) y → t.id ≡ y.0
    own t y c = let from = mapped_from (λ (u : Term). (t.id, u.id)) ts y c in ap (λ (x : ℕ × ℕ). x.0) from.2

orders_apart : (ts : List Term) → Apart (map (λ t. t.id) ts) → Apart (both_orders ts)
orders_apart [] a = tt
orders_apart (t ∷ []) a = tt
orders_apart (t ∷ u ∷ []) a = apart_two (t.id, u.id) (u.id, t.id) (λ e. a.0 u.id (zero, omega arith, refl) (ap (λ (x : ℕ × ℕ). x.0) e))
orders_apart (t ∷ u ∷ v ∷ ts) a = tt

sole_apart : (ts : List Term) → Apart (sole_row ts)
sole_apart [] = tt
sole_apart (t ∷ []) = apart_one t.id
sole_apart (t ∷ u ∷ ts) = tt

module _ (opens : Open) (p : Sparse) (s : IsSparse p) where
  row_ids : (i : ℕ) → Apart (map (λ t. t.id) (row_entries p i))
  row_ids i = apart_ids (row_entries p i) 0 (length p.matrix.columns) (row_entries-ascend p i s)

  from_apart : (r : Rule) (k : ℕ) → Apart (instances_from opens p r k)
  from_apart rule.CrossedBounds j = apart_one _
  from_apart rule.CrossedSides i = apart_one _
  from_apart rule.InfeasibleRow i = apart_one _
  from_apart rule.UnboundedColumn j = apart_one _
  from_apart rule.EmptyRow i = apart_one _
  from_apart rule.SingletonRow i = apart_one _
  from_apart rule.FixedColumn j = apart_one _
  from_apart rule.RoundedBounds j = apart_one _
  from_apart rule.RedundantRow i = apart_one _
  from_apart rule.RedundantSide i = apart_one _
  from_apart rule.ForcingRow i = apart_one _
  from_apart rule.BoundTightening i = apart_map (λ (x : ℕ × Side). at.Reduction (BoundTightening i x.0 x.1)) (filter (λ x. opens x.0 x.1) (bounds_of (row_entries p i)))
      (λ x y e. let f : x.0 ≡ y.0 = (let g = e in cc) in let h : x.1 ≡ y.1 = (let g = e in cc) in λ t. (f t, h t))
      (apart_filter (λ x. opens x.0 x.1) (bounds_of (row_entries p i)) (bounds_apart (row_entries p i) (row_ids i)))
  from_apart rule.CoefficientTightening i = apart_map (λ (j : ℕ). at.Reduction (CoefficientTightening i j)) (map (λ t. t.id) (row_entries p i)) (λ x y e. let g = e in cc) (row_ids i)
  from_apart rule.DualFixing j = apart_one _
  from_apart rule.DominatedColumn i = apart_map (λ (x : ℕ × ℕ). at.Reduction (DominatedColumn i x.0 x.1)) (pairs_of (row_entries p i))
      (λ x y e. let f : x.0 ≡ y.0 = (let g = e in cc) in let h : x.1 ≡ y.1 = (let g = e in cc) in λ t. (f t, h t)) (pairs_apart (row_entries p i) (row_ids i))
  from_apart rule.DoubletonEquation i = apart_map (λ (x : ℕ × ℕ). at.Reduction (DoubletonEquation i x.0 x.1)) (both_orders (row_entries p i))
      (λ x y e. let f : x.0 ≡ y.0 = (let g = e in cc) in let h : x.1 ≡ y.1 = (let g = e in cc) in λ t. (f t, h t)) (orders_apart (row_entries p i) (row_ids i))
  from_apart rule.FreeColumnSingleton j = apart_map (λ (i : ℕ). at.Reduction (FreeColumnSingleton j i)) (sole_row (column_entries p j)) (λ x y e. let g = e in cc) (sole_apart (column_entries p j))
  from_apart rule.SlackColumnSingleton j = apart_map (λ (i : ℕ). at.Reduction (SlackColumnSingleton j i)) (sole_row (column_entries p j)) (λ x y e. let g = e in cc) (sole_apart (column_entries p j))
  from_apart rule.ParallelRows i = apart_map (λ (k : ℕ). at.Reduction (ParallelRows i k)) (range_with_len 0 (length p.matrix.rows)) (λ x y e. let g = e in cc) (apart_range 0 (length p.matrix.rows))
  from_apart rule.ParallelColumns j = apart_map (λ (k : ℕ). at.Reduction (ParallelColumns j k)) (range_with_len 0 (length p.matrix.columns)) (λ x y e. let g = e in cc) (apart_range 0 (length p.matrix.columns))
  from_apart rule.EmptyColumn j = apart_one _

  -- ---- of all first ids
  kept_map : (xs : List ℕ) → map (λ (k : ℕ). k) xs ≡ xs
  kept_map [] = refl
  kept_map (x ∷ xs) = ap (λ (ys : List ℕ). x ∷ ys) (kept_map xs)

  at_apart : (r : Rule) → Apart (instances_at opens p r (all_ids p r))
  at_apart r = apart_flat (instances_from opens p r) (λ (k : ℕ). k) (all_ids p r) (subst Apart (sym (kept_map (all_ids p r))) (apart_range 0 (id_count p r))) (λ k c. from_apart r k)
      (λ k l e c d. sym (from_is opens p r k e c).1 ∙ (from_is opens p r l e d).1)

  -- an instance of a rule has this rule
  own_rule : (r : Rule) (e : Instance) → Contains (instances_at opens p r (all_ids p r)) e → rule_at e ≡ r
  own_rule r e c = let from = comes_from (instances_from opens p r) (all_ids p r) e c in (from_is opens p r from.0 e from.2).0

  all_apart : (rules : List Rule) → Apart (map (λ (r : Rule). r) rules) → Apart (all_of opens p rules)
  all_apart rules a = apart_flat (λ (r : Rule). instances_at opens p r (all_ids p r)) (λ (r : Rule). r) rules a (λ r c. at_apart r) (λ r q e c d. sym (own_rule r e c) ∙ own_rule q e d)

-- ---- the rules of reductions differ: they have numbers
abbrev number : Rule → ℕ
number rule.EmptyRow = 0
number rule.SingletonRow = 1
number rule.FixedColumn = 2
number rule.RoundedBounds = 3
number rule.RedundantRow = 4
number rule.RedundantSide = 5
number rule.ForcingRow = 6
number rule.BoundTightening = 7
number rule.CoefficientTightening = 8
number rule.DualFixing = 9
number rule.DominatedColumn = 10
number rule.DoubletonEquation = 11
number rule.FreeColumnSingleton = 12
number rule.SlackColumnSingleton = 13
number rule.ParallelRows = 14
number rule.ParallelColumns = 15
number rule.EmptyColumn = 16
number other = 17

rules_apart : Apart (map (λ (r : Rule). r) reduction_order)
rules_apart = apart_by number (map (λ (r : Rule). r) reduction_order) (apart_range 0 17)

pub counted_once : (opens : Open) (p : Sparse) → IsSparse p → AllPairs (λ e f. e ≢ f) (enabled_reductions opens p)
counted_once opens p s = all_pairs (enabled_reductions opens p) (apart_filter (enabled_on p) (all_of opens p reduction_order) (all_apart opens p s reduction_order rules_apart))
