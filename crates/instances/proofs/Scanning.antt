-- Ids in a row, and those past a rule's.
use Rattle.std.proofs.Common.{◌≡◌, ◌≢◌, ℕ, zero, suc, ◌+◌, ◌≤◌, Bool, true, false, List, [], ◌∷◌, ◌++◌, length, map, refl, sym, ap, ◌∙◌, arith, true≢false}
use Rattle.std.proofs.lemmas.List.{get_or_past, map-append, append-nil, append_assoc}
use Rattle.std.specs.List.{filter, range_with_len}
use Rattle.std.proofs.lemmas.List.Elements.{filter-append}
use Rattle.problem_model.specs.declared.line.Line.{Line}
use Rattle.presolve_model.specs.declared.instance.Rule.{Rule}
use Rattle.presolve_model.specs.declared.instance.Rule.TheVariants as rule
use Rattle.presolve_model.specs.Enabled.{enabled_on}
use Rattle.problem_model.specs.Matrices.{line_at, no_line}
use Rattle.presolve_model.specs.Scans.{proposal_of, instances_at, found_at}
use Rattle.problem_model.specs.Sparse.{Sparse}
use Rattle.presolve_model.specs.Instances.{both_orders, instances_from, id_count, sole_row}
use Rattle.std.specs.Prelude.{if◌then◌else◌}
use Rattle.lp_model.specs.declared.terms.Term.{Term}
use Rattle.problem_model.specs.Problems.{column_at, column_entries, row_entries}
use Rattle.column_laws.proofs.FreeColumnSingleton as free_column_singleton
use Rattle.column_laws.proofs.SlackColumnSingleton as slack_column_singleton
use Rattle.activity_laws.specs.BoundTightening.{bounds_of}
use Rattle.dual_laws.specs.DominatedColumn.{pairs_of}
use Rattle.presolve_model.specs.Tallies.{Open}
use Rattle.presolve_model.specs.declared.instance.Instance.{Instance}
use Rattle.presolve_model.specs.declared.instance.Instance.TheVariants as at
use Rattle.presolve_model.specs.declared.instance.Reduction.TheVariants.{DominatedColumn, DoubletonEquation, FreeColumnSingleton, SlackColumnSingleton, ParallelColumns, ParallelRows, BoundTightening, CoefficientTightening}

gone : (lines : List Line) (k : ℕ) → length lines ≤ k → (line_at lines k).live ≡ false
gone lines k l = ap (λ (line : Line). line.live) (get_or_past lines k no_line l)

none_pass : {X : Type 0} (t : Instance → Bool) (f : X → Instance) (xs : List X) → ((x : X) → t (f x) ≡ false) → filter t (map f xs) ≡ []
none_pass t f [] h = refl
none_pass t f (x ∷ xs) h = rw (h x) (none_pass t f xs h)

-- those that a function gives and that pass are given by those that pass
pub passes_mapped : {X : Type 0} (t : Instance → Bool) (f : X → Instance) (xs : List X) → filter t (map f xs) ≡ map f (filter (λ x. t (f x)) xs)
passes_mapped t f [] = refl
passes_mapped t f (x ∷ xs) = by (t (f x)) (passes_mapped t f xs)
  where
    by : (b : Bool) → filter t (map f xs) ≡ map f (filter (λ x. t (f x)) xs)
        → (if b then f x ∷ filter t (map f xs) else filter t (map f xs)) ≡ map f (if b then x ∷ filter (λ x. t (f x)) xs else filter (λ x. t (f x)) xs)
    by true ih = ap (λ es. f x ∷ es) ih
    by false ih = ih

-- of two tests the order makes no difference
pub tests_swapped : {X : Type 0} (t u : X → Bool) (xs : List X) → filter t (filter u xs) ≡ filter u (filter t xs)
tests_swapped t u [] = refl
tests_swapped t u (x ∷ xs) = by (t x) (u x) refl refl (tests_swapped t u xs)
  where
    by : (a b : Bool) → t x ≡ a → u x ≡ b → filter t (filter u xs) ≡ filter u (filter t xs)
        → filter t (if b then x ∷ filter u xs else filter u xs) ≡ filter u (if a then x ∷ filter t xs else filter t xs)
    by true true e f ih = rw (e, f) (ap (λ ys. x ∷ ys) ih)
    by true false e f ih = rw f ih
    by false true e f ih = rw e ih
    by false false e f ih = ih

-- what passed passes again
pub passes_again : (t : Instance → Bool) (es : List Instance) → filter t (filter t es) ≡ filter t es
passes_again t [] = refl
passes_again t (e ∷ es) = by (t e) refl (passes_again t es)
  where
    by : (b : Bool) → t e ≡ b → filter t (filter t es) ≡ filter t es → filter t (if b then e ∷ filter t es else filter t es) ≡ (if b then e ∷ filter t es else filter t es)
    by true h ih = rw h (ap (λ xs. e ∷ xs) ih)
    by false h ih = ih

-- a list that has not two terms has no orders, and one that has not one names no sole row
pub no_orders : (ts : List Term) → length ts ≢ 2 → both_orders ts ≡ []
no_orders [] n = refl
no_orders (t ∷ []) n = refl
no_orders (t ∷ u ∷ []) n = absurd (n refl)
no_orders (t ∷ u ∷ v ∷ ts) n = refl

pub no_sole : (ts : List Term) → length ts ≢ 1 → sole_row ts ≡ []
no_sole [] n = refl
no_sole (t ∷ []) n = absurd (n refl)
no_sole (t ∷ u ∷ ts) n = refl

-- where the column is gone, it is neither free nor a slack
free_gone : (p : Sparse) (j i : ℕ) → (column_at p j).live ≡ false → enabled_on p (at.Reduction (FreeColumnSingleton j i)) ≡ false
free_gone p j i g = by (enabled_on p (at.Reduction (FreeColumnSingleton j i))) refl
  where
    by : (b : Bool) → enabled_on p (at.Reduction (FreeColumnSingleton j i)) ≡ b → b ≡ false
    by true e = absurd (true≢false (sym (free_column_singleton.said p j i e).column.live ∙ g))
    by false e = refl

slack_gone : (p : Sparse) (j i : ℕ) → (column_at p j).live ≡ false → enabled_on p (at.Reduction (SlackColumnSingleton j i)) ≡ false
slack_gone p j i g = by (enabled_on p (at.Reduction (SlackColumnSingleton j i))) refl
  where
    by : (b : Bool) → enabled_on p (at.Reduction (SlackColumnSingleton j i)) ≡ b → b ≡ false
    by true e = absurd (true≢false (sym (slack_column_singleton.said p j i e).column_live ∙ g))
    by false e = refl

-- no instance of a rule is enabled at an id past the rule's
past : (opens : Open) (p : Sparse) (rule : Rule) (k : ℕ) → id_count p rule ≤ k → filter (enabled_on p) (instances_from opens p rule k) ≡ []
past opens p rule.CrossedBounds k l = rw (gone p.matrix.columns k l) refl
past opens p rule.CrossedSides k l = rw (gone p.matrix.rows k l) refl
past opens p rule.InfeasibleRow k l = rw (gone p.matrix.rows k l) refl
past opens p rule.UnboundedColumn k l = rw (gone p.matrix.columns k l) refl
past opens p rule.EmptyRow k l = rw (gone p.matrix.rows k l) refl
past opens p rule.SingletonRow k l = rw (gone p.matrix.rows k l) refl
past opens p rule.FixedColumn k l = rw (gone p.matrix.columns k l) refl
past opens p rule.RoundedBounds k l = rw (gone p.matrix.columns k l) refl
past opens p rule.RedundantRow k l = rw (gone p.matrix.rows k l) refl
past opens p rule.RedundantSide k l = rw (gone p.matrix.rows k l) refl
past opens p rule.ForcingRow k l = rw (gone p.matrix.rows k l) refl
past opens p rule.BoundTightening k l = none_pass (enabled_on p) (λ x. at.Reduction (BoundTightening k x.0 x.1)) (filter (λ x. opens x.0 x.1) (bounds_of (row_entries p k))) (λ x. rw (gone p.matrix.rows k l) refl)
past opens p rule.CoefficientTightening k l = none_pass (enabled_on p) (λ j. at.Reduction (CoefficientTightening k j)) (map (λ t. t.id) (row_entries p k)) (λ j. rw (gone p.matrix.rows k l) refl)
past opens p rule.DualFixing k l = rw (gone p.matrix.columns k l) refl
past opens p rule.DominatedColumn k l = none_pass (enabled_on p) (λ x. at.Reduction (DominatedColumn k x.0 x.1)) (pairs_of (row_entries p k)) (λ x. rw (gone p.matrix.rows k l) refl)
past opens p rule.DoubletonEquation k l = none_pass (enabled_on p) (λ x. at.Reduction (DoubletonEquation k x.0 x.1)) (both_orders (row_entries p k)) (λ x. rw (gone p.matrix.rows k l) refl)
past opens p rule.FreeColumnSingleton k l = none_pass (enabled_on p) (λ i. at.Reduction (FreeColumnSingleton k i)) (sole_row (column_entries p k)) (λ i. free_gone p k i (gone p.matrix.columns k l))
past opens p rule.SlackColumnSingleton k l = none_pass (enabled_on p) (λ i. at.Reduction (SlackColumnSingleton k i)) (sole_row (column_entries p k)) (λ i. slack_gone p k i (gone p.matrix.columns k l))
past opens p rule.ParallelRows k l = none_pass (enabled_on p) (λ m. at.Reduction (ParallelRows k m)) (range_with_len 0 (length p.matrix.rows)) (λ m. rw (gone p.matrix.rows k l) refl)
past opens p rule.ParallelColumns k l = none_pass (enabled_on p) (λ m. at.Reduction (ParallelColumns k m)) (range_with_len 0 (length p.matrix.columns)) (λ m. rw (gone p.matrix.columns k l) refl)
past opens p rule.EmptyColumn k l = rw (gone p.matrix.columns k l) refl

pub found_past : (opens : Open) (p : Sparse) (version : ℕ) (rule : Rule) (k : ℕ) → id_count p rule ≤ k → found_at opens p version rule (k ∷ []) ≡ []
found_past opens p version rule k l = ap (map (proposal_of p version)) (ap (filter (enabled_on p)) (append-nil (instances_from opens p rule k)) ∙ past opens p rule k l)

-- ---- ids one after the other
pub found_both : (opens : Open) (p : Sparse) (version : ℕ) (rule : Rule) (a b : List ℕ) → found_at opens p version rule (a ++ b) ≡ found_at opens p version rule a ++ found_at opens p version rule b
found_both opens p version rule a b =
    ap (λ es. map (proposal_of p version) (filter (enabled_on p) es)) (both a)
    ∙ ap (map (proposal_of p version)) (filter-append (enabled_on p) (instances_at opens p rule a) (instances_at opens p rule b))
    ∙ map-append (proposal_of p version) (filter (enabled_on p) (instances_at opens p rule a)) (filter (enabled_on p) (instances_at opens p rule b))
  where
    both : (ks : List ℕ) → instances_at opens p rule (ks ++ b) ≡ instances_at opens p rule ks ++ instances_at opens p rule b
    both [] = refl
    both (k ∷ ks) = ap (λ es. instances_from opens p rule k ++ es) (both ks) ∙ sym (append_assoc (instances_from opens p rule k) (instances_at opens p rule ks) (instances_at opens p rule b))

range_more : (a n : ℕ) → range_with_len a (suc n) ≡ range_with_len a n ++ (a + n) ∷ []
range_more a zero = ap (λ k. k ∷ []) (omega arith)
range_more a (suc n) = ap (λ ks. a ∷ ks) (range_more (a + 1) n ∙ ap (λ k. range_with_len (a + 1) n ++ k ∷ []) (omega arith))

pub found_more : (opens : Open) (p : Sparse) (version : ℕ) (rule : Rule) (a n : ℕ) → found_at opens p version rule (range_with_len a (n + 1)) ≡ found_at opens p version rule (range_with_len a n) ++ found_at opens p version rule ((a + n) ∷ [])
found_more opens p version rule a n =
    let one : n + 1 ≡ suc n = omega arith in
    ap (λ k. found_at opens p version rule (range_with_len a k)) one
    ∙ ap (found_at opens p version rule) (range_more a n)
    ∙ found_both opens p version rule (range_with_len a n) ((a + n) ∷ [])
