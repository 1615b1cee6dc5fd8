-- What enabled instances read are parts of the problem. One line a rule.
use Rattle.std.proofs.Common.{◌≡◌, ◌⊎◌, inl, inr, ℕ, ◌<◌, true, not, List, [], ◌∷◌, ◌++◌, length, map, subst}
use Rattle.std.specs.List.{Contains, filter}
use Rattle.std.proofs.lemmas.List.Elements.{Contains-append_cases}
use Rattle.lp_model.specs.declared.terms.Term.{Term}
use Rattle.lp_model.specs.Sparse.{has}
use Rattle.problem_model.specs.declared.part.Part.{Part}
use Rattle.problem_model.specs.declared.part.Part.TheVariants as part
use Rattle.problem_model.specs.Parts.{contents_of}
use Rattle.problem_model.specs.Problems.{column_at, row_at, row_entries}
use Rattle.problem_model.specs.Sparse.{Sparse}
use Rattle.problem_laws.proofs.AtIds.{column_inside, row_inside}
use Rattle.transactions.specs.Transactions.{IsPartOf}
use Rattle.rule_words.specs.Reading.{bounds_named, bounds_of, parts_on, sides_named, sides_of, terms_in}
use Rattle.singleton_laws.proofs.EmptyRow as empty_row
use Rattle.singleton_laws.proofs.SingletonRow as singleton_row
use Rattle.singleton_laws.proofs.FixedColumn as fixed_column
use Rattle.singleton_laws.proofs.RoundedBounds as rounded_bounds
use Rattle.singleton_laws.proofs.EmptyColumn as empty_column
use Rattle.singleton_laws.proofs.CrossedBounds as crossed_bounds
use Rattle.singleton_laws.proofs.CrossedSides as crossed_sides
use Rattle.activity_laws.specs.BoundTightening.{is_bound_tightening}
use Rattle.activity_laws.specs.RedundantRow.{is_redundant_row}
use Rattle.activity_laws.specs.RedundantSide.{has_redundant_side}
use Rattle.activity_laws.specs.ForcingRow.{is_forcing_row}
use Rattle.activity_laws.specs.InfeasibleRow.{is_infeasible_row}
use Rattle.activity_laws.proofs.Rows.{said}
use Rattle.presolve_model.specs.CoefficientTightening.{is_coefficient_tightening}
use Rattle.dual_laws.specs.DominatedColumn.{heads, more, rows_of_both}
use Rattle.dual_laws.proofs.DualFixing as dual_fixing
use Rattle.dual_laws.proofs.DominatedColumn as dominated_column
use Rattle.dual_laws.proofs.UnboundedColumn as unbounded_column
use Rattle.aggregation_laws.proofs.DoubletonEquation as doubleton_equation
use Rattle.column_laws.specs.FreeColumnSingleton.{heads as free_heads}
use Rattle.column_laws.proofs.FreeColumnSingleton as free_column_singleton
use Rattle.column_laws.proofs.SlackColumnSingleton as slack_column_singleton
use Rattle.parallel_laws.proofs.ParallelRows as parallel_rows
use Rattle.parallel_laws.proofs.ParallelColumns as parallel_columns
use Rattle.presolve_model.specs.declared.instance.Instance.{Instance}
use Rattle.presolve_model.specs.declared.instance.Instance.TheVariants as at
use Rattle.presolve_model.specs.declared.instance.Reduction.TheVariants.{EmptyRow, SingletonRow, FixedColumn, RoundedBounds, RedundantRow, RedundantSide, ForcingRow, BoundTightening, CoefficientTightening, DualFixing, DominatedColumn, DoubletonEquation, FreeColumnSingleton, SlackColumnSingleton, ParallelRows, ParallelColumns, EmptyColumn}
use Rattle.presolve_model.specs.declared.instance.Verdict.TheVariants.{CrossedBounds, CrossedSides, InfeasibleRow, UnboundedColumn}
use Rattle.presolve_model.specs.Enabled.{enabled_on, reads}
use Rattle.place_laws.proofs.Near.{both_there, column_names, live_of, row_names}
use Rattle.place_laws.proofs.ShortLists.{each_mapped, five_in, four_in, has_of, kept_is, one_in, three_in, two_in}

module _ (p : Sparse) where
  abbrev Here : Part → Type 0
  Here a = IsPartOf (length p.matrix.rows) (length p.matrix.columns) a

  -- ---- what the entries of a live line name
  column_here : (i : ℕ) → (row_at p i).live ≡ true → (j : ℕ) → has j (row_entries p i) ≡ true → j < length p.matrix.columns
  column_here i on j h = column_inside p j (live_of p.matrix.columns j (row_at p i).entries h)

  row_here : (j : ℕ) → (column_at p j).live ≡ true → (t : Term) → Contains (terms_in (contents_of p (part.Col j))) t → t.id < length p.matrix.rows
  row_here j on t c = row_inside p t.id (live_of p.matrix.rows t.id (column_at p j).entries
      (subst (λ (ts : List Term). has t.id ts ≡ true) (column_names p j on) (has_of (terms_in (contents_of p (part.Col j))) t c)))

  bounds_here : (i : ℕ) → (row_at p i).live ≡ true → (a : Part) → Contains (bounds_of (terms_in (contents_of p (part.Row i)))) a → Here a
  bounds_here i on a c = each_mapped Here (λ (t : Term). part.Bounds t.id) (terms_in (contents_of p (part.Row i))) a
      (λ t e. column_here i on t.id (subst (λ (ts : List Term). has t.id ts ≡ true) (row_names p i on) (has_of (terms_in (contents_of p (part.Row i))) t e))) c

  sides_here : (j : ℕ) → (column_at p j).live ≡ true → (a : Part) → Contains (sides_of (terms_in (contents_of p (part.Col j)))) a → Here a
  sides_here j on a c = each_mapped Here (λ (t : Term). part.Sides t.id) (terms_in (contents_of p (part.Col j))) a (row_here j on) c

  -- ---- heads, and what they name
  one_row : (i : ℕ) → (row_at p i).live ≡ true → (a : Part) → Contains (part.Row i ∷ part.Sides i ∷ []) a → Here a
  one_row i on a c = two_in Here (part.Row i) (part.Sides i) a (row_inside p i on) (row_inside p i on) c

  one_column : (j : ℕ) → (column_at p j).live ≡ true → (a : Part) → Contains (part.Col j ∷ part.Bounds j ∷ []) a → Here a
  one_column j on a c = two_in Here (part.Col j) (part.Bounds j) a (column_inside p j on) (column_inside p j on) c

  by_row : (i : ℕ) → (row_at p i).live ≡ true → (a : Part) → Contains (parts_on (part.Row i ∷ part.Sides i ∷ []) bounds_named p) a → Here a
  by_row i on a c = by (Contains-append_cases (part.Row i ∷ part.Sides i ∷ []) (bounds_of (terms_in (contents_of p (part.Row i)))) a c)
    where
      by : Contains (part.Row i ∷ part.Sides i ∷ []) a ⊎ Contains (bounds_of (terms_in (contents_of p (part.Row i)))) a → Here a
      by (inl d) = one_row i on a d
      by (inr d) = bounds_here i on a d

  by_column : (j : ℕ) → (column_at p j).live ≡ true → (a : Part) → Contains (parts_on (part.Col j ∷ part.Bounds j ∷ []) sides_named p) a → Here a
  by_column j on a c = by (Contains-append_cases (part.Col j ∷ part.Bounds j ∷ []) (sides_of (terms_in (contents_of p (part.Col j)))) a c)
    where
      by : Contains (part.Col j ∷ part.Bounds j ∷ []) a ⊎ Contains (sides_of (terms_in (contents_of p (part.Col j)))) a → Here a
      by (inl d) = one_column j on a d
      by (inr d) = sides_here j on a d

  abbrev names : ℕ → List Term
  names j = terms_in (contents_of p (part.Col j))

  by_pair : (i j k : ℕ) → (row_at p i).live ≡ true → (column_at p j).live ≡ true → (column_at p k).live ≡ true → (a : Part) → Contains (parts_on (heads i j k) more p) a → Here a
  by_pair i j k on first second a c = by (Contains-append_cases (heads i j k) (more (map (contents_of p) (heads i j k))) a c)
    where
      of_term : (t : Term) → Contains (names j ++ filter (λ u. not (has u.id (names j))) (names k)) t → Here (part.Sides t.id)
      of_term t d = among (Contains-append_cases (names j) (filter (λ u. not (has u.id (names j))) (names k)) t d)
        where
          among : Contains (names j) t ⊎ Contains (filter (λ u. not (has u.id (names j))) (names k)) t → Here (part.Sides t.id)
          among (inl e) = row_here j first t e
          among (inr e) = row_here k second t (kept_is (λ u. not (has u.id (names j))) (names k) t e)

      by : Contains (heads i j k) a ⊎ Contains (more (map (contents_of p) (heads i j k))) a → Here a
      by (inl d) = five_in Here (part.Row i) (part.Col j) (part.Col k) (part.Bounds j) (part.Bounds k) a
          (row_inside p i on) (column_inside p j first) (column_inside p k second) (column_inside p j first) (column_inside p k second) d
      by (inr d) = each_mapped Here part.Sides (rows_of_both (names j) (names k)) a
          (λ r e. each_mapped (λ (m : ℕ). Here (part.Sides m)) (λ (t : Term). t.id) (names j ++ filter (λ u. not (has u.id (names j))) (names k)) r of_term e) d

  by_equation : (i j k : ℕ) → doubleton_equation.SaidOf p i j k → (a : Part) → Contains (part.Row i ∷ part.Sides i ∷ part.Bounds j ∷ part.Bounds k ∷ []) a → Here a
  by_equation i j k o a c =
      let there = both_there (row_entries p i) j k o.at in
      four_in Here (part.Row i) (part.Sides i) (part.Bounds j) (part.Bounds k) a (row_inside p i o.row_on) (row_inside p i o.row_on) (column_here i o.row_on j there.0) (column_here i o.row_on k there.1) c

  by_free : (j i : ℕ) → (row_at p i).live ≡ true → (column_at p j).live ≡ true → (a : Part) → Contains (parts_on (free_heads j i) bounds_named p) a → Here a
  by_free j i row column a c = by (Contains-append_cases (free_heads j i) (bounds_of (terms_in (contents_of p (part.Row i)))) a c)
    where
      by : Contains (free_heads j i) a ⊎ Contains (bounds_of (terms_in (contents_of p (part.Row i)))) a → Here a
      by (inl d) = three_in Here (part.Row i) (part.Sides i) (part.Col j) a (row_inside p i row) (row_inside p i row) (column_inside p j column) d
      by (inr d) = bounds_here i row a d

pub reads_parts : (p : Sparse) (e : Instance) → enabled_on p e ≡ true → (a : Part) → Contains (reads p e) a → IsPartOf (length p.matrix.rows) (length p.matrix.columns) a
reads_parts p (at.Verdict (CrossedBounds j)) on a c = one_in (Here p) (part.Bounds j) a (column_inside p j (crossed_bounds.said p j on).live) c
reads_parts p (at.Verdict (CrossedSides i)) on a c = one_in (Here p) (part.Sides i) a (row_inside p i (crossed_sides.said p i on).live) c
reads_parts p (at.Verdict (InfeasibleRow i)) on a c = by_row p i (said is_infeasible_row p i on).live a c
reads_parts p (at.Verdict (UnboundedColumn j)) on a c = by_column p j (unbounded_column.said p j on).live a c
reads_parts p (at.Reduction (EmptyRow i)) on a c = one_row p i (empty_row.said p i on).live a c
reads_parts p (at.Reduction (SingletonRow i)) on a c = by_row p i (singleton_row.said p i on).live a c
reads_parts p (at.Reduction (FixedColumn j)) on a c = one_column p j (fixed_column.said p j on).live a c
reads_parts p (at.Reduction (RoundedBounds j)) on a c = one_in (Here p) (part.Bounds j) a (column_inside p j (rounded_bounds.said p j on).live) c
reads_parts p (at.Reduction (RedundantRow i)) on a c = by_row p i (said is_redundant_row p i on).live a c
reads_parts p (at.Reduction (RedundantSide i)) on a c = by_row p i (said has_redundant_side p i on).live a c
reads_parts p (at.Reduction (ForcingRow i)) on a c = by_row p i (said is_forcing_row p i on).live a c
reads_parts p (at.Reduction (BoundTightening i j side)) on a c = by_row p i (said (is_bound_tightening j side) p i on).live a c
reads_parts p (at.Reduction (CoefficientTightening i j)) on a c = by_row p i (said (is_coefficient_tightening j) p i on).live a c
reads_parts p (at.Reduction (DualFixing j)) on a c = by_column p j (dual_fixing.said p j on).live a c
reads_parts p (at.Reduction (DominatedColumn i j k)) on a c = let d = dominated_column.said p i j k on in by_pair p i j k d.row_live d.first_live d.second_live a c
reads_parts p (at.Reduction (DoubletonEquation i j k)) on a c = by_equation p i j k (doubleton_equation.said p i j k on) a c
reads_parts p (at.Reduction (FreeColumnSingleton j i)) on a c = let d = free_column_singleton.said p j i on in by_free p j i d.row_live d.column.live a c
reads_parts p (at.Reduction (SlackColumnSingleton j i)) on a c = let d = slack_column_singleton.said p j i on in
    four_in (Here p) (part.Row i) (part.Sides i) (part.Col j) (part.Bounds j) a (row_inside p i d.row_live) (row_inside p i d.row_live) (column_inside p j d.column_live) (column_inside p j d.column_live) c
reads_parts p (at.Reduction (ParallelRows i k)) on a c = let d = parallel_rows.said p i k on in two_in (Here p) (part.Row i) (part.Row k) a (row_inside p i d.first_live) (row_inside p k d.second_live) c
reads_parts p (at.Reduction (ParallelColumns j k)) on a c = let d = parallel_columns.said p j k on in
    four_in (Here p) (part.Col j) (part.Col k) (part.Bounds j) (part.Bounds k) a (column_inside p j d.first_live) (column_inside p k d.second_live) (column_inside p j d.first_live) (column_inside p k d.second_live) c
reads_parts p (at.Reduction (EmptyColumn j)) on a c = one_column p j (empty_column.said p j on).live a c
