-- Rows and columns around a part.
use Rattle.std.proofs.Common.{◌≡◌, ◌⊎◌, inl, inr, ℕ, Bool, true, ◌&&◌, nat_eq, length, refl, arith, true≢false, not, List, [], ◌∷◌, ◌++◌, map, sym, ap, ◌∙◌, subst}
use Rattle.std.specs.Prelude.{if◌then◌else◌}
use Rattle.std.specs.List.{Contains, filter}
use Rattle.std.proofs.lemmas.Bool.{and_parts, eqb-true}
use Rattle.std.proofs.lemmas.List.Elements.{Contains-append_cases}
use Rattle.lp_model.specs.declared.terms.Term.{Term}
use Rattle.lp_model.specs.Sparse.{has}
use Rattle.problem_model.specs.declared.line.Line.{Line}
use Rattle.problem_model.specs.declared.part.Contents.TheVariants as holding
use Rattle.problem_model.specs.declared.part.Part.{Part}
use Rattle.problem_model.specs.declared.part.Part.TheVariants as part
use Rattle.problem_model.specs.Matrices.{line_at, live_only}
use Rattle.problem_model.specs.Parts.{contents_of}
use Rattle.problem_model.specs.Problems.{column_at, column_entries, cost_at, first_of, row_at, row_entries, IsSparse}
use Rattle.problem_model.specs.Sparse.{Sparse}
use Rattle.problem_laws.proofs.Terms.{has-cons_same}
use Rattle.problem_laws.proofs.Entries.{has-live_only, live_entries_name}
use Rattle.rule_words.specs.Reading.{bounds_named, bounds_of, parts_on, sides_named, sides_of, terms_in}
use Rattle.aggregation_laws.specs.DoubletonEquation.{are_at, heads as equation_heads}
use Rattle.aggregation_laws.proofs.DoubletonEquation.{SaidOf}
use Rattle.column_laws.specs.FreeColumnSingleton.{heads as free_heads}
use Rattle.column_laws.specs.SlackColumnSingleton.{heads as slack_heads}
use Rattle.column_laws.proofs.SoleEntry.{IsSole}
use Rattle.dual_laws.specs.DominatedColumn.{heads, more, rows_of_both}
use Rattle.dual_laws.proofs.DominatedColumn.{SaidAt}
use Rattle.presolve_model.proofs.Lists.{either_true}
use Rattle.presolve_model.specs.declared.instance.Reach.TheVariants.{RowsOfBounds, ColumnsOfSides, RowsOfBoth, SoleColumns}
use Rattle.place_laws.specs.Choosing.{columns_with, Leads, LeadsToRow}
use Rattle.place_laws.proofs.ShortLists.{alone, each_mapped, five_in, four_in, has_of, kept_is, three_in, two_in}

-- ---- a term that is left names a line that is live
pub live_of : (lines : List Line) (k : ℕ) (ts : List Term) → has k (live_only lines ts) ≡ true → (line_at lines k).live ≡ true
live_of lines k ts h = (and_parts (line_at lines k).live (has k ts) (sym (has-live_only lines k ts) ∙ h)).0

-- a term that has one of two ids, and another that has the other
pub both_there : (ts : List Term) (j k : ℕ) → are_at j k ts ≡ true → (has j ts ≡ true) × (has k ts ≡ true)
both_there [] j k h = absurd (true≢false (sym h))
both_there (t ∷ []) j k h = absurd (true≢false (sym h))
both_there (t ∷ u ∷ v ∷ ts) j k h = absurd (true≢false (sym h))
both_there (t ∷ u ∷ []) j k h = by (either_true (nat_eq t.id j && nat_eq u.id k) (nat_eq t.id k && nat_eq u.id j) h)
  where
    in_first : (m : ℕ) → nat_eq t.id m ≡ true → has m (t ∷ u ∷ []) ≡ true
    in_first m e = has-cons_same m t (u ∷ []) (eqb-true t.id m e)

    in_second : (m : ℕ) → nat_eq u.id m ≡ true → has m (t ∷ u ∷ []) ≡ true
    in_second m e = subst (λ (n : ℕ). has n (t ∷ u ∷ []) ≡ true) (eqb-true u.id m e) (has_of (t ∷ u ∷ []) u (1, omega arith, refl))

    by : ((nat_eq t.id j && nat_eq u.id k) ≡ true) ⊎ ((nat_eq t.id k && nat_eq u.id j) ≡ true) → (has j (t ∷ u ∷ []) ≡ true) × (has k (t ∷ u ∷ []) ≡ true)
    by (inl e) = let b = and_parts (nat_eq t.id j) (nat_eq u.id k) e in (in_first j b.0, in_second k b.1)
    by (inr e) = let b = and_parts (nat_eq t.id k) (nat_eq u.id j) e in (in_second j b.1, in_first k b.0)

-- what a live column names
pub column_names : (p : Sparse) (j : ℕ) → (column_at p j).live ≡ true → terms_in (contents_of p (part.Col j)) ≡ column_entries p j
column_names p j on = ap (λ (b : Bool). terms_in (if b then holding.Column (column_entries p j) (cost_at p j) else holding.Gone)) on

-- what a live row names
pub row_names : (p : Sparse) (i : ℕ) → (row_at p i).live ≡ true → terms_in (contents_of p (part.Row i)) ≡ row_entries p i
row_names p i on = ap (λ (b : Bool). terms_in (if b then holding.Entries (row_entries p i) else holding.Gone)) on

module _ (p : Sparse) (s : IsSparse p) where
  -- a row stands in the columns that stand in it
  stands_back : (i j : ℕ) → (row_at p i).live ≡ true → has j (row_entries p i) ≡ true → has i (column_entries p j) ≡ true
  stands_back i j on h = sym (live_entries_name p i j s on (live_of p.matrix.columns j (row_at p i).entries h)) ∙ h

  stands_too : (i j : ℕ) → (column_at p j).live ≡ true → has i (column_entries p j) ≡ true → has j (row_entries p i) ≡ true
  stands_too i j on h = live_entries_name p i j s (live_of p.matrix.rows i (column_at p j).entries h) on ∙ h

  -- the terms of a column
  abbrev names : ℕ → List Term
  names j = terms_in (contents_of p (part.Col j))

  -- a rule that reads a row, its sides and the bounds of its columns
  bounds_lead : (i : ℕ) → (row_at p i).live ≡ true → (j : ℕ) → has j (row_entries p i) ≡ true → Leads p RowsOfBounds (part.Bounds j) i
  bounds_lead i on j h = inr (j, alone j, stands_back i j on h)

  pub by_row : (i : ℕ) → (row_at p i).live ≡ true → (a : Part) → Contains (parts_on (part.Row i ∷ part.Sides i ∷ []) bounds_named p) a → Leads p RowsOfBounds a i
  by_row i on a c = by (Contains-append_cases (part.Row i ∷ part.Sides i ∷ []) (bounds_of (terms_in (contents_of p (part.Row i)))) a c)
    where
      by : Contains (part.Row i ∷ part.Sides i ∷ []) a ⊎ Contains (bounds_of (terms_in (contents_of p (part.Row i)))) a → Leads p RowsOfBounds a i
      by (inl d) = two_in (λ (b : Part). Leads p RowsOfBounds b i) (part.Row i) (part.Sides i) a (inl (alone i)) (inl (alone i)) d
      by (inr d) = each_mapped (λ (b : Part). Leads p RowsOfBounds b i) (λ (t : Term). part.Bounds t.id) (terms_in (contents_of p (part.Row i))) a
          (λ t e. bounds_lead i on t.id (subst (λ (ts : List Term). has t.id ts ≡ true) (row_names p i on) (has_of (terms_in (contents_of p (part.Row i))) t e))) d

  -- a rule that reads a column, its bounds and the sides of its rows
  sides_lead : (j : ℕ) → (column_at p j).live ≡ true → (i : ℕ) → has i (names j) ≡ true → Leads p ColumnsOfSides (part.Sides i) j
  sides_lead j on i h = inr (i, alone i, stands_too i j on (subst (λ (ts : List Term). has i ts ≡ true) (column_names p j on) h))

  pub by_column : (j : ℕ) → (column_at p j).live ≡ true → (a : Part) → Contains (parts_on (part.Col j ∷ part.Bounds j ∷ []) sides_named p) a → Leads p ColumnsOfSides a j
  by_column j on a c = by (Contains-append_cases (part.Col j ∷ part.Bounds j ∷ []) (sides_of (names j)) a c)
    where
      by : Contains (part.Col j ∷ part.Bounds j ∷ []) a ⊎ Contains (sides_of (names j)) a → Leads p ColumnsOfSides a j
      by (inl d) = two_in (λ (b : Part). Leads p ColumnsOfSides b j) (part.Col j) (part.Bounds j) a (inl (alone j)) (inl (alone j)) d
      by (inr d) = each_mapped (λ (b : Part). Leads p ColumnsOfSides b j) (λ (t : Term). part.Sides t.id) (names j) a (λ t e. sides_lead j on t.id (has_of (names j) t e)) d

  -- ---- a row, two of its columns, and the sides of the rows of both
  column_leads : (i j : ℕ) (a : Part) → (row_at p i).live ≡ true → has j (row_entries p i) ≡ true → Contains (columns_with a) j → Leads p RowsOfBoth a i
  column_leads i j a on h c = inr (j, inl c, stands_back i j on h)

  far_sides_lead : (i j r : ℕ) → (row_at p i).live ≡ true → (column_at p j).live ≡ true → has j (row_entries p i) ≡ true → has r (names j) ≡ true → Leads p RowsOfBoth (part.Sides r) i
  far_sides_lead i j r on live h g = inr (j, inr (r, alone r, stands_too r j live (subst (λ (ts : List Term). has r ts ≡ true) (column_names p j live) g)), stands_back i j on h)

  pub by_pair : (i j k : ℕ) → SaidAt p i j k → (a : Part) → Contains (parts_on (heads i j k) more p) a → Leads p RowsOfBoth a i
  by_pair i j k o a c = by (Contains-append_cases (heads i j k) (more (map (contents_of p) (heads i j k))) a c)
    where
      of_term : (t : Term) → Contains (names j ++ filter (λ u. not (has u.id (names j))) (names k)) t → Leads p RowsOfBoth (part.Sides t.id) i
      of_term t d = among (Contains-append_cases (names j) (filter (λ u. not (has u.id (names j))) (names k)) t d)
        where
          among : Contains (names j) t ⊎ Contains (filter (λ u. not (has u.id (names j))) (names k)) t → Leads p RowsOfBoth (part.Sides t.id) i
          among (inl e) = far_sides_lead i j t.id o.row_live o.first_live o.first_in (has_of (names j) t e)
          among (inr e) = far_sides_lead i k t.id o.row_live o.second_live o.second_in (has_of (names k) t (kept_is (λ u. not (has u.id (names j))) (names k) t e))

      sides : Contains (map part.Sides (rows_of_both (names j) (names k))) a → Leads p RowsOfBoth a i
      sides d = each_mapped (λ (b : Part). Leads p RowsOfBoth b i) part.Sides (rows_of_both (names j) (names k)) a
          (λ r e. each_mapped (λ (m : ℕ). Leads p RowsOfBoth (part.Sides m) i) (λ (t : Term). t.id) (names j ++ filter (λ u. not (has u.id (names j))) (names k)) r of_term e) d

      by : Contains (heads i j k) a ⊎ Contains (more (map (contents_of p) (heads i j k))) a → Leads p RowsOfBoth a i
      by (inl d) = five_in (λ (b : Part). Leads p RowsOfBoth b i) (part.Row i) (part.Col j) (part.Col k) (part.Bounds j) (part.Bounds k) a
          (inl (alone i)) (column_leads i j (part.Col j) o.row_live o.first_in (alone j)) (column_leads i k (part.Col k) o.row_live o.second_in (alone k))
          (column_leads i j (part.Bounds j) o.row_live o.first_in (alone j)) (column_leads i k (part.Bounds k) o.row_live o.second_in (alone k)) d
      by (inr d) = sides d

  -- ---- a row and the bounds of two columns that stand in it alone
  pub by_equation : (i j k : ℕ) → SaidOf p i j k → (a : Part) → Contains (equation_heads i j k) a → Leads p RowsOfBounds a i
  by_equation i j k o a c = four_in (λ (b : Part). Leads p RowsOfBounds b i) (part.Row i) (part.Sides i) (part.Bounds j) (part.Bounds k) a
      (inl (alone i)) (inl (alone i)) (bounds_lead i o.row_on j (both_there (row_entries p i) j k o.at).0) (bounds_lead i o.row_on k (both_there (row_entries p i) j k o.at).1) c

  -- ---- a column with one entry, its row, and the bounds of that row's columns
  module _ (j i : ℕ) (row : (row_at p i).live ≡ true) (column : (column_at p j).live ≡ true) (sole : IsSole i (column_entries p j)) where
    one_entry : length (column_entries p j) ≡ 1
    one_entry = ap (λ (ts : List Term). length ts) sole.one

    stands_there : has j (row_entries p i) ≡ true
    stands_there = stands_too i j column (ap (λ (ts : List Term). has i ts) sole.one ∙ has-cons_same i (first_of (column_entries p j)) [] sole.at)

    leads_by_row : (a : Part) → LeadsToRow p a i → Leads p SoleColumns a j
    leads_by_row a l = (one_entry, inr (i, l, stands_there))

    leads_by_column : (a : Part) → Contains (columns_with a) j → Leads p SoleColumns a j
    leads_by_column a c = (one_entry, inl c)

    pub by_slack : (a : Part) → Contains (slack_heads j i) a → Leads p SoleColumns a j
    by_slack a c = four_in (λ (b : Part). Leads p SoleColumns b j) (part.Row i) (part.Sides i) (part.Col j) (part.Bounds j) a
        (leads_by_row (part.Row i) (inl (alone i))) (leads_by_row (part.Sides i) (inl (alone i))) (leads_by_column (part.Col j) (alone j)) (leads_by_column (part.Bounds j) (alone j)) c

    pub by_free : (a : Part) → Contains (parts_on (free_heads j i) bounds_named p) a → Leads p SoleColumns a j
    by_free a c = by (Contains-append_cases (free_heads j i) (bounds_of (terms_in (contents_of p (part.Row i)))) a c)
      where
        by : Contains (free_heads j i) a ⊎ Contains (bounds_of (terms_in (contents_of p (part.Row i)))) a → Leads p SoleColumns a j
        by (inl d) = three_in (λ (b : Part). Leads p SoleColumns b j) (part.Row i) (part.Sides i) (part.Col j) a
            (leads_by_row (part.Row i) (inl (alone i))) (leads_by_row (part.Sides i) (inl (alone i))) (leads_by_column (part.Col j) (alone j)) d
        by (inr d) = each_mapped (λ (b : Part). Leads p SoleColumns b j) (λ (t : Term). part.Bounds t.id) (terms_in (contents_of p (part.Row i))) a
            (λ t e. leads_by_row (part.Bounds t.id) (bounds_lead i row t.id (subst (λ (ts : List Term). has t.id ts ≡ true) (row_names p i row) (has_of (terms_in (contents_of p (part.Row i))) t e)))) d
