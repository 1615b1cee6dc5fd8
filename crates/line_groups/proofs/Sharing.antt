-- Rows, and columns, of which one is a multiple of another share a group.
use Rattle.std.proofs.Common.{◌≡◌, ℕ, Bool, true, false, not, ◌&&◌, nat_eq, length, Option, Some, sym, ◌∙◌, subst}
use Rattle.std.specs.Prelude.{if◌then◌else◌}
use Rattle.std.specs.List.{Contains}
use Rattle.std.proofs.lemmas.Bool.{and_parts}
use Rattle.fractions.specs.Number.{zero_ℚ, ◌*ℚ◌}
use Rattle.fractions.specs.Compare.{eq_ℚ}
use Rattle.fractions.specs.Comparisons.{eq_ℚ-is}
use Rattle.problem_model.specs.declared.part.Contents.{Contents}
use Rattle.problem_model.specs.declared.part.Contents.TheVariants as holding
use Rattle.problem_model.specs.declared.part.Part.TheVariants as part
use Rattle.problem_model.specs.Parts.{contents_of}
use Rattle.problem_model.specs.Problems.{IsSparse, column_at, column_entries, cost_at, row_at, row_entries}
use Rattle.problem_model.specs.Sparse.{Sparse}
use Rattle.problem_laws.proofs.Entries.{column_entries-none_zero, row_entries-none_zero}
use Rattle.row_spans.specs.Exact.{fits}
use Rattle.rule_words.specs.Entries.{has_none}
use Rattle.rule_words.specs.Multiples.{are_times, factor_of}
use Rattle.rule_words.proofs.EndTestsSay.{not_true}
use Rattle.parallel_laws.specs.ParallelColumns as columns
use Rattle.parallel_laws.specs.ParallelRows as rows
use Rattle.line_groups.specs.Groups.{AreGrouped, AreGroupsOf, Grouped, IsGrouping, LineGroups, group_at, ids_in, number_at}
use Rattle.sorted_ids.specs.Ascending.{AscendsFrom}
use Rattle.line_groups.specs.Keys.{key_at, key_in}
use Rattle.line_groups.proofs.Multiples.{key_same, times_zero}

-- ---- what it says that they are those of a problem
pub opened : (t : LineGroups) (p : Sparse) → AreGroupsOf t p → AreGrouped t p
unfolding AreGroupsOf
opened t p h = h

pub closed : (t : LineGroups) (p : Sparse) → AreGrouped t p → AreGroupsOf t p
unfolding AreGroupsOf
closed t p h = h

pub rows_ascend : (t : LineGroups) (p : Sparse) → AreGroupsOf t p → (i : ℕ) → AscendsFrom 0 (group_at t.rows i)
rows_ascend t p h i = (opened t p h).rows.table.ascends (number_at t.rows i)

pub columns_ascend : (t : LineGroups) (p : Sparse) → AreGroupsOf t p → (j : ℕ) → AscendsFrom 0 (group_at t.columns j)
columns_ascend t p h j = (opened t p h).columns.table.ascends (number_at t.columns j)

-- ---- lines with one key are in one group
same_some : (m n : ℕ) → Some m ≡ Some n → m ≡ n
same_some m n e = cc

share : (g : Grouped) (count : ℕ) (key : ℕ → Option ℕ) (i k h : ℕ) → IsGrouping g count key → key i ≡ Some h → key k ≡ Some h → Contains (group_at g i) k
share g count key i k h all e f =
    let first = all.each i h e in let second = all.each k h f in
    subst (λ (n : ℕ). Contains (ids_in g n) k) (same_some (number_at g k) (number_at g i) (sym second.number ∙ first.number)) second.among

-- ---- rows
row_if : Sparse → ℕ → Bool → Contents
row_if p i b = if b then holding.Entries (row_entries p i) else holding.Gone

row_keys_if : (p : Sparse) (i k : ℕ) → IsSparse p → (a b : Bool) → rows.is_parallel i k (row_if p i a) (row_if p k b) ≡ true → (h : ℕ) × (key_in (row_if p i a) ≡ Some h) × (key_in (row_if p k b) ≡ Some h)
unfolding row_if
row_keys_if p i k s false b e = absurd (not_true e)
row_keys_if p i k s true false e = absurd (not_true e)
row_keys_if p i k s true true e =
    let ts = row_entries p i in let us = row_entries p k in
    let f = factor_of ts us in
    let x = and_parts (not (nat_eq i k)) (rows.is_multiple f ts us) e in
    let y = and_parts (not (has_none ts)) (fits f && are_times f ts us) x.1 in
    let z = and_parts (fits f) (are_times f ts us) y.1 in
    key_same f zero_ℚ zero_ℚ ts us y.0 (times_zero f) z.1 (row_entries-none_zero p i s) (row_entries-none_zero p k s)

row_keys : (p : Sparse) (i k : ℕ) → IsSparse p → rows.enabled p i k ≡ true → (h : ℕ) × (key_at p (part.Row i) ≡ Some h) × (key_at p (part.Row k) ≡ Some h)
unfolding row_if
row_keys p i k s e = row_keys_if p i k s (row_at p i).live (row_at p k).live e

pub parallel_rows_share : (t : LineGroups) (p : Sparse) (i k : ℕ) → IsSparse p → AreGroupsOf t p → rows.enabled p i k ≡ true → Contains (group_at t.rows i) k × Contains (group_at t.rows k) i
parallel_rows_share t p i k s g e =
    let (h, f, l) = row_keys p i k s e in (
      share t.rows (length p.matrix.rows) (λ i. key_at p (part.Row i)) i k h (opened t p g).rows f l,
      share t.rows (length p.matrix.rows) (λ i. key_at p (part.Row i)) k i h (opened t p g).rows l f,
    )

-- ---- columns
column_if : Sparse → ℕ → Bool → Contents
column_if p j b = if b then holding.Column (column_entries p j) (cost_at p j) else holding.Gone

column_keys_if : (p : Sparse) (j k : ℕ) → IsSparse p → (a b : Bool) (c d : Contents) → columns.is_parallel j k (column_if p j a) (column_if p k b) c d ≡ true → (h : ℕ) × (key_in (column_if p j a) ≡ Some h) × (key_in (column_if p k b) ≡ Some h)
unfolding column_if
column_keys_if p j k s false b c d e = absurd (not_true e)
column_keys_if p j k s true false c d e = absurd (not_true e)
column_keys_if p j k s true true c d e =
    let ts = column_entries p j in let us = column_entries p k in
    let f = factor_of ts us in
    let multiple = columns.is_multiple f ts (cost_at p j) us (cost_at p k) in
    let w = and_parts (not (nat_eq j k)) (columns.are_in_order c d && (columns.are_of_a_kind f c d && multiple)) e in
    let x = and_parts (columns.are_in_order c d) (columns.are_of_a_kind f c d && multiple) w.1 in
    let y = and_parts (columns.are_of_a_kind f c d) multiple x.1 in
    let z = and_parts (not (has_none ts)) (fits f && (eq_ℚ (cost_at p j) (f *ℚ cost_at p k) && are_times f ts us)) y.1 in
    let u = and_parts (fits f) (eq_ℚ (cost_at p j) (f *ℚ cost_at p k) && are_times f ts us) z.1 in
    let v = and_parts (eq_ℚ (cost_at p j) (f *ℚ cost_at p k)) (are_times f ts us) u.1 in
    key_same f (cost_at p j) (cost_at p k) ts us z.0 ((eq_ℚ-is (cost_at p j) (f *ℚ cost_at p k)).0 v.0) v.1 (column_entries-none_zero p j s) (column_entries-none_zero p k s)

column_keys : (p : Sparse) (j k : ℕ) → IsSparse p → columns.enabled p j k ≡ true → (h : ℕ) × (key_at p (part.Col j) ≡ Some h) × (key_at p (part.Col k) ≡ Some h)
unfolding column_if
column_keys p j k s e = column_keys_if p j k s (column_at p j).live (column_at p k).live (contents_of p (part.Bounds j)) (contents_of p (part.Bounds k)) e

pub parallel_columns_share : (t : LineGroups) (p : Sparse) (j k : ℕ) → IsSparse p → AreGroupsOf t p → columns.enabled p j k ≡ true → Contains (group_at t.columns j) k × Contains (group_at t.columns k) j
parallel_columns_share t p j k s g e =
    let (h, f, l) = column_keys p j k s e in (
      share t.columns (length p.matrix.columns) (λ j. key_at p (part.Col j)) j k h (opened t p g).columns f l,
      share t.columns (length p.matrix.columns) (λ j. key_at p (part.Col j)) k j h (opened t p g).columns l f,
    )
