-- Where instances are: near each part that they read. One line a rule.
use Rattle.std.proofs.Common.{◌≡◌, ◌⊎◌, inl, inr, ℕ, zero, suc, ◌<◌, true, List, [], ◌∷◌, length, map, refl, sym, ap, ◌∙◌, subst, arith}
use Rattle.std.specs.List.{Contains, filter, range_with_len}
use Rattle.problem_model.specs.declared.part.Part.{Part}
use Rattle.problem_model.specs.declared.part.Part.TheVariants as part
use Rattle.problem_model.specs.Sparse.{Sparse}
use Rattle.edit_laws.specs.Sizes.{SameSize}
use Rattle.presolve_model.specs.declared.instance.Reach.TheVariants.{RowsBeside, ColumnsBeside}
use Rattle.presolve_model.specs.declared.instance.Instance.{Instance}
use Rattle.presolve_model.specs.declared.instance.Instance.TheVariants as at
use Rattle.presolve_model.specs.declared.instance.Reduction.TheVariants.{EmptyRow, SingletonRow, FixedColumn, RoundedBounds, RedundantRow, RedundantSide, ForcingRow, BoundTightening, CoefficientTightening, DualFixing, DominatedColumn, DoubletonEquation, FreeColumnSingleton, SlackColumnSingleton, ParallelRows, ParallelColumns, EmptyColumn}
use Rattle.presolve_model.specs.declared.instance.Verdict.{Verdict}
use Rattle.presolve_model.specs.declared.instance.Verdict.TheVariants.{CrossedBounds, CrossedSides, InfeasibleRow, UnboundedColumn}
use Rattle.presolve_model.specs.declared.instance.Rule.{Rule}
use Rattle.presolve_model.specs.declared.instance.Rule.TheVariants as rule
use Rattle.presolve_model.specs.Enabled.{enabled_on, reads}
use Rattle.presolve_model.specs.Instances.{both_orders, id_at, id_count, instances_from, is_open, reach_of, rule_at, sole_row}
use Rattle.presolve_model.specs.Order.{verdict_order}
use Rattle.presolve_model.proofs.ByCases.{IsListed, reductions_listed, verdicts_listed}
use Rattle.place_laws.specs.Choosing.{columns_with, Leads, rows_with}
use Rattle.place_laws.specs.Standing.{IsLaterAt, Moves}
use Rattle.place_laws.proofs.Alike.{IsAlikeFrom, ReadsColumn, ReadsRow, alike_by_bounds, alike_by_column, alike_by_row}
use Rattle.presolve_model.specs.Tallies.{Open}
use Rattle.undo_records.specs.declared.side.Side.{Side}
use Rattle.activity_laws.specs.Rows.{heads}
use Rattle.activity_laws.specs.BoundTightening.{bounds_of, is_bound_tightening}
use Rattle.activity_laws.specs.RedundantRow.{is_redundant_row}
use Rattle.activity_laws.specs.RedundantSide.{has_redundant_side}
use Rattle.activity_laws.specs.ForcingRow.{is_forcing_row}
use Rattle.activity_laws.specs.InfeasibleRow.{is_infeasible_row}
use Rattle.activity_laws.proofs.Rows.{said}
use Rattle.presolve_model.specs.CoefficientTightening.{is_coefficient_tightening}
use Rattle.rule_words.specs.Reading.{bounds_named, parts_on, terms_in}
use Rattle.rule_words.specs.Reading as read_words
use Rattle.problem_model.specs.declared.part.Read.{Read}
use Rattle.problem_model.specs.Parts.{contents_of}
use Rattle.std.proofs.lemmas.List.Elements.{Contains-append_cases}
use Rattle.undo_records.specs.declared.side.Side.TheVariants.{Lower, Upper}
use Rattle.presolve_model.specs.declared.instance.Reduction.{Reduction}
use Rattle.problem_model.specs.Reading.{Agrees, read_of}
use Rattle.lp_model.specs.declared.terms.Term.{Term}
use Rattle.place_laws.proofs.Near.{by_column, by_equation, by_free, by_pair, by_row, by_slack, row_names}
use Rattle.place_laws.proofs.ShortLists.{alone, each_mapped, four_in, kept_passes, none_in, one_in, two_in}
use Rattle.problem_model.specs.Problems.{column_entries, IsSparse, row_at, row_entries}
use Rattle.dual_laws.specs.DominatedColumn.{pairs_of}
use Rattle.dual_laws.proofs.DualFixing as dual_fixing
use Rattle.dual_laws.proofs.DominatedColumn as dominated_column
use Rattle.dual_laws.proofs.UnboundedColumn as unbounded_column
use Rattle.aggregation_laws.proofs.DoubletonEquation as doubleton_equation
use Rattle.singleton_laws.proofs.SingletonRow as singleton_row
use Rattle.column_laws.proofs.FreeColumnSingleton as free_column_singleton
use Rattle.column_laws.proofs.SlackColumnSingleton as slack_column_singleton

-- ---- what an enabled instance reads leads to its first id
pub reads_near : (p : Sparse) → IsSparse p → (e : Instance) → enabled_on p e ≡ true → (a : Part) → Contains (reads p e) a → Leads p (reach_of (rule_at e)) a (id_at e)
reads_near p s (at.Verdict (CrossedBounds j)) on a c = one_in (λ (b : Part). Contains (columns_with b) j) (part.Bounds j) a (alone j) c
reads_near p s (at.Verdict (CrossedSides i)) on a c = one_in (λ (b : Part). Contains (rows_with b) i) (part.Sides i) a (alone i) c
reads_near p s (at.Verdict (InfeasibleRow i)) on a c = by_row p s i (said is_infeasible_row p i on).live a c
reads_near p s (at.Verdict (UnboundedColumn j)) on a c = by_column p s j (unbounded_column.said p j on).live a c
reads_near p s (at.Reduction (EmptyRow i)) on a c = two_in (λ (b : Part). Contains (rows_with b) i) (part.Row i) (part.Sides i) a (alone i) (alone i) c
reads_near p s (at.Reduction (SingletonRow i)) on a c = by_row p s i (singleton_row.said p i on).live a c
reads_near p s (at.Reduction (FixedColumn j)) on a c = two_in (λ (b : Part). Contains (columns_with b) j) (part.Col j) (part.Bounds j) a (alone j) (alone j) c
reads_near p s (at.Reduction (RoundedBounds j)) on a c = one_in (λ (b : Part). Contains (columns_with b) j) (part.Bounds j) a (alone j) c
reads_near p s (at.Reduction (RedundantRow i)) on a c = by_row p s i (said is_redundant_row p i on).live a c
reads_near p s (at.Reduction (RedundantSide i)) on a c = by_row p s i (said has_redundant_side p i on).live a c
reads_near p s (at.Reduction (ForcingRow i)) on a c = by_row p s i (said is_forcing_row p i on).live a c
reads_near p s (at.Reduction (BoundTightening i j side)) on a c = by_row p s i (said (is_bound_tightening j side) p i on).live a c
reads_near p s (at.Reduction (CoefficientTightening i j)) on a c = by_row p s i (said (is_coefficient_tightening j) p i on).live a c
reads_near p s (at.Reduction (DualFixing j)) on a c = by_column p s j (dual_fixing.said p j on).live a c
reads_near p s (at.Reduction (DominatedColumn i j k)) on a c = by_pair p s i j k (dominated_column.said p i j k on) a c
reads_near p s (at.Reduction (DoubletonEquation i j k)) on a c = by_equation p s i j k (doubleton_equation.said p i j k on) a c
reads_near p s (at.Reduction (FreeColumnSingleton j i)) on a c = let d = free_column_singleton.said p j i on in by_free p s j i d.row_live d.column.live d.column.sole_there a c
reads_near p s (at.Reduction (SlackColumnSingleton j i)) on a c = let d = slack_column_singleton.said p j i on in by_slack p s j i d.row_live d.column_live d.sole_there a c
reads_near p s (at.Reduction (ParallelRows i k)) on a c = two_in (λ (b : Part). Leads p RowsBeside b i) (part.Row i) (part.Row k) a (inl (alone i)) (inr (k, alone k, on)) c
reads_near p s (at.Reduction (ParallelColumns j k)) on a c = four_in (λ (b : Part). Leads p ColumnsBeside b j) (part.Col j) (part.Col k) (part.Bounds j) (part.Bounds k) a
    (inl (alone j)) (inr (k, alone k, on)) (inl (alone j)) (inr (k, alone k, on)) c
reads_near p s (at.Reduction (EmptyColumn j)) on a c = two_in (λ (b : Part). Contains (columns_with b) j) (part.Col j) (part.Bounds j) a (alone j) (alone j) c

-- ---- an instance among those of a rule with a first id has them, and is open
pub from_is : (opens : Open) (p : Sparse) (r : Rule) (k : ℕ) (e : Instance) → Contains (instances_from opens p r k) e → (rule_at e ≡ r) × (id_at e ≡ k) × (is_open opens e ≡ true)
from_is opens p rule.CrossedBounds j e c = one_in (λ (x : Instance). (rule_at x ≡ rule.CrossedBounds) × (id_at x ≡ j) × (is_open opens x ≡ true)) (at.Verdict (CrossedBounds j)) e (refl, refl, refl) c
from_is opens p rule.CrossedSides i e c = one_in (λ (x : Instance). (rule_at x ≡ rule.CrossedSides) × (id_at x ≡ i) × (is_open opens x ≡ true)) (at.Verdict (CrossedSides i)) e (refl, refl, refl) c
from_is opens p rule.InfeasibleRow i e c = one_in (λ (x : Instance). (rule_at x ≡ rule.InfeasibleRow) × (id_at x ≡ i) × (is_open opens x ≡ true)) (at.Verdict (InfeasibleRow i)) e (refl, refl, refl) c
from_is opens p rule.UnboundedColumn j e c = one_in (λ (x : Instance). (rule_at x ≡ rule.UnboundedColumn) × (id_at x ≡ j) × (is_open opens x ≡ true)) (at.Verdict (UnboundedColumn j)) e (refl, refl, refl) c
from_is opens p rule.EmptyRow i e c = one_in (λ (x : Instance). (rule_at x ≡ rule.EmptyRow) × (id_at x ≡ i) × (is_open opens x ≡ true)) (at.Reduction (EmptyRow i)) e (refl, refl, refl) c
from_is opens p rule.SingletonRow i e c = one_in (λ (x : Instance). (rule_at x ≡ rule.SingletonRow) × (id_at x ≡ i) × (is_open opens x ≡ true)) (at.Reduction (SingletonRow i)) e (refl, refl, refl) c
from_is opens p rule.FixedColumn j e c = one_in (λ (x : Instance). (rule_at x ≡ rule.FixedColumn) × (id_at x ≡ j) × (is_open opens x ≡ true)) (at.Reduction (FixedColumn j)) e (refl, refl, refl) c
from_is opens p rule.RoundedBounds j e c = one_in (λ (x : Instance). (rule_at x ≡ rule.RoundedBounds) × (id_at x ≡ j) × (is_open opens x ≡ true)) (at.Reduction (RoundedBounds j)) e (refl, refl, refl) c
from_is opens p rule.RedundantRow i e c = one_in (λ (x : Instance). (rule_at x ≡ rule.RedundantRow) × (id_at x ≡ i) × (is_open opens x ≡ true)) (at.Reduction (RedundantRow i)) e (refl, refl, refl) c
from_is opens p rule.RedundantSide i e c = one_in (λ (x : Instance). (rule_at x ≡ rule.RedundantSide) × (id_at x ≡ i) × (is_open opens x ≡ true)) (at.Reduction (RedundantSide i)) e (refl, refl, refl) c
from_is opens p rule.ForcingRow i e c = one_in (λ (x : Instance). (rule_at x ≡ rule.ForcingRow) × (id_at x ≡ i) × (is_open opens x ≡ true)) (at.Reduction (ForcingRow i)) e (refl, refl, refl) c
from_is opens p rule.BoundTightening i e c = each_mapped (λ (x : Instance). (rule_at x ≡ rule.BoundTightening) × (id_at x ≡ i) × (is_open opens x ≡ true)) (λ x. at.Reduction (BoundTightening i x.0 x.1)) (filter (λ x. opens x.0 x.1) (bounds_of (row_entries p i))) e (λ x d. (refl, refl, kept_passes (λ x. opens x.0 x.1) (bounds_of (row_entries p i)) x d)) c
from_is opens p rule.CoefficientTightening i e c = each_mapped (λ (x : Instance). (rule_at x ≡ rule.CoefficientTightening) × (id_at x ≡ i) × (is_open opens x ≡ true)) (λ j. at.Reduction (CoefficientTightening i j)) (map (λ (t : Term). t.id) (row_entries p i)) e (λ x d. (refl, refl, refl)) c
from_is opens p rule.DualFixing j e c = one_in (λ (x : Instance). (rule_at x ≡ rule.DualFixing) × (id_at x ≡ j) × (is_open opens x ≡ true)) (at.Reduction (DualFixing j)) e (refl, refl, refl) c
from_is opens p rule.DominatedColumn i e c = each_mapped (λ (x : Instance). (rule_at x ≡ rule.DominatedColumn) × (id_at x ≡ i) × (is_open opens x ≡ true)) (λ x. at.Reduction (DominatedColumn i x.0 x.1)) (pairs_of (row_entries p i)) e (λ x d. (refl, refl, refl)) c
from_is opens p rule.DoubletonEquation i e c = each_mapped (λ (x : Instance). (rule_at x ≡ rule.DoubletonEquation) × (id_at x ≡ i) × (is_open opens x ≡ true)) (λ x. at.Reduction (DoubletonEquation i x.0 x.1)) (both_orders (row_entries p i)) e (λ x d. (refl, refl, refl)) c
from_is opens p rule.FreeColumnSingleton j e c = each_mapped (λ (x : Instance). (rule_at x ≡ rule.FreeColumnSingleton) × (id_at x ≡ j) × (is_open opens x ≡ true)) (λ i. at.Reduction (FreeColumnSingleton j i)) (sole_row (column_entries p j)) e (λ i d. (refl, refl, refl)) c
from_is opens p rule.SlackColumnSingleton j e c = each_mapped (λ (x : Instance). (rule_at x ≡ rule.SlackColumnSingleton) × (id_at x ≡ j) × (is_open opens x ≡ true)) (λ i. at.Reduction (SlackColumnSingleton j i)) (sole_row (column_entries p j)) e (λ i d. (refl, refl, refl)) c
from_is opens p rule.ParallelRows i e c = each_mapped (λ (x : Instance). (rule_at x ≡ rule.ParallelRows) × (id_at x ≡ i) × (is_open opens x ≡ true)) (λ k. at.Reduction (ParallelRows i k)) (range_with_len 0 (length p.matrix.rows)) e (λ k d. (refl, refl, refl)) c
from_is opens p rule.ParallelColumns j e c = each_mapped (λ (x : Instance). (rule_at x ≡ rule.ParallelColumns) × (id_at x ≡ j) × (is_open opens x ≡ true)) (λ k. at.Reduction (ParallelColumns j k)) (range_with_len 0 (length p.matrix.columns)) e (λ k d. (refl, refl, refl)) c
from_is opens p rule.EmptyColumn j e c = one_in (λ (x : Instance). (rule_at x ≡ rule.EmptyColumn) × (id_at x ≡ j) × (is_open opens x ≡ true)) (at.Reduction (EmptyColumn j)) e (refl, refl, refl) c

-- ---- the instances of a rule with a first id are those of a problem before, or none of both lists is enabled and reads what it read there
-- what is fresh reads of each part what it read
fresh_at : (f p : Sparse) (ps : List Part) → Agrees p (map (read_of f) ps) → (a : Part) → Contains ps a → read_of p a ≡ read_of f a
fresh_at f p [] h a c = absurd (none_in a c)
fresh_at f p (b ∷ ps) h a (zero, l, e) = let same : read_of p b ≡ read_of f b = let g = h in cc in subst (λ (x : Part). read_of p x ≡ read_of f x) e same
fresh_at f p (b ∷ ps) h a (suc k, l, e) = fresh_at f p ps (let g = h in cc) a (k, omega (arith, l), e)

-- the bounds of a column with a side among those of terms are among theirs
side_there : (ts : List Term) (y : ℕ × Side) → Contains (bounds_of ts) y → Contains (read_words.bounds_of ts) (part.Bounds y.0)
side_there [] y c = absurd (none_in y c)
side_there (t ∷ ts) y c = by (Contains-append_cases ((t.id, Lower) ∷ (t.id, Upper) ∷ []) (bounds_of ts) y c) (side_there ts y)
  where
    by : Contains ((t.id, Lower) ∷ (t.id, Upper) ∷ []) y ⊎ Contains (bounds_of ts) y → (Contains (bounds_of ts) y → Contains (read_words.bounds_of ts) (part.Bounds y.0)) → Contains (read_words.bounds_of (t ∷ ts)) (part.Bounds y.0)
    by (inl d) rest = two_in (λ (x : ℕ × Side). Contains (read_words.bounds_of (t ∷ ts)) (part.Bounds x.0)) (t.id, Lower) (t.id, Upper) y (0, omega arith, refl) (0, omega arith, refl) d
    by (inr d) rest = let r = rest d in (suc r.0, omega (arith, r.1), r.2)

-- what reads a row, its sides and the bounds of its columns, and reads what it read there, reads the same bounds of each of them
bounds_fresh : (f p : Sparse) (i : ℕ) → (row_at p i).live ≡ true → (y : ℕ × Side) → Contains (bounds_of (row_entries p i)) y
    → Agrees p (map (read_of f) (parts_on (heads i) bounds_named f)) → read_of p (part.Bounds y.0) ≡ read_of f (part.Bounds y.0)
bounds_fresh f p i live y c fresh = fresh_at f p (parts_on (heads i) bounds_named f) fresh (part.Bounds y.0) (suc (suc there.0), omega (arith, there.1), there.2)
  where
    row : read_of p (part.Row i) ≡ read_of f (part.Row i)
    row = let g = fresh in cc

    entries : terms_in (contents_of f (part.Row i)) ≡ row_entries p i
    entries = ap terms_in (sym (ap (λ (r : Read). r.contents) row)) ∙ row_names p i live

    there : Contains (read_words.bounds_of (terms_in (contents_of f (part.Row i)))) (part.Bounds y.0)
    there = subst (λ (ts : List Term). Contains (read_words.bounds_of ts) (part.Bounds y.0)) (sym entries) (side_there (row_entries p i) y c)

pub from_stand : (opens now : Open) (f p : Sparse) → Moves f p opens now → SameSize f p → ((a : Part) → IsLaterAt f p a) → (r : Rule) (k : ℕ) → IsAlikeFrom f p (instances_from opens f r k) (instances_from now p r k)
from_stand opens now f p moves size later rule.CrossedBounds j = inl refl
from_stand opens now f p moves size later rule.CrossedSides i = inl refl
from_stand opens now f p moves size later rule.InfeasibleRow i = inl refl
from_stand opens now f p moves size later rule.UnboundedColumn j = inl refl
from_stand opens now f p moves size later rule.EmptyRow i = inl refl
from_stand opens now f p moves size later rule.SingletonRow i = inl refl
from_stand opens now f p moves size later rule.FixedColumn j = inl refl
from_stand opens now f p moves size later rule.RoundedBounds j = inl refl
from_stand opens now f p moves size later rule.RedundantRow i = inl refl
from_stand opens now f p moves size later rule.RedundantSide i = inl refl
from_stand opens now f p moves size later rule.ForcingRow i = inl refl
from_stand opens now f p moves size later rule.BoundTightening i = alike_by_bounds f p opens now moves i (λ x. at.Reduction (BoundTightening i x.0 x.1)) (later (part.Row i))
    (λ x. record { reads = λ h. let g = h in cc; live = λ on. (said (is_bound_tightening x.0 x.1) p i on).live })
    (λ x y c on fresh. bounds_fresh f p i (said (is_bound_tightening x.0 x.1) p i on).live y c fresh)
from_stand opens now f p moves size later rule.CoefficientTightening i = alike_by_row f p i (λ ts. map (λ j. at.Reduction (CoefficientTightening i j)) (map (λ (t : Term). t.id) ts)) (later (part.Row i))
    (λ ts e c. each_mapped (λ (x : Instance). ReadsRow f p i x) (λ j. at.Reduction (CoefficientTightening i j)) (map (λ (t : Term). t.id) ts) e (λ j d. record { reads = λ h. let g = h in cc; live = λ on. (said (is_coefficient_tightening j) p i on).live }) c)
from_stand opens now f p moves size later rule.DualFixing j = inl refl
from_stand opens now f p moves size later rule.DominatedColumn i = alike_by_row f p i (λ ts. map (λ x. at.Reduction (DominatedColumn i x.0 x.1)) (pairs_of ts)) (later (part.Row i))
    (λ ts e c. each_mapped (λ (x : Instance). ReadsRow f p i x) (λ x. at.Reduction (DominatedColumn i x.0 x.1)) (pairs_of ts) e (λ x d. record { reads = λ h. let g = h in cc; live = λ on. (dominated_column.said p i x.0 x.1 on).row_live }) c)
from_stand opens now f p moves size later rule.DoubletonEquation i = alike_by_row f p i (λ ts. map (λ x. at.Reduction (DoubletonEquation i x.0 x.1)) (both_orders ts)) (later (part.Row i))
    (λ ts e c. each_mapped (λ (x : Instance). ReadsRow f p i x) (λ x. at.Reduction (DoubletonEquation i x.0 x.1)) (both_orders ts) e (λ x d. record { reads = λ h. let g = h in cc; live = λ on. (doubleton_equation.said p i x.0 x.1 on).row_on }) c)
from_stand opens now f p moves size later rule.FreeColumnSingleton j = alike_by_column f p j (λ ts. map (λ i. at.Reduction (FreeColumnSingleton j i)) (sole_row ts)) (later (part.Col j))
    (λ ts e c. each_mapped (λ (x : Instance). ReadsColumn f p j x) (λ i. at.Reduction (FreeColumnSingleton j i)) (sole_row ts) e (λ i d. record { reads = λ h. let g = h in cc; live = λ on. (free_column_singleton.said p j i on).column.live }) c)
from_stand opens now f p moves size later rule.SlackColumnSingleton j = alike_by_column f p j (λ ts. map (λ i. at.Reduction (SlackColumnSingleton j i)) (sole_row ts)) (later (part.Col j))
    (λ ts e c. each_mapped (λ (x : Instance). ReadsColumn f p j x) (λ i. at.Reduction (SlackColumnSingleton j i)) (sole_row ts) e (λ i d. record { reads = λ h. let g = h in cc; live = λ on. (slack_column_singleton.said p j i on).column_live }) c)
from_stand opens now f p moves size later rule.ParallelRows i = inl (ap (λ (n : ℕ). map (λ k. at.Reduction (ParallelRows i k)) (range_with_len 0 n)) (sym size.rows))
from_stand opens now f p moves size later rule.ParallelColumns j = inl (ap (λ (n : ℕ). map (λ k. at.Reduction (ParallelColumns j k)) (range_with_len 0 n)) (sym size.columns))
from_stand opens now f p moves size later rule.EmptyColumn j = inl refl

-- ---- the instances of the rules of verdicts are verdicts
abbrev pub IsVerdict : Instance → Type 0
IsVerdict e = (v : Verdict) × (e ≡ at.Verdict v)

pub verdict_from : (opens : Open) (p : Sparse) (r : Rule) (k : ℕ) (e : Instance) → Contains verdict_order r → Contains (instances_from opens p r k) e → IsVerdict e
verdict_from opens p r k e c =
    four_in (λ (s : Rule). Contains (instances_from opens p s k) e → IsVerdict e) rule.CrossedBounds rule.CrossedSides rule.InfeasibleRow rule.UnboundedColumn r
    (one_in IsVerdict (at.Verdict (CrossedBounds k)) e (CrossedBounds k, refl))
    (one_in IsVerdict (at.Verdict (CrossedSides k)) e (CrossedSides k, refl))
    (one_in IsVerdict (at.Verdict (InfeasibleRow k)) e (InfeasibleRow k, refl))
    (one_in IsVerdict (at.Verdict (UnboundedColumn k)) e (UnboundedColumn k, refl)) c

-- ---- what is enabled and open is at an id of the problem
pub enabled_listed : (opens : Open) (p : Sparse) (e : Instance) → is_open opens e ≡ true → enabled_on p e ≡ true → IsListed opens p e
enabled_listed opens p (at.Reduction r) free on = reductions_listed opens p r free on
enabled_listed opens p (at.Verdict v) free on = verdicts_listed opens p v on

-- where all are open each is
all_open : (r : Reduction) → is_open (λ j side. true) (at.Reduction r) ≡ true
all_open (BoundTightening i j side) = refl
all_open r = refl

pub enabled_within : (p : Sparse) (e : Instance) → enabled_on p e ≡ true → id_at e < id_count p (rule_at e)
enabled_within p (at.Reduction r) on = (reductions_listed (λ j side. true) p r (all_open r) on).within
enabled_within p (at.Verdict v) on = (verdicts_listed (λ j side. true) p v on).within
