-- Pairs of columns of a row.
use Rattle.std.specs.Prelude.{◌≡◌, ℕ, Bool, true, not, ◌&&◌, ◌||◌, nat_eq, nat_le, List, [], ◌∷◌, length, map, is_none, IfSome, if◌then◌else◌}
use Rattle.std.specs.List.{filter, flat_map}
use Rattle.fractions.specs.Number.{Number}
use Rattle.fractions.specs.Compare.{le_ℚ}
use Rattle.lp_model.specs.declared.terms.Term.{Term}
use Rattle.lp_model.specs.EndTests.{is_apart, is_place}
use Rattle.problem_model.specs.declared.line.Sides.{Sides}
use Rattle.problem_model.specs.declared.part.Contents.TheVariants as holding
use Rattle.problem_model.specs.Problems.{bounds_at, column_at, column_entries, cost_at, row_at, row_entries}
use Rattle.problem_model.specs.Sparse.{Sparse}
use Rattle.dual_laws.specs.DominatedColumn.{takes_over}
use Rattle.dual_rules.specs.declared.dominated_column.Standing.{Standing}
use Rattle.dual_rules.specs.Footprints.{IsFootprint}
use Rattle.dual_rules.specs.Merging.{all_admit}

-- what is asked of k beside a column that has no upper bound, has the cost c, and is whole or not
abbrev pub may_stay : Sparse → Number → Bool → ℕ → Bool
may_stay p c w k = not (bounds_at p k).semi && (is_apart (bounds_at p k).lower (bounds_at p k).upper && (is_place (bounds_at p k).lower (bounds_at p k).whole && (le_ℚ c (cost_at p k) && (not w || (bounds_at p k).whole))))

-- what is asked of the bounds and costs of j and k
abbrev pub is_better : Sparse → ℕ → ℕ → Bool
is_better p j k = not (nat_eq j k) && (not (bounds_at p j).semi && (is_none (bounds_at p j).upper && may_stay p (cost_at p j) (bounds_at p j).whole k))

-- and of their rows too: j dominates k
abbrev pub dominates : Sparse → ℕ → ℕ → Bool
dominates p j k = is_better p j k && all_admit p (column_entries p j) (column_entries p k)

-- what is known of a column by itself
pub record IsStanding (p : Sparse) (s : Standing) : Type 0 where
  pub live : (column_at p s.entry.id).live ≡ true
  pub cost : s.cost ≡ cost_at p s.entry.id
  pub whole : s.whole ≡ (bounds_at p s.entry.id).whole
  pub endless : s.endless ≡ (not (bounds_at p s.entry.id).semi && is_none (bounds_at p s.entry.id).upper)
  pub footprint : IfSome s.footprint (λ f. IsFootprint p (column_entries p s.entry.id) f)
  pub placed : s.placed ≡ (not (bounds_at p s.entry.id).semi && (is_apart (bounds_at p s.entry.id).lower (bounds_at p s.entry.id).upper && is_place (bounds_at p s.entry.id).lower (bounds_at p s.entry.id).whole))

-- their entries in the row
abbrev pub entries_of : List Standing → List Term
entries_of ss = map (λ s. s.entry) ss

-- sides and two terms tell of columns: where each row admits the first for the second, so do these sides by these terms
abbrev pub Tells : Sparse → Sides → Term → Term → Type 0
Tells p s t u = all_admit p (column_entries p t.id) (column_entries p u.id) ≡ true → takes_over t.value u.value (holding.Sides s.lower s.upper) ≡ true

-- the row and both columns are live
abbrev pub are_live : Sparse → ℕ → ℕ → ℕ → Bool
are_live p i j k = (row_at p i).live && ((column_at p j).live && (column_at p k).live)

-- a column is live and has no upper bound
abbrev pub is_endless : Sparse → ℕ → Bool
is_endless p j = (column_at p j).live && is_none (bounds_at p j).upper

-- a row is live, and has at most 64 entries
abbrev pub is_short : Sparse → ℕ → Bool
is_short p i = (row_at p i).live && nat_le (length (row_entries p i)) 64

-- a pair of columns, or none
abbrev pub pair_if : Bool → ℕ → ℕ → List (ℕ × ℕ)
pair_if b j k = if b then (j, k) ∷ [] else []

-- the pairs of a column with others that it dominates
abbrev pub pairs_beside : Sparse → ℕ → List Term → List (ℕ × ℕ)
pairs_beside p j us = filter (λ x. dominates p x.0 x.1) (map (λ u. (j, u.id)) us)

-- and those of several columns
abbrev pub pairs_among : Sparse → List Term → List Term → List (ℕ × ℕ)
pairs_among p ts us = filter (λ x. dominates p x.0 x.1) (flat_map (λ t. map (λ u. (t.id, u.id)) us) ts)
