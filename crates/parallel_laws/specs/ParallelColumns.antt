-- K16: a column j that is s times another column k, in its entries and in its cost, joins it.
use Rattle.std.specs.Prelude.{ℕ, ⊤, Bool, false, not, ◌&&◌, ◌||◌, if◌then◌else◌, nat_eq, List, [], ◌∷◌, Option, Some, None}
use Rattle.fractions.specs.Number.{Number, one_ℚ, neg_ℚ, ◌*ℚ◌}
use Rattle.fractions.specs.Compare.{eq_ℚ}
use Rattle.fractions.specs.Ends.{plus}
use Rattle.fractions.specs.Lowest.{Fits}
use Rattle.fractions.specs.FracWords.{SumFits}
use Rattle.lp_model.specs.EndTests.{is_broken, is_in_order}
use Rattle.lp_model.specs.declared.terms.Term.{Term}
use Rattle.lp_theory.specs.Activities.{greatest_term, least_term}
use Rattle.undo_records.specs.declared.undo.Undo.{Undo}
use Rattle.undo_records.specs.declared.undo.Undo.TheVariants as undo
use Rattle.problem_model.specs.declared.edit.Edit.{Edit}
use Rattle.problem_model.specs.declared.edit.Edit.TheVariants.{DeleteColumn, SetBounds}
use Rattle.problem_model.specs.declared.part.Contents.{Contents}
use Rattle.problem_model.specs.declared.part.Contents.TheVariants.{Bounds, Column}
use Rattle.problem_model.specs.declared.part.Part.{Part}
use Rattle.problem_model.specs.declared.part.Part.TheVariants as part
use Rattle.problem_model.specs.Problems.{bounds_at, column_entries}
use Rattle.problem_model.specs.Sparse.{Sparse}
use Rattle.row_spans.specs.Exact.{fits}
use Rattle.rule_words.specs.Entries.{has_none}
use Rattle.rule_words.specs.Multiples.{are_times, factor_of}
use Rattle.rule_words.specs.Reading.{found_on, no_more}

-- it reads both columns and their bounds
abbrev pub heads : ℕ → ℕ → List Part
heads j k = part.Col j ∷ part.Col k ∷ part.Bounds j ∷ part.Bounds k ∷ []

-- a column with an entry is s times another, in its cost and in its entries, for a number s that has room
abbrev pub is_multiple : Number → List Term → Number → List Term → Number → Bool
is_multiple s ts c us d = not (has_none ts) && (fits s && (eq_ℚ c (s *ℚ d) && are_times s ts us))

-- both ends are whole or infinite
abbrev pub are_whole : Option Number → Option Number → Bool
are_whole l u = not (is_broken l) && not (is_broken u)

-- s is 1 or -1
abbrev pub is_unit : Number → Bool
is_unit s = eq_ℚ s one_ℚ || eq_ℚ s (neg_ℚ one_ℚ)

-- both columns are continuous, or both are whole, with whole or infinite bounds, and s is 1 or -1
abbrev pub are_of_a_kind : Number → Contents → Contents → Bool
are_of_a_kind s (Bounds l u w) (Bounds m v x) = if w then x && (is_unit s && (are_whole l u && are_whole m v)) else not x
are_of_a_kind s first second = false

-- no bounds are crossed
abbrev pub are_in_order : Contents → Contents → Bool
are_in_order (Bounds l u w) (Bounds m v x) = is_in_order l u && is_in_order m v
are_in_order first second = false

-- they differ and are of a kind, and j is a multiple of k
abbrev pub is_parallel : ℕ → ℕ → Contents → Contents → Contents → Contents → Bool
is_parallel j k (Column ts c) (Column us d) first second =
    not (nat_eq j k) && (are_in_order first second && (are_of_a_kind (factor_of ts us) first second && is_multiple (factor_of ts us) ts c us d))
is_parallel j k column other first second = false

abbrev pub holds : ℕ → ℕ → List Contents → Bool
holds j k (a ∷ b ∷ c ∷ d ∷ []) = is_parallel j k a b c d
holds j k other = false

abbrev pub enabled : Sparse → ℕ → ℕ → Bool
enabled p j k = holds j k (found_on (heads j k) no_more p)

-- s
abbrev pub factor : Sparse → ℕ → ℕ → Number
factor p j k = factor_of (column_entries p j) (column_entries p k)

-- the least and the greatest of s x_j
abbrev pub least_part : Sparse → ℕ → ℕ → Option Number
least_part p j k = least_term (factor p j k) (bounds_at p j).lower (bounds_at p j).upper

abbrev pub greatest_part : Sparse → ℕ → ℕ → Option Number
greatest_part p j k = greatest_term (factor p j k) (bounds_at p j).lower (bounds_at p j).upper

-- the bounds of x_k + s x_j
abbrev pub joined_lower : Sparse → ℕ → ℕ → Option Number
joined_lower p j k = plus (bounds_at p k).lower (least_part p j k)

abbrev pub joined_upper : Sparse → ℕ → ℕ → Option Number
joined_upper p j k = plus (bounds_at p k).upper (greatest_part p j k)

-- column k gets them, and column j goes
abbrev pub edits : Sparse → ℕ → ℕ → List Edit
edits p j k = SetBounds k (joined_lower p j k) (joined_upper p j k) ∷ DeleteColumn j ∷ []

-- the record keeps the bounds of both columns
abbrev pub record_of : Sparse → ℕ → ℕ → Undo
record_of p j k = undo.ParallelColumns (record { column = j; kept = k; factor = factor p j k; lower = (bounds_at p j).lower; upper = (bounds_at p j).upper; kept_lower = (bounds_at p k).lower; kept_upper = (bounds_at p k).upper })

-- a product and its sum with a bound are computed where both are finite
abbrev pub EndComputes : Option Number → Option Number → Type 0
EndComputes None q = ⊤
EndComputes (Some b) None = ⊤
EndComputes (Some b) (Some q) = Fits q × SumFits b q

pub record Computes (p : Sparse) (j k : ℕ) : Type 0 where
  pub lower : EndComputes (bounds_at p k).lower (least_part p j k)
  pub upper : EndComputes (bounds_at p k).upper (greatest_part p j k)
