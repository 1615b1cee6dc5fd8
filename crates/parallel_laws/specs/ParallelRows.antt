-- K15: a row i that is s times another row k gives its sides to it.
use Rattle.std.specs.Prelude.{ℕ, ⊤, Bool, false, not, ◌&&◌, nat_eq, List, [], ◌∷◌, Option, Some, None}
use Rattle.fractions.specs.Number.{Number}
use Rattle.fractions.specs.Division.{◌/ℚ◌}
use Rattle.fractions.specs.Ends.{meet_high, meet_low}
use Rattle.fractions.specs.Lowest.{Fits}
use Rattle.lp_model.specs.declared.terms.Term.{Term}
use Rattle.lp_theory.specs.MetEnds.{lower_over, upper_over}
use Rattle.undo_records.specs.declared.undo.Undo.{Undo}
use Rattle.undo_records.specs.declared.undo.Undo.TheVariants as undo
use Rattle.problem_model.specs.declared.edit.Edit.{Edit}
use Rattle.problem_model.specs.declared.edit.Edit.TheVariants.{DeleteRow, SetSides}
use Rattle.problem_model.specs.declared.part.Contents.{Contents}
use Rattle.problem_model.specs.declared.part.Contents.TheVariants.{Entries}
use Rattle.problem_model.specs.declared.part.Part.{Part}
use Rattle.problem_model.specs.declared.part.Part.TheVariants as part
use Rattle.problem_model.specs.Problems.{row_entries, sides_at}
use Rattle.problem_model.specs.Sparse.{Sparse}
use Rattle.row_spans.specs.Exact.{fits}
use Rattle.rule_words.specs.Entries.{has_none}
use Rattle.rule_words.specs.Reading.{found_on, no_more}
use Rattle.rule_words.specs.Multiples.{are_times, factor_of}

-- it reads both rows
abbrev pub heads : ℕ → ℕ → List Part
heads i k = part.Row i ∷ part.Row k ∷ []

-- a row with an entry is s times another, for a number s that has room
abbrev pub is_multiple : Number → List Term → List Term → Bool
is_multiple s ts us = not (has_none ts) && (fits s && are_times s ts us)

-- they differ, and i is a multiple of k
abbrev pub is_parallel : ℕ → ℕ → Contents → Contents → Bool
is_parallel i k (Entries ts) (Entries us) = not (nat_eq i k) && is_multiple (factor_of ts us) ts us
is_parallel i k row other = false

abbrev pub holds : ℕ → ℕ → List Contents → Bool
holds i k (row ∷ other ∷ []) = is_parallel i k row other
holds i k other = false

abbrev pub enabled : Sparse → ℕ → ℕ → Bool
enabled p i k = holds i k (found_on (heads i k) no_more p)

-- s
abbrev pub factor : Sparse → ℕ → ℕ → Number
factor p i k = factor_of (row_entries p i) (row_entries p k)

-- the sides of row k met with those of row i over s
abbrev pub joined_lower : Sparse → ℕ → ℕ → Option Number
joined_lower p i k = meet_low (sides_at p k).lower (lower_over (factor p i k) (sides_at p i).lower (sides_at p i).upper)

abbrev pub joined_upper : Sparse → ℕ → ℕ → Option Number
joined_upper p i k = meet_high (sides_at p k).upper (upper_over (factor p i k) (sides_at p i).lower (sides_at p i).upper)

-- row k gets them, and row i goes
abbrev pub edits : Sparse → ℕ → ℕ → List Edit
edits p i k = SetSides k (joined_lower p i k) (joined_upper p i k) ∷ DeleteRow i ∷ []

-- the record keeps row k and its old sides
abbrev pub record_of : Sparse → ℕ → ℕ → Undo
record_of p i k = undo.ParallelRows (record { row = i; kept = k; factor = factor p i k; lower = (sides_at p k).lower; upper = (sides_at p k).upper; entries = row_entries p k })

-- a finite side of row i over s is computed
abbrev pub SideComputes : Number → Option Number → Type 0
SideComputes s None = ⊤
SideComputes s (Some b) = Fits (b /ℚ s)

pub record Computes (p : Sparse) (i k : ℕ) : Type 0 where
  pub lower : SideComputes (factor p i k) (sides_at p i).lower
  pub upper : SideComputes (factor p i k) (sides_at p i).upper
