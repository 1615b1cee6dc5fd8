-- K11: a column k that another column j without an upper bound can stand in for, no dearer and no worse in any row, stays at its lower bound.
use Rattle.std.specs.Prelude.{ℕ, ⊤, Bool, true, false, not, ◌&&◌, ◌||◌, nat_eq, nat_le, List, [], ◌∷◌, ◌++◌, length, map, is_none}
use Rattle.std.specs.List.{filter, flat_map}
use Rattle.fractions.specs.Number.{Number}
use Rattle.fractions.specs.Compare.{le_ℚ}
use Rattle.lp_model.specs.declared.terms.Term.{Term}
use Rattle.lp_model.specs.EndTests.{is_apart, is_place}
use Rattle.lp_model.specs.Sparse.{dense, has}
use Rattle.lp_model.specs.Vectors.{Vector}
use Rattle.undo_records.specs.declared.undo.Undo.{Undo}
use Rattle.undo_records.specs.declared.undo.Undo.TheVariants as undo
use Rattle.undo_records.specs.Ids.{ids_of}
use Rattle.problem_model.specs.declared.edit.Edit.{Edit}
use Rattle.problem_model.specs.declared.edit.Edit.TheVariants.{SetBounds}
use Rattle.problem_model.specs.declared.part.Contents.{Contents}
use Rattle.problem_model.specs.declared.part.Contents.TheVariants.{Entries, Sides, Column, Bounds}
use Rattle.problem_model.specs.declared.part.Part.{Part}
use Rattle.problem_model.specs.declared.part.Part.TheVariants as part
use Rattle.problem_model.specs.Problems.{bounds_at}
use Rattle.problem_model.specs.Sparse.{Sparse}
use Rattle.rule_words.specs.Reading.{found_on, terms_in}
use Rattle.dual_laws.specs.Locks.{are_uncrossed}

-- it reads a row with both columns, the two columns and their bounds
abbrev pub heads : ℕ → ℕ → ℕ → List Part
heads i j k = part.Row i ∷ part.Col j ∷ part.Col k ∷ part.Bounds j ∷ part.Bounds k ∷ []

-- the rows of j, and then those of k that are not among them
abbrev pub rows_of_both : List Term → List Term → List ℕ
rows_of_both ts us = ids_of (ts ++ filter (λ u. not (has u.id ts)) us)

-- and the sides of these
abbrev pub more : List Contents → List Part
more (row ∷ j ∷ k ∷ others) = map part.Sides (rows_of_both (terms_in j) (terms_in k))
more other = []

-- a row stays within its sides when j takes over from k: a is at most b where there is an upper side, and at least b where there is a lower one
abbrev pub takes_over : Number → Number → Contents → Bool
takes_over a b (Sides l u) = (is_none u || le_ℚ a b) && (is_none l || le_ℚ b a)
takes_over a b sides = false

abbrev pub all_take_over : Vector → Vector → List ℕ → List Contents → Bool
all_take_over a b [] sides = true
all_take_over a b (i ∷ is) [] = false
all_take_over a b (i ∷ is) (s ∷ ss) = takes_over (a i) (b i) s && all_take_over a b is ss

-- the pairs of columns that the terms of a row name, in order
abbrev pub pairs_of : List Term → List (ℕ × ℕ)
pairs_of ts = flat_map (λ t. map (λ u. (t.id, u.id)) ts) ts

-- both stand in a row of at most 64 entries
abbrev pub share : List Term → ℕ → ℕ → Bool
share row j k = nat_le (length row) 64 && (has j row && has k row)

-- j has no upper bound and costs no more than k, which has a finite lower bound below its upper one; a whole j asks for a whole k, and a
-- whole k for a whole lower bound; no bounds and no sides are crossed, and each row takes j for k
abbrev pub is_dominated_column : Contents → Contents → Contents → Contents → Contents → List Contents → ℕ → ℕ → Bool
is_dominated_column (Entries row) (Column ts c) (Column us d) (Bounds l u w) (Bounds m v x) sides j k =
    not (nat_eq j k) && (share row j k && (is_none u && (is_apart m v && (is_place m x && (le_ℚ c d && ((not w || x) && (are_uncrossed sides && all_take_over (dense ts) (dense us) (rows_of_both ts us) sides)))))))
is_dominated_column row column other bounds others sides j k = false

abbrev pub holds : ℕ → ℕ → List Contents → Bool
holds j k (row ∷ a ∷ b ∷ c ∷ d ∷ sides) = is_dominated_column row a b c d sides j k
holds j k other = false

abbrev pub enabled : Sparse → ℕ → ℕ → ℕ → Bool
enabled p i j k = holds j k (found_on (heads i j k) more p)

-- k stays at its lower bound
abbrev pub edits : Sparse → ℕ → List Edit
edits p k = SetBounds k (bounds_at p k).lower (bounds_at p k).lower ∷ []

abbrev pub record_of : ℕ → ℕ → ℕ → Undo
record_of i j k = undo.DominatedColumn (record { row = i; better = j; column = k })

-- nothing is computed
abbrev pub Computes : Sparse → ℕ → Type 0
Computes p k = ⊤
