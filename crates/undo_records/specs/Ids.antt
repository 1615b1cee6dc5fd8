-- Ids of rows and columns, entries and lists of terms, as records name them.
use Rattle.std.specs.Prelude.{◌≢◌, ◌≡◌, ℕ, ◌<◌, Bool, false, List, map, slice_index_or}
use Rattle.fractions.specs.Number.{Number, zero_ℚ}
use Rattle.lp_model.specs.declared.terms.Term.{Term}
use Rattle.lp_model.specs.Sparse.{Ascends, has}

-- two ids below n that differ
abbrev pub AreTwo : ℕ → ℕ → ℕ → Type 0
AreTwo n j k = (j < n) × (k < n) × (j ≢ k)

-- an entry that isn't 0 at row i and column j
abbrev pub IsEntry : ℕ → ℕ → ℕ → ℕ → Number → Type 0
IsEntry m n i j a = (i < m) × (j < n) × (a ≢ zero_ℚ)

-- terms by ascending id below n, none of them 0, without the id j
abbrev pub AreOthers : ℕ → ℕ → List Term → Type 0
AreOthers n j ts = Ascends 0 n ts × (has j ts ≡ false)

abbrev pub ids_of : List Term → List ℕ
ids_of ts = map (λ t. t.id) ts

abbrev pub is_on : List Bool → ℕ → Bool
is_on flags k = slice_index_or flags k false
