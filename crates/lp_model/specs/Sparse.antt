-- Lists of terms: numbers at ids.
use Rattle.std.specs.Prelude.{◌≢◌, ℕ, suc, ◌<◌, ◌≤◌, Bool, false, ◌||◌, not, nat_eq, List, [], ◌∷◌}
use Rattle.std.specs.List.{filter}
use Rattle.fractions.specs.Number.{Number, zero_ℚ, ◌+ℚ◌, ◌*ℚ◌}
use Rattle.lp_model.specs.declared.terms.Term.{Term}
use Rattle.fractions.specs.Total.{put}
use Rattle.lp_model.specs.Vectors.{Vector}

-- the number at each id: that of the first term with it, 0 where none has it
abbrev pub dense : List Term → Vector
dense [] = λ k. zero_ℚ
dense (t ∷ ts) = put (dense ts) t.id t.value

-- the ids ascend from m and stay below n, and no number is 0
abbrev pub Ascends : ℕ → ℕ → List Term → Type 0
Ascends m n [] = Unit {0}
Ascends m n (t ∷ ts) = (m ≤ t.id) × (t.id < n) × (t.value ≢ zero_ℚ) × Ascends (suc t.id) n ts

-- the sum over the terms alone
abbrev pub sparse_total : List Term → Vector → Number
sparse_total [] x = zero_ℚ
sparse_total (t ∷ ts) x = t.value *ℚ x t.id +ℚ sparse_total ts x

-- whether a term has this id
abbrev pub has : ℕ → List Term → Bool
has i [] = false
has i (t ∷ ts) = nat_eq t.id i || has i ts

-- the terms with other ids
abbrev pub without : ℕ → List Term → List Term
without i ts = filter (λ t. not (nat_eq t.id i)) ts

-- stands for a term past the last
abbrev pub no_term : Term
no_term = record { id = 0; value = zero_ℚ }
