-- Lists that grow by values that stand for nothing.
use Rattle.std.proofs.Common.{◌≡◌, ℕ, zero, suc, List, [], ◌∷◌, ◌++◌, refl, slice_index_or}

pub blank_last : {A : Type 0} (xs : List A) (i : ℕ) (blank : A) → slice_index_or (xs ++ blank ∷ []) i blank ≡ slice_index_or xs i blank
blank_last [] zero blank = refl
blank_last [] (suc i) blank = refl
blank_last (x ∷ xs) zero blank = refl
blank_last (x ∷ xs) (suc i) blank = blank_last xs i blank
