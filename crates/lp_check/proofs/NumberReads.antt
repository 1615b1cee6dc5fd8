-- What a loop reads of a value that stands for a number.
use Rattle.std.proofs.Common.{◌≡◌, ℕ, ◌<◌, List, length, map, get_or, sym, ap, ◌∙◌}
use Rattle.std.proofs.lemmas.List.{get_or-map}
use Rattle.fractions.specs.Number.{Number, zero_ℚ}
use Rattle.lp_model.specs.Vectors.{vector_of}

pub number_read : {A : Type 0} (f : A → Number) (xs : List A) (j : ℕ) (v : A) → j < length xs → v ≡ get_or xs j v → f v ≡ vector_of (map f xs) j
number_read f xs j v l is = ap f is ∙ sym (get_or-map f xs j v zero_ℚ l)
