-- What is printed of an answer.
use Rattle.std.specs.Prelude.{ℕ, List, [], ◌∷◌, ◌++◌, codes}
use Rattle.std.specs.Fmt.{decimal}
use Rattle.fractions.specs.Number.{Number}
use Rattle.number_texts.specs.Written.{written}

abbrev pub optimal_text : Number → ℕ → List ℕ
optimal_text cost pivots = codes "optimal cost " ++ (written cost ++ (10 ∷ (codes "pivots " ++ (decimal pivots ++ 10 ∷ []))))

abbrev pub past_text : ℕ → List ℕ
past_text pivot = codes "past pivot " ++ (decimal pivot ++ 10 ∷ [])
