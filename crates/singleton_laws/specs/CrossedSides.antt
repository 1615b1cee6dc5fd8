-- V1 of rows: no number lies between sides that are crossed.
use Rattle.std.specs.Prelude.{ℕ, Bool, false, List, [], ◌∷◌}
use Rattle.problem_model.specs.declared.part.Contents.{Contents}
use Rattle.problem_model.specs.declared.part.Contents.TheVariants.{Sides}
use Rattle.problem_model.specs.declared.part.Part.{Part}
use Rattle.problem_model.specs.declared.part.Part.TheVariants as part
use Rattle.lp_model.specs.EndTests.{is_crossed}
use Rattle.problem_model.specs.Sparse.{Sparse}
use Rattle.rule_words.specs.Reading.{found_on, no_more}

-- it reads the sides alone
abbrev pub heads : ℕ → List Part
heads i = part.Sides i ∷ []

abbrev pub are_crossed : Contents → Bool
are_crossed (Sides l u) = is_crossed l u
are_crossed sides = false

abbrev pub holds : List Contents → Bool
holds (a ∷ []) = are_crossed a
holds other = false

abbrev pub enabled : Sparse → ℕ → Bool
enabled p i = holds (found_on (heads i) no_more p)
