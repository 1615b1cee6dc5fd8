-- V1 of columns: no number lies between bounds that are crossed.
use Rattle.std.specs.Prelude.{ℕ, Bool, false, List, [], ◌∷◌}
use Rattle.problem_model.specs.declared.part.Contents.{Contents}
use Rattle.problem_model.specs.declared.part.Contents.TheVariants.{Bounds}
use Rattle.problem_model.specs.declared.part.Part.{Part}
use Rattle.problem_model.specs.declared.part.Part.TheVariants as part
use Rattle.lp_model.specs.EndTests.{is_crossed}
use Rattle.problem_model.specs.Sparse.{Sparse}
use Rattle.rule_words.specs.Reading.{found_on, no_more}

-- it reads the bounds alone
abbrev pub heads : ℕ → List Part
heads j = part.Bounds j ∷ []

abbrev pub are_crossed : Contents → Bool
are_crossed (Bounds l u w) = is_crossed l u
are_crossed bounds = false

abbrev pub holds : List Contents → Bool
holds (a ∷ []) = are_crossed a
holds other = false

abbrev pub enabled : Sparse → ℕ → Bool
enabled p j = holds (found_on (heads j) no_more p)
