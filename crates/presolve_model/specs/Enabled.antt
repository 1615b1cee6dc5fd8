-- What an instance reads, and where it is enabled. No rule is named here.
use Rattle.std.specs.Prelude.{◌≡◌, Bool, true, List, ◌++◌, map, length, take}
use Rattle.problem_model.specs.declared.part.Part.{Part}
use Rattle.problem_model.specs.declared.part.Read.{Read}
use Rattle.problem_model.specs.Reading.{read_of}
use Rattle.problem_model.specs.Sparse.{Sparse}
use Rattle.rule_words.specs.Reading.{parts_on, found_on}
use Rattle.presolve_model.specs.declared.instance.Instance.{Instance}
use Rattle.presolve_model.specs.Tables.{heads, more, holds}

-- the parts that an instance reads of a problem, in their order
abbrev pub reads : Sparse → Instance → List Part
reads p e = parts_on (heads e) (more e) p

abbrev pub reading_of : Sparse → Instance → List Read
reading_of p e = map (read_of p) (reads p e)

-- the reading lists the heads and what they name, and the condition holds over what was read
pub record Enabled (e : Instance) (rs : List Read) : Type 0 where
  pub parts : map (λ r. r.part) rs ≡ heads e ++ more e (take (length (heads e)) (map (λ r. r.contents) rs))
  pub holds : holds e (map (λ r. r.contents) rs) ≡ true

-- an instance's condition on a problem
abbrev pub enabled_on : Sparse → Instance → Bool
enabled_on p e = holds e (found_on (heads e) (more e) p)
