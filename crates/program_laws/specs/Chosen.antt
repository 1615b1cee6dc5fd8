-- What stands at the live lines of a list.
use Rattle.std.specs.Prelude.{ℕ, List, [], ◌∷◌, if◌then◌else◌}
use Rattle.problem_model.specs.declared.line.Line.{Line}

-- where each line has the item at its place
abbrev pub at_live : {A : Type 0} → List Line → List A → List A
at_live [] xs = []
at_live (l ∷ ls) [] = []
at_live (l ∷ ls) (x ∷ xs) = if l.live then x ∷ at_live ls xs else at_live ls xs

-- the names of the live lines
abbrev pub names_at : List (List ℕ) → List Line → List (List ℕ)
names_at names lines = at_live lines names
