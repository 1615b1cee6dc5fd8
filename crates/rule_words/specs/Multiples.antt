-- Entries of a row or a column that are a number times those of another.
use Rattle.std.specs.Prelude.{Bool, true, false, ◌&&◌, nat_eq, List, [], ◌∷◌}
use Rattle.fractions.specs.Number.{Number, ◌*ℚ◌}
use Rattle.fractions.specs.Compare.{eq_ℚ}
use Rattle.fractions.specs.Division.{◌/ℚ◌}
use Rattle.lp_model.specs.declared.terms.Term.{Term}
use Rattle.problem_model.specs.Problems.{first_of}

-- the first entry of a line over that of another
abbrev pub factor_of : List Term → List Term → Number
factor_of ts us = (first_of ts).value /ℚ (first_of us).value

-- they name the same ids, and each entry is s times the other
abbrev pub are_times : Number → List Term → List Term → Bool
are_times s [] [] = true
are_times s (t ∷ ts) (u ∷ us) = nat_eq t.id u.id && (eq_ℚ t.value (s *ℚ u.value) && are_times s ts us)
are_times s ts us = false
