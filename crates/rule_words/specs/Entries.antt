-- How many entries a row or a column has.
use Rattle.std.specs.Prelude.{Bool, true, false, List, [], ◌∷◌}
use Rattle.lp_model.specs.declared.terms.Term.{Term}

abbrev pub has_none : List Term → Bool
has_none [] = true
has_none (t ∷ ts) = false

abbrev pub has_one : List Term → Bool
has_one [] = false
has_one (t ∷ ts) = has_none ts
