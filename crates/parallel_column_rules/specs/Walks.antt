-- Entries of a column or a row as a walk meets them: those that name deleted lines are passed over.
use Rattle.std.specs.Prelude.{Bool, false, ◌&&◌, if◌then◌else◌, nat_eq, List, [], ◌∷◌, Option, Some, None}
use Rattle.fractions.specs.Number.{Number, ◌*ℚ◌}
use Rattle.fractions.specs.Compare.{eq_ℚ}
use Rattle.fractions.specs.Division.{◌/ℚ◌}
use Rattle.lp_model.specs.declared.terms.Term.{Term}
use Rattle.problem_model.specs.declared.line.Line.{Line}
use Rattle.problem_model.specs.Matrices.{line_at}
use Rattle.row_spans.specs.Exact.{fits}

-- the terms from the first on that names a live line
abbrev pub from_live : List Line → List Term → List Term
from_live lines [] = []
from_live lines (t ∷ ts) = if (line_at lines t.id).live then t ∷ ts else from_live lines ts

-- the terms but the first
abbrev pub after_first : List Term → List Term
after_first [] = []
after_first (t ∷ ts) = ts

-- the first terms name one line, and the one number is s times the other
abbrev pub begin_alike : Number → List Term → List Term → Bool
begin_alike s (t ∷ ts) (u ∷ us) = nat_eq t.id u.id && eq_ℚ t.value (s *ℚ u.value)
begin_alike s ts us = false

-- the number of the first term
abbrev pub first_number : List Term → Option Number
first_number [] = None
first_number (t ∷ ts) = Some t.value

-- a number over another, where both are there and that has room
abbrev pub over_if : Option Number → Option Number → Option Number
over_if None d = None
over_if (Some n) None = None
over_if (Some n) (Some d) = if fits (n /ℚ d) then Some (n /ℚ d) else None

-- the number of the first term over that of other terms
abbrev pub first_over : List Term → List Term → Option Number
first_over ts us = over_if (first_number ts) (first_number us)
