-- What a walk along a row's entries sees.
use Rattle.std.specs.Prelude.{ℕ, Option, Some, None, List, [], ◌∷◌}
use Rattle.lp_model.specs.declared.terms.Term.{Term}
use Rattle.problem_model.specs.Sparse.{Sparse}
use Rattle.row_spans.specs.declared.span.Span.{Span}
use Rattle.row_spans.specs.Spans.{left_in, spans_among}

-- the spans of terms at live columns, but for the column that is left out
abbrev pub spans_seen : Sparse → Option ℕ → List Term → List Span
spans_seen p left_out ts = left_in left_out (spans_among p ts)

-- one or none as a list
abbrev pub listed : Option Span → List Span
listed None = []
listed (Some s) = s ∷ []
