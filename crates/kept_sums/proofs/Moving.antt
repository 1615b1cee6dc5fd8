-- One entry in the place of another one that gives the same.
use Rattle.std.proofs.Common.{◌≡◌, List, [], ◌∷◌, ◌++◌, ap}
use Rattle.row_spans.specs.declared.span.Span.{Span}
use Rattle.row_spans.specs.declared.span.Extreme.{Extreme}
use Rattle.row_spans.specs.Spans.{end_at, ends_at}

pub ends_swapped : (x : Extreme) (a b : List Span) (s t : Span) → end_at x s ≡ end_at x t → ends_at x (a ++ s ∷ b) ≡ ends_at x (a ++ t ∷ b)
ends_swapped x [] b s t e = ap (λ y. y ∷ ends_at x b) e
ends_swapped x (u ∷ a) b s t e = ap (λ ys. end_at x u ∷ ys) (ends_swapped x a b s t e)
