-- Columns of a row at which its coefficient is tightened.
use Rattle.std.specs.Prelude.{◌≡◌, ℕ, Bool, false, not, ◌&&◌, ◌||◌, List, [], ◌∷◌, map, is_some, Some, None, Ok}
use Rattle.std.specs.List.{filter}
use Rattle.fractions.specs.Number.{Number, ◌-ℚ◌}
use Rattle.fractions.specs.Compare.{lt_ℚ}
use Rattle.fractions.specs.MinMax.{abs_ℚ}
use Rattle.lp_model.specs.declared.terms.Term.{Term}
use Rattle.undo_records.specs.declared.side.Side.{Side}
use Rattle.problem_model.specs.Problems.{bounds_at, column_at}
use Rattle.problem_model.specs.Sparse.{Sparse}
use Rattle.row_spans.specs.declared.span.Span.{Span}
use Rattle.row_spans.specs.RowSums.{activity}
use Rattle.coef_laws.specs.CoefficientTightening.{extreme_of, tightened_in, turned}

-- the columns of these spans at which a row ss with the side b alone is tightened
abbrev pub ids_among : Side → Number → List Span → List Span → List ℕ
ids_among f b ss xs = filter (λ j. is_some (tightened_in f b j ss)) (map (λ s. s.id) xs)

-- column j is live and whole, and not semi-continuous; one of those that terms name is
abbrev pub is_whole_column : Sparse → ℕ → Bool
is_whole_column p j = (column_at p j).live && (not (bounds_at p j).semi && (bounds_at p j).whole)

abbrev pub any_whole : Sparse → List Term → Bool
any_whole p [] = false
any_whole p (t ∷ ts) = is_whole_column p t.id || any_whole p ts

-- x is by how much the greatest of f times a row passes its side b
abbrev pub IsExcess : Side → Number → List Span → Number → Type 0
IsExcess f b ss x = (most : Number) × (activity (extreme_of f) ss ≡ Ok (Some most)) × (x ≡ turned f most -ℚ turned f b)

-- a value of terms is longer than x
abbrev pub any_longer : Number → List Term → Bool
any_longer x [] = false
any_longer x (t ∷ ts) = lt_ℚ x (abs_ℚ t.value) || any_longer x ts

-- no coefficient of a row ss with the side b alone is tightened
abbrev pub NoneTightened : Side → Number → List Span → Type 0
NoneTightened f b ss = (j : ℕ) → tightened_in f b j ss ≡ None
