-- K13: a continuous column with one entry, whose bounds are implied by its row at the side where that is cheapest, leaves with the row.
use Rattle.std.specs.Prelude.{ℕ, Bool, false, not, ◌&&◌, List, [], ◌∷◌, ◌++◌, Option, Some, None, unwrap_or}
use Rattle.fractions.specs.Number.{Number, zero_ℚ, ◌*ℚ◌}
use Rattle.fractions.specs.Lowest.{Fits}
use Rattle.lp_substitutions.specs.FreeColumnSingleton.{cheapest_side}
use Rattle.undo_records.specs.declared.side.Side.TheVariants.{Lower, Upper}
use Rattle.undo_records.specs.declared.undo.Undo.{Undo}
use Rattle.undo_records.specs.declared.undo.Undo.TheVariants as undo
use Rattle.problem_model.specs.declared.edit.Edit.{Edit}
use Rattle.problem_model.specs.declared.edit.Edit.TheVariants.{AddOffset, DeleteColumn, DeleteRow}
use Rattle.problem_model.specs.declared.part.Contents.{Contents}
use Rattle.problem_model.specs.declared.part.Contents.TheVariants.{Column}
use Rattle.problem_model.specs.declared.part.Part.{Part}
use Rattle.problem_model.specs.declared.part.Part.TheVariants as part
use Rattle.problem_model.specs.Problems.{cost_at, sides_at}
use Rattle.problem_model.specs.Sparse.{Sparse}
use Rattle.rule_words.specs.Reading.{bounds_named, found_on}
use Rattle.row_spans.specs.declared.span.Span.{Span}
use Rattle.row_spans.specs.Exact.{exact_quotient}
use Rattle.activity_laws.specs.Rows.{RowTest, keeps_lower, keeps_upper, on_parts}
use Rattle.activity_laws.specs.BoundTightening.{entry_at, if_made, implied}
use Rattle.column_laws.specs.SoleEntry.{CostsCompute, costs_less, entry_of, is_sole_at, others_of, price_of}

-- it reads the row, its sides and the column, and then the bounds of the row's columns
abbrev pub heads : ℕ → ℕ → List Part
heads j i = part.Row i ∷ part.Sides i ∷ part.Col j ∷ []

-- the cheapest side for t; none where t has no room
abbrev pub cheapest_for : Option Number → Option Number → Option Number → Option Number
cheapest_for None l u = None
cheapest_for (Some t) l u = cheapest_side t l u

-- for the cost c over the entry a
abbrev pub side_for : Number → Number → Option Number → Option Number → Option Number
side_for c a l u = cheapest_for (if_made (exact_quotient c a)) l u

-- the bounds of column j are implied where the row's value is v
abbrev pub is_implied : ℕ → List Span → Span → Number → Bool
is_implied j ss s v = keeps_lower s.lower (implied Lower j s.value (Some v) (Some v) ss) && keeps_upper s.upper (implied Upper j s.value (Some v) (Some v) ss)

-- where it is finite
abbrev pub is_implied_at : ℕ → List Span → Span → Option Number → Bool
is_implied_at j ss s None = false
is_implied_at j ss s (Some v) = is_implied j ss s v

-- the column is continuous, and its bounds are implied at the cheapest side
abbrev pub is_free : ℕ → Number → Option Number → Option Number → List Span → Option Span → Bool
is_free j c l u ss None = false
is_free j c l u ss (Some s) = not s.whole && (not s.semi && is_implied_at j ss s (side_for c s.value l u))

-- and its one entry is in row i
abbrev pub is_free_column_singleton : ℕ → ℕ → Contents → RowTest
is_free_column_singleton j i (Column es c) l u ss = is_sole_at i es && is_free j c l u ss (entry_at j ss)
is_free_column_singleton j i column l u ss = false

abbrev pub holds : ℕ → ℕ → List Contents → Bool
holds j i (a ∷ b ∷ c ∷ bounds) = on_parts (is_free_column_singleton j i c) a b bounds
holds j i other = false

abbrev pub enabled : Sparse → ℕ → ℕ → Bool
enabled p j i = holds j i (found_on (heads j i) bounds_named p)

-- s: the value at which the row stands
abbrev pub value_of : Sparse → ℕ → ℕ → Number
value_of p j i = unwrap_or (side_for (cost_at p j) (entry_of p j i) (sides_at p i).lower (sides_at p i).upper) zero_ℚ

-- t s
abbrev pub gain_of : Sparse → ℕ → ℕ → Number
gain_of p j i = price_of p j i *ℚ value_of p j i

-- column and row go
abbrev pub edits : Sparse → ℕ → ℕ → List Edit
edits p j i = costs_less p j i ++ AddOffset (gain_of p j i) ∷ DeleteColumn j ∷ DeleteRow i ∷ []

-- the record keeps the row
abbrev pub record_of : Sparse → ℕ → ℕ → Undo
record_of p j i = undo.FreeColumnSingleton (record { column = j; row = i; value = entry_of p j i; at = value_of p j i; price = price_of p j i; entries = others_of p j i })

-- the costs and the product are computed
abbrev pub Computes : Sparse → ℕ → ℕ → Type 0
Computes p j i = CostsCompute p j i × Fits (gain_of p j i)
