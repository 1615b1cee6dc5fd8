-- The program of cards without a fault can be written.
use Rattle.std.proofs.Common.{ℕ, zero, suc, Bool, true, false, cond, List, [], ◌∷◌, length, Option, Some, None, arith}
use Rattle.std.specs.Prelude.{◌==◌, ◌||◌, IfSome}
use Rattle.std.specs.List.{All}
use Rattle.std.proofs.lemmas.List.Elements.{All-nil, All-append}
use Rattle.fractions.specs.Number.{Number, zero_ℚ}
use Rattle.fractions.specs.Compare.{eq_ℚ}
use Rattle.fractions.specs.declared.Numbers.{Numbers}
use Rattle.lp_model.specs.declared.terms.Term.{Term}
use Rattle.mps_profile.specs.Texts.{Text, field}
use Rattle.mps_profile.specs.Cards.{Card, RowCard, MarkerCard, ColumnCard, SideCard, RangeCard, ValuedCard, BareCard, UnknownCard}
use Rattle.mps_profile.specs.Sides.{sides_of}
use Rattle.mps_profile.specs.Rows.{row_names, row_kind, is_free, pairs_value, right_side, range_of}
use Rattle.mps_profile.specs.Columns.{column_names, column_place, number_at, coefficient}
use Rattle.mps_profile.specs.Program.{objective_place, row_id, row_defs_at, row_defs, terms_at, terms_of, column_def, column_defs, program_in}
use Rattle.mps_profile.specs.declared.dialect.Dialect.{Dialect}
use Rattle.mps_profile.specs.declared.progress.Told.{Told}
use Rattle.mps_laws.specs.Faultless.{IsFaultless}
use Rattle.lp_model.specs.Writable.{WritableNumber, WritableSides, WritableRow, WritableColumn, Writable}
use Rattle.mps_named.proofs.NumberRoom.{negative}
use Rattle.mps_named.proofs.RangeRoom.{pairs-number, chosen, or_zero, right_side-number, range-room, sides-room}
use Rattle.mps_named.proofs.BoundRoom.{upper_bound-fits, lower_bound-fits}

All-one : {X : Type 0} (P : X → Type 0) (x : X) → P x → All P (x ∷ [])
All-one P x h zero d l = h
All-one P x h (suc k) d l = absurd (omega (arith, l))

-- ---- coefficients
number-fits : (dialect : Dialect) (cards : List Card) (j i : ℕ) → IfSome (number_at dialect cards j i) (WritableNumber dialect.numbers)
number-fits dialect [] j i = tt
number-fits dialect (RowCard kind name ∷ before) j i = number-fits dialect before j i
number-fits dialect (MarkerCard word ∷ before) j i = number-fits dialect before j i
number-fits dialect (ColumnCard name pairs ∷ before) j i =
    chosen (WritableNumber dialect.numbers) (column_place name (column_names before) == j) (pairs_value dialect (row_names before) i pairs (number_at dialect before j i)) (number_at dialect before j i)
    (pairs-number dialect (row_names before) i pairs (number_at dialect before j i) (number-fits dialect before j i)) (number-fits dialect before j i)
number-fits dialect (SideCard set pairs ∷ before) j i = number-fits dialect before j i
number-fits dialect (RangeCard set pairs ∷ before) j i = number-fits dialect before j i
number-fits dialect (ValuedCard set kind column number ∷ before) j i = number-fits dialect before j i
number-fits dialect (BareCard set kind column ∷ before) j i = number-fits dialect before j i
number-fits dialect (UnknownCard ∷ before) j i = number-fits dialect before j i

coefficient-fits : (dialect : Dialect) (cards : List Card) (j i : ℕ) → WritableNumber dialect.numbers (coefficient dialect cards j i)
coefficient-fits dialect cards j i = or_zero dialect.numbers (number_at dialect cards j i) (number-fits dialect cards j i)

-- ---- rows
defs-fit : (numbers : Numbers) (name : Text) (sides : Option (Option Number × Option Number)) → IfSome sides (λ s. WritableSides numbers s.0 s.1) → All (WritableRow numbers) (row_defs_at name sides)
defs-fit numbers name None h = All-nil (WritableRow numbers)
defs-fit numbers name (Some sides) h = All-one (WritableRow numbers) _ h

rows-fit : (dialect : Dialect) (cards : List Card) (n : ℕ) → IsFaultless dialect cards → All (WritableRow dialect.numbers) (row_defs dialect cards n)
rows-fit dialect cards zero h = All-nil (WritableRow dialect.numbers)
rows-fit dialect cards (suc i) h =
    All-append (WritableRow dialect.numbers) (row_defs dialect cards i) _ (rows-fit dialect cards i h)
    (defs-fit dialect.numbers (field (row_names cards) i) (sides_of (row_kind cards i) (right_side dialect cards i) (range_of dialect cards i))
    (sides-room dialect.numbers (row_kind cards i) (right_side dialect cards i) (range_of dialect cards i) (right_side-number dialect cards i) (range-room dialect cards i h)))

-- ---- columns
abbrev TermFits : Numbers → Term → Type 0
TermFits numbers term = WritableNumber numbers term.value

term-fits : (dialect : Dialect) (cards : List Card) (j i : ℕ) → All (TermFits dialect.numbers) (terms_at dialect cards j i)
term-fits dialect cards j i = by (is_free (row_kind cards i) || eq_ℚ (coefficient dialect cards j i) zero_ℚ)
  where
    by : (b : Bool) → All (TermFits dialect.numbers) (cond b [] (record { id = row_id cards i; value = coefficient dialect cards j i } ∷ []))
    by true = All-nil (TermFits dialect.numbers)
    by false = All-one (TermFits dialect.numbers) _ (coefficient-fits dialect cards j i)

terms-fit : (dialect : Dialect) (cards : List Card) (j n : ℕ) → All (TermFits dialect.numbers) (terms_of dialect cards j n)
terms-fit dialect cards j zero = All-nil (TermFits dialect.numbers)
terms-fit dialect cards j (suc i) = All-append (TermFits dialect.numbers) (terms_of dialect cards j i) (terms_at dialect cards j i) (terms-fit dialect cards j i) (term-fits dialect cards j i)

column-fits : (dialect : Dialect) (cards : List Card) (j : ℕ) → WritableColumn dialect.numbers (column_def dialect cards j)
column-fits dialect cards j = record {
  cost = coefficient-fits dialect cards j (objective_place cards);
  lower = lower_bound-fits dialect cards j;
  upper = upper_bound-fits dialect cards j;
  entries = terms-fit dialect cards j (length (row_names cards));
}

columns-fit : (dialect : Dialect) (cards : List Card) (n : ℕ) → All (WritableColumn dialect.numbers) (column_defs dialect cards n)
columns-fit dialect cards zero = All-nil (WritableColumn dialect.numbers)
columns-fit dialect cards (suc j) =
    All-append (WritableColumn dialect.numbers) (column_defs dialect cards j) _ (columns-fit dialect cards j)
    (All-one (WritableColumn dialect.numbers) (column_def dialect cards j) (column-fits dialect cards j))

pub program-fits : (dialect : Dialect) (sense : Told) (cards : List Card) → IsFaultless dialect cards → Writable dialect.numbers (program_in dialect sense cards)
program-fits dialect sense cards h = record {
  constant = negative dialect.numbers (right_side dialect cards (objective_place cards)) (right_side-number dialect cards (objective_place cards));
  rows = rows-fit dialect cards (length (row_names cards)) h;
  columns = columns-fit dialect cards (length (column_names cards));
}
