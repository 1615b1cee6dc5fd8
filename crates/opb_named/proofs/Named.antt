-- The names in the program of a text are ordinary, and so they can stand in every text.
use Rattle.std.proofs.Common.{◌≡◌, ℕ, zero, suc, ◌<◌, ◌≤◌, ◌^◌, List, [], ◌∷◌, ◌++◌, length, take, refl, sym, ap, ◌∙◌, subst, arith, add-one}
use Rattle.std.specs.Prelude.{codes}
use Rattle.std.specs.List.{All}
use Rattle.std.proofs.lemmas.List.{map-append, take_more, take_all}
use Rattle.std.proofs.lemmas.List.Elements.{All-head, All-tail, All-weaker}
use Rattle.fractions.specs.Number.{of_ℤ}
use Rattle.lp_model.specs.Names.{names_of_columns, names_of_rows}
use Rattle.lp_model.specs.declared.program.ColumnDef.{ColumnDef}
use Rattle.mps_profile.specs.Texts.{Text, field}
use Rattle.mps_profile.specs.Program.{columns_below}
use Rattle.mps_round_trip.specs.Plain.{CanNameRow, HasNoReturn, Plain}
use Rattle.opb_text.specs.Tokens.{Token}
use Rattle.opb_text.specs.Statements.{open_row, row_kinds}
use Rattle.opb_text.specs.Columns.{column_names, right_side}
use Rattle.opb_text.specs.Reading.{tokens_of}
use Rattle.opb_text.specs.Program.{column_def, program_in, program_of}
use Rattle.opb_laws.proofs.Counts.{rows_few, text_few}
use Rattle.opb_laws.proofs.Writing.{first_free}
use Rattle.opb_named.specs.Ordinary.{IsOrdinary}
use Rattle.opb_named.proofs.Ordinary.{ordinary_returnless, ordinary_row}
use Rattle.opb_named.proofs.Rows.{all_rows_ordinary}
use Rattle.opb_named.proofs.Tokens.{AreNamed, columns_ordinary, text_named}

-- the columns have the names of the columns
columns_named : (tokens : List Token) (n : ℕ) → n ≤ length (column_names tokens) → names_of_columns (columns_below (column_def tokens) n) ≡ take n (column_names tokens)
columns_named tokens zero within = refl
columns_named tokens (suc j) within =
    map-append (λ (c : ColumnDef). c.name) (columns_below (column_def tokens) j) (column_def tokens j ∷ [])
    ∙ ap (λ (xs : List Text). xs ++ field (column_names tokens) j ∷ []) (columns_named tokens j (omega (arith, within)))
    ∙ sym (take_more (column_names tokens) j [] (omega (arith, within)))
    ∙ ap (λ n. take n (column_names tokens)) (add-one j)

all_columns_named : (tokens : List Token) → names_of_columns (program_in tokens).columns ≡ column_names tokens
all_columns_named tokens = columns_named tokens (length (column_names tokens)) (omega arith) ∙ take_all (length (column_names tokens)) (column_names tokens) (omega arith)

pub names_ordinary : (tokens : List Token) → AreNamed tokens → All IsOrdinary (names_of_columns (program_in tokens).columns)
names_ordinary tokens named = subst (All IsOrdinary) (sym (all_columns_named tokens)) (columns_ordinary tokens named)

-- ---- tokens
module _ (tokens : List Token) (few : open_row tokens ≤ 2 ^ 64) where
  pub rows_ordinary : All IsOrdinary ((program_in tokens).objective ∷ names_of_rows (program_in tokens).rows)
  rows_ordinary = all_rows_ordinary (open_row tokens) (row_kinds tokens) (λ i. of_ℤ (right_side tokens i)) (first_free tokens) few

-- ---- texts
few_rows : (text : Text) → length text < 2 ^ 64 → open_row (tokens_of text) ≤ 2 ^ 64
few_rows text few = omega (arith, rows_few (tokens_of text), text_few text, few)

pub text_rows_ordinary : (text : Text) → length text < 2 ^ 64 → All IsOrdinary ((program_of text).objective ∷ names_of_rows (program_of text).rows)
text_rows_ordinary text few = rows_ordinary (tokens_of text) (few_rows text few)

pub text_columns_ordinary : (text : Text) → All IsOrdinary (names_of_columns (program_of text).columns)
text_columns_ordinary text = names_ordinary (tokens_of text) (text_named text)

-- and so they can be written
pub text_plain : (text : Text) → length text < 2 ^ 64 → Plain (program_of text)
text_plain text few =
    let rows = All-weaker IsOrdinary CanNameRow ordinary_row (codes "obj" ∷ names_of_rows (program_of text).rows) (text_rows_ordinary text few) in
    record {
      objective = All-head CanNameRow (codes "obj") (names_of_rows (program_of text).rows) rows;
      rows = All-tail CanNameRow (codes "obj") (names_of_rows (program_of text).rows) rows;
      columns = All-weaker IsOrdinary HasNoReturn ordinary_returnless (names_of_columns (program_of text).columns) (text_columns_ordinary text);
    }
