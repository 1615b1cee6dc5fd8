-- The program of a text has fewer rows and columns than 2^32 where the text has fewer bytes.
use Rattle.std.proofs.Common.{◌≡◌, ℕ, zero, suc, ◌≤◌, List, [], ◌∷◌, length, length-append, Bool, true, false, refl, None, ap, arith}
use Rattle.fractions.specs.Number.{of_ℤ}
use Rattle.lp_model.specs.declared.program.ColumnDef.{ColumnDef}
use Rattle.mps_profile.specs.Rows.{is_free}
use Rattle.mps_profile.specs.Program.{id_of, kind_at, columns_below}
use Rattle.mps_profile.specs.declared.row_kinds.RowKind.{RowKind}
use Rattle.mps_profile.specs.declared.row_kinds.RowKind.TheVariants.{Free}
use Rattle.opb_text.specs.Statements.{open_row, row_kinds}
use Rattle.opb_text.specs.Columns.{column_names, right_side}
use Rattle.opb_text.specs.Reading.{tokens_of}
use Rattle.opb_text.specs.Program.{row_names, column_def, program_of}
use Rattle.opb_laws.proofs.Counts.{text_few, rows_few, columns_few}
use Rattle.opb_laws.proofs.Entries.{count_of, next_id, ids_count}
use Rattle.opb_laws.proofs.Writing.{first_free}

one_most : (free : Bool) → count_of free ≤ 1
one_most true = omega arith
one_most false = omega arith

-- the free row makes none
pub ids_few : (kinds : List RowKind) (i : ℕ) → kind_at kinds 0 ≡ Free → id_of kinds (suc i) ≤ i
ids_few kinds zero first = let none : count_of (is_free (kind_at kinds 0)) ≡ 0 = ap (λ (kind : RowKind). count_of (is_free kind)) first in omega (arith, next_id kinds 0, none)
ids_few kinds (suc i) first = omega (arith, next_id kinds (suc i), ids_few kinds i first, one_most (is_free (kind_at kinds (suc i))))

ids_below : (kinds : List RowKind) (n m : ℕ) → kind_at kinds 0 ≡ Free → n ≤ suc m → id_of kinds n ≤ m
ids_below kinds zero m first few = omega arith
ids_below kinds (suc i) m first few = omega (arith, ids_few kinds i first, few)

columns_count : (column : ℕ → ColumnDef) (n : ℕ) → length (columns_below column n) ≡ n
columns_count column zero = refl
columns_count column (suc j) = let before = columns_count column j in let pushed = length-append (columns_below column j) (column j ∷ []) in omega (arith, before, pushed)

pub program_few : (text : List ℕ) → (length (program_of text).rows ≤ length text) × (length (program_of text).columns ≤ length text)
program_few text =
    let tokens = tokens_of text in
    let rows = ids_count (row_names (open_row tokens)) (row_kinds tokens) (λ i. of_ℤ (right_side tokens i)) (λ i. None) (open_row tokens) in
    let ids = ids_below (row_kinds tokens) (open_row tokens) (length tokens) (first_free tokens) (rows_few tokens) in
    let columns = columns_count (column_def tokens) (length (column_names tokens)) in
    (omega (arith, rows, ids, text_few text), omega (arith, columns, columns_few tokens, text_few text))
