-- The entries of columns stand at ascending rows of the program, and none is 0.
use Rattle.std.proofs.Common.{◌≡◌, ◌⊎◌, inl, inr, ℕ, zero, suc, ◌+◌, ◌<◌, ◌≤◌, List, [], ◌∷◌, ◌++◌, length, length-append, take, Bool, true, false, cond, not, ◌||◌, Option, Some, None, filter, refl, sym, ap, ap₂, ◌∙◌, arith, subst, add-one}
use Rattle.std.specs.Prelude.{All}
use Rattle.std.proofs.lemmas.List.{append-nil, take_all, get_or_past}
use Rattle.std.proofs.lemmas.List.Elements.{All-nil, All-push, filter_more}
use Rattle.std.proofs.lemmas.Bool.{cases_lt, both_ways}
use Rattle.fractions.specs.Number.{Number, zero_ℚ, of_ℤ}
use Rattle.fractions.specs.Compare.{eq_ℚ}
use Rattle.fractions.specs.Comparisons.{eq_ℚ-is}
use Rattle.lp_model.specs.declared.terms.Term.{Term}
use Rattle.lp_model.specs.declared.program.ColumnDef.{ColumnDef}
use Rattle.lp_model.specs.Sparse.{Ascends}
use Rattle.lp_model.specs.Writable.{EntriesAscend}
use Rattle.mps_laws.proofs.Entries.{ascends_more, ascends_push}
use Rattle.mps_profile.specs.Texts.{Text, field}
use Rattle.mps_profile.specs.Sides.{sides_of}
use Rattle.mps_profile.specs.Rows.{is_free}
use Rattle.mps_profile.specs.Program.{id_of, kind_at, row_defs_at, rows_below, terms_below, columns_below}
use Rattle.mps_profile.specs.declared.row_kinds.Interval.{Interval}
use Rattle.mps_profile.specs.declared.row_kinds.RowKind.{RowKind}
use Rattle.mps_profile.specs.declared.row_kinds.RowKind.TheVariants.{Free, AtMost, AtLeast, Equal}
use Rattle.opb_text.specs.Tokens.{Token}
use Rattle.opb_text.specs.Statements.{open_row, row_kinds}
use Rattle.opb_text.specs.Columns.{column_names, right_side}
use Rattle.opb_text.specs.Program.{row_names, column_def, program_in}

-- how many rows of the program a row makes
abbrev pub count_of : Bool → ℕ
count_of true = 0
count_of false = 1

length_kept : (kind : RowKind) → length (cond (not (is_free kind)) (kind ∷ []) []) ≡ count_of (is_free kind)
length_kept Free = refl
length_kept AtMost = refl
length_kept AtLeast = refl
length_kept Equal = refl

pub next_id : (kinds : List RowKind) (i : ℕ) → id_of kinds (suc i) ≡ id_of kinds i + count_of (is_free (kind_at kinds i))
next_id kinds i = by_case (cases_lt i (length kinds))
  where
    by_case : (i < length kinds) ⊎ (length kinds ≤ i) → id_of kinds (suc i) ≡ id_of kinds i + count_of (is_free (kind_at kinds i))
    by_case (inl within) =
        ap (λ n. id_of kinds n) (sym (add-one i))
        ∙ ap length (filter_more (λ kind. not (is_free kind)) kinds i Free within)
        ∙ length-append (filter (λ kind. not (is_free kind)) (take i kinds)) _
        ∙ ap (λ n. id_of kinds i + n) (length_kept (kind_at kinds i))
    by_case (inr past) =
        let here : kind_at kinds i ≡ Free = get_or_past kinds i Free past in
        let old : take i kinds ≡ kinds = take_all i kinds past in
        let new : take (suc i) kinds ≡ kinds = take_all (suc i) kinds (omega (arith, past)) in
        let none : count_of (is_free (kind_at kinds i)) ≡ 0 = ap (λ kind. count_of (is_free kind)) here in
        let same : id_of kinds (suc i) ≡ id_of kinds i = ap (λ ks. length (filter (λ kind. not (is_free kind)) ks)) (new ∙ sym old) in
        omega (arith, same, none)

def_count : (name : Text) (kind : RowKind) (side : Number) (range : Option Interval) → length (row_defs_at name (sides_of kind side range)) ≡ count_of (is_free kind)
def_count name Free side None = refl
def_count name Free side (Some range) = refl
def_count name AtMost side None = refl
def_count name AtMost side (Some range) = refl
def_count name AtLeast side None = refl
def_count name AtLeast side (Some range) = refl
def_count name Equal side None = refl
def_count name Equal side (Some range) = refl

-- the next row has the next id
pub ids_count : (names : List Text) (kinds : List RowKind) (side : ℕ → Number) (range : ℕ → Option Interval) (n : ℕ) → length (rows_below names kinds side range n) ≡ id_of kinds n
ids_count names kinds side range zero = refl
ids_count names kinds side range (suc i) =
    length-append (rows_below names kinds side range i) _
    ∙ ap₂ (λ (k l : ℕ). k + l) (ids_count names kinds side range i) (def_count (field names i) (kind_at kinds i) (side i) (range i))
    ∙ sym (next_id kinds i)

by_tests : (kinds : List RowKind) (number : ℕ → Number) (i : ℕ) (ts : List Term) (f z : Bool) → is_free (kind_at kinds i) ≡ f → eq_ℚ (number i) zero_ℚ ≡ z
    → Ascends 0 (id_of kinds i) ts → Ascends 0 (id_of kinds (suc i)) (ts ++ cond (f || z) [] (record { id = id_of kinds i; value = number i } ∷ []))
by_tests kinds number i ts true z is null a =
    subst (Ascends 0 (id_of kinds (suc i))) (sym (append-nil ts)) (ascends_more 0 (id_of kinds i) (id_of kinds (suc i)) ts (omega (arith, next_id kinds i)) a)
by_tests kinds number i ts false true is null a =
    subst (Ascends 0 (id_of kinds (suc i))) (sym (append-nil ts)) (ascends_more 0 (id_of kinds i) (id_of kinds (suc i)) ts (omega (arith, next_id kinds i)) a)
by_tests kinds number i ts false false is null a =
    ascends_push 0 (id_of kinds i) (id_of kinds (suc i)) ts _ (omega arith) a (omega arith) (omega (arith, next_id kinds i, ap count_of is))
    (λ same. both_ways (eq_ℚ (number i) zero_ℚ) null ((eq_ℚ-is (number i) zero_ℚ).1 same))

pub ids_ascend : (kinds : List RowKind) (number : ℕ → Number) (n : ℕ) → Ascends 0 (id_of kinds n) (terms_below kinds number n)
ids_ascend kinds number zero = tt
ids_ascend kinds number (suc i) =
    by_tests kinds number i (terms_below kinds number i) (is_free (kind_at kinds i)) (eq_ℚ (number i) zero_ℚ) refl refl (ids_ascend kinds number i)

-- the columns of a text
columns_ascend : (tokens : List Token) (m n : ℕ) → id_of (row_kinds tokens) (open_row tokens) ≡ m → All (λ (c : ColumnDef). Ascends 0 m c.entries) (columns_below (column_def tokens) n)
columns_ascend tokens m zero is = All-nil (λ (c : ColumnDef). Ascends 0 m c.entries)
columns_ascend tokens m (suc j) is =
    All-push (λ (c : ColumnDef). Ascends 0 m c.entries) (columns_below (column_def tokens) j) (column_def tokens j) (columns_ascend tokens m j is)
    (subst (λ k. Ascends 0 k (column_def tokens j).entries) is (ids_ascend (row_kinds tokens) _ (open_row tokens)))

pub entries_ascend : (tokens : List Token) → EntriesAscend (program_in tokens)
entries_ascend tokens =
    columns_ascend tokens (length (program_in tokens).rows) (length (column_names tokens))
    (sym (ids_count (row_names (open_row tokens)) (row_kinds tokens) (λ i. of_ℤ (right_side tokens i)) (λ i. None) (open_row tokens)))
