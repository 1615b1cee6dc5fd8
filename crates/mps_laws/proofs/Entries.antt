-- The terms of columns ascend.
use Rattle.std.proofs.Common.{◌≡◌, ◌≢◌, ◌⊎◌, inl, inr, ℕ, zero, suc, ◌+◌, ◌<◌, ◌≤◌, List, [], ◌∷◌, ◌++◌, length, length-append, take, Bool, true, false, cond, not, ◌||◌, Option, Some, None, filter, refl, sym, ap, ap₂, ◌∙◌, arith, subst, add-one}
use Rattle.std.specs.Prelude.{All}
use Rattle.std.proofs.lemmas.List.{append-nil, take_all, get_or_past}
use Rattle.std.proofs.lemmas.List.Elements.{All-nil, All-push, filter_more}
use Rattle.std.proofs.lemmas.Bool.{cases_lt, both_ways}
use Rattle.fractions.specs.Number.{Number, zero_ℚ}
use Rattle.fractions.specs.Compare.{eq_ℚ}
use Rattle.fractions.specs.Comparisons.{eq_ℚ-is}
use Rattle.lp_model.specs.declared.terms.Term.{Term}
use Rattle.lp_model.specs.declared.program.ColumnDef.{ColumnDef}
use Rattle.lp_model.specs.Sparse.{Ascends}
use Rattle.mps_profile.specs.Texts.{Text, field}
use Rattle.mps_profile.specs.Cards.{Card}
use Rattle.mps_profile.specs.Sides.{sides_of}
use Rattle.mps_profile.specs.Rows.{row_names, row_kinds, row_kind, is_free, right_side, range_of}
use Rattle.mps_profile.specs.Columns.{column_names, coefficient}
use Rattle.mps_profile.specs.Program.{row_id, row_defs, row_defs_at, terms_of, column_defs, column_def, program_in}
use Rattle.mps_profile.specs.declared.dialect.Dialect.{Dialect}
use Rattle.mps_profile.specs.declared.progress.Told.{Told}
use Rattle.mps_profile.specs.declared.row_kinds.Interval.{Interval}
use Rattle.mps_profile.specs.declared.row_kinds.RowKind.{RowKind}
use Rattle.mps_profile.specs.declared.row_kinds.RowKind.TheVariants.{Free, AtMost, AtLeast, Equal}

pub ascends_more : (m n p : ℕ) (ts : List Term) → n ≤ p → Ascends m n ts → Ascends m p ts
ascends_more m n p [] le a = tt
ascends_more m n p (t ∷ ts) le a = (a.0, omega (arith, a.1, le), a.2, ascends_more (suc t.id) n p ts le a.3)

pub ascends_push : (m n p : ℕ) (ts : List Term) (t : Term) → m ≤ n → Ascends m n ts → n ≤ t.id → t.id < p → t.value ≢ zero_ℚ → Ascends m p (ts ++ t ∷ [])
ascends_push m n p [] t le a above below value = (omega (arith, le, above), below, value, tt)
ascends_push m n p (s ∷ ts) t le a above below value =
    (a.0, omega (arith, a.1, above, below), a.2, ascends_push (suc s.id) n p ts t (omega (arith, a.1)) a.3 above below value)

-- how many rows of the program a row makes
abbrev count_of : Bool → ℕ
count_of true = 0
count_of false = 1

length_kept : (kind : RowKind) → length (cond (not (is_free kind)) (kind ∷ []) []) ≡ count_of (is_free kind)
length_kept Free = refl
length_kept AtMost = refl
length_kept AtLeast = refl
length_kept Equal = refl

next_id : (cards : List Card) (i : ℕ) → row_id cards (suc i) ≡ row_id cards i + count_of (is_free (row_kind cards i))
next_id cards i = by_case (cases_lt i (length (row_kinds cards)))
  where
    by_case : (i < length (row_kinds cards)) ⊎ (length (row_kinds cards) ≤ i) → row_id cards (suc i) ≡ row_id cards i + count_of (is_free (row_kind cards i))
    by_case (inl within) =
        ap (λ n. row_id cards n) (sym (add-one i))
        ∙ ap length (filter_more (λ kind. not (is_free kind)) (row_kinds cards) i Free within)
        ∙ length-append (filter (λ kind. not (is_free kind)) (take i (row_kinds cards))) _
        ∙ ap (λ n. row_id cards i + n) (length_kept (row_kind cards i))
    by_case (inr past) =
        let here : row_kind cards i ≡ Free = get_or_past (row_kinds cards) i Free past in
        let old : take i (row_kinds cards) ≡ row_kinds cards = take_all i (row_kinds cards) past in
        let new : take (suc i) (row_kinds cards) ≡ row_kinds cards = take_all (suc i) (row_kinds cards) (omega (arith, past)) in
        let none : count_of (is_free (row_kind cards i)) ≡ 0 = ap (λ kind. count_of (is_free kind)) here in
        let same : row_id cards (suc i) ≡ row_id cards i = ap (λ kinds. length (filter (λ kind. not (is_free kind)) kinds)) (new ∙ sym old) in
        omega (arith, same, none)

def_count : (name : Text) (kind : RowKind) (side : Number) (range : Option Interval) → length (row_defs_at name (sides_of kind side range)) ≡ count_of (is_free kind)
def_count name Free side None = refl
def_count name Free side (Some range) = refl
def_count name AtMost side None = refl
def_count name AtMost side (Some range) = refl
def_count name AtLeast side None = refl
def_count name AtLeast side (Some range) = refl
def_count name Equal side None = refl
def_count name Equal side (Some range) = refl

-- the next row has the next id
pub ids_count : (dialect : Dialect) (cards : List Card) (n : ℕ) → length (row_defs dialect cards n) ≡ row_id cards n
ids_count dialect cards zero = refl
ids_count dialect cards (suc i) =
    length-append (row_defs dialect cards i) _
    ∙ ap₂ (λ (k l : ℕ). k + l) (ids_count dialect cards i) (def_count (field (row_names cards) i) (row_kind cards i) (right_side dialect cards i) (range_of dialect cards i))
    ∙ sym (next_id cards i)

by_tests : (dialect : Dialect) (cards : List Card) (j i : ℕ) (ts : List Term) (f z : Bool) → is_free (row_kind cards i) ≡ f → eq_ℚ (coefficient dialect cards j i) zero_ℚ ≡ z
    → Ascends 0 (row_id cards i) ts → Ascends 0 (row_id cards (suc i)) (ts ++ cond (f || z) [] (record { id = row_id cards i; value = coefficient dialect cards j i } ∷ []))
by_tests dialect cards j i ts true z is null a =
    subst (Ascends 0 (row_id cards (suc i))) (sym (append-nil ts)) (ascends_more 0 (row_id cards i) (row_id cards (suc i)) ts (omega (arith, next_id cards i)) a)
by_tests dialect cards j i ts false true is null a =
    subst (Ascends 0 (row_id cards (suc i))) (sym (append-nil ts)) (ascends_more 0 (row_id cards i) (row_id cards (suc i)) ts (omega (arith, next_id cards i)) a)
by_tests dialect cards j i ts false false is null a =
    ascends_push 0 (row_id cards i) (row_id cards (suc i)) ts _ (omega arith) a (omega arith) (omega (arith, next_id cards i, ap count_of is))
    (λ same. both_ways (eq_ℚ (coefficient dialect cards j i) zero_ℚ) null ((eq_ℚ-is (coefficient dialect cards j i) zero_ℚ).1 same))

pub ids_ascend : (dialect : Dialect) (cards : List Card) (j n : ℕ) → Ascends 0 (row_id cards n) (terms_of dialect cards j n)
ids_ascend dialect cards j zero = tt
ids_ascend dialect cards j (suc i) =
    by_tests dialect cards j i (terms_of dialect cards j i) (is_free (row_kind cards i)) (eq_ℚ (coefficient dialect cards j i) zero_ℚ) refl refl (ids_ascend dialect cards j i)

-- among the rows of the program
pub terms_ascend : (dialect : Dialect) (cards : List Card) (j n : ℕ) → Ascends 0 (length (row_defs dialect cards n)) (terms_of dialect cards j n)
terms_ascend dialect cards j n = subst (λ m. Ascends 0 m (terms_of dialect cards j n)) (sym (ids_count dialect cards n)) (ids_ascend dialect cards j n)

entries_ascend : (dialect : Dialect) (cards : List Card) (n : ℕ) → All (λ (c : ColumnDef). Ascends 0 (length (row_defs dialect cards (length (row_names cards)))) c.entries) (column_defs dialect cards n)
entries_ascend dialect cards zero = All-nil (λ (c : ColumnDef). Ascends 0 (length (row_defs dialect cards (length (row_names cards)))) c.entries)
entries_ascend dialect cards (suc j) =
    All-push (λ (c : ColumnDef). Ascends 0 (length (row_defs dialect cards (length (row_names cards)))) c.entries) (column_defs dialect cards j) (column_def dialect cards j) (entries_ascend dialect cards j)
    (terms_ascend dialect cards j (length (row_names cards)))

pub columns_ascend : (dialect : Dialect) (sense : Told) (cards : List Card) → All (λ (c : ColumnDef). Ascends 0 (length (program_in dialect sense cards).rows) c.entries) (program_in dialect sense cards).columns
columns_ascend dialect sense cards = entries_ascend dialect cards (length (column_names cards))
