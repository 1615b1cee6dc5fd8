-- The names of rows and columns differ.
use Rattle.std.proofs.Common.{◌≡◌, ◌≢◌, ℕ, zero, suc, ◌+◌, ◌<◌, ◌≤◌, List, [], ◌∷◌, ◌++◌, length, length-append, take, Bool, true, false, cond, Option, Some, None, is_some, unwrap_or, refl, sym, ap, ap₂, ◌∙◌, arith, subst, add-one}
use Rattle.std.specs.Prelude.{All}
use Rattle.std.specs.List.{list_any}
use Rattle.std.proofs.lemmas.List.{append-nil, map-append, take_more, take_all}
use Rattle.std.proofs.lemmas.List.Quantifiers.{position-Some, all_pairs_push}
use Rattle.std.proofs.lemmas.List.Elements.{All-nil, All-append, All-cons, All-weaker}
use Rattle.std.proofs.lemmas.List.Kept.{AllPairs-cons}
use Rattle.fractions.specs.Number.{Number}
use Rattle.names.specs.Names.{place}
use Rattle.lp_model.specs.Name.{IsName}
use Rattle.lp_model.specs.Names.{Differ, WellNamed, names_of_rows, names_of_columns}
use Rattle.lp_model.specs.declared.program.RowDef.{RowDef}
use Rattle.lp_model.specs.declared.program.ColumnDef.{ColumnDef}
use Rattle.mps_profile.specs.Texts.{Text, field}
use Rattle.mps_profile.specs.Cards.{Card, RowCard, MarkerCard, ColumnCard, SideCard, RangeCard, ValuedCard, BareCard, UnknownCard}
use Rattle.mps_profile.specs.Words.{kind_named}
use Rattle.mps_profile.specs.Sides.{sides_of}
use Rattle.mps_profile.specs.Rows.{row_names, row_kinds, row_kind, is_free, right_side, range_of}
use Rattle.mps_profile.specs.Columns.{column_names}
use Rattle.mps_profile.specs.Items.{cards_of}
use Rattle.mps_profile.specs.Reading.{first_fault, lines_read}
use Rattle.mps_profile.specs.Program.{objective_place, row_defs, row_defs_at, column_defs, column_def, program_of}
use Rattle.mps_profile.specs.declared.dialect.Dialect.{Dialect}
use Rattle.mps_profile.specs.declared.row_kinds.Interval.{Interval}
use Rattle.mps_profile.specs.declared.row_kinds.RowKind.{RowKind}
use Rattle.mps_profile.specs.declared.row_kinds.RowKind.TheVariants.{Free, AtMost, AtLeast, Equal}
use Rattle.mps_profile.specs.declared.faults.MpsFaultKind.{MpsFaultKind}
use Rattle.mps_laws.specs.Faultless.{IsFaultless}
use Rattle.mps_laws.specs.Names.{IsNumbered, kept_names}
use Rattle.mps_laws.proofs.Places.{numbered_none, numbered_push, numbered_joined, one_place, differ, found}
use Rattle.mps_laws.proofs.Faultless.{faultless}
use Rattle.mps_laws.proofs.Objective.{has_objective}
use Rattle.mps_laws.proofs.Bytes.{read_unfed}
use Rattle.mps_laws.proofs.NamedCards.{cards_named, rows_are_named, columns_are_named}

-- what a card of ROWS without a fault says
is_new : (o : Option ℕ) (f : MpsFaultKind) (rest : Option MpsFaultKind) → cond (is_some o) (Some f) rest ≡ None → o ≡ None
is_new None f rest sound = refl
is_new (Some k) f rest sound = cc

pub rows_numbered : (dialect : Dialect) (cards : List Card) → IsFaultless dialect cards → IsNumbered (row_names cards)
rows_numbered dialect [] sound = numbered_none
rows_numbered dialect (RowCard kind name ∷ before) sound = numbered_push (row_names before) name (rows_numbered dialect before sound.1) (is_new (place name (row_names before)) _ _ sound.0)
rows_numbered dialect (MarkerCard word ∷ before) sound = rows_numbered dialect before sound.1
rows_numbered dialect (ColumnCard name pairs ∷ before) sound = rows_numbered dialect before sound.1
rows_numbered dialect (SideCard set pairs ∷ before) sound = rows_numbered dialect before sound.1
rows_numbered dialect (RangeCard set pairs ∷ before) sound = rows_numbered dialect before sound.1
rows_numbered dialect (ValuedCard set kind column number ∷ before) sound = rows_numbered dialect before sound.1
rows_numbered dialect (BareCard set kind column ∷ before) sound = rows_numbered dialect before sound.1
rows_numbered dialect (UnknownCard ∷ before) sound = rows_numbered dialect before sound.1

pub columns_numbered : (cards : List Card) → IsNumbered (column_names cards)
columns_numbered [] = numbered_none
columns_numbered (RowCard kind name ∷ before) = columns_numbered before
columns_numbered (MarkerCard word ∷ before) = columns_numbered before
columns_numbered (ColumnCard name pairs ∷ before) = numbered_joined name (column_names before) (columns_numbered before)
columns_numbered (SideCard set pairs ∷ before) = columns_numbered before
columns_numbered (RangeCard set pairs ∷ before) = columns_numbered before
columns_numbered (ValuedCard set kind column number ∷ before) = columns_numbered before
columns_numbered (BareCard set kind column ∷ before) = columns_numbered before
columns_numbered (UnknownCard ∷ before) = columns_numbered before

-- each row has a name and a type
pub as_many : (cards : List Card) → length (row_kinds cards) ≡ length (row_names cards)
as_many [] = refl
as_many (RowCard kind name ∷ before) =
    length-append (row_kinds before) (unwrap_or (kind_named kind) Free ∷ []) ∙ ap (λ n. n + 1) (as_many before) ∙ sym (length-append (row_names before) (name ∷ []))
as_many (MarkerCard word ∷ before) = as_many before
as_many (ColumnCard name pairs ∷ before) = as_many before
as_many (SideCard set pairs ∷ before) = as_many before
as_many (RangeCard set pairs ∷ before) = as_many before
as_many (ValuedCard set kind column number ∷ before) = as_many before
as_many (BareCard set kind column ∷ before) = as_many before
as_many (UnknownCard ∷ before) = as_many before

-- the objective's row is an N row, and the first
pub objective_found : (cards : List Card) → list_any is_free (row_kinds cards) ≡ true
    → (objective_place cards < length (row_names cards)) × (is_free (row_kind cards (objective_place cards)) ≡ true) × ((k : ℕ) → k < objective_place cards → is_free (row_kind cards k) ≡ false)
objective_found cards is =
    let at = found is_free (row_kinds cards) is in
    let first = position-Some is_free (row_kinds cards) at.0 Free at.1 in
    let here : objective_place cards ≡ at.0 = ap (λ o. unwrap_or o 0) at.1 in
    subst (λ n. (n < length (row_names cards)) × (is_free (row_kind cards n) ≡ true) × ((k : ℕ) → k < n → is_free (row_kind cards k) ≡ false)) (sym here)
    (subst (λ n. at.0 < n) (as_many cards) first.0, first.1, first.2)

-- the rows of the program have the names that are kept
def_name : (name : Text) (kind : RowKind) (side : Number) (range : Option Interval) → names_of_rows (row_defs_at name (sides_of kind side range)) ≡ cond (is_free kind) [] (name ∷ [])
def_name name Free side None = refl
def_name name Free side (Some range) = refl
def_name name AtMost side None = refl
def_name name AtMost side (Some range) = refl
def_name name AtLeast side None = refl
def_name name AtLeast side (Some range) = refl
def_name name Equal side None = refl
def_name name Equal side (Some range) = refl

pub names_kept : (dialect : Dialect) (cards : List Card) (n : ℕ) → names_of_rows (row_defs dialect cards n) ≡ kept_names cards n
names_kept dialect cards zero = refl
names_kept dialect cards (suc i) =
    map-append (λ (r : RowDef). r.name) (row_defs dialect cards i) _
    ∙ ap₂ (λ (xs ys : List Text). xs ++ ys) (names_kept dialect cards i) (def_name (field (row_names cards) i) (row_kind cards i) (right_side dialect cards i) (range_of dialect cards i))

-- the name of one of the first n rows, which is no N row
abbrev IsKept : List Card → ℕ → Text → Type 0
IsKept cards n name = (k : ℕ) × (k < n) × (is_free (row_kind cards k) ≡ false) × (name ≡ field (row_names cards) k)

all_kept : (cards : List Card) (n : ℕ) → All (IsKept cards n) (kept_names cards n)
all_kept cards zero = All-nil (IsKept cards zero)
all_kept cards (suc i) =
    All-append (IsKept cards (suc i)) (kept_names cards i) _
    (All-weaker (IsKept cards i) (IsKept cards (suc i)) later (kept_names cards i) (all_kept cards i))
    (by_test (is_free (row_kind cards i)) refl)
  where
    later : (name : Text) → IsKept cards i name → IsKept cards (suc i) name
    later name at = (at.0, omega (arith, at.1), at.2, at.3)

    by_test : (b : Bool) → is_free (row_kind cards i) ≡ b → All (IsKept cards (suc i)) (cond b [] (field (row_names cards) i ∷ []))
    by_test true is = All-nil (IsKept cards (suc i))
    by_test false is = All-cons (IsKept cards (suc i)) (field (row_names cards) i) [] (i, omega arith, is, refl) (All-nil (IsKept cards (suc i)))

pub kept_differ : (cards : List Card) (n : ℕ) → IsNumbered (row_names cards) → n ≤ length (row_names cards) → Differ (kept_names cards n)
kept_differ cards zero each within = λ i k d lt below. absurd (omega (arith, below))
kept_differ cards (suc i) each within = by_test (is_free (row_kind cards i)) (kept_differ cards i each (omega (arith, within)))
  where
    fresh : (name : Text) → IsKept cards i name → name ≢ field (row_names cards) i
    fresh name at same =
        let there : at.0 < length (row_names cards) = omega (arith, at.1, within) in
        let last : i < length (row_names cards) = omega (arith, within) in
        absurd (omega (arith, at.1, one_place (row_names cards) at.0 i each there last (sym at.3 ∙ same)))

    by_test : (b : Bool) → Differ (kept_names cards i) → Differ (kept_names cards i ++ cond b [] (field (row_names cards) i ∷ []))
    by_test true old = subst Differ (sym (append-nil (kept_names cards i))) old
    by_test false old = all_pairs_push (λ name other. name ≢ other) (kept_names cards i) (field (row_names cards) i) old
        (All-weaker (IsKept cards i) (λ name. name ≢ field (row_names cards) i) fresh (kept_names cards i) (all_kept cards i))

-- the objective's name is none of them
pub rows_differ : (cards : List Card) → IsNumbered (row_names cards) → list_any is_free (row_kinds cards) ≡ true
    → Differ (field (row_names cards) (objective_place cards) ∷ kept_names cards (length (row_names cards)))
rows_differ cards each is =
    AllPairs-cons (λ name other. name ≢ other) (field (row_names cards) (objective_place cards)) (kept_names cards (length (row_names cards)))
    (All-weaker (IsKept cards (length (row_names cards))) (λ other. field (row_names cards) (objective_place cards) ≢ other) apart (kept_names cards (length (row_names cards)))
    (all_kept cards (length (row_names cards))))
    (kept_differ cards (length (row_names cards)) each (omega arith))
  where
    apart : (other : Text) → IsKept cards (length (row_names cards)) other → field (row_names cards) (objective_place cards) ≢ other
    apart other at same =
        let first = objective_found cards is in
        let here : objective_place cards ≡ at.0 = one_place (row_names cards) (objective_place cards) at.0 each first.0 at.1 (same ∙ at.3) in
        let free : is_free (row_kind cards at.0) ≡ true = sym (ap (λ k. is_free (row_kind cards k)) here) ∙ first.1 in
        let not_free : is_free (row_kind cards at.0) ≡ false = at.2 in
        cc

-- the columns have the names of the columns
pub columns_named : (dialect : Dialect) (cards : List Card) (n : ℕ) → n ≤ length (column_names cards) → names_of_columns (column_defs dialect cards n) ≡ take n (column_names cards)
columns_named dialect cards zero within = refl
columns_named dialect cards (suc j) within =
    map-append (λ (c : ColumnDef). c.name) (column_defs dialect cards j) (column_def dialect cards j ∷ [])
    ∙ ap (λ (xs : List Text). xs ++ field (column_names cards) j ∷ []) (columns_named dialect cards j (omega (arith, within)))
    ∙ sym (take_more (column_names cards) j [] (omega (arith, within)))
    ∙ ap (λ n. take n (column_names cards)) (add-one j)

pub all_columns_named : (dialect : Dialect) (cards : List Card) → names_of_columns (column_defs dialect cards (length (column_names cards))) ≡ column_names cards
all_columns_named dialect cards = columns_named dialect cards (length (column_names cards)) (omega arith) ∙ take_all (length (column_names cards)) (column_names cards) (omega arith)

program_rows_differ : (dialect : Dialect) (text : List ℕ) → first_fault dialect text ≡ None → Differ ((program_of dialect text).objective ∷ names_of_rows (program_of dialect text).rows)
program_rows_differ dialect text sound =
    let cards : List Card = cards_of dialect.format (lines_read dialect text) in
    subst (λ (names : List Text). Differ (field (row_names cards) (objective_place cards) ∷ names)) (sym (names_kept dialect cards (length (row_names cards))))
    (rows_differ cards (rows_numbered dialect cards (faultless dialect text sound)) (has_objective dialect text sound))

program_columns_differ : (dialect : Dialect) (text : List ℕ) → Differ (names_of_columns (program_of dialect text).columns)
program_columns_differ dialect text =
    let cards : List Card = cards_of dialect.format (lines_read dialect text) in
    subst Differ (sym (all_columns_named dialect cards)) (differ (column_names cards) (columns_numbered cards))

-- the names of the objective, the rows and the columns are names
program_rows_named : (dialect : Dialect) (text : List ℕ) → first_fault dialect text ≡ None → All IsName ((program_of dialect text).objective ∷ names_of_rows (program_of dialect text).rows)
program_rows_named dialect text sound =
    let cards : List Card = cards_of dialect.format (lines_read dialect text) in
    let named : All IsName (row_names cards) = rows_are_named cards (cards_named dialect.format (lines_read dialect text) (read_unfed dialect text)) in
    let kept : All IsName (kept_names cards (length (row_names cards))) =
    All-weaker (IsKept cards (length (row_names cards))) IsName (λ name at. subst IsName (sym at.3) (named at.0 [] at.1)) (kept_names cards (length (row_names cards))) (all_kept cards (length (row_names cards))) in
    All-cons IsName (program_of dialect text).objective (names_of_rows (program_of dialect text).rows)
    (named (objective_place cards) [] (objective_found cards (has_objective dialect text sound)).0)
    (subst (All IsName) (sym (names_kept dialect cards (length (row_names cards)))) kept)

program_columns_named : (dialect : Dialect) (text : List ℕ) → All IsName (names_of_columns (program_of dialect text).columns)
program_columns_named dialect text =
    let cards : List Card = cards_of dialect.format (lines_read dialect text) in
    subst (All IsName) (sym (all_columns_named dialect cards)) (columns_are_named cards (cards_named dialect.format (lines_read dialect text) (read_unfed dialect text)))

-- the program of a text without a fault has names, and they differ
pub program_well_named : (dialect : Dialect) (text : List ℕ) → first_fault dialect text ≡ None
    → WellNamed (program_of dialect text).objective (program_of dialect text).rows (program_of dialect text).columns
program_well_named dialect text sound = record {
  row_names = program_rows_named dialect text sound;
  column_names = program_columns_named dialect text;
  rows = program_rows_differ dialect text sound;
  columns = program_columns_differ dialect text;
}

-- and so are those of all its rows, N rows among them, and columns
pub cards_give_names : (dialect : Dialect) (text : List ℕ) → All IsName (row_names (cards_of dialect.format (lines_read dialect text))) × All IsName (column_names (cards_of dialect.format (lines_read dialect text)))
cards_give_names dialect text =
    let named = cards_named dialect.format (lines_read dialect text) (read_unfed dialect text) in
    (rows_are_named _ named, columns_are_named _ named)
