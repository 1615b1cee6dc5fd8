-- The names of a text's program are names, and differ.
use Rattle.std.proofs.Common.{◌≡◌, ◌≢◌, ◌⊎◌, inl, inr, ℕ, zero, suc, ◌+◌, ◌%◌, length-append, None, Option, is_some, true≢false, ◌<◌, ◌≤◌, ◌^◌, ◌==◌, List, [], ◌∷◌, ◌++◌, length, map, drop, take, Bool, true, false, cond, not, ◌&&◌, Some, refl, sym, ap, ap₂, ◌∙◌, subst, arith, add-one}
use Rattle.std.specs.Prelude.{All, codes, nat_lt, slice_index}
use Rattle.std.specs.Fmt.{decimal}
use Rattle.std.specs.Str.{bytes_eq}
use Rattle.std.specs.Char.{is_ascii_digit}
use Rattle.std.specs.List.{list_all}
use Rattle.std.proofs.lemmas.Bool.{and_parts, and_from, cases_eq, ne_eqb}
use Rattle.std.proofs.lemmas.Bool.Decides.{nat_tests}
use Rattle.std.proofs.lemmas.Fmt.{decimal_by_steps, decimal_injective}
use Rattle.std.proofs.lemmas.List.{append-nil, map-append, take_more, take_all, get_or_append_left}
use Rattle.std.proofs.lemmas.List.Quantifiers.{all_pairs_push}
use Rattle.std.proofs.lemmas.List.Elements.{All-nil, All-append, All-cons, All-weaker, All-push}
use Rattle.std.proofs.lemmas.List.Folds.{list_all-append}
use Rattle.std.proofs.lemmas.List.Kept.{AllPairs-cons}
use Rattle.std.proofs.lemmas.Nat.{mod_below}
use Rattle.fractions.specs.Number.{Number, of_ℤ}
use Rattle.lp_model.specs.Name.{is_break, IsName}
use Rattle.lp_model.specs.Names.{Differ, WellNamed, names_of_rows, names_of_columns}
use Rattle.lp_model.specs.declared.program.RowDef.{RowDef}
use Rattle.lp_model.specs.declared.program.ColumnDef.{ColumnDef}
use Rattle.text_lines.specs.Lines.{lines_of}
use Rattle.number_texts.specs.Form.{is_digits, is_minus, unsigned, number}
use Rattle.number_texts.specs.Read.{signed}
use Rattle.names.specs.Names.{place}
use Rattle.mps_profile.specs.Texts.{field}
use Rattle.mps_profile.specs.Sides.{sides_of}
use Rattle.mps_profile.specs.Rows.{is_free}
use Rattle.mps_profile.specs.Columns.{joined}
use Rattle.mps_profile.specs.Program.{kind_at, row_defs_at, rows_below, columns_below}
use Rattle.mps_profile.specs.declared.row_kinds.Interval.{Interval}
use Rattle.mps_profile.specs.declared.row_kinds.RowKind.{RowKind}
use Rattle.mps_profile.specs.declared.row_kinds.RowKind.TheVariants.{Free, AtMost, AtLeast, Equal}
use Rattle.mps_laws.proofs.Places.{at_last}
use Rattle.opb_text.specs.Words.{Text, is_comment, words_of}
use Rattle.opb_text.specs.Tokens.{Token, Minimum, AtLeast as Least, Equal as Same, End, Number as Numeral, Past, Plain, Negated, Odd, is_whole, is_name, is_negated, number_token, literal_token, token_of, tokens_on}
use Rattle.opb_text.specs.Statements.{open_row, row_kinds}
use Rattle.opb_text.specs.Columns.{column_names, right_side}
use Rattle.opb_text.specs.Reading.{going_on, tokens_from, tokens_of}
use Rattle.opb_text.specs.Program.{column_def, constraint_name, program_in, program_of, row_names}
use Rattle.opb_laws.specs.Named.{AreNamed, NamedToken}
use Rattle.opb_laws.proofs.Names.{columns_differ}
use Rattle.opb_laws.proofs.Counts.{rows_few, text_few}
use Rattle.opb_laws.proofs.Writing.{first_free}

-- ---- literals have names
abbrev stays : ℕ → Bool
stays b = not (is_break b)

digit_stays : (b : ℕ) → is_ascii_digit b ≡ true → stays b ≡ true
digit_stays b h = grind (arith, nat_tests)

digits_stay : (bytes : Text) → list_all is_ascii_digit bytes ≡ true → list_all stays bytes ≡ true
digits_stay [] h = refl
digits_stay (b ∷ bytes) h = let both = and_parts (is_ascii_digit b) (list_all is_ascii_digit bytes) h in and_from (stays b) (list_all stays bytes) (digit_stays b both.0) (digits_stay bytes both.1)

some_length : (n : ℕ) → not (suc n == 0) ≡ true
some_length n = ap not (ne_eqb (suc n) 0 (λ e. omega (arith, e)))

x_named : (word : Text) → is_name word ≡ true → IsName word
x_named [] h = cc
x_named (b ∷ digits) h =
    let both = and_parts (b == 120) (is_digits digits) h in
    let some = and_parts (not (length digits == 0)) (list_all is_ascii_digit digits) both.1 in
    let letter : stays b ≡ true = let x = both.0 in grind (arith, nat_tests) in
    and_from (not (length (b ∷ digits) == 0)) (list_all stays (b ∷ digits)) (some_length (length digits)) (and_from (stays b) (list_all stays digits) letter (digits_stay digits some.1))

either : (b : Bool) (x y : Token) → (b ≡ true → NamedToken x) → NamedToken y → NamedToken (cond b x y)
either true x y h k = h refl
either false x y h k = k

numeral_named : (negative : Bool) (size : ℕ) → NamedToken (number_token negative size)
numeral_named negative size = either (nat_lt size (2 ^ 127)) (Numeral (signed negative size)) Past (λ e. tt) tt

literal_named : (word : Text) → NamedToken (literal_token word)
literal_named word = either (is_name word) (Plain word) _ (x_named word) (either (is_negated word) (Negated (drop 1 word)) Odd (λ h. x_named (drop 1 word) (and_parts (slice_index word 0 == 126) (is_name (drop 1 word)) h).1) tt)

token_named : (word : Text) → NamedToken (token_of word)
token_named word =
    either (bytes_eq word (codes ";")) End _ (λ e. tt)
    (either (bytes_eq word (codes "min:")) Minimum _ (λ e. tt)
    (either (bytes_eq word (codes ">=")) Least _ (λ e. tt)
    (either (bytes_eq word (codes "=")) Same _ (λ e. tt)
    (either (is_whole word) (number_token (is_minus word) (number (unsigned word))) (literal_token word) (λ e. numeral_named (is_minus word) (number (unsigned word))) (literal_named word)))))

words_named : (before : List Token) (words : List Text) → AreNamed before → AreNamed (going_on before (map token_of words))
words_named before [] named = named
words_named before (word ∷ words) named = words_named (token_of word ∷ before) words (token_named word, named)

line_named : (before : List Token) (line : Text) → AreNamed before → AreNamed (going_on before (tokens_on line))
line_named before line named = by (is_comment line)
  where
    by : (b : Bool) → AreNamed (going_on before (map token_of (cond b [] (words_of line))))
    by true = named
    by false = words_named before (words_of line) named

lines_named : (before : List Token) (lines : List Text) → AreNamed before → AreNamed (tokens_from before lines)
lines_named before [] named = named
lines_named before (line ∷ after) named = lines_named (going_on before (tokens_on line)) after (line_named before line named)

pub text_named : (text : Text) → AreNamed (tokens_of text)
text_named text = lines_named [] (lines_of text) tt

-- ---- names of columns
joined_named : (name : Text) (names : List Text) → IsName name → All IsName names → All IsName (joined name names)
joined_named name names named all = by (is_some (place name names))
  where
    by : (b : Bool) → All IsName (cond b names (names ++ name ∷ []))
    by true = all
    by false = All-push IsName names name all named

pub columns_named : (tokens : List Token) → AreNamed tokens → All IsName (column_names tokens)
columns_named [] named = All-nil IsName
columns_named (Minimum ∷ before) named = columns_named before named.1
columns_named (End ∷ before) named = columns_named before named.1
columns_named (Least ∷ before) named = columns_named before named.1
columns_named (Same ∷ before) named = columns_named before named.1
columns_named (Numeral value ∷ before) named = columns_named before named.1
columns_named (Past ∷ before) named = columns_named before named.1
columns_named (Plain name ∷ before) named = joined_named name (column_names before) named.0 (columns_named before named.1)
columns_named (Negated name ∷ before) named = joined_named name (column_names before) named.0 (columns_named before named.1)
columns_named (Odd ∷ before) named = columns_named before named.1

names_below : (tokens : List Token) (n : ℕ) → n ≤ length (column_names tokens) → names_of_columns (columns_below (column_def tokens) n) ≡ take n (column_names tokens)
names_below tokens zero within = refl
names_below tokens (suc j) within =
    map-append (λ (c : ColumnDef). c.name) (columns_below (column_def tokens) j) (column_def tokens j ∷ [])
    ∙ ap (λ (xs : List Text). xs ++ field (column_names tokens) j ∷ []) (names_below tokens j (omega (arith, within)))
    ∙ sym (take_more (column_names tokens) j [] (omega (arith, within)))
    ∙ ap (λ n. take n (column_names tokens)) (add-one j)

pub all_names : (tokens : List Token) → names_of_columns (program_in tokens).columns ≡ column_names tokens
all_names tokens = names_below tokens (length (column_names tokens)) (omega arith) ∙ take_all (length (column_names tokens)) (column_names tokens) (omega arith)

-- ---- names of rows
decimal_stays : (n : ℕ) → n < 2 ^ 64 → list_all stays (decimal n) ≡ true
decimal_stays n few = decimal_by_steps (λ _ ds. list_all stays ds ≡ true) (λ d l. one d l) (λ d ds _ before. list_all-append stays ds ((48 + d % 10) ∷ []) ∙ ap₂ (λ (x y : Bool). x && y) before (one (d % 10) (mod_below d 10 (omega arith)))) n few
  where
    one : (d : ℕ) → d < 10 → list_all stays ((48 + d) ∷ []) ≡ true
    one d l = grind (arith, nat_tests)

pub constraint_named : (n : ℕ) → n < 2 ^ 64 → IsName (constraint_name n)
constraint_named n few = and_from (not (length (constraint_name n) == 0)) (list_all stays (constraint_name n)) (some_length (length (decimal n))) (decimal_stays n few)

same_tail : {x y : ℕ} {xs ys : List ℕ} → x ∷ xs ≡ y ∷ ys → xs ≡ ys
same_tail e = cc

constraints_differ : (i k : ℕ) → i < 2 ^ 64 → k < 2 ^ 64 → constraint_name i ≡ constraint_name k → i ≡ k
constraints_differ i k below_i below_k e = decimal_injective i k below_i below_k (same_tail e)

pub row_count : (n : ℕ) → length (row_names n) ≡ n
row_count zero = refl
row_count (suc zero) = refl
row_count (suc (suc i)) = length-append (row_names (suc i)) (constraint_name (suc i) ∷ []) ∙ ap (λ k. k + 1) (row_count (suc i)) ∙ add-one (suc i)

-- the rows' names do not change when others come
pub field_more : (n i : ℕ) → i < n → field (row_names (suc n)) i ≡ field (row_names n) i
field_more zero i below = absurd (omega (arith, below))
field_more (suc n) i below = get_or_append_left (row_names (suc n)) (constraint_name (suc n) ∷ []) [] i (rw (row_count (suc n)) below)

pub field_last : (n : ℕ) → field (row_names (suc (suc n))) (suc n) ≡ constraint_name (suc n)
field_last n = ap (λ k. field (row_names (suc n) ++ constraint_name (suc n) ∷ []) k) (sym (row_count (suc n))) ∙ at_last (row_names (suc n)) (constraint_name (suc n))

pub field_row : (n i : ℕ) → 0 < i → i < n → field (row_names n) i ≡ constraint_name i
field_row zero i some below = absurd (omega (arith, below))
field_row (suc n) i some below = by (cases_eq i n) (λ early. field_row n i some early)
  where
    last : (m : ℕ) → i ≡ m → field (row_names (suc m)) i ≡ constraint_name i
    last zero e = absurd (omega (arith, e, some))
    last (suc m) e = subst (λ k. field (row_names (suc (suc m))) k ≡ constraint_name k) (sym e) (field_last m)

    by : (i ≡ n) ⊎ (i ≡ n → ⊥) → (i < n → field (row_names n) i ≡ constraint_name i) → field (row_names (suc n)) i ≡ constraint_name i
    by (inl is) before = last n is
    by (inr earlier) before = let early : i < n = omega (arith, earlier, below) in field_more n i early ∙ before early

-- the name of a constraint before row n
abbrev IsKept : ℕ → Text → Type 0
IsKept n name = (k : ℕ) × (0 < k) × (k < n) × (name ≡ constraint_name k)

def_name : (name : Text) (kind : RowKind) (side : Number) (range : Option Interval) → names_of_rows (row_defs_at name (sides_of kind side range)) ≡ cond (is_free kind) [] (name ∷ [])
def_name name Free side None = refl
def_name name Free side (Some range) = refl
def_name name AtMost side None = refl
def_name name AtMost side (Some range) = refl
def_name name AtLeast side None = refl
def_name name AtLeast side (Some range) = refl
def_name name Equal side None = refl
def_name name Equal side (Some range) = refl

-- the names of rows whose first is free
pub record Kept (n : ℕ) (rows : List RowDef) : Type 0 where
  pub kept : All (IsKept n) (names_of_rows rows)
  pub differ : Differ (names_of_rows rows)

rows_kept : (names : List Text) (kinds : List RowKind) (side : ℕ → Number) (range : ℕ → Option Interval) (n : ℕ) → n ≤ 2 ^ 64 → kind_at kinds 0 ≡ Free
    → ((i : ℕ) → 0 < i → i < n → field names i ≡ constraint_name i) → Kept n (rows_below names kinds side range n)
rows_kept names kinds side range zero few first named = record { kept = All-nil (IsKept zero); differ = λ i k d lt below. absurd (omega (arith, below)) }
rows_kept names kinds side range (suc i) few first named =
    let before = rows_kept names kinds side range i (omega (arith, few)) first (λ k some below. named k some (omega (arith, below))) in
    let is : names_of_rows (rows_below names kinds side range (suc i)) ≡ names_of_rows (rows_below names kinds side range i) ++ cond (is_free (kind_at kinds i)) [] (field names i ∷ []) =
    map-append (λ (r : RowDef). r.name) (rows_below names kinds side range i) _ ∙ ap (λ (xs : List Text). names_of_rows (rows_below names kinds side range i) ++ xs) (def_name (field names i) (kind_at kinds i) (side i) (range i)) in
    by_test (is_free (kind_at kinds i)) refl before is
  where
    later : (name : Text) → IsKept i name → IsKept (suc i) name
    later name at = (at.0, at.1, omega (arith, at.2), at.3)

    fresh : 0 < i → (name : Text) → IsKept i name → name ≢ field names i
    fresh some name at same =
        let equal : at.0 ≡ i = constraints_differ at.0 i (omega (arith, at.2, few)) (omega (arith, few)) (sym at.3 ∙ same ∙ named i some (omega arith)) in
        absurd (omega (arith, at.2, equal))

    not_first : is_free (kind_at kinds i) ≡ false → 0 < i
    not_first bound = by_place (cases_eq i 0)
      where
        by_place : (i ≡ 0) ⊎ (i ≡ 0 → ⊥) → 0 < i
        by_place (inl e) = let free : is_free (kind_at kinds i) ≡ true = ap (λ k. is_free (kind_at kinds k)) e ∙ ap is_free first in absurd (true≢false (sym free ∙ bound))
        by_place (inr e) = omega (arith, e)

    by_test : (b : Bool) → is_free (kind_at kinds i) ≡ b → Kept i (rows_below names kinds side range i)
        → names_of_rows (rows_below names kinds side range (suc i)) ≡ names_of_rows (rows_below names kinds side range i) ++ cond b [] (field names i ∷ [])
        → Kept (suc i) (rows_below names kinds side range (suc i))
    by_test true free before is =
        let same = is ∙ append-nil (names_of_rows (rows_below names kinds side range i)) in
        record { kept = subst (All (IsKept (suc i))) (sym same) (All-weaker (IsKept i) (IsKept (suc i)) later _ before.kept); differ = subst Differ (sym same) before.differ }
    by_test false bound before is =
        let some = not_first bound in
        record {
          kept = subst (All (IsKept (suc i))) (sym is) (All-push (IsKept (suc i)) _ (field names i) (All-weaker (IsKept i) (IsKept (suc i)) later _ before.kept) (i, some, omega arith, named i some (omega arith)));
          differ = subst Differ (sym is) (all_pairs_push (λ name other. name ≢ other) _ (field names i) before.differ (All-weaker (IsKept i) (λ name. name ≢ field names i) (fresh some) _ before.kept));
        }

obj_named : IsName (codes "obj")
obj_named = refl

first : ℕ → Text → ℕ
first none [] = none
first none (b ∷ bytes) = b

obj_differs : (n : ℕ) (name : Text) → IsKept n name → codes "obj" ≢ name
unfolding first
obj_differs n name at e =
    let letters : 111 ≡ 99 = ap (first 0) (e ∙ at.3) in
    absurd (omega (arith, letters))

-- ---- the whole program
pub tokens_well_named : (tokens : List Token) → AreNamed tokens → open_row tokens ≤ 2 ^ 64 → WellNamed (program_in tokens).objective (program_in tokens).rows (program_in tokens).columns
tokens_well_named tokens named few =
    let rows = rows_kept (row_names (open_row tokens)) (row_kinds tokens) (λ i. of_ℤ (right_side tokens i)) (λ i. None) (open_row tokens) few (first_free tokens) (field_row (open_row tokens)) in
    record {
      row_names = All-cons IsName (codes "obj") _ obj_named (All-weaker (IsKept (open_row tokens)) IsName (λ name at. subst IsName (sym at.3) (constraint_named at.0 (omega (arith, at.2, few)))) _ rows.kept);
      column_names = subst (All IsName) (sym (all_names tokens)) (columns_named tokens named);
      rows = AllPairs-cons (λ name other. name ≢ other) (codes "obj") _ (All-weaker (IsKept (open_row tokens)) (λ name. codes "obj" ≢ name) (obj_differs (open_row tokens)) _ rows.kept) rows.differ;
      columns = subst Differ (sym (all_names tokens)) (columns_differ tokens);
    }

pub text_well_named : (text : Text) → length text < 2 ^ 63 → WellNamed (program_of text).objective (program_of text).rows (program_of text).columns
text_well_named text short = tokens_well_named (tokens_of text) (text_named text) (let rows = rows_few (tokens_of text) in let tokens = text_few text in omega (arith, rows, tokens, short))
