-- The program of a text without a fault can be written, with fractions and without.
use Rattle.std.proofs.Common.{◌≡◌, ℕ, zero, suc, ◌<◌, ◌^◌, ◌==◌, ℤ, pos, nat_abs, List, [], ◌∷◌, ◌++◌, Bool, true, false, cond, ◌||◌, Option, Some, None, refl, sym, ap, ◌∙◌, subst, arith, lit<, length}
use Rattle.std.specs.Prelude.{IfSome}
use Rattle.std.specs.List.{All}
use Rattle.std.proofs.Math.Dec.{eqb-suc-zero}
use Rattle.std.proofs.lemmas.Bool.{and_parts, eqb-true}
use Rattle.std.proofs.lemmas.List.Elements.{All-nil, All-append}
use Rattle.fractions.specs.Ring.{ring, v, num, ◌:*◌}
use Rattle.fractions.specs.Number.{Number, rational, integral, of_ℤ, zero_ℚ, one_ℚ, neg_ℚ, ◌+ℚ◌, lift2}
use Rattle.fractions.specs.Gcd.{gcd, coprime_by}
use Rattle.fractions.specs.Lowest.{Fits, of_lowest, over_of, under_of}
use Rattle.fractions.specs.Order.{non_neg_ℚ}
use Rattle.fractions.specs.Compare.{eq_ℚ}
use Rattle.fractions.specs.Decimal as decimals
use Rattle.fractions.specs.declared.Numbers.{Numbers}
use Rattle.fractions.specs.declared.Numbers.TheVariants.{Decimal, Fractions}
use Rattle.lp_model.specs.declared.terms.Term.{Term}
use Rattle.lp_model.specs.Writable.{WritableNumber, IsNear, WritableSides, WritableRow, WritableColumn, Writable}
use Rattle.mps_profile.specs.Texts.{Text, field}
use Rattle.mps_profile.specs.Sides.{sides_of}
use Rattle.mps_profile.specs.Rows.{is_free}
use Rattle.mps_profile.specs.Program.{id_of, kind_at, row_defs_at, rows_below, terms_in, terms_below, columns_below}
use Rattle.mps_profile.specs.declared.row_kinds.RowKind.{RowKind}
use Rattle.mps_profile.specs.declared.row_kinds.RowKind.TheVariants.{Free}
use Rattle.mps_named.proofs.NumberRoom.{none, one}
use Rattle.mps_named.proofs.RangeRoom.{sides-room}
use Rattle.opb_text.specs.Tokens.{Token, Minimum, AtLeast, Equal, End, Number as NumberToken, Past, Plain, Negated, Odd}
use Rattle.opb_text.specs.Statements.{last_number, open_terms, negated_numbers, open_row, row_kinds, sum_fits, left_fits, terms_fit}
use Rattle.opb_text.specs.Columns.{column_names, right_side, constant}
use Rattle.opb_text.specs.Reading.{tokens_of, first_fault}
use Rattle.opb_text.specs.Program.{row_names, column_def, program_in, program_of}
use Rattle.opb_laws.specs.Faultless.{IsFaultless, IsShort, AreShort}
use Rattle.opb_laws.proofs.Faultless.{ended_fits, text_faultless}
use Rattle.opb_laws.proofs.Ranges.{text_short, nothing_short, last_short, left_short, chosen, coefficient_short, constant_short}

-- ---- whole numbers
no_divisor : (n : ℕ) → gcd n 1 ≡ 1
no_divisor n = coprime_by n 1 (λ d _ h. h)

over_of_whole : (z : ℤ) → over_of (of_ℤ z) ≡ z
unfolding of_ℤ
over_of_whole z = (of_lowest (integral z) (no_divisor (nat_abs z))).0

under_of_whole : (z : ℤ) → under_of (of_ℤ z) ≡ 1
unfolding of_ℤ
under_of_whole z = (of_lowest (integral z) (no_divisor (nat_abs z))).1

whole_Fits : (z : ℤ) → IsShort z → Fits (of_ℤ z)
whole_Fits z l = record {
  over = subst (λ (y : ℤ). nat_abs y < 2 ^ 127) (sym (over_of_whole z)) l;
  under = subst (λ (d : ℕ). d < 2 ^ 127) (sym (under_of_whole z)) (lit< tt);
}

whole_decimal : (z : ℤ) → IsShort z → decimals.Decimal (of_ℤ z)
whole_decimal z l = record {
  places = 0;
  few = omega arith;
  written = record { digits = z; small = l; value = ring rational (of_ℤ z ∷ []) (v 0 :* num (pos 1)) (v 0) refl };
}

whole_number : (numbers : Numbers) (z : ℤ) → IsShort z → WritableNumber numbers (of_ℤ z)
whole_number Decimal z l = (whole_Fits z l, whole_decimal z l)
whole_number Fractions z l = whole_Fits z l

near_zero : IsNear zero_ℚ
unfolding non_neg_ℚ neg_ℚ ◌+ℚ◌ lift2 of_ℤ
near_zero = (record { lt = tt }, record { lt = tt })

near_one : IsNear one_ℚ
unfolding non_neg_ℚ neg_ℚ ◌+ℚ◌ lift2 of_ℤ
near_one = (record { lt = tt }, record { lt = tt })

-- ---- right sides of constraints
right_short : (tokens : List Token) (i : ℕ) → IsFaultless tokens → AreShort tokens → IsShort (right_side tokens (suc i))
right_short [] i sound short = nothing_short
right_short (End ∷ before) i sound short =
    chosen (open_row before == suc i) _ _ (λ here. left_short (last_number before) (negated_numbers before) (last_short before short.1) (shown (open_row before) here (and_parts (terms_fit (open_terms before)) _ (ended_fits before sound.1 sound.0)).1))
    (right_short before i sound.1 short.1)
  where
    shown : (row : ℕ) → (row == suc i) ≡ true → cond (row == 0) (sum_fits (negated_numbers before)) (left_fits (last_number before) (negated_numbers before)) ≡ true → left_fits (last_number before) (negated_numbers before) ≡ true
    shown row here fits =
        let is : row ≡ suc i = eqb-true row (suc i) here in
        let other : (row == 0) ≡ false = ap (λ (n : ℕ). n == 0) is ∙ eqb-suc-zero i in
        sym (ap (λ b. cond b (sum_fits (negated_numbers before)) (left_fits (last_number before) (negated_numbers before))) other) ∙ fits
right_short (Minimum ∷ before) i sound short = right_short before i sound.1 short.1
right_short (AtLeast ∷ before) i sound short = right_short before i sound.1 short.1
right_short (Equal ∷ before) i sound short = right_short before i sound.1 short.1
right_short (NumberToken value ∷ before) i sound short = right_short before i sound.1 short.1
right_short (Past ∷ before) i sound short = right_short before i sound.1 short.1
right_short (Plain other ∷ before) i sound short = right_short before i sound.1 short.1
right_short (Negated other ∷ before) i sound short = right_short before i sound.1 short.1
right_short (Odd ∷ before) i sound short = right_short before i sound.1 short.1

-- `min:` is the free row
onto_free : (xs ys : List RowKind) → (more : List RowKind) × (xs ≡ Free ∷ more) → (more : List RowKind) × (xs ++ ys ≡ Free ∷ more)
onto_free xs ys at = (at.0 ++ ys, ap (λ (l : List RowKind). l ++ ys) at.1)

begins_free : (tokens : List Token) → (more : List RowKind) × (row_kinds tokens ≡ Free ∷ more)
begins_free [] = ([], refl)
begins_free (AtLeast ∷ before) = onto_free (row_kinds before) _ (begins_free before)
begins_free (Equal ∷ before) = onto_free (row_kinds before) _ (begins_free before)
begins_free (End ∷ before) = begins_free before
begins_free (Minimum ∷ before) = begins_free before
begins_free (NumberToken value ∷ before) = begins_free before
begins_free (Past ∷ before) = begins_free before
begins_free (Plain other ∷ before) = begins_free before
begins_free (Negated other ∷ before) = begins_free before
begins_free (Odd ∷ before) = begins_free before

pub first_free : (tokens : List Token) → kind_at (row_kinds tokens) 0 ≡ Free
first_free tokens = ap (λ (kinds : List RowKind). kind_at kinds 0) (begins_free tokens).1

-- ---- rows
All-one : {X : Type 0} (P : X → Type 0) (x : X) → P x → All P (x ∷ [])
All-one P x h zero d l = h
All-one P x h (suc k) d l = absurd (omega (arith, l))

defs_fit : (numbers : Numbers) (name : Text) (sides : Option (Option Number × Option Number)) → IfSome sides (λ s. WritableSides numbers s.0 s.1) → All (WritableRow numbers) (row_defs_at name sides)
defs_fit numbers name None h = All-nil (WritableRow numbers)
defs_fit numbers name (Some sides) h = All-one (WritableRow numbers) _ h

sides_fit : (numbers : Numbers) (tokens : List Token) (i : ℕ) → IsFaultless tokens → AreShort tokens
    → IfSome (sides_of (kind_at (row_kinds tokens) i) (of_ℤ (right_side tokens i)) None) (λ s. WritableSides numbers s.0 s.1)
sides_fit numbers tokens zero sound short = subst (λ (kind : RowKind). IfSome (sides_of kind (of_ℤ (right_side tokens 0)) None) (λ s. WritableSides numbers s.0 s.1)) (sym (first_free tokens)) tt
sides_fit numbers tokens (suc i) sound short =
    sides-room numbers (kind_at (row_kinds tokens) (suc i)) (of_ℤ (right_side tokens (suc i))) None (whole_number numbers (right_side tokens (suc i)) (right_short tokens i sound short)) tt

rows_fit : (numbers : Numbers) (tokens : List Token) (names : List Text) (n : ℕ) → IsFaultless tokens → AreShort tokens
    → All (WritableRow numbers) (rows_below names (row_kinds tokens) (λ i. of_ℤ (right_side tokens i)) (λ i. None) n)
rows_fit numbers tokens names zero sound short = All-nil (WritableRow numbers)
rows_fit numbers tokens names (suc i) sound short =
    All-append (WritableRow numbers) (rows_below names (row_kinds tokens) (λ k. of_ℤ (right_side tokens k)) (λ k. None) i) _ (rows_fit numbers tokens names i sound short)
    (defs_fit numbers (field names i) (sides_of (kind_at (row_kinds tokens) i) (of_ℤ (right_side tokens i)) None) (sides_fit numbers tokens i sound short))

-- ---- columns
abbrev TermFits : Numbers → Term → Type 0
TermFits numbers term = WritableNumber numbers term.value

term_fits : (numbers : Numbers) (kind : RowKind) (id : ℕ) (value : Number) → WritableNumber numbers value → All (TermFits numbers) (terms_in kind id value)
term_fits numbers kind id value h = by (is_free kind || eq_ℚ value zero_ℚ)
  where
    by : (b : Bool) → All (TermFits numbers) (cond b [] (record { id = id; value = value } ∷ []))
    by true = All-nil (TermFits numbers)
    by false = All-one (TermFits numbers) _ h

terms_writable : (numbers : Numbers) (kinds : List RowKind) (number : ℕ → Number) (n : ℕ) → ((i : ℕ) → WritableNumber numbers (number i)) → All (TermFits numbers) (terms_below kinds number n)
terms_writable numbers kinds number zero h = All-nil (TermFits numbers)
terms_writable numbers kinds number (suc i) h =
    All-append (TermFits numbers) (terms_below kinds number i) _ (terms_writable numbers kinds number i h) (term_fits numbers (kind_at kinds i) (id_of kinds i) (number i) (h i))

column_fits : (numbers : Numbers) (tokens : List Token) (j : ℕ) → IsFaultless tokens → WritableColumn numbers (column_def tokens j)
column_fits numbers tokens j sound = record {
  cost = whole_number numbers _ (coefficient_short tokens 0 (field (column_names tokens) j) sound);
  lower = (none numbers, near_zero);
  upper = (one numbers, near_one);
  entries = terms_writable numbers (row_kinds tokens) _ (open_row tokens) (λ i. whole_number numbers _ (coefficient_short tokens i (field (column_names tokens) j) sound));
}

columns_fit : (numbers : Numbers) (tokens : List Token) (n : ℕ) → IsFaultless tokens → All (WritableColumn numbers) (columns_below (column_def tokens) n)
columns_fit numbers tokens zero sound = All-nil (WritableColumn numbers)
columns_fit numbers tokens (suc j) sound =
    All-append (WritableColumn numbers) (columns_below (column_def tokens) j) _ (columns_fit numbers tokens j sound) (All-one (WritableColumn numbers) (column_def tokens j) (column_fits numbers tokens j sound))

pub tokens_writable : (numbers : Numbers) (tokens : List Token) → IsFaultless tokens → AreShort tokens → Writable numbers (program_in tokens)
tokens_writable numbers tokens sound short = record {
  constant = whole_number numbers (constant tokens) (constant_short tokens sound);
  rows = rows_fit numbers tokens (row_names (open_row tokens)) (open_row tokens) sound short;
  columns = columns_fit numbers tokens (length (column_names tokens)) sound;
}

pub text_writable : (numbers : Numbers) (text : List ℕ) → first_fault text ≡ None → Writable numbers (program_of text)
text_writable numbers text sound = tokens_writable numbers (tokens_of text) (text_faultless text sound) (text_short text)
