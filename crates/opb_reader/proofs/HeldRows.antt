-- Rows that are held when a token comes.
use Rattle.std.proofs.Common.{◌≡◌, ◌≢◌, ℕ, zero, suc, ◌+◌, ◌<◌, ◌≤◌, ◌^◌, ℤ, pos, List, [], ◌∷◌, ◌++◌, length, reverse, Bool, cond, None, refl, sym, ap, ap₂, ◌∙◌, arith, eq-eqb, min, add-one}
use Rattle.std.proofs.Math.Nat.{min-eq_left}
use Rattle.std.specs.Prelude.{neg_ℤ}
use Rattle.std.proofs.lemmas.Bool.{ne_eqb}
use Rattle.fractions.specs.Number.{Number, of_ℤ}
use Rattle.lp_model.specs.declared.program.RowDef.{RowDef}
use Rattle.mps_profile.specs.Texts.{field}
use Rattle.mps_profile.specs.Sides.{sides_of}
use Rattle.mps_profile.specs.Program.{kind_at, row_defs_at, rows_below}
use Rattle.mps_profile.specs.declared.row_kinds.RowKind.{RowKind}
use Rattle.mps_profile.specs.declared.row_kinds.RowKind as row_kind
use Rattle.opb_text.specs.Words.{Text}
use Rattle.opb_text.specs.Tokens.{AtLeast, End, Equal, Minimum, Negated, Token}
use Rattle.opb_text.specs.Statements.{last_number, left_fits, left_of, negated_numbers, open_row, row_kinds, sum_fits, sum_of}
use Rattle.opb_text.specs.Columns.{constant as constant_in, right_side}
use Rattle.opb_text.specs.Program.{constraint_name, row_names}
use Rattle.opb_laws.proofs.Growing.{kind_kept, rows_same}
use Rattle.opb_laws.proofs.Named.{field_last, field_more}
use Rattle.opb_laws.proofs.Writing.{first_free}
use Rattle.opb_reader.specs.Holding.{HoldRows}
use Rattle.opb_reader.specs.declared.rows.Rows.{Rows}
use Rattle.opb_reader.proofs.Sums.{less_fits, less_sum, reverse_push}

-- the rows of tokens below row n
abbrev pub rows_of : List Token → ℕ → List RowDef
rows_of tokens n = rows_below (row_names n) (row_kinds tokens) (λ i. of_ℤ (right_side tokens i)) (λ i. None) n

-- row 0 is none of the program
pub none_first : (names : List Text) (kinds : List RowKind) (side : ℕ → Number) → kind_at kinds 0 ≡ row_kind.TheVariants.Free → rows_below names kinds side (λ i. None) 1 ≡ []
none_first names kinds side free = ap (λ (kind : RowKind). [] ++ row_defs_at (field names 0) (sides_of kind (side 0) None)) free

pub begun : (tokens : List Token) (old new : Rows) → HoldRows tokens old → open_row tokens ≡ 1 → new.kinds ≡ old.kinds → new.rows ≡ old.rows → new.current ≡ 0 → new.constant ≡ old.constant
    → new.negated ≡ old.negated → HoldRows (Minimum ∷ tokens) new
begun tokens old new h first kinds rows current constant negated = record {
  kinds = ap (λ v. v.items) kinds ∙ h.kinds;
  rows = ap (λ v. v.items) rows ∙ h.rows ∙ ap (rows_of tokens) first ∙ none_first (row_names 1) (row_kinds tokens) (λ i. of_ℤ (right_side tokens i)) (first_free tokens);
  current = current;
  constant = constant ∙ h.constant;
  negated = h.negated ∙ ap (λ v. reverse v.items) (sym negated);
}

-- a relation comes
related : (tokens : List Token) (kind : RowKind) (n : ℕ) → n ≤ length (row_kinds tokens)
    → rows_of tokens n ≡ rows_below (row_names n) (row_kinds tokens ++ kind ∷ []) (λ i. of_ℤ (right_side tokens i)) (λ i. None) n
related tokens kind n within = rows_same (row_names n) (row_names n) (row_kinds tokens) (row_kinds tokens ++ kind ∷ []) _ _ (λ i. None) n (λ i below. refl) (λ i below. kind_kept (row_kinds tokens) kind i (omega (arith, below, within))) (λ i below. refl)

pub at_least_comes : (tokens : List Token) (old new : Rows) → HoldRows tokens old → length (row_kinds tokens) ≡ open_row tokens → new.kinds.items ≡ old.kinds.items ++ row_kind.TheVariants.AtLeast ∷ []
    → new.rows ≡ old.rows → new.current ≡ old.current → new.constant ≡ old.constant → new.negated ≡ old.negated → HoldRows (AtLeast ∷ tokens) new
at_least_comes tokens old new h shape kinds rows current constant negated = record {
  kinds = kinds ∙ ap (λ (ks : List RowKind). ks ++ row_kind.TheVariants.AtLeast ∷ []) h.kinds;
  rows = ap (λ v. v.items) rows ∙ h.rows ∙ related tokens row_kind.TheVariants.AtLeast (open_row tokens) (omega (arith, shape));
  current = current ∙ h.current;
  constant = constant ∙ h.constant;
  negated = h.negated ∙ ap (λ v. reverse v.items) (sym negated);
}

pub equal_comes : (tokens : List Token) (old new : Rows) → HoldRows tokens old → length (row_kinds tokens) ≡ open_row tokens → new.kinds.items ≡ old.kinds.items ++ row_kind.TheVariants.Equal ∷ []
    → new.rows ≡ old.rows → new.current ≡ old.current → new.constant ≡ old.constant → new.negated ≡ old.negated → HoldRows (Equal ∷ tokens) new
equal_comes tokens old new h shape kinds rows current constant negated = record {
  kinds = kinds ∙ ap (λ (ks : List RowKind). ks ++ row_kind.TheVariants.Equal ∷ []) h.kinds;
  rows = ap (λ v. v.items) rows ∙ h.rows ∙ related tokens row_kind.TheVariants.Equal (open_row tokens) (omega (arith, shape));
  current = current ∙ h.current;
  constant = constant ∙ h.constant;
  negated = h.negated ∙ ap (λ v. reverse v.items) (sym negated);
}

pub negated_comes : (tokens : List Token) (name : Text) (number : ℤ) (old new : Rows) → HoldRows tokens old → number ≡ last_number tokens
    → new.negated.items ≡ old.negated.items ++ number ∷ [] → new.rows ≡ old.rows → new.current ≡ old.current → new.constant ≡ old.constant → new.kinds ≡ old.kinds → HoldRows (Negated name ∷ tokens) new
negated_comes tokens name number old new h last negated rows current constant kinds = record {
  kinds = ap (λ v. v.items) kinds ∙ h.kinds;
  rows = ap (λ v. v.items) rows ∙ h.rows;
  current = current ∙ h.current;
  constant = constant ∙ h.constant;
  negated = ap₂ (λ (n : ℤ) (ns : List ℤ). n ∷ ns) (sym last) h.negated ∙ sym (ap reverse negated ∙ reverse_push old.negated.items number);
}

-- ---- ends
pub costs_fit : (tokens : List Token) (held : Rows) (side : ℤ) (numbers : List ℤ) → HoldRows tokens held → side ≡ pos 0 → numbers ≡ held.negated.items
    → left_fits side (reverse numbers) ≡ sum_fits (negated_numbers tokens)
costs_fit tokens held side numbers h nothing is =
    ap₂ (λ (z : ℤ) (ns : List ℤ). left_fits z (reverse ns)) nothing is ∙ less_fits (reverse held.negated.items) ∙ ap sum_fits (sym h.negated)

-- a right side that comes changes none before it
side_before : (tokens : List Token) (i : ℕ) → i < open_row tokens → right_side tokens i ≡ right_side (End ∷ tokens) i
side_before tokens i below = sym (ap (λ (b : Bool). cond b (left_of (last_number tokens) (negated_numbers tokens)) (right_side tokens i)) (ne_eqb (open_row tokens) i (λ e. omega (arith, e, below))))

side_here : (tokens : List Token) → right_side (End ∷ tokens) (open_row tokens) ≡ left_of (last_number tokens) (negated_numbers tokens)
side_here tokens = ap (λ (b : Bool). cond b (left_of (last_number tokens) (negated_numbers tokens)) (right_side tokens (open_row tokens))) (eq-eqb (open_row tokens) (open_row tokens) refl)

pub costs_end : (tokens : List Token) (less : ℤ) (old new : Rows) → HoldRows tokens old → open_row tokens ≡ 0 → less ≡ left_of (pos 0) (reverse old.negated.items)
    → new.kinds ≡ old.kinds → new.rows ≡ old.rows → new.current ≡ 1 → new.constant ≡ neg_ℤ less → new.negated.items ≡ [] → HoldRows (End ∷ tokens) new
costs_end tokens less old new h none is kinds rows current constant negated = record {
  kinds = ap (λ v. v.items) kinds ∙ h.kinds;
  rows = ap (λ v. v.items) rows ∙ h.rows ∙ ap (rows_of tokens) none
      ∙ sym (ap (λ (n : ℕ). rows_of (End ∷ tokens) (suc n)) none ∙ none_first (row_names 1) (row_kinds tokens) (λ i. of_ℤ (right_side (End ∷ tokens) i)) (first_free tokens));
  current = current ∙ sym (ap suc none);
  constant = constant ∙ ap neg_ℤ (is ∙ ap (left_of (pos 0)) (sym h.negated)) ∙ less_sum (negated_numbers tokens)
      ∙ sym (ap (λ (b : Bool). cond b (sum_of (negated_numbers tokens)) (constant_in tokens)) (eq-eqb (open_row tokens) 0 none));
  negated = sym (ap reverse negated);
}

-- the row that ends comes behind the others
pub rows_ended : (tokens : List Token) → open_row tokens ≢ 0
    → rows_of (End ∷ tokens) (suc (open_row tokens))
    ≡ rows_of tokens (open_row tokens) ++ row_defs_at (constraint_name (open_row tokens)) (sides_of (kind_at (row_kinds tokens) (open_row tokens)) (of_ℤ (left_of (last_number tokens) (negated_numbers tokens))) None)
rows_ended tokens some =
    let r : ℕ = open_row tokens in
    ap₂ (λ (rows : List RowDef) (name : Text). rows ++ row_defs_at name (sides_of (kind_at (row_kinds tokens) r) (of_ℤ (right_side (End ∷ tokens) r)) None))
    (sym (rows_same (row_names r) (row_names (suc r)) (row_kinds tokens) (row_kinds tokens) _ _ (λ i. None) r (λ i below. sym (field_more r i below)) (λ i below. refl) (λ i below. ap of_ℤ (side_before tokens i below))))
    (last r some)
    ∙ ap (λ (side : ℤ). rows_of tokens r ++ row_defs_at (constraint_name r) (sides_of (kind_at (row_kinds tokens) r) (of_ℤ side) None)) (side_here tokens)
  where
    last : (r : ℕ) → r ≢ 0 → field (row_names (suc r)) r ≡ constraint_name r
    last zero some = absurd (some refl)
    last (suc r) some = field_last r

pub constraint_ends : (tokens : List Token) (left : ℤ) (old new : Rows) → HoldRows tokens old → open_row tokens ≢ 0 → left ≡ left_of (last_number tokens) (reverse old.negated.items)
    → new.kinds ≡ old.kinds
    → new.rows.items ≡ old.rows.items ++ row_defs_at (constraint_name old.current) (sides_of (kind_at old.kinds.items old.current) (of_ℤ left) None)
    → new.current ≡ suc (open_row tokens) → new.constant ≡ old.constant → new.negated.items ≡ [] → HoldRows (End ∷ tokens) new
constraint_ends tokens left old new h some is kinds rows current constant negated = record {
  kinds = ap (λ v. v.items) kinds ∙ h.kinds;
  rows = rows
      ∙ ap₂ (λ (rs : List RowDef) (n : ℕ). rs ++ row_defs_at (constraint_name n) (sides_of (kind_at old.kinds.items n) (of_ℤ left) None)) h.rows h.current
      ∙ ap₂ (λ (ks : List RowKind) (z : ℤ). rows_of tokens (open_row tokens) ++ row_defs_at (constraint_name (open_row tokens)) (sides_of (kind_at ks (open_row tokens)) (of_ℤ z) None)) h.kinds
      (is ∙ ap (left_of (last_number tokens)) (sym h.negated))
      ∙ sym (rows_ended tokens some);
  current = current;
  constant = constant ∙ h.constant ∙ sym (ap (λ (b : Bool). cond b (sum_of (negated_numbers tokens)) (constant_in tokens)) (ne_eqb (open_row tokens) 0 some));
  negated = sym (ap reverse negated);
}

-- the other tokens say nothing of rows
pub rows_as : (tokens more : List Token) (held : Rows) → HoldRows tokens held → row_kinds more ≡ row_kinds tokens → rows_of more (open_row more) ≡ rows_of tokens (open_row tokens)
    → open_row more ≡ open_row tokens → constant_in more ≡ constant_in tokens → negated_numbers more ≡ negated_numbers tokens → HoldRows more held
rows_as tokens more held h kinds rows current constant negated = record {
  kinds = h.kinds ∙ sym kinds;
  rows = h.rows ∙ sym rows;
  current = h.current ∙ sym current;
  constant = h.constant ∙ sym constant;
  negated = negated ∙ h.negated;
}

-- the count of the next row has room
pub counted : (count row : ℕ) → count ≡ row → row < 2 ^ 63 → min (count + 1) 18446744073709551615 ≡ suc row
counted count row is few = min-eq_left (omega (arith, is, few)) ∙ add-one count ∙ ap suc is
