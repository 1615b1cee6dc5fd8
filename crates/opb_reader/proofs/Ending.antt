-- Statements that end, and tokens that are heard.
use Rattle.std.proofs.Common.{◌≡◌, ◌≢◌, ℕ, zero, suc, ◌==◌, ◌<◌, ◌≤◌, ◌^◌, List, ◌∷◌, length, Bool, true, false, true≢false, cond, not, ◌&&◌, Result, Ok, Err, refl, sym, ap, ap₂, ◌∙◌, subst, arith, eq-eqb}
use Rattle.std.specs.Prelude.{IfOk}
use Rattle.std.proofs.lemmas.Bool.{ne_eqb}
use Rattle.mps_profile.specs.Program.{id_of}
use Rattle.opb_text.specs.Tokens.{End, Token}
use Rattle.opb_text.specs.Statements.{last_number, left_fits, negated_numbers, open_row, open_terms, row_kinds, statement_fits, sum_fits, terms_fit}
use Rattle.opb_text.specs.Reading.{is_end}
use Rattle.opb_text.specs.Program.{row_names}
use Rattle.opb_laws.proofs.Counts.{rows_few}
use Rattle.opb_laws.proofs.Entries.{ids_count}
use Rattle.opb_laws.proofs.Few.{ids_few}
use Rattle.opb_laws.proofs.Writing.{first_free}
use Rattle.opb_reader.specs.Holding.{HoldColumns, HoldRows}
use Rattle.opb_reader.specs.Reading.{HasEnded, HasHeard}
use Rattle.opb_columns.specs.declared.columns.Columns.{Columns}
use Rattle.opb_reader.specs.declared.rows.Rows.{Rows}

costs_by : (tokens : List Token) → open_row tokens ≡ 0 → statement_fits tokens ≡ (terms_fit (open_terms tokens) && sum_fits (negated_numbers tokens))
costs_by tokens none = ap (λ (b : Bool). terms_fit (open_terms tokens) && cond b (sum_fits (negated_numbers tokens)) (left_fits (last_number tokens) (negated_numbers tokens))) (eq-eqb (open_row tokens) 0 none)

constraint_by : (tokens : List Token) → open_row tokens ≢ 0 → statement_fits tokens ≡ (terms_fit (open_terms tokens) && left_fits (last_number tokens) (negated_numbers tokens))
constraint_by tokens some = ap (λ (b : Bool). terms_fit (open_terms tokens) && cond b (sum_fits (negated_numbers tokens)) (left_fits (last_number tokens) (negated_numbers tokens))) (ne_eqb (open_row tokens) 0 some)

-- a sum of a column does not fit
pub terms_past : (tokens : List Token) (rows : Rows) (columns : Columns) → false ≡ terms_fit (open_terms tokens) → HasEnded tokens false rows columns
terms_past tokens rows columns past =
    (ap (λ (b : Bool). b && cond (open_row tokens == 0) (sum_fits (negated_numbers tokens)) (left_fits (last_number tokens) (negated_numbers tokens))) past, λ e. absurd (true≢false (sym e)))

both_false : (a b : Bool) → true ≡ a → false ≡ b → false ≡ (a && b)
both_false a b x y = ap₂ (λ (s t : Bool). s && t) x y

pub costs_past : (tokens : List Token) (rows : Rows) (columns : Columns) → open_row tokens ≡ 0 → true ≡ terms_fit (open_terms tokens) → false ≡ sum_fits (negated_numbers tokens) → HasEnded tokens false rows columns
costs_past tokens rows columns none fits past = (both_false _ _ fits past ∙ sym (costs_by tokens none), λ e. absurd (true≢false (sym e)))

pub constraint_past : (tokens : List Token) (rows : Rows) (columns : Columns) → open_row tokens ≢ 0 → true ≡ terms_fit (open_terms tokens) → false ≡ left_fits (last_number tokens) (negated_numbers tokens)
    → HasEnded tokens false rows columns
constraint_past tokens rows columns some fits past = (both_false _ _ fits past ∙ sym (constraint_by tokens some), λ e. absurd (true≢false (sym e)))

pub costs_ended : (tokens : List Token) (rows : Rows) (columns : Columns) → open_row tokens ≡ 0 → true ≡ terms_fit (open_terms tokens) → true ≡ sum_fits (negated_numbers tokens)
    → HoldRows (End ∷ tokens) rows → HoldColumns (End ∷ tokens) columns → HasEnded tokens true rows columns
costs_ended tokens rows columns none fits left held_rows held_columns = (ap₂ (λ (s t : Bool). s && t) fits left ∙ sym (costs_by tokens none), λ e. (held_rows, held_columns))

pub constraint_ended : (tokens : List Token) (rows : Rows) (columns : Columns) → open_row tokens ≢ 0 → true ≡ terms_fit (open_terms tokens) → true ≡ left_fits (last_number tokens) (negated_numbers tokens)
    → HoldRows (End ∷ tokens) rows → HoldColumns (End ∷ tokens) columns → HasEnded tokens true rows columns
constraint_ended tokens rows columns some fits left held_rows held_columns = (ap₂ (λ (s t : Bool). s && t) fits left ∙ sym (constraint_by tokens some), λ e. (held_rows, held_columns))

-- the id of the row that is open, and its number, have room
row_id : (tokens : List Token) (held : Rows) → HoldRows tokens held → length held.rows.items ≡ id_of (row_kinds tokens) (open_row tokens)
row_id tokens held h = ap length h.rows ∙ ids_count (row_names (open_row tokens)) (row_kinds tokens) _ _ (open_row tokens)

id_few : (tokens : List Token) (r : ℕ) → r ≢ 0 → r ≤ suc (length tokens) → id_of (row_kinds tokens) r ≤ length tokens
id_few tokens zero some within = absurd (some refl)
id_few tokens (suc i) some within = let few = ids_few (row_kinds tokens) i (first_free tokens) in omega (arith, few, within)

pub id_is : (tokens : List Token) (held : Rows) (id : ℕ) → HoldRows tokens held → open_row tokens ≢ 0 → length tokens < 2 ^ 32 → (length held.rows.items < 2 ^ 32 → id ≡ length held.rows.items)
    → id ≡ id_of (row_kinds tokens) (open_row tokens)
id_is tokens held id h some short is =
    let same = row_id tokens held h in
    let few = id_few tokens (open_row tokens) some (rows_few tokens) in
    is (omega (arith, same, few, short)) ∙ same

pub row_few : (tokens : List Token) → length tokens < 2 ^ 32 → open_row tokens < 2 ^ 63
row_few tokens short = let rows = rows_few tokens in omega (arith, rows, short)

-- the end of a statement is a token that is heard
not_not : (b : Bool) → b ≡ not (true && not b)
not_not true = refl
not_not false = refl

pub heard_end : {E : Type 0} (tokens : List Token) (token : Token) (r : Result Bool E) (rows : Rows) (columns : Columns) → token ≡ End → IfOk r (λ fits. HasEnded tokens fits rows columns) → IfOk r (λ heard. HasHeard tokens token heard rows columns)
heard_end tokens token (Ok fits) rows columns is ended =
    subst (λ (t : Token). HasHeard tokens t fits rows columns) (sym is) (ended.0 ∙ not_not (statement_fits tokens), ended.1)
heard_end tokens token (Err e) rows columns is ended = tt

pub heard_as : (tokens : List Token) (token own : Token) (rows : Rows) (columns : Columns) → token ≡ own → is_end own ≡ false → HoldRows (own ∷ tokens) rows → HoldColumns (own ∷ tokens) columns
    → HasHeard tokens token true rows columns
heard_as tokens token own rows columns is other held_rows held_columns =
    subst (λ (t : Token). HasHeard tokens t true rows columns) (sym is) (ap (λ (b : Bool). not (b && not (statement_fits tokens))) (sym other), λ e. (held_rows, held_columns))
