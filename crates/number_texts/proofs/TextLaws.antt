-- Which texts are numbers, and which numbers they are.
use Rattle.std.proofs.Common.{◌≡◌, ℕ, ◌<◌, ◌^◌, Bool, true, false, cond, eqb, ltb, List, [], ◌∷◌, ◌++◌, length, get_or, Option, Some, None, Ok, Err, refl, sym, ap, ap₂, ◌∙◌, subst, arith, inl, inr}
use Rattle.std.specs.Prelude.{◌⊎◌, ◌||◌, ◌&&◌, not}
use Rattle.std.proofs.lemmas.Bool.{eqb-true}
use Rattle.std.proofs.lemmas.Bool.Decides.{nat_tests}
use Rattle.fractions.specs.Number.{Number}
use Rattle.fractions.specs.Lowest.{ratio}
use Rattle.fractions.specs.declared.Numbers.{Numbers}
use Rattle.fractions.specs.declared.Numbers.TheVariants.{Decimal, Fractions}
use Rattle.fractions.specs.Scaled.{scaled}
use Rattle.number_texts.specs.declared.reading.ReadNumber.TheVariants.{NotNumber, NumberPast}
use Rattle.number_texts.specs.Form.{cut, is_slash, is_minus, unsigned, is_digits, number, significant, Terms, terms_of, up_of, down_of}
use Rattle.number_texts.specs.Grammar.{IsDigits, IsSign, IsMantissa, IsDecimalText, IsQuotientText, HasDecimalText, HasQuotientText, IsNumberText}
use Rattle.number_texts.specs.Read.{fits, signed, is_taken, in_range, read_decimal, read_quotient, read_parts, read_of}
use Rattle.number_texts.proofs.Cutting.{both_true, cut_none, cut_mark, digits-none, not_slash, no_sign}
use Rattle.number_texts.proofs.Again.{is_digits-is}
use Rattle.number_texts.proofs.GrammarLaws.{Cuts, cuts, sign_back, digits_back, form_no_slash, form-from_terms, terms-from_form}

-- ---- the sign
-- a text has no sign at its front
abbrev Unsigned : List ℕ → Type 0
Unsigned body = ((eqb (get_or body 0 0) 43 || eqb (get_or body 0 0) 45) ≡ false) × (eqb (get_or body 0 0) 45 ≡ false)

behind_sign : (sign body : List ℕ) (below : Bool) → IsSign sign below → Unsigned body → (is_minus (sign ++ body) ≡ below) × (unsigned (sign ++ body) ≡ body)
behind_sign [] body below s u = (u.1 ∙ sym s, rw u.0 refl)
behind_sign (c ∷ []) body below (inl s) u = rw (s.0, s.1) (refl, refl)
behind_sign (c ∷ []) body below (inr s) u = rw (s.0, s.1) (refl, refl)
behind_sign (c ∷ e ∷ cs) body below s u = absurd s

digits_unsigned : (ds rest : List ℕ) → IsDigits ds → Unsigned (ds ++ rest)
digits_unsigned [] rest d = let h = d.some in absurd (omega arith)
digits_unsigned (c ∷ cs) rest d = no_sign c (both_true _ _ d.all).0

mantissa_unsigned : (bytes whole decimals behind : List ℕ) → IsMantissa bytes whole decimals → Unsigned (bytes ++ behind)
mantissa_unsigned bytes [] decimals behind m = by m.parts
  where
    by : ((bytes ≡ []) × (decimals ≡ [])) ⊎ (bytes ≡ 46 ∷ decimals) → Unsigned (bytes ++ behind)
    by (inl p) = let h = m.digits.some in let e = ap length p.1 in absurd (omega arith)
    by (inr p) = rw p (refl, refl)
mantissa_unsigned bytes (c ∷ cs) decimals behind m = by m.parts
  where
    by : ((bytes ≡ c ∷ cs) × (decimals ≡ [])) ⊎ (bytes ≡ (c ∷ cs) ++ 46 ∷ decimals) → Unsigned (bytes ++ behind)
    by (inl p) = rw p.0 (no_sign c (both_true _ _ m.digits.all).0)
    by (inr p) = rw p (no_sign c (both_true _ _ m.digits.all).0)

-- ---- a text of a number has the number of its parts
pub read-decimal_text : (numbers : Numbers) (bytes : List ℕ) (negative : Bool) (t : Terms) → IsDecimalText bytes negative t → read_of numbers bytes ≡ read_decimal numbers negative (Some t)
unfolding read_of
read-decimal_text numbers bytes negative t h =
    let u : Unsigned h.body = subst (λ (x : List ℕ). Unsigned x) (sym h.form.parts) (mantissa_unsigned h.form.mantissa h.form.whole h.form.decimals h.form.behind h.form.is_mantissa) in
    let s = behind_sign h.sign h.body negative h.is_sign u in
    ap (λ (x : List ℕ). read_parts numbers (is_minus x) (cut is_slash (unsigned x))) h.parts
    ∙ ap₂ (λ (b : Bool) (x : List ℕ). read_parts numbers b (cut is_slash x)) s.0 s.1
    ∙ ap (read_parts numbers negative) (cut_none is_slash h.body (form_no_slash h.body t h.form))
    ∙ ap (read_decimal numbers negative) (terms-from_form h.body t h.form)

pub read-quotient_text : (bytes : List ℕ) (negative : Bool) (over under : List ℕ) → IsQuotientText bytes negative over under → read_of Fractions bytes ≡ read_quotient negative over under
unfolding read_of
read-quotient_text bytes negative over under h =
    let s = behind_sign h.sign (over ++ 47 ∷ under) negative h.is_sign (digits_unsigned over (47 ∷ under) h.over_digits) in
    ap (λ (x : List ℕ). read_parts Fractions (is_minus x) (cut is_slash (unsigned x))) h.parts
    ∙ ap₂ (λ (b : Bool) (x : List ℕ). read_parts Fractions b (cut is_slash x)) s.0 s.1
    ∙ ap (read_parts Fractions negative) (cut_mark is_slash over 47 under (digits-none is_slash not_slash over h.over_digits.all) refl)

-- ---- it is no fault of form
taken_or_past : (a : Bool) (q : Number) → cond a (Ok q) (Err NumberPast) ≡ Err NotNumber → ⊥
taken_or_past true q e = absurd cc
taken_or_past false q e = absurd cc

decimal_form : (numbers : Numbers) (negative : Bool) (t : Terms) → read_decimal numbers negative (Some t) ≡ Err NotNumber → ⊥
unfolding read_decimal
decimal_form numbers negative t e = by (ltb (significant t.digits) (2 ^ 127)) e
  where
    by : (b : Bool) → cond b (in_range numbers (scaled (signed negative (number t.digits)) (up_of t) (down_of t))) (Err NumberPast) ≡ Err NotNumber → ⊥
    by true h = taken_or_past (fits (scaled (signed negative (number t.digits)) (up_of t) (down_of t)) && is_taken numbers (scaled (signed negative (number t.digits)) (up_of t) (down_of t))) _ h
    by false h = absurd cc

quotient_form : (negative : Bool) (over under : List ℕ) → IsDigits over → IsDigits under → 0 < number under → read_quotient negative over under ≡ Err NotNumber → ⊥
unfolding read_quotient
quotient_form negative over under a b p e =
    let x : is_digits over ≡ true = is_digits-is over a.all a.some in
    let y : is_digits under ≡ true = is_digits-is under b.all b.some in
    let z : eqb (number under) 0 ≡ false = grind (arith, nat_tests) in
    let s : read_quotient negative over under ≡ cond (ltb (number over) (2 ^ 127) && ltb (number under) (2 ^ 127)) (Ok (ratio (signed negative (number over)) (number under))) (Err NumberPast) = rw (x, y, z) refl in
    taken_or_past (ltb (number over) (2 ^ 127) && ltb (number under) (2 ^ 127)) (ratio (signed negative (number over)) (number under)) (sym s ∙ e)

pub text_is_read : (numbers : Numbers) (bytes : List ℕ) → IsNumberText numbers bytes → read_of numbers bytes ≡ Err NotNumber → ⊥
text_is_read Decimal bytes h e = decimal_form Decimal h.negative h.terms (sym (read-decimal_text Decimal bytes h.negative h.terms h.text) ∙ e)
text_is_read Fractions bytes (inl h) e = decimal_form Fractions h.negative h.terms (sym (read-decimal_text Fractions bytes h.negative h.terms h.text) ∙ e)
text_is_read Fractions bytes (inr h) e =
    quotient_form h.negative h.over h.under h.text.over_digits h.text.under_digits h.some (sym (read-quotient_text bytes h.negative h.over h.under h.text) ∙ e)

-- ---- and nothing else is read
decimal_back : (numbers : Numbers) (bytes : List ℕ) (o : Option Terms) → terms_of (unsigned bytes) ≡ o → (read_decimal numbers (is_minus bytes) o ≡ Err NotNumber → ⊥) → HasDecimalText bytes
unfolding read_decimal
decimal_back numbers bytes None e n = absurd (n refl)
decimal_back numbers bytes (Some t) e n =
    let s = sign_back bytes in
    record { negative = is_minus bytes; terms = t; text = record { sign = s.0; body = unsigned bytes; is_sign = s.1; form = form-from_terms (unsigned bytes) t e; parts = s.2 } }

quotient_back : (bytes over under : List ℕ) → unsigned bytes ≡ over ++ 47 ∷ under → (read_quotient (is_minus bytes) over under ≡ Err NotNumber → ⊥) → HasQuotientText bytes
unfolding read_quotient
quotient_back bytes over under e n = by (is_digits over) (is_digits under) (eqb (number under) 0) refl refl refl n
  where
    some : (k : ℕ) → eqb k 0 ≡ false → 0 < k
    some k f = grind (arith, nat_tests)

    by : (a b c : Bool) → is_digits over ≡ a → is_digits under ≡ b → eqb (number under) 0 ≡ c
        → (cond (a && b && not c) (cond (ltb (number over) (2 ^ 127) && ltb (number under) (2 ^ 127)) (Ok (ratio (signed (is_minus bytes) (number over)) (number under))) (Err NumberPast)) (Err NotNumber) ≡ Err NotNumber → ⊥)
        → HasQuotientText bytes
    by true true false p q r n =
        let s = sign_back bytes in
        record {
          negative = is_minus bytes;
          over = over;
          under = under;
          text = record { sign = s.0; is_sign = s.1; over_digits = digits_back over p; under_digits = digits_back under q; parts = s.2 ∙ ap (λ (x : List ℕ). s.0 ++ x) e };
          some = some (number under) r;
        }
    by true true true p q r n = absurd (n refl)
    by true false c p q r n = absurd (n refl)
    by false b c p q r n = absurd (n refl)

pub only_text_is_read : (numbers : Numbers) (bytes : List ℕ) → (read_of numbers bytes ≡ Err NotNumber → ⊥) → IsNumberText numbers bytes
unfolding read_of
only_text_is_read numbers bytes n = by numbers (cut is_slash (unsigned bytes)) (cuts is_slash (unsigned bytes)) n
  where
    by : (numbers : Numbers) (c : List ℕ × Option (List ℕ)) → Cuts is_slash (unsigned bytes) c → (read_parts numbers (is_minus bytes) c ≡ Err NotNumber → ⊥) → IsNumberText numbers bytes
    by Decimal (text, None) h n = decimal_back Decimal bytes (terms_of text) (ap terms_of h) n
    by Decimal (text, Some under) h n = absurd (n refl)
    by Fractions (text, None) h n = inl (decimal_back Fractions bytes (terms_of text) (ap terms_of h) n)
    by Fractions (over, Some under) h n = inr (quotient_back bytes over under (h.2 ∙ ap (λ (c : ℕ). over ++ c ∷ under) (eqb-true _ _ h.1)) n)
