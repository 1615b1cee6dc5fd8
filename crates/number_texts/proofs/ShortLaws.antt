-- What the short path reads has the form of a number.
use Rattle.std.proofs.Common.{◌≡◌, ℕ, suc, ◌+◌, ◌-◌, ◌*◌, ◌^◌, ◌<◌, ◌≤◌, Bool, true, false, cond, eqb, ltb, List, [], ◌∷◌, ◌++◌, length, drop, get_or, arith, sym, ◌∙◌, refl, ap, ap₂, inl, inr, subst, append_assoc}
use Rattle.std.specs.Prelude.{◌&&◌}
use Rattle.std.proofs.lemmas.Bool.{lt-ltb, eqb-true}
use Rattle.std.proofs.lemmas.Bool.Decides.{nat_tests}
use Rattle.std.proofs.lemmas.List.{append-nil, length-append}
use Rattle.std.specs.Char.{is_ascii_digit}
use Rattle.std.specs.List.{list_all}
use Rattle.fractions.specs.Scaled.{scaled}
use Rattle.fractions.specs.declared.Numbers.{Numbers}
use Rattle.number_texts.specs.declared.short.Short.{Short}
use Rattle.number_texts.specs.Form.{cut, is_slash, is_exponent, is_minus, unsigned, number_after, number, significant, up_of, down_of}
use Rattle.number_texts.specs.Grammar.{IsSign}
use Rattle.number_texts.specs.Shorts.{leading, IsShortMantissa, IsShortExponent, IsShort}
use Rattle.number_texts.specs.Read.{signed, in_range, read_decimal, read_parts}
use Rattle.number_texts.proofs.Cutting.{Digits, both_true, Digits-append, number_after-append, cut_none}
use Rattle.number_texts.proofs.Again.{significant_le}
use Rattle.number_texts.proofs.GrammarLaws.{sign_back, form_no_slash, terms-from_form}

and_true : (a b : Bool) → a ≡ true → b ≡ true → (a && b) ≡ true
and_true a b e f = rw (e, f) refl

-- the digits at the front
pub record Leads (n : ℕ) (text : List ℕ) (m : ℕ) (rest : List ℕ) : Type 0 where
  pub digits : List ℕ
  pub all : Digits digits
  pub parts : text ≡ digits ++ rest
  pub value : number_after n digits ≡ m

leads : (n : ℕ) (text : List ℕ) → Leads n text (leading n text).0 (leading n text).1
leads n [] = record { digits = []; all = refl; parts = refl; value = refl }
leads n (c ∷ cs) = by (is_ascii_digit c) refl (leads (n * 10 + (c - 48)) cs)
  where
    by : (b : Bool) → is_ascii_digit c ≡ b → Leads (n * 10 + (c - 48)) cs (leading (n * 10 + (c - 48)) cs).0 (leading (n * 10 + (c - 48)) cs).1
        → Leads n (c ∷ cs) (cond b (leading (n * 10 + (c - 48)) cs) (n, c ∷ cs)).0 (cond b (leading (n * 10 + (c - 48)) cs) (n, c ∷ cs)).1
    by true e h = record { digits = c ∷ h.digits; all = and_true _ _ e h.all; parts = ap (λ (x : List ℕ). c ∷ x) h.parts; value = h.value }
    by false e h = record { digits = []; all = refl; parts = refl; value = refl }

pub leads_by : (n : ℕ) (text : List ℕ) (m : ℕ) (rest : List ℕ) → leading n text ≡ (m, rest) → Leads n text m rest
leads_by n text m rest e =
    let h = leads n text in
    record {
      digits = h.digits;
      all = h.all;
      parts = h.parts ∙ ap (λ (p : ℕ × List ℕ). h.digits ++ p.1) e;
      value = h.value ∙ ap (λ (p : ℕ × List ℕ). p.0) e;
    }

number-is : (ds : List ℕ) → number ds ≡ number_after 0 ds
unfolding number
number-is ds = refl

leading_ge : (n : ℕ) (text : List ℕ) → n ≤ (leading n text).0
leading_ge n [] = omega arith
leading_ge n (c ∷ cs) = by (is_ascii_digit c) (leading_ge (n * 10 + (c - 48)) cs)
  where
    by : (b : Bool) → n * 10 + (c - 48) ≤ (leading (n * 10 + (c - 48)) cs).0 → n ≤ (cond b (leading (n * 10 + (c - 48)) cs) (n, c ∷ cs)).0
    by true h = omega (arith, h)
    by false h = omega arith

-- one more digit takes it past the limit
pub leading_past : (before n : ℕ) (text rest : List ℕ) → leading n rest ≡ leading before text → 1 ≤ length rest → is_ascii_digit (get_or rest 0 0) ≡ true → 10 ^ 18 ≤ n → 10 ^ 19 ≤ (leading before text).0
leading_past before n text [] e p d l = absurd (omega arith)
leading_past before n text (c ∷ cs) e p d l =
    let h = leading_ge (n * 10 + (c - 48)) cs in
    let f : (leading n (c ∷ cs)).0 ≡ (leading (n * 10 + (c - 48)) cs).0 = rw d refl in
    let g : (leading n (c ∷ cs)).0 ≡ (leading before text).0 = ap (λ (x : ℕ × List ℕ). x.0) e in
    omega arith

leading-digits : (n : ℕ) (ds : List ℕ) → Digits ds → leading n ds ≡ (number_after n ds, [])
leading-digits n [] h = refl
leading-digits n (c ∷ cs) h = let k = both_true (is_ascii_digit c) (list_all is_ascii_digit cs) h in rw k.0 (leading-digits (n * 10 + (c - 48)) cs k.1)

pub all_leading : (ds : List ℕ) (m : ℕ) (rest : List ℕ) → Digits ds → leading 0 ds ≡ (m, rest) → m ≡ number ds
all_leading ds m rest h e = ap (λ (p : ℕ × List ℕ). p.0) (sym e ∙ leading-digits 0 ds h) ∙ sym (number-is ds)

-- ---- the digits before the exponent
pub whole_mantissa : (text : List ℕ) (m : ℕ) (rest : List ℕ) → leading 0 text ≡ (m, rest) → length rest < length text → IsShortMantissa text m 0 rest
whole_mantissa text m rest e l =
    let h = leads_by 0 text m rest e in
    let some : 0 < length (h.digits ++ []) = let a = ap length h.parts ∙ length-append h.digits rest in let b = ap length (append-nil h.digits) in omega arith in
    record {
      whole = h.digits;
      decimals = [];
      mantissa = h.digits;
      form = record { digits = record { some = some; all = ap (λ (x : List ℕ). list_all is_ascii_digit x) (append-nil h.digits) ∙ h.all }; parts = inl (refl, refl) };
      parts = h.parts;
      size_is = ap number (append-nil h.digits) ∙ number-is h.digits ∙ h.value;
      places_is = refl;
    }

pub point_mantissa : (text : List ℕ) (m : ℕ) (rest decimals : List ℕ) (n : ℕ) (behind : List ℕ) → leading 0 text ≡ (m, rest) → 0 < length rest → get_or rest 0 0 ≡ 46 → decimals ≡ drop 1 rest → leading m decimals ≡ (n, behind)
    → length behind + 2 ≤ length text → IsShortMantissa text n (length decimals - length behind) behind
point_mantissa text m [] ds n behind e p q d f l = absurd (omega arith)
point_mantissa text m (c ∷ cs) ds n behind e p q d f l =
    let h = leads_by 0 text m (c ∷ cs) e in
    let k = leads_by m ds n behind f in
    let lt = ap length h.parts ∙ length-append h.digits (c ∷ cs) in
    let ld = ap length k.parts ∙ length-append k.digits behind in
    let lb : length (h.digits ++ k.digits) ≡ length h.digits + length k.digits = length-append h.digits k.digits in
    let lc : length (c ∷ cs) ≡ suc (length cs) = refl in
    let le : length ds ≡ length cs = ap length d in
    record {
      whole = h.digits;
      decimals = k.digits;
      mantissa = h.digits ++ 46 ∷ k.digits;
      form = record { digits = record { some = omega arith; all = Digits-append h.digits k.digits h.all k.all }; parts = inr refl };
      parts = h.parts ∙ ap₂ (λ (b : ℕ) (x : List ℕ). h.digits ++ b ∷ x) q (sym d ∙ k.parts) ∙ sym (append_assoc h.digits (46 ∷ k.digits) behind);
      size_is = number-is (h.digits ++ k.digits) ∙ number_after-append 0 h.digits k.digits ∙ ap (λ (x : ℕ). number_after x k.digits) h.value ∙ k.value;
      places_is = omega arith;
    }

-- ---- the exponent
pub no_exponent : (text : List ℕ) → eqb (length text) 0 ≡ true → IsShortExponent text false 0
unfolding number
no_exponent [] e = record { digits = []; form = inl (refl, refl, refl); size_is = refl }
no_exponent (c ∷ cs) e = absurd (let l : length (c ∷ cs) ≡ 0 = eqb-true _ _ e in omega arith)

pub some_exponent : (text rest digits : List ℕ) (below : Bool) (size : ℕ) (behind : List ℕ) → 0 < length text → is_exponent (get_or text 0 0) ≡ true → rest ≡ drop 1 text → below ≡ is_minus rest → digits ≡ unsigned rest
    → leading 0 digits ≡ (size, behind) → eqb (length behind) 0 ≡ true → eqb (length digits) 0 ≡ false → IsShortExponent text below size
some_exponent [] rest digits below size behind p q d b u e r l = absurd (omega arith)
some_exponent (c ∷ cs) rest digits below size (x ∷ xs) p q d b u e r l = absurd (let k : length (x ∷ xs) ≡ 0 = eqb-true _ _ r in omega arith)
some_exponent (c ∷ cs) rest digits below size [] p q d b u e r l =
    let h = leads_by 0 digits size [] e in
    let s = sign_back rest in
    let same : digits ≡ h.digits = h.parts ∙ append-nil h.digits in
    let some : 0 < length h.digits = let a = ap length same in let b : 0 < length digits = grind (arith, nat_tests) in omega arith in
    record {
      digits = h.digits;
      form = inr (record {
        letter = c;
        sign = s.0;
        is_letter = q;
        is_sign = subst (λ (x : Bool). IsSign s.0 x) (sym b) s.1;
        digits = record { some = some; all = h.all };
        parts = ap (λ (x : List ℕ). c ∷ x) (sym d ∙ s.2 ∙ ap (λ (x : List ℕ). s.0 ++ x) (sym u ∙ same));
      });
      size_is = number-is h.digits ∙ h.value;
    }

-- ---- the number
pub short_by : (text : List ℕ) (s : Short) (behind : List ℕ) → IsShortMantissa text s.number s.places behind → IsShortExponent behind s.below s.exponent → IsShort text s
short_by text s behind m e = record {
  terms = record { digits = m.whole ++ m.decimals; places = length m.decimals; below = s.below; exponent = e.digits };
  form = record { whole = m.whole; decimals = m.decimals; mantissa = m.mantissa; behind = behind; is_mantissa = m.form; is_exponent = e.form; parts = m.parts; digits = refl; places = refl };
  number_is = m.size_is;
  places_is = m.places_is;
  below_is = refl;
  exponent_is = e.size_is;
}

pub read-short : (numbers : Numbers) (negative : Bool) (text : List ℕ) (s : Short) → IsShort text s → s.number < 10 ^ 19
    → read_parts numbers negative (cut is_slash text) ≡ in_range numbers (scaled (signed negative s.number) (cond s.below 0 s.exponent) (s.places + cond s.below s.exponent 0))
unfolding read_decimal
read-short numbers negative text s h l =
    let few : ltb (significant h.terms.digits) (2 ^ 127) ≡ true = lt-ltb _ _ (let k = significant_le h.terms.digits in let n = h.number_is in omega arith) in
    let up : up_of h.terms ≡ cond s.below 0 s.exponent = ap₂ (λ (b : Bool) (e : ℕ). cond b 0 e) h.below_is h.exponent_is in
    let down : down_of h.terms ≡ s.places + cond s.below s.exponent 0 = ap₂ ◌+◌ h.places_is (ap₂ (λ (b : Bool) (e : ℕ). cond b e 0) h.below_is h.exponent_is) in
    ap (read_parts numbers negative) (cut_none is_slash text (form_no_slash text h.terms h.form))
    ∙ ap (read_decimal numbers negative) (terms-from_form text h.terms h.form)
    ∙ rw few (ap (λ (n : ℕ). in_range numbers (scaled (signed negative n) (up_of h.terms) (down_of h.terms))) h.number_is ∙ ap₂ (λ (u d : ℕ). in_range numbers (scaled (signed negative s.number) u d)) up down)
