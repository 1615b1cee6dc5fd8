-- What has the form is read by its parts.
use Rattle.std.proofs.Common.{◌≡◌, ℕ, suc, Bool, true, false, cond, eqb, List, [], ◌∷◌, ◌++◌, length, Option, Some, None, refl, sym, ap, ap₂, ◌∙◌, subst, arith, inl, inr}
use Rattle.std.specs.Prelude.{◌⊎◌}
use Rattle.std.specs.List.{position_or_len}
use Rattle.std.specs.Prelude.{◌||◌}
use Rattle.std.proofs.Common.{ltb, get_or}
use Rattle.std.proofs.lemmas.Bool.{eqb-true}
use borrow.Author.Tests.{ltb-true}
use Rattle.std.proofs.lemmas.List.Sums.{passes_at_first, split_at_first}
use Rattle.number_texts.specs.Form.{parted}
use Rattle.std.specs.Char.{is_ascii_digit}
use Rattle.std.proofs.lemmas.Bool.{false≢true}
use Rattle.std.proofs.lemmas.List.{append-nil}
use Rattle.std.proofs.lemmas.List.Folds.{list_all-append}
use Rattle.std.specs.Prelude.{not}
use Rattle.std.proofs.lemmas.Bool.Decides.{nat_tests}
use Rattle.number_texts.specs.Form.{cut, is_slash, is_point, is_exponent, is_minus, unsigned, is_digits, Terms, terms_of, by_point, exponent_of, with_exponent}
use Rattle.number_texts.specs.Grammar.{IsDigits, IsSign, IsMantissa, IsExponent, IsDecimalForm}
use Rattle.number_texts.proofs.Cutting.{Digits, both_true, None_pass, None_pass-append, cut_none, cut_mark, digits-none, not_slash, not_point, not_exponent, no_sign}
use Rattle.number_texts.proofs.Again.{is_digits-is}

-- the digits on both sides
halves : (xs ys : List ℕ) → Digits (xs ++ ys) → Digits xs × Digits ys
halves xs ys h = both_true _ _ (sym (list_all-append is_ascii_digit xs ys) ∙ h)

sign_again : (sign ds : List ℕ) (below : Bool) → IsSign sign below → IsDigits ds → (is_minus (sign ++ ds) ≡ below) × (unsigned (sign ++ ds) ≡ ds)
sign_again [] [] below s d = let h = d.some in absurd (omega arith)
sign_again [] (c ∷ cs) below s d = let k = no_sign c (both_true _ _ d.all).0 in (k.1 ∙ sym s, rw k.0 refl)
sign_again (c ∷ []) ds below (inl s) d = rw (s.0, s.1) (refl, refl)
sign_again (c ∷ []) ds below (inr s) d = rw (s.0, s.1) (refl, refl)
sign_again (c ∷ e ∷ cs) ds below s d = absurd s

exponent_again : (text : List ℕ) (below : Bool) (sign ds : List ℕ) → text ≡ sign ++ ds → IsSign sign below → IsDigits ds → exponent_of (Some text) ≡ Some (below, ds)
exponent_again text below sign ds e s d =
    let k = sign_again sign ds below s d in
    ap (λ (x : List ℕ). exponent_of (Some x)) e
    ∙ ap₂ (λ (b : Bool) (u : List ℕ). cond (is_digits u) (Some (b, u)) None) k.0 k.1
    ∙ ap (λ (x : Bool). cond x (Some (below, ds)) None) (is_digits-is ds d.all d.some)

mantissa_again : (bytes whole decimals : List ℕ) → IsMantissa bytes whole decimals → by_point (cut is_point bytes) ≡ (whole, decimals)
mantissa_again bytes whole decimals f = by f.parts
  where
    d : Digits whole × Digits decimals
    d = halves whole decimals f.digits.all

    by : ((bytes ≡ whole) × (decimals ≡ [])) ⊎ (bytes ≡ whole ++ 46 ∷ decimals) → by_point (cut is_point bytes) ≡ (whole, decimals)
    by (inl p) = rw (p.0, p.1) (ap by_point (cut_none is_point whole (digits-none is_point not_point whole d.0)))
    by (inr p) = rw p (ap by_point (cut_mark is_point whole 46 decimals (digits-none is_point not_point whole d.0) refl))

mantissa-none : (bytes whole decimals : List ℕ) → IsMantissa bytes whole decimals → None_pass is_exponent bytes
mantissa-none bytes whole decimals f = by f.parts
  where
    d : Digits whole × Digits decimals
    d = halves whole decimals f.digits.all

    by : ((bytes ≡ whole) × (decimals ≡ [])) ⊎ (bytes ≡ whole ++ 46 ∷ decimals) → None_pass is_exponent bytes
    by (inl p) = rw p.0 (digits-none is_exponent not_exponent whole d.0)
    by (inr p) = rw p (None_pass-append is_exponent whole (46 ∷ decimals) (digits-none is_exponent not_exponent whole d.0) (digits-none is_exponent not_exponent decimals d.1))

made : (mantissa whole decimals : List ℕ) (below : Bool) (ds : List ℕ) (c : List ℕ × Option (List ℕ)) → IsMantissa mantissa whole decimals → c.0 ≡ mantissa → exponent_of c.1 ≡ Some (below, ds)
    → with_exponent (by_point (cut is_point c.0)) (exponent_of c.1) ≡ Some (record { digits = whole ++ decimals; places = length decimals; below = below; exponent = ds })
made mantissa whole decimals below ds c f e x = rw (x, e, mantissa_again mantissa whole decimals f, is_digits-is (whole ++ decimals) f.digits.all f.digits.some) refl

pub terms-from_form : (bytes : List ℕ) (t : Terms) → IsDecimalForm bytes t → terms_of bytes ≡ Some t
unfolding terms_of
terms-from_form bytes t f = by f.is_exponent ∙ ap₂ (λ (ds : List ℕ) (n : ℕ). Some (record { digits = ds; places = n; below = t.below; exponent = t.exponent })) (sym f.digits) (sym f.places)
  where
    no_letter : None_pass is_exponent f.mantissa
    no_letter = mantissa-none f.mantissa f.whole f.decimals f.is_mantissa

    by : IsExponent f.behind t.below t.exponent → with_exponent (by_point (cut is_point (cut is_exponent bytes).0)) (exponent_of (cut is_exponent bytes).1)
        ≡ Some (record { digits = f.whole ++ f.decimals; places = length f.decimals; below = t.below; exponent = t.exponent })
    by (inl p) =
        let e : cut is_exponent bytes ≡ (f.mantissa, None) = ap (cut is_exponent) (f.parts ∙ ap (λ (x : List ℕ). f.mantissa ++ x) p.0 ∙ append-nil f.mantissa) ∙ cut_none is_exponent f.mantissa no_letter in
        made f.mantissa f.whole f.decimals t.below t.exponent (cut is_exponent bytes) f.is_mantissa (ap (λ (c : List ℕ × Option (List ℕ)). c.0) e) (ap (λ (c : List ℕ × Option (List ℕ)). exponent_of c.1) e ∙ ap₂ (λ (b : Bool) (ds : List ℕ). Some (b, ds)) (sym p.1) (sym p.2))
    by (inr s) =
        let e : cut is_exponent bytes ≡ (f.mantissa, Some (s.sign ++ t.exponent)) = ap (cut is_exponent) (f.parts ∙ ap (λ (x : List ℕ). f.mantissa ++ x) s.parts) ∙ cut_mark is_exponent f.mantissa s.letter (s.sign ++ t.exponent) no_letter s.is_letter in
        made f.mantissa f.whole f.decimals t.below t.exponent (cut is_exponent bytes) f.is_mantissa (ap (λ (c : List ℕ × Option (List ℕ)). c.0) e)
        (ap (λ (c : List ℕ × Option (List ℕ)). exponent_of c.1) e ∙ exponent_again (s.sign ++ t.exponent) t.below s.sign t.exponent refl s.is_sign s.digits)

-- ---- back: what is read has the form
abbrev pub Cuts : (ℕ → Bool) → List ℕ → List ℕ × Option (List ℕ) → Type 0
Cuts p bytes (xs, None) = bytes ≡ xs
Cuts p bytes (xs, Some ys) = (c : ℕ) × (p c ≡ true) × (bytes ≡ xs ++ c ∷ ys)

pub cuts : (p : ℕ → Bool) (bytes : List ℕ) → Cuts p bytes (cut p bytes)
cuts p bytes = by (ltb (position_or_len p bytes) (length bytes)) refl
  where
    by : (b : Bool) → ltb (position_or_len p bytes) (length bytes) ≡ b → Cuts p bytes (parted bytes (cond b (Some (position_or_len p bytes)) None))
    by true e = (get_or bytes (position_or_len p bytes) 0, passes_at_first p bytes 0 (ltb-true _ _ e), split_at_first p bytes 0 (ltb-true _ _ e))
    by false e = refl

pub sign_back : (text : List ℕ) → (s : List ℕ) × IsSign s (is_minus text) × (text ≡ s ++ unsigned text)
sign_back [] = ([], refl, refl)
sign_back (c ∷ cs) = by (eqb c 43) (eqb c 45) refl refl
  where
    by : (a b : Bool) → eqb c 43 ≡ a → eqb c 45 ≡ b → (s : List ℕ) × IsSign s b × (c ∷ cs ≡ s ++ cond (a || b) cs (c ∷ cs))
    by true true e f = let x : c ≡ 43 = eqb-true _ _ e in let y : c ≡ 45 = eqb-true _ _ f in absurd (omega arith)
    by true false e f = (c ∷ [], inl (eqb-true _ _ e, refl), refl)
    by false true e f = (c ∷ [], inr (eqb-true _ _ f, refl), refl)
    by false false e f = ([], refl, refl)

pub digits_back : (ds : List ℕ) → is_digits ds ≡ true → IsDigits ds
digits_back [] e = absurd (false≢true e)
digits_back (d ∷ ds) e = record { some = (let h : length (d ∷ ds) ≡ suc (length ds) = refl in omega arith); all = (both_true _ _ e).1 }

mantissa_back : (bytes : List ℕ) (c : List ℕ × Option (List ℕ)) → Cuts is_point bytes c → is_digits ((by_point c).0 ++ (by_point c).1) ≡ true → IsMantissa bytes (by_point c).0 (by_point c).1
mantissa_back bytes (xs, None) h e = record { digits = digits_back _ e; parts = inl (h, refl) }
mantissa_back bytes (xs, Some ys) h e = record { digits = digits_back _ e; parts = inr (h.2 ∙ ap (λ (c : ℕ). xs ++ c ∷ ys) (eqb-true _ _ h.1)) }

taken : (b : Bool) (s t : Terms) → cond b (Some s) None ≡ Some t → (b ≡ true) × (s ≡ t)
taken true s t e = (refl, cc)
taken false s t e = absurd cc

form_at : (bytes mantissa behind ds : List ℕ) (below : Bool) (c : List ℕ × Option (List ℕ)) (t : Terms) → Cuts is_point mantissa c → IsExponent behind below ds → bytes ≡ mantissa ++ behind
    → with_exponent (by_point c) (Some (below, ds)) ≡ Some t → IsDecimalForm bytes t
form_at bytes mantissa behind ds below c t h x e k =
    let g = taken (is_digits ((by_point c).0 ++ (by_point c).1)) (record { digits = (by_point c).0 ++ (by_point c).1; places = length (by_point c).1; below = below; exponent = ds }) t k in
    subst (λ (s : Terms). IsDecimalForm bytes s) g.1
    (record { whole = (by_point c).0; decimals = (by_point c).1; mantissa = mantissa; behind = behind; is_mantissa = mantissa_back mantissa c h g.0; is_exponent = x; parts = e; digits = refl; places = refl })

back_at : (bytes : List ℕ) (t : Terms) (c : List ℕ × Option (List ℕ)) → Cuts is_exponent bytes c → with_exponent (by_point (cut is_point c.0)) (exponent_of c.1) ≡ Some t → IsDecimalForm bytes t
back_at bytes t (mantissa, None) h e = form_at bytes mantissa [] [] false (cut is_point mantissa) t (cuts is_point mantissa) (inl (refl, refl, refl)) (h ∙ sym (append-nil mantissa)) e
back_at bytes t (mantissa, Some text) h e = by (is_digits (unsigned text)) refl e
  where
    by : (b : Bool) → is_digits (unsigned text) ≡ b → with_exponent (by_point (cut is_point mantissa)) (cond b (Some (is_minus text, unsigned text)) None) ≡ Some t → IsDecimalForm bytes t
    by true d k =
        let s = sign_back text in
        form_at bytes mantissa (h.0 ∷ text) (unsigned text) (is_minus text) (cut is_point mantissa) t (cuts is_point mantissa)
        (inr (record { letter = h.0; sign = s.0; is_letter = h.1; is_sign = s.1; digits = digits_back (unsigned text) d; parts = ap (λ (x : List ℕ). h.0 ∷ x) s.2 })) h.2 k
    by false d k = absurd cc

pub form-from_terms : (bytes : List ℕ) (t : Terms) → terms_of bytes ≡ Some t → IsDecimalForm bytes t
unfolding terms_of
form-from_terms bytes t e = back_at bytes t (cut is_exponent bytes) (cuts is_exponent bytes) e

-- ---- a number with a point and an exponent has no slash
none_cons : (c : ℕ) (xs : List ℕ) → not (is_slash c) ≡ true → None_pass is_slash xs → None_pass is_slash (c ∷ xs)
none_cons c xs e h = rw (e, h) refl

letter_no_slash : (c : ℕ) → is_exponent c ≡ true → not (is_slash c) ≡ true
letter_no_slash c e = grind (arith, nat_tests)

sign_no_slash : (sign : List ℕ) (below : Bool) → IsSign sign below → None_pass is_slash sign
sign_no_slash [] below s = refl
sign_no_slash (c ∷ []) below (inl s) = rw s.0 refl
sign_no_slash (c ∷ []) below (inr s) = rw s.0 refl
sign_no_slash (c ∷ e ∷ cs) below s = absurd s

mantissa_no_slash : (bytes whole decimals : List ℕ) → IsMantissa bytes whole decimals → None_pass is_slash bytes
mantissa_no_slash bytes whole decimals f = by f.parts
  where
    d : Digits whole × Digits decimals
    d = halves whole decimals f.digits.all

    by : ((bytes ≡ whole) × (decimals ≡ [])) ⊎ (bytes ≡ whole ++ 46 ∷ decimals) → None_pass is_slash bytes
    by (inl p) = rw p.0 (digits-none is_slash not_slash whole d.0)
    by (inr p) = rw p (None_pass-append is_slash whole (46 ∷ decimals) (digits-none is_slash not_slash whole d.0) (digits-none is_slash not_slash decimals d.1))

exponent_no_slash : (bytes : List ℕ) (below : Bool) (ds : List ℕ) → IsExponent bytes below ds → None_pass is_slash bytes
exponent_no_slash bytes below ds (inl p) = rw p.0 refl
exponent_no_slash bytes below ds (inr s) =
    rw s.parts (none_cons s.letter (s.sign ++ ds) (letter_no_slash s.letter s.is_letter) (None_pass-append is_slash s.sign ds (sign_no_slash s.sign below s.is_sign) (digits-none is_slash not_slash ds s.digits.all)))

pub form_no_slash : (bytes : List ℕ) (t : Terms) → IsDecimalForm bytes t → None_pass is_slash bytes
form_no_slash bytes t f =
    rw f.parts (None_pass-append is_slash f.mantissa f.behind (mantissa_no_slash f.mantissa f.whole f.decimals f.is_mantissa) (exponent_no_slash f.behind t.below t.exponent f.is_exponent))
