-- What ordinary names are, and that those of the profile are ordinary.
use Rattle.std.proofs.Common.{◌≡◌, ◌≢◌, ℕ, suc, ◌+◌, ◌<◌, ◌≤◌, ◌^◌, ◌%◌, ◌==◌, not, true, List, [], ◌∷◌, length, refl, sym, ap, ◌∙◌, subst, arith, leb-true, le-leb}
use Rattle.std.specs.Char.{is_ascii_digit}
use Rattle.std.specs.Prelude.{codes, nat_le}
use Rattle.std.specs.List.{AllPass, list_all}
use Rattle.std.specs.Fmt.{decimal}
use Rattle.std.proofs.lemmas.Bool.{and_from, and_parts, eqb-true, ne_eqb, or_from}
use Rattle.std.proofs.lemmas.Fmt.{decimal_by_steps}
use Rattle.std.proofs.lemmas.List.Elements.{All-append, All-cons, All-nil, All-weaker}
use Rattle.std.proofs.lemmas.List.Sums.{AllPass-from_list_all, list_all-from_AllPass}
use Rattle.std.proofs.lemmas.Nat.{mod_below}
use Rattle.lp_model.specs.Name.{is_break, IsName}
use Rattle.mps_round_trip.specs.Plain.{CanNameRow, HasNoReturn}
use Rattle.opb_text.specs.Tokens.{is_name}
use Rattle.opb_text.specs.Program.{constraint_name}
use Rattle.opb_named.specs.Ordinary.{is_visible, IsOrdinary}

visible_from : (b : ℕ) → 33 ≤ b → b ≤ 126 → is_visible b ≡ true
visible_from b l m = and_from _ _ (le-leb 33 b l) (le-leb b 126 m)

visible_within : (b : ℕ) → is_visible b ≡ true → (33 ≤ b) × (b ≤ 126)
visible_within b is = let parts = and_parts (nat_le 33 b) (nat_le b 126) is in (leb-true 33 b parts.0, leb-true b 126 parts.1)

-- ---- an ordinary name is a name, and stands in each text
stays : (b : ℕ) → 33 ≤ b → not (is_break b) ≡ true
stays b l = ap not (or_from _ _ (or_from _ _ (ne_eqb b 32 (λ e. omega (arith, l, e))) (ne_eqb b 9 (λ e. omega (arith, l, e)))) (ne_eqb b 10 (λ e. omega (arith, l, e))))

letter_named : (letter : ℕ) (rest : List ℕ) → 97 ≤ letter → AllPass is_visible rest → IsName (letter ∷ rest)
letter_named letter rest l visible =
    and_from (not (suc (length rest) == 0)) _ (ap not (ne_eqb (suc (length rest)) 0 (λ e. omega (arith, e)))) (and_from _ _ (stays letter (omega (arith, l)))
    (list_all-from_AllPass (λ b. not (is_break b)) rest (All-weaker (λ b. is_visible b ≡ true) (λ b. not (is_break b) ≡ true) (λ b is. stays b (visible_within b is).0) rest visible)))

pub ordinary_named : (name : List ℕ) → IsOrdinary name → IsName name
ordinary_named name o = subst IsName (sym o.is) (letter_named o.letter o.rest o.least o.visible)

pub ordinary_returnless : (name : List ℕ) → IsOrdinary name → HasNoReturn name
ordinary_returnless name o = subst HasNoReturn (sym o.is)
    (All-cons (λ b. b ≢ 13) o.letter o.rest (λ e. let l = o.least in omega (arith, l, e))
    (All-weaker (λ b. is_visible b ≡ true) (λ b. b ≢ 13) (λ b is e. let l = (visible_within b is).0 in omega (arith, l, e)) o.rest o.visible))

-- a word that begins with no letter is not one
first : ℕ → List ℕ → ℕ
first d [] = d
first d (b ∷ bytes) = b

apart : (name : List ℕ) (sign : ℕ) (word : List ℕ) → IsOrdinary name → sign < 97 → name ≢ sign ∷ word
unfolding first
apart name sign word o l e = let clash : o.letter ≡ sign = ap (first 0) (sym o.is ∙ e) in let m = o.least in omega (arith, clash, l, m)

pub ordinary_row : (name : List ℕ) → IsOrdinary name → CanNameRow name
ordinary_row name o = (ordinary_returnless name o, apart name 39 _ o (omega arith))

pub ordinary_unmarked : (name : List ℕ) → IsOrdinary name → name ≢ codes "=obj="
ordinary_unmarked name o = apart name 61 _ o (omega arith)

-- ---- the names of the profile
digits_visible : (n : ℕ) → n < 2 ^ 64 → AllPass is_visible (decimal n)
digits_visible n few =
    decimal_by_steps (λ _ ds. AllPass is_visible ds) one
    (λ d ds _ before. All-append (λ b. is_visible b ≡ true) ds _ before (one (d % 10) (mod_below d 10 (omega arith)))) n few
  where
    one : (d : ℕ) → d < 10 → AllPass is_visible ((48 + d) ∷ [])
    one d l = All-cons (λ b. is_visible b ≡ true) (48 + d) [] (visible_from (48 + d) (omega (arith, l)) (omega (arith, l))) (All-nil (λ b. is_visible b ≡ true))

pub constraint_ordinary : (i : ℕ) → i < 2 ^ 64 → IsOrdinary (constraint_name i)
constraint_ordinary i few = record { letter = 99; rest = decimal i; is = refl; least = omega arith; most = omega arith; visible = digits_visible i few }

pub objective_ordinary : IsOrdinary (codes "obj")
objective_ordinary = record { letter = 111; rest = codes "bj"; is = refl; least = omega arith; most = omega arith; visible = AllPass-from_list_all is_visible (codes "bj") refl }

digit_visible : (b : ℕ) → is_ascii_digit b ≡ true → is_visible b ≡ true
digit_visible b is =
    let parts = and_parts (nat_le 48 b) (nat_le b 57) is in
    let l = leb-true 48 b parts.0 in
    let m = leb-true b 57 parts.1 in
    visible_from b (omega (arith, l)) (omega (arith, m))

pub literal_ordinary : (name : List ℕ) → is_name name ≡ true → IsOrdinary name
literal_ordinary [] is = cc
literal_ordinary (b ∷ bytes) is =
    let parts = and_parts (b == 120) _ is in
    let digits = and_parts _ (list_all is_ascii_digit bytes) parts.1 in
    let letter : b ≡ 120 = eqb-true b 120 parts.0 in
    record {
      letter = b;
      rest = bytes;
      is = refl;
      least = omega (arith, letter);
      most = omega (arith, letter);
      visible = All-weaker (λ d. is_ascii_digit d ≡ true) (λ d. is_visible d ≡ true) digit_visible bytes (AllPass-from_list_all is_ascii_digit bytes digits.1);
    }
