-- Names and numbers without breaks.
use Rattle.std.proofs.Common.{◌≡◌, ℕ, ◌<◌, ◌==◌, not, List, [], ◌∷◌, length, Bool, true, false, refl, sym, arith}
use Rattle.std.specs.Prelude.{All, Ok, Err}
use Rattle.std.specs.Char.{is_ascii_digit}
use Rattle.std.specs.List.{list_all}
use Rattle.std.proofs.lemmas.Bool.{or_parts}
use Rattle.std.proofs.lemmas.Bool.Decides.{nat_tests}
use Rattle.std.proofs.lemmas.List.Elements.{All-nil, All-cons, All-weaker}
use Rattle.fractions.specs.Number.{Number}
use Rattle.fractions.specs.Lowest.{Fits}
use Rattle.fractions.specs.declared.Numbers.TheVariants.{Fractions}
use Rattle.number_texts.specs.Form.{terms_of}
use Rattle.number_texts.specs.Read.{read_decimal, read_of}
use Rattle.number_texts.specs.Written.{written}
use Rattle.number_texts.specs.declared.reading.ReadNumber.TheVariants.{NotNumber}
use Rattle.number_texts.proofs.Again.{read-written}
use Rattle.number_texts.proofs.Cutting.{both_true}
use Rattle.number_texts.proofs.Marks.{IsMark, written-marks}
use Rattle.lp_model.specs.Name.{is_break, IsName}
use Rattle.mps_profile.specs.Texts.{Text}
use Rattle.mps_profile.specs.Fields.{is_blank}

-- some bytes, none of them a space, a tab or a line feed
pub record IsField (text : Text) : Type 0 where
  pub filled : 0 < length text
  pub no_blanks : All (λ b. is_blank b ≡ false) text
  pub no_feeds : All (λ b. (b == 10) ≡ false) text

not_true : (b : Bool) → not b ≡ true → b ≡ false
not_true true is = sym is
not_true false is = refl

pub each_none : (p : ℕ → Bool) (xs : List ℕ) → list_all (λ b. not (p b)) xs ≡ true → All (λ b. p b ≡ false) xs
each_none p [] all = All-nil (λ b. p b ≡ false)
each_none p (x ∷ xs) all =
    let parts = both_true (not (p x)) (list_all (λ b. not (p b)) xs) all in
    All-cons (λ b. p b ≡ false) x xs (not_true (p x) parts.0) (each_none p xs parts.1)

filled_by : (text : Text) → not (length text == 0) ≡ true → 0 < length text
filled_by [] is = cc
filled_by (b ∷ bytes) is = omega arith

field_by : (text : Text) → 0 < length text → list_all (λ b. not (is_break b)) text ≡ true → IsField text
field_by text some none = record {
  filled = some;
  no_blanks = All-weaker (λ b. is_break b ≡ false) (λ b. is_blank b ≡ false) (λ b is. (or_parts (is_blank b) (b == 10) is).0) text (each_none is_break text none);
  no_feeds = All-weaker (λ b. is_break b ≡ false) (λ b. (b == 10) ≡ false) (λ b is. (or_parts (is_blank b) (b == 10) is).1) text (each_none is_break text none);
}

pub name_field : (name : Text) → IsName name → IsField name
name_field name is = let parts = both_true (not (length name == 0)) (list_all (λ b. not (is_break b)) name) is in field_by name (filled_by name parts.0) parts.1

digit_unbroken : (c : ℕ) → is_ascii_digit c ≡ true → not (is_break c) ≡ true
digit_unbroken c h = grind (arith, nat_tests)

break_mark : IsMark is_break
break_mark = record { digit = digit_unbroken; minus = refl; point = refl; slash = refl }

-- what is written is read
pub written_again : (q : Number) → Fits q → read_of Fractions (written q) ≡ Ok q
written_again q fits = read-written Fractions q fits refl

no_number : read_of Fractions [] ≡ Err NotNumber
unfolding read_of read_decimal terms_of
no_number = refl

number_filled : (text : Text) (q : Number) → read_of Fractions text ≡ Ok q → 0 < length text
number_filled [] q is = let none = no_number in cc
number_filled (b ∷ bytes) q is = omega arith

pub number_field : (q : Number) → Fits q → IsField (written q)
number_field q fits = field_by (written q) (number_filled (written q) q (written_again q fits)) (written-marks is_break break_mark q fits)

abbrev is_return : ℕ → Bool
is_return b = b == 13

digit_no_return : (c : ℕ) → is_ascii_digit c ≡ true → not (is_return c) ≡ true
digit_no_return c h = grind (arith, nat_tests)

return_mark : IsMark is_return
return_mark = record { digit = digit_no_return; minus = refl; point = refl; slash = refl }

-- a number has no carriage return, as a name may have
pub no_returns : (q : Number) → Fits q → All (λ b. (b == 13) ≡ false) (written q)
no_returns q fits = each_none is_return (written q) (written-marks is_return return_mark q fits)
