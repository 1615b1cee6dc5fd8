-- Names and numbers without breaks.
use Rattle.std.proofs.Common.{◌≡◌, ◌≢◌, ℕ, ◌<◌, ◌==◌, ◌||◌, not, List, [], ◌∷◌, length, Bool, true, false, refl, sym, arith}
use Rattle.std.specs.Prelude.{All}
use Rattle.std.specs.Str.{bytes_eq}
use Rattle.std.specs.List.{list_all}
use Rattle.std.proofs.lemmas.Bool.{or_parts}
use Rattle.std.proofs.lemmas.Bool.Decides.{nat_tests}
use Rattle.std.proofs.lemmas.List.Elements.{All-nil, All-cons, All-weaker}
use Rattle.std.proofs.lemmas.Slice.Eq.{bytes_eq-Decides}
use Rattle.fractions.specs.Number.{Number}
use Rattle.number_texts.proofs.Cutting.{both_true}
use Rattle.exact_texts.specs.Texts.{Texts, ReadsAgain, IsField}
use Rattle.mps_profile.specs.Texts.{Text}
use Rattle.mps_profile.specs.Fields.{is_blank}
use Rattle.point_text.specs.PlainNames.{is_break}

abbrev pub Unbroken : Text → Type 0
Unbroken text = All (λ b. is_break b ≡ false) text

not_true : (b : Bool) → not b ≡ true → b ≡ false
not_true true is = sym is
not_true false is = refl

pub each_unbroken : (xs : List ℕ) → list_all (λ b. not (is_break b)) xs ≡ true → Unbroken xs
each_unbroken [] all = All-nil (λ b. is_break b ≡ false)
each_unbroken (x ∷ xs) all =
    let parts = both_true (not (is_break x)) (list_all (λ b. not (is_break b)) xs) all in
    All-cons (λ b. is_break b ≡ false) x xs (not_true (is_break x) parts.0) (each_unbroken xs parts.1)

-- what is written of a short number is a field, and is read again
pub record Returns (t : Texts) : Type 0 where
  pub again : ReadsAgain t
  pub field : IsField t

no_break : (b : ℕ) → 32 < b → not (is_break b) ≡ true
no_break b h = grind (arith, nat_tests)

pub number_unbroken : (t : Texts) → Returns t → (q : Number) → t.IsShort q → Unbroken (t.writing q)
number_unbroken t k q short = All-weaker (λ b. 32 < b) (λ b. is_break b ≡ false) (λ b h. not_true (is_break b) (no_break b h)) (t.writing q) (k.field q short).1

pub number_filled : (t : Texts) → Returns t → (q : Number) → t.IsShort q → 0 < length (t.writing q)
number_filled t k q short = (k.field q short).0

-- what is unbroken has no blank, no line feed and no carriage return
no_parts : (b : ℕ) → is_break b ≡ false → (is_blank b ≡ false) × ((b == 10) ≡ false) × ((b == 13) ≡ false)
no_parts b is =
    let outer = or_parts ((is_blank b) || (b == 10)) (b == 13) is in
    let inner = or_parts (is_blank b) (b == 10) outer.0 in
    (inner.0, inner.1, outer.1)

pub no_blanks : (text : Text) → Unbroken text → All (λ b. is_blank b ≡ false) text
no_blanks text all = All-weaker (λ b. is_break b ≡ false) (λ b. is_blank b ≡ false) (λ b is. (no_parts b is).0) text all

pub no_feeds : (text : Text) → Unbroken text → All (λ b. (b == 10) ≡ false) text
no_feeds text all = All-weaker (λ b. is_break b ≡ false) (λ b. (b == 10) ≡ false) (λ b is. (no_parts b is).1) text all

pub no_returns : (text : Text) → Unbroken text → All (λ b. (b == 13) ≡ false) text
no_returns text all = All-weaker (λ b. is_break b ≡ false) (λ b. (b == 13) ≡ false) (λ b is. (no_parts b is).2) text all

differ_by : (name other : Text) (b : Bool) → name ≢ other → bytes_eq name other ≡ b → b ≡ false
differ_by name other true apart is = absurd (apart ((bytes_eq-Decides name other).0 is))
differ_by name other false apart is = refl

pub differ : (name other : Text) → name ≢ other → bytes_eq name other ≡ false
differ name other apart = differ_by name other (bytes_eq name other) apart refl

pub same : (name : Text) → bytes_eq name name ≡ true
same name = (bytes_eq-Decides name name).1 refl
