-- A word by places agrees with a word by names.
use Rattle.std.proofs.Common.{◌≡◌, ℕ, ◌+◌, ◌-◌, ◌<◌, ◌≤◌, List, [], ◌∷◌, ◌++◌, length, length-append, get_or, Bool, true, false, cond, Option, Some, None, refl, sym, ap, ap₂, ◌∙◌, arith, below_more}
use Rattle.std.specs.Prelude.{is_some, is_none, ◌==◌, unwrap_or}
use Rattle.std.specs.List.{position_from}
use Rattle.std.specs.Str.{bytes_eq}
use Rattle.std.proofs.lemmas.List.{get_or_append_left, get_or-append_right}
use Rattle.std.proofs.lemmas.List.Quantifiers.{position-Some}
use Rattle.std.proofs.lemmas.Iterator.Adapters.{position_from-zero}
use Rattle.std.proofs.lemmas.Slice.Eq.{bytes_eq-Decides}
use Rattle.std.proofs.lemmas.Bool.Decides.{nat_tests}
use Rattle.names.specs.Names.{place}
use Rattle.mps_profile.specs.Texts.{Text, field}
use Rattle.mps_profile.specs.Rows.{is_at}
use Rattle.mps_profile.specs.Columns.{joined, column_place}

-- ---- places
abbrev or_else : Option ℕ → Option ℕ → Option ℕ
or_else (Some k) other = Some k
or_else None other = other

or_cond : (b : Bool) (i : ℕ) (o p : Option ℕ) → cond b (Some i) (or_else o p) ≡ or_else (cond b (Some i) o) p
or_cond true i o p = refl
or_cond false i o p = refl

from_push : (p : Text → Bool) (i : ℕ) (xs : List Text) (y : Text) → position_from p i (xs ++ y ∷ []) ≡ or_else (position_from p i xs) (cond (p y) (Some (i + length xs)) None)
from_push p i [] y = ap (λ n. cond (p y) (Some n) None) (omega arith)
from_push p i (x ∷ xs) y =
    ap (cond (p x) (Some i)) (from_push p (i + 1) xs y) ∙ or_cond (p x) i _ _
    ∙ ap (λ n. or_else (cond (p x) (Some i) (position_from p (i + 1) xs)) (cond (p y) (Some n) None)) (omega arith)

-- one more name
place_push : (name last : Text) (names : List Text) → place name (names ++ last ∷ []) ≡ or_else (place name names) (cond (bytes_eq name last) (Some (length names)) None)
place_push name last names =
    position_from-zero (bytes_eq name) (names ++ last ∷ []) ∙ from_push (bytes_eq name) 0 names last
    ∙ ap₂ (λ (o : Option ℕ) (n : ℕ). or_else o (cond (bytes_eq name last) (Some n) None)) (sym (position_from-zero (bytes_eq name) names)) (omega arith)

-- each name stands at its own place
abbrev pub IsNumbered : List Text → Type 0
IsNumbered names = (i : ℕ) → i < length names → place (field names i) names ≡ Some i

pub place_is : (name : Text) (names : List Text) (k : ℕ) → place name names ≡ Some k → (k < length names) × (name ≡ field names k)
place_is name names k is =
    let p = position-Some (bytes_eq name) names k [] is in
    (p.0, (bytes_eq-Decides name (field names k)).0 p.1)

pub same_name : (name : Text) → bytes_eq name name ≡ true
same_name name = (bytes_eq-Decides name name).1 refl

at_last : (names : List Text) (name : Text) → get_or (names ++ name ∷ []) (length names) [] ≡ name
at_last names name =
    get_or-append_right names (name ∷ []) (length names) (length names) [] refl (omega arith)
    ∙ (let none : length names - length names ≡ 0 = omega arith in ap (λ n. get_or (name ∷ []) n []) none)

place_last : (names : List Text) (name : Text) → place name names ≡ None → place name (names ++ name ∷ []) ≡ Some (length names)
place_last names name new = place_push name name names ∙ ap₂ (λ (o : Option ℕ) (b : Bool). or_else o (cond b (Some (length names)) None)) new (same_name name)

pub numbered_push : (names : List Text) (name : Text) → IsNumbered names → place name names ≡ None → IsNumbered (names ++ name ∷ [])
numbered_push names name each new i lt =
    below_more (λ k. place (get_or (names ++ name ∷ []) k []) (names ++ name ∷ []) ≡ Some k) (length names) old last i (omega (arith, lt, length-append names (name ∷ [])))
  where
    old : (k : ℕ) → k < length names → place (get_or (names ++ name ∷ []) k []) (names ++ name ∷ []) ≡ Some k
    old k h =
        ap (λ x. place x (names ++ name ∷ [])) (get_or_append_left names (name ∷ []) [] k h) ∙ place_push (get_or names k []) name names
        ∙ ap (λ o. or_else o (cond (bytes_eq (get_or names k []) name) (Some (length names)) None)) (each k h)

    last : place (get_or (names ++ name ∷ []) (length names) []) (names ++ name ∷ []) ≡ Some (length names)
    last = ap (λ x. place x (names ++ name ∷ [])) (at_last names name) ∙ place_last names name new

-- a name stands at a place exactly where it is the name of that place
at_place : (names : List Text) (name : Text) (i : ℕ) → IsNumbered names → i < length names → is_at (place name names) i ≡ bytes_eq name (field names i)
at_place names name i each lt = by_test (bytes_eq name (get_or names i [])) refl
  where
    wrong : (k : ℕ) → place name names ≡ Some k → bytes_eq name (get_or names i []) ≡ false → k ≡ i → ⊥
    wrong k is differ same = cc (ap (bytes_eq name) (ap (λ n. get_or names n []) same), (position-Some (bytes_eq name) names k [] is).1)

    by_place : (o : Option ℕ) → place name names ≡ o → bytes_eq name (get_or names i []) ≡ false → is_at o i ≡ false
    by_place None is differ = refl
    by_place (Some k) is differ = grind (arith, nat_tests, wrong k is differ)

    by_test : (b : Bool) → bytes_eq name (get_or names i []) ≡ b → is_at (place name names) i ≡ b
    by_test true is =
        let same : name ≡ get_or names i [] = (bytes_eq-Decides name (get_or names i [])).0 is in
        ap (λ x. is_at (place x names) i) same ∙ ap (λ o. is_at o i) (each i lt) ∙ grind (arith, nat_tests)
    by_test false is = by_place (place name names) refl is

-- a name that stands nowhere is no row's
apart : (k n i : ℕ) → k < n → n ≤ i → is_at (Some k) i ≡ false
apart k n i within past = grind (arith, nat_tests)

no_longer : (o p : Option ℕ) → or_else o p ≡ None → o ≡ None
no_longer None p is = refl
no_longer (Some k) p is = cc

pub other_name : (names : List Text) (known name : Text) (k : ℕ) → place known names ≡ Some k → place name names ≡ None → bytes_eq known name ≡ false
other_name names known name k here new = by_test (bytes_eq known name) refl
  where
    by_test : (b : Bool) → bytes_eq known name ≡ b → b ≡ false
    by_test false is = refl
    by_test true is = cc (ap (λ x. place x names) ((bytes_eq-Decides known name).0 is))

-- ---- agreement
-- at each place the word by names says the same of its name; elsewhere neither says anything
pub record Agree {A : Type 0} (nothing : A) (names : List Text) (at : ℕ → A) (named : Text → A) : Type 0 where
  pub within : (i : ℕ) → i < length names → at i ≡ named (field names i)
  pub past : (i : ℕ) → length names ≤ i → at i ≡ nothing
  pub unknown : (name : Text) → place name names ≡ None → named name ≡ nothing

-- with a new name
pub agree_push : {A : Type 0} (nothing : A) (names : List Text) (at : ℕ → A) (named : Text → A) (name : Text) → place name names ≡ None
    → Agree nothing names at named → Agree nothing (names ++ name ∷ []) at named
agree_push nothing names at named name new a = record {
  within = λ i lt. below_more (λ k. at k ≡ named (get_or (names ++ name ∷ []) k [])) (length names)
      (λ k h. a.within k h ∙ ap named (sym (get_or_append_left names (name ∷ []) [] k h)))
      (a.past (length names) (omega arith) ∙ sym (ap named (at_last names name) ∙ a.unknown name new))
      i (omega (arith, lt, length-append names (name ∷ [])));
  past = λ i h. a.past i (omega (arith, h, length-append names (name ∷ [])));
  unknown = λ m h. a.unknown m (no_longer _ _ (sym (place_push m name names) ∙ h));
}

-- with a card that names a known name
pub agree_step : {A P : Type 0} (nothing : A) (names : List Text) (at : ℕ → A) (named : Text → A) (f : P → Bool → A → A) (p : ℕ → P) (q : Text → P) (name : Text) (o : Option ℕ)
    → ((x : P) (a : A) → f x false a ≡ a) → ((i : ℕ) → i < length names → p i ≡ q (field names i)) → IsNumbered names → place name names ≡ o → is_none o ≡ false
    → Agree nothing names at named → Agree nothing names (λ i. f (p i) (is_at o i) (at i)) (λ m. f (q m) (bytes_eq name m) (named m))
agree_step nothing names at named f p q name None idle same each here known a = cc
agree_step nothing names at named f p q name (Some k) idle same each here known a = record {
  within = λ i lt.
      ap₂ (λ x b. f x b (at i)) (same i lt) (ap (λ o. is_at o i) (sym here) ∙ at_place names name i each lt)
      ∙ ap (f (q (field names i)) (bytes_eq name (field names i))) (a.within i lt);
  past = λ i h. ap (λ b. f (p i) b (at i)) (apart k (length names) i (place_is name names k here).0 h) ∙ idle (p i) (at i) ∙ a.past i h;
  unknown = λ m h. ap (λ b. f (q m) b (named m)) (other_name names name m k here h) ∙ idle (q m) (named m) ∙ a.unknown m h;
}

-- with a card that names a column, known or new
pub joined-numbered : (names : List Text) (name : Text) → IsNumbered names → IsNumbered (joined name names)
joined-numbered names name each = by (place name names) refl
  where
    by : (o : Option ℕ) → place name names ≡ o → IsNumbered (cond (is_some o) names (names ++ name ∷ []))
    by (Some k) here = each
    by None new = numbered_push names name each new

pub agree_joined : {A : Type 0} (nothing : A) (names : List Text) (at : ℕ → A) (named : Text → A) (f : Bool → A → A) (name : Text)
    → ((a : A) → f false a ≡ a) → IsNumbered names
    → Agree nothing names at named → Agree nothing (joined name names) (λ j. f (column_place name names == j) (at j)) (λ m. f (bytes_eq name m) (named m))
agree_joined {A} nothing names at named f name idle each a = by (place name names) refl
  where
    by : (o : Option ℕ) → place name names ≡ o → Agree nothing (cond (is_some o) names (names ++ name ∷ [])) (λ j. f (unwrap_or o (length names) == j) (at j)) (λ m. f (bytes_eq name m) (named m))
    by (Some k) here =
        agree_step nothing names at named (λ (x : Unit {0}) b y. f b y) (λ i. tt) (λ m. tt) name (Some k) (λ x y. idle y) (λ i lt. refl) each here refl a
    by None new =
        agree_step nothing (names ++ name ∷ []) at named (λ (x : Unit {0}) b y. f b y) (λ i. tt) (λ m. tt) name (Some (length names)) (λ x y. idle y) (λ i lt. refl)
        (numbered_push names name each new) (place_last names name new) refl (agree_push nothing names at named name new a)

-- with the same word
pub agree_same : {A : Type 0} (nothing : A) (names : List Text) (old new : ℕ → A) (named : Text → A) → ((i : ℕ) → new i ≡ old i) → Agree nothing names old named → Agree nothing names new named
agree_same nothing names old new named same a = record {
  within = λ i lt. same i ∙ a.within i lt;
  past = λ i h. same i ∙ a.past i h;
  unknown = λ m h. a.unknown m h;
}

-- with a word that the new name's card alone sets
pub agree_last : {A : Type 0} (nothing : A) (names : List Text) (at : ℕ → A) (named : Text → A) (name : Text) (x : A) → IsNumbered names → place name names ≡ None
    → Agree nothing names at named → Agree nothing (names ++ name ∷ []) (λ i. cond (length names == i) x (at i)) (λ m. cond (bytes_eq name m) x (named m))
agree_last nothing names at named name x each new a =
    agree_step nothing (names ++ name ∷ []) at named (λ (u : Unit {0}) b y. cond b x y) (λ i. tt) (λ m. tt) name (Some (length names)) (λ u y. refl) (λ i lt. refl)
    (numbered_push names name each new) (place_last names name new) refl (agree_push nothing names at named name new a)
