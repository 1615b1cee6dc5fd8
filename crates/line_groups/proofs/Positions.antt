-- The place of a key in a list of keys that gets longer.
use Rattle.std.proofs.Common.{◌≡◌, ℕ, suc, ◌+◌, ◌<◌, nat_lt, Bool, true, false, not, ◌||◌, cond, List, [], ◌∷◌, ◌++◌, length, Some, None, is_none, refl, sym, ap, ap₂, ◌∙◌, subst, true≢false, arith, length-append}
use Rattle.std.specs.Prelude.{position}
use Rattle.std.specs.List.{list_any, prefix_len}
use Rattle.std.proofs.lemmas.Bool.{lt-ltb, ltb-true}

module _ (p : ℕ → Bool) where
  abbrev before : List ℕ → ℕ
  before xs = prefix_len (λ x. not (p x)) xs

  left : (xs ys : List ℕ) → before xs < length xs → before (xs ++ ys) ≡ before xs
  left [] ys l = absurd (omega (arith, l))
  left (x ∷ xs) ys l = by (not (p x)) (left xs ys) l
    where
      by : (b : Bool) → (before xs < length xs → before (xs ++ ys) ≡ before xs) → cond b (1 + before xs) 0 < length (x ∷ xs) → cond b (1 + before (xs ++ ys)) 0 ≡ cond b (1 + before xs) 0
      by true rest l = ap (λ n. 1 + n) (rest (omega (arith, l)))
      by false rest l = refl

  -- a place says that it is before the end
  pub place_within : (xs : List ℕ) (n : ℕ) → position p xs ≡ Some n → (before xs ≡ n) × (n < length xs)
  place_within xs n e = by (nat_lt (before xs) (length xs)) refl e
    where
      by : (b : Bool) → nat_lt (before xs) (length xs) ≡ b → cond b (Some (before xs)) None ≡ Some n → (before xs ≡ n) × (n < length xs)
      by true f g = let same : before xs ≡ n = cc in (same, subst (λ m. m < length xs) same (ltb-true (before xs) (length xs) f))
      by false f g = absurd (true≢false (ap is_none g))

  at_place : (xs : List ℕ) (n : ℕ) → before xs ≡ n → n < length xs → position p xs ≡ Some n
  at_place xs n e l = ap₂ (λ (b : Bool) (m : ℕ). cond b (Some m) None) (lt-ltb (before xs) (length xs) (subst (λ m. m < length xs) (sym e) l)) e

  -- it stays
  pub place_left : (xs ys : List ℕ) (n : ℕ) → position p xs ≡ Some n → position p (xs ++ ys) ≡ Some n
  place_left xs ys n e =
      let (same, l) = place_within xs n e in
      let long = length-append xs ys in
      at_place (xs ++ ys) n (left xs ys (subst (λ m. m < length xs) (sym same) l) ∙ same) (omega (arith, l, long))

  none_before : (xs : List ℕ) (x : ℕ) → list_any p xs ≡ false → p x ≡ true → before (xs ++ x ∷ []) ≡ length xs
  none_before [] x e f = ap (λ (b : Bool). cond (not b) 1 0) f
  none_before (y ∷ ys) x e f = by (p y) (list_any p ys) e (λ g. none_before ys x g f)
    where
      by : (a b : Bool) → (a || b) ≡ false → (b ≡ false → before (ys ++ x ∷ []) ≡ length ys) → cond (not a) (1 + before (ys ++ x ∷ [])) 0 ≡ suc (length ys)
      by true b g rest = absurd (true≢false g)
      by false b g rest = let same = rest g in omega (arith, same)

  -- a key that wasn't there comes last
  pub place_last : (xs : List ℕ) (x : ℕ) → list_any p xs ≡ false → p x ≡ true → position p (xs ++ x ∷ []) ≡ Some (length xs)
  place_last xs x e f = let long = length-append xs (x ∷ []) in at_place (xs ++ x ∷ []) (length xs) (none_before xs x e f) (omega (arith, long))
