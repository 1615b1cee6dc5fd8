-- What lists contain.
use Rattle.std.proofs.Common.{◌≡◌, ◌≢◌, ◌⊎◌, inl, inr, ℕ, zero, suc, Bool, true, false, List, [], ◌∷◌, ◌++◌, map, refl, ap, ◌∙◌, sym, subst, arith}
use Rattle.std.specs.Prelude.{◌&&◌, if◌then◌else◌, nat_eq}
use Rattle.std.specs.List.{Contains, filter, flat_map}
use Rattle.std.proofs.lemmas.Bool.{cases_eq, eq-eqb, ne_eqb}
use Rattle.lp_model.specs.declared.terms.Term.{Term}
use Rattle.lp_model.specs.Sparse.{has}
use Rattle.problem_laws.proofs.Terms.{has-cons_same, has-cons_other}

pub none_in : {X : Type 0} (y : X) → Contains [] y → ⊥
none_in y c = omega (arith, c.1)

-- the first one, or one behind it
pub first_or_behind : {X : Type 0} (x : X) (xs : List X) (y : X) → Contains (x ∷ xs) y → (x ≡ y) ⊎ Contains xs y
first_or_behind x xs y (zero, l, e) = inl e
first_or_behind x xs y (suc k, l, e) = inr (k, omega (arith, l), e)

module _ {X : Type 0} (P : X → Type 0) where
  one_more_in : (x : X) (xs : List X) (y : X) → P x → (Contains xs y → P y) → Contains (x ∷ xs) y → P y
  one_more_in x xs y h rest c = by (first_or_behind x xs y c)
    where
      by : (x ≡ y) ⊎ Contains xs y → P y
      by (inl e) = subst P e h
      by (inr n) = rest n

  pub one_in : (x y : X) → P x → Contains (x ∷ []) y → P y
  one_in x y h c = one_more_in x [] y h (λ n. absurd (none_in y n)) c

  pub two_in : (x z y : X) → P x → P z → Contains (x ∷ z ∷ []) y → P y
  two_in x z y h k c = one_more_in x (z ∷ []) y h (one_in z y k) c

  pub three_in : (x z w y : X) → P x → P z → P w → Contains (x ∷ z ∷ w ∷ []) y → P y
  three_in x z w y h k l c = one_more_in x (z ∷ w ∷ []) y h (two_in z w y k l) c

  pub four_in : (x z w u y : X) → P x → P z → P w → P u → Contains (x ∷ z ∷ w ∷ u ∷ []) y → P y
  four_in x z w u y h k l m c = one_more_in x (z ∷ w ∷ u ∷ []) y h (three_in z w u y k l m) c

  pub five_in : (x z w u v y : X) → P x → P z → P w → P u → P v → Contains (x ∷ z ∷ w ∷ u ∷ v ∷ []) y → P y
  five_in x z w u v y h k l m n c = one_more_in x (z ∷ w ∷ u ∷ v ∷ []) y h (one_more_in z (w ∷ u ∷ v ∷ []) y k (three_in w u v y l m n)) c

  -- each of those that a function gives
  pub each_mapped : {Z : Type 0} (f : Z → X) (zs : List Z) (y : X) → ((z : Z) → Contains zs z → P (f z)) → Contains (map f zs) y → P y
  each_mapped f [] y h c = absurd (none_in y c)
  each_mapped f (z ∷ zs) y h c = one_more_in (f z) (map f zs) y (h z (0, omega arith, refl)) (each_mapped f zs y (λ w (k, l, e). h w (suc k, omega (arith, l), e))) c

pub alone : (k : ℕ) → Contains (k ∷ []) k
alone k = (0, omega arith, refl)

-- what a test keeps was there
pub kept_is : {X : Type 0} (t : X → Bool) (xs : List X) (y : X) → Contains (filter t xs) y → Contains xs y
kept_is t [] y c = c
kept_is t (x ∷ xs) y c = by (t x) (kept_is t xs y) c
  where
    later : Contains xs y → Contains (x ∷ xs) y
    later (k, l, e) = (suc k, omega (arith, l), e)

    by : (b : Bool) → (Contains (filter t xs) y → Contains xs y) → Contains (if b then x ∷ filter t xs else filter t xs) y → Contains (x ∷ xs) y
    by true rest d = first (first_or_behind x (filter t xs) y d)
      where
        first : (x ≡ y) ⊎ Contains (filter t xs) y → Contains (x ∷ xs) y
        first (inl e) = (0, omega arith, e)
        first (inr n) = later (rest n)
    by false rest d = later (rest d)

-- and what passes it stays
pub kept_passes : {X : Type 0} (t : X → Bool) (xs : List X) (y : X) → Contains (filter t xs) y → t y ≡ true
kept_passes t [] y c = absurd (none_in y c)
kept_passes t (x ∷ xs) y c = by (t x) refl c (kept_passes t xs y)
  where
    by : (b : Bool) → t x ≡ b → Contains (if b then x ∷ filter t xs else filter t xs) y → (Contains (filter t xs) y → t y ≡ true) → t y ≡ true
    by true e d rest = first (first_or_behind x (filter t xs) y d)
      where
        first : (x ≡ y) ⊎ Contains (filter t xs) y → t y ≡ true
        first (inl same) = subst (λ z. t z ≡ true) same e
        first (inr behind) = rest behind
    by false e d rest = rest d

pub passes_still : {X : Type 0} (t : X → Bool) (xs ys : List X) (y : X) → t y ≡ true → Contains (xs ++ ys) y → Contains (filter t xs ++ ys) y
passes_still t [] ys y h c = c
passes_still t (x ∷ xs) ys y h c = by (t x) refl (first_or_behind x (xs ++ ys) y c) (passes_still t xs ys y h)
  where
    by : (b : Bool) → t x ≡ b → (x ≡ y) ⊎ Contains (xs ++ ys) y → (Contains (xs ++ ys) y → Contains (filter t xs ++ ys) y) → Contains ((if b then x ∷ filter t xs else filter t xs) ++ ys) y
    by true g (inl e) rest = (0, omega arith, e)
    by true g (inr n) rest = let (k, l, e) = rest n in (suc k, omega (arith, l), e)
    by false g (inl e) rest = absurd (let d = sym g ∙ ap t e ∙ h in cc)
    by false g (inr n) rest = rest n

-- ---- what a flat map contains comes from somewhere
later_in : {Y : Type 0} (u y : Y) (us vs : List Y) → Contains us y ⊎ Contains vs y → Contains (u ∷ us) y ⊎ Contains vs y
later_in u y us vs (inl (i, m, g)) = inl (suc i, omega (arith, m), g)
later_in u y us vs (inr d) = inr d

in_either : {Y : Type 0} (us vs : List Y) (y : Y) → Contains (us ++ vs) y → Contains us y ⊎ Contains vs y
in_either [] vs y c = inr c
in_either (u ∷ us) vs y (zero, l, e) = inl (0, omega arith, e)
in_either (u ∷ us) vs y (suc k, l, e) = later_in u y us vs (in_either us vs y (k, omega (arith, l), e))

abbrev pub ComesFrom : {X Y : Type 0} → (X → List Y) → List X → Y → Type 0
ComesFrom f xs y = (x : _) × Contains xs x × Contains (f x) y

from_first : {X Y : Type 0} (f : X → List Y) (x : X) (xs : List X) (y : Y) → Contains (f x) y ⊎ Contains (flat_map f xs) y → (Contains (flat_map f xs) y → ComesFrom f xs y) → ComesFrom f (x ∷ xs) y
from_first f x xs y (inl d) ih = (x, (0, omega arith, refl), d)
from_first f x xs y (inr d) ih = let k = ih d in (k.0, (suc k.1.0, (let l = k.1.1 in omega (arith, l)), k.1.2), k.2)

pub comes_from : {X Y : Type 0} (f : X → List Y) (xs : List X) (y : Y) → Contains (flat_map f xs) y → ComesFrom f xs y
comes_from f [] y c = absurd (omega (arith, c.1))
comes_from f (x ∷ xs) y c = from_first f x xs y (in_either (f x) (flat_map f xs) y c) (comes_from f xs y)

-- ---- two tests, one after the other
pub filter_both : {X : Type 0} (t u : X → Bool) (xs : List X) → filter (λ x. t x && u x) xs ≡ filter u (filter t xs)
filter_both t u [] = refl
filter_both t u (x ∷ xs) = by (t x) (u x) refl (filter_both t u xs)
  where
    by : (a b : Bool) → u x ≡ b → filter (λ y. t y && u y) xs ≡ filter u (filter t xs)
        → (if a && b then x ∷ filter (λ y. t y && u y) xs else filter (λ y. t y && u y) xs) ≡ filter u (if a then x ∷ filter t xs else filter t xs)
    by true true h ih = ap (λ (ys : List _). x ∷ ys) ih ∙ ap (λ (s : Bool). if s then x ∷ filter u (filter t xs) else filter u (filter t xs)) (sym h)
    by true false h ih = ih ∙ ap (λ (s : Bool). if s then x ∷ filter u (filter t xs) else filter u (filter t xs)) (sym h)
    by false b h ih = ih

-- a test that all pass
pub filter_all : {X : Type 0} (t u : X → Bool) (xs : List X) → ((x : X) → Contains xs x → t x ≡ true) → filter (λ x. t x && u x) xs ≡ filter u xs
filter_all t u [] h = refl
filter_all t u (x ∷ xs) h = by (t x) (u x) (h x (0, omega arith, refl)) (filter_all t u xs (λ y (k, l, e). h y (suc k, omega (arith, l), e)))
  where
    by : (a b : Bool) → a ≡ true → filter (λ y. t y && u y) xs ≡ filter u xs → (if a && b then x ∷ filter (λ y. t y && u y) xs else filter (λ y. t y && u y) xs) ≡ (if b then x ∷ filter u xs else filter u xs)
    by true true e ih = ap (λ (ys : List _). x ∷ ys) ih
    by true false e ih = ih
    by false b e ih = absurd (let g = e in cc)

-- ---- a number is among some
abbrev pub is_in : List ℕ → ℕ → Bool
is_in [] k = false
is_in (x ∷ xs) k = if nat_eq x k then true else is_in xs k

pub in_contains : (xs : List ℕ) (k : ℕ) → is_in xs k ≡ true → Contains xs k
in_contains [] k h = absurd (let g = h in cc)
in_contains (x ∷ xs) k h = by (cases_eq x k) (in_contains xs k)
  where
    by : (x ≡ k) ⊎ (x ≢ k) → (is_in xs k ≡ true → Contains xs k) → Contains (x ∷ xs) k
    by (inl e) rest = (0, omega arith, e)
    by (inr n) rest = let (i, l, e) = rest (sym (ap (λ (b : Bool). if b then true else is_in xs k) (ne_eqb x k n)) ∙ h) in (suc i, omega (arith, l), e)

pub contains_in : (xs : List ℕ) (k : ℕ) → Contains xs k → is_in xs k ≡ true
contains_in [] k c = absurd (none_in k c)
contains_in (x ∷ xs) k c = by (cases_eq x k) (first_or_behind x xs k c) (contains_in xs k)
  where
    by : (x ≡ k) ⊎ (x ≢ k) → (x ≡ k) ⊎ Contains xs k → (Contains xs k → is_in xs k ≡ true) → (if nat_eq x k then true else is_in xs k) ≡ true
    by (inl e) d rest = ap (λ (b : Bool). if b then true else is_in xs k) (eq-eqb x k e)
    by (inr n) (inl e) rest = absurd (n e)
    by (inr n) (inr d) rest = ap (λ (b : Bool). if b then true else is_in xs k) (ne_eqb x k n) ∙ rest d

-- ---- terms
pub has_of : (ts : List Term) (t : Term) → Contains ts t → has t.id ts ≡ true
has_of [] t c = absurd (none_in t c)
has_of (u ∷ us) t c = by (first_or_behind u us t c) (cases_eq u.id t.id) (has_of us t)
  where
    by : (u ≡ t) ⊎ Contains us t → (u.id ≡ t.id) ⊎ (u.id ≢ t.id) → (Contains us t → has t.id us ≡ true) → has t.id (u ∷ us) ≡ true
    by (inl e) d rest = has-cons_same t.id u us (ap (λ (x : Term). x.id) e)
    by (inr n) (inl e) rest = has-cons_same t.id u us e
    by (inr n) (inr d) rest = has-cons_other t.id u us d ∙ rest n
