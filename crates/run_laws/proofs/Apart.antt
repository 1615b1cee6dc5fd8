-- Lists in which nothing stands twice.
use Rattle.std.proofs.Common.{◌≡◌, ◌≢◌, ◌⊎◌, inl, inr, ℕ, zero, suc, ◌+◌, ◌≤◌, Bool, true, false, cond, List, [], ◌∷◌, ◌++◌, map, refl, sym, ap, ◌∙◌, subst, arith}
use Rattle.std.specs.List.{All, AllPairs, Contains, filter, flat_map, range_with_len}
use Rattle.std.proofs.lemmas.List.Elements.{All-cons, All-nil, Contains-append_cases}
use Rattle.std.proofs.lemmas.List.Kept.{AllPairs-cons}
use Rattle.lp_model.specs.Sparse.{Ascends}
use Rattle.lp_model.specs.declared.terms.Term.{Term}
use Rattle.presolve_model.proofs.Lists.{contains_map}
use Rattle.place_laws.proofs.ShortLists.{comes_from, first_or_behind, kept_is, none_in}

-- the first is none of the others, and so on
abbrev pub Apart : {X : Type 0} → List X → Type 0
Apart [] = Unit {0}
Apart (x ∷ xs) = ((y : _) → Contains xs y → x ≢ y) × Apart xs

others : {X : Type 0} (x : X) (xs : List X) → ((y : X) → Contains xs y → x ≢ y) → All (λ y. x ≢ y) xs
others x [] h = All-nil (λ y. x ≢ y)
others x (z ∷ xs) h = All-cons (λ y. x ≢ y) z xs (h z (zero, omega arith, refl)) (others x xs (λ y c. h y (suc c.0, (let l = c.1 in omega (arith, l)), c.2)))

pub all_pairs : {X : Type 0} (xs : List X) → Apart xs → AllPairs (λ x y. x ≢ y) xs
all_pairs [] a = λ i j d l m. absurd (omega (arith, l, m))
all_pairs (x ∷ xs) a = AllPairs-cons (λ x y. x ≢ y) x xs (others x xs a.0) (all_pairs xs a.1)

pub apart_one : {X : Type 0} (x : X) → Apart (x ∷ [])
apart_one x = (λ y c e. none_in y c, tt)

pub apart_two : {X : Type 0} (x y : X) → x ≢ y → Apart (x ∷ y ∷ [])
apart_two x y n = (λ z c e. by z (first_or_behind y [] z c) e, apart_one y)
  where
    by : (z : _) → (y ≡ z) ⊎ Contains [] z → x ≡ z → ⊥
    by z (inl f) e = n (e ∙ sym f)
    by z (inr c) e = none_in z c

pub apart_append : {X : Type 0} (xs ys : List X) → Apart xs → Apart ys → ((x y : X) → Contains xs x → Contains ys y → x ≢ y) → Apart (xs ++ ys)
apart_append [] ys a b h = b
apart_append (x ∷ xs) ys a b h = (
  λ y c. by y (Contains-append_cases xs ys y c),
  apart_append xs ys a.1 b (λ z y c d. h z y (suc c.0, (let l = c.1 in omega (arith, l)), c.2) d),
)
  where
    by : (y : _) → Contains xs y ⊎ Contains ys y → x ≢ y
    by y (inl c) = a.0 y c
    by y (inr d) = h x y (zero, omega arith, refl) d

pub apart_filter : {X : Type 0} (t : X → Bool) (xs : List X) → Apart xs → Apart (filter t xs)
apart_filter t [] a = tt
apart_filter t (x ∷ xs) a = by (t x) (apart_filter t xs a.1)
  where
    by : (b : Bool) → Apart (filter t xs) → Apart (cond b (x ∷ filter t xs) (filter t xs))
    by true r = (λ y c. a.0 y (kept_is t xs y c), r)
    by false r = r

-- what a mapped list has comes from the list
pub mapped_from : {X Y : Type 0} (f : X → Y) (xs : List X) (y : Y) → Contains (map f xs) y → (x : X) × Contains xs x × (f x ≡ y)
mapped_from f [] y c = absurd (none_in y c)
mapped_from f (x ∷ xs) y c = by (first_or_behind (f x) (map f xs) y c) (mapped_from f xs y)
  where
    by : (f x ≡ y) ⊎ Contains (map f xs) y → (Contains (map f xs) y → (z : _) × Contains xs z × (f z ≡ y)) → (z : _) × Contains (x ∷ xs) z × (f z ≡ y)
    by (inl e) ih = (x, (zero, omega arith, refl), e)
    by (inr d) ih = let k = ih d in (k.0, (suc k.1.0, (let l = k.1.1 in omega (arith, l)), k.1.2), k.2)

pub mapped_to : {X Y : Type 0} (f : X → Y) (xs : List X) (x : X) → Contains xs x → Contains (map f xs) (f x)
mapped_to f xs x c = contains_map f xs x c

pub apart_map : {X Y : Type 0} (f : X → Y) (xs : List X) → ((x y : X) → f x ≡ f y → x ≡ y) → Apart xs → Apart (map f xs)
apart_map f [] same a = tt
apart_map f (x ∷ xs) same a = (λ y c e. let from = mapped_from f xs y c in a.0 from.0 from.1 (same x from.0 (e ∙ sym from.2)), apart_map f xs same a.1)

-- lists of parts whose keys are apart, and which have nothing twice themselves
pub apart_flat : {X Y K : Type 0} (f : X → List Y) (key : X → K) (xs : List X) → Apart (map key xs) → ((x : X) → Contains xs x → Apart (f x))
    → ((x z : X) (y : Y) → Contains (f x) y → Contains (f z) y → key x ≡ key z) → Apart (flat_map f xs)
apart_flat f key [] a each same = tt
apart_flat f key (x ∷ xs) a each same = apart_append (f x) (flat_map f xs) (each x (zero, omega arith, refl))
    (apart_flat f key xs a.1 (λ z c. each z (suc c.0, (let l = c.1 in omega (arith, l)), c.2)) same)
    (λ y w c d e. let from = comes_from f xs w d in a.0 (key from.0) (mapped_to key xs from.0 from.1) (same x from.0 y c (subst (Contains (f from.0)) (sym e) from.2)))

-- ---- ids that ascend
pub apart_ids : (ts : List Term) (m n : ℕ) → Ascends m n ts → Apart (map (λ t. t.id) ts)
apart_ids [] m n a = tt
apart_ids (t ∷ ts) m n a = (λ y c e. let l = from_on ts (suc t.id) a.3 y c in omega (arith, l, e), apart_ids ts (suc t.id) n a.3)
  where
    from_on : (us : List Term) (k : ℕ) → Ascends k n us → (y : ℕ) → Contains (map (λ t. t.id) us) y → k ≤ y
    from_on [] k b y c = absurd (none_in y c)
    from_on (u ∷ us) k b y c = by (first_or_behind u.id (map (λ t. t.id) us) y c) (from_on us (suc u.id) b.3 y)
      where
        by : (u.id ≡ y) ⊎ Contains (map (λ t. t.id) us) y → (Contains (map (λ t. t.id) us) y → suc u.id ≤ y) → k ≤ y
        by (inl e) ih = let l = b.0 in omega (arith, l, e)
        by (inr d) ih = let l = b.0 in let g = ih d in omega (arith, l, g)

pub apart_range : (m n : ℕ) → Apart (range_with_len m n)
apart_range m zero = tt
apart_range m (suc n) = (λ y c e. let l = from_on (m + 1) n y c in omega (arith, l, e), apart_range (m + 1) n)
  where
    from_on : (k l : ℕ) (y : ℕ) → Contains (range_with_len k l) y → k ≤ y
    from_on k zero y c = absurd (none_in y c)
    from_on k (suc l) y c = by (first_or_behind k (range_with_len (k + 1) l) y c) (from_on (k + 1) l y)
      where
        by : (k ≡ y) ⊎ Contains (range_with_len (k + 1) l) y → (Contains (range_with_len (k + 1) l) y → k + 1 ≤ y) → k ≤ y
        by (inl e) ih = omega (arith, e)
        by (inr d) ih = let g = ih d in omega (arith, g)

pub apart_by : {X : Type 0} (f : X → ℕ) (xs : List X) → Apart (map f xs) → Apart xs
apart_by f [] a = tt
apart_by f (x ∷ xs) a = (λ y c e. a.0 (f y) (mapped_to f xs y c) (ap f e), apart_by f xs a.1)
