-- Names that differ, and those that are taken from them.
use Rattle.std.proofs.Common.{◌≡◌, ◌≢◌, ◌⊎◌, inl, inr, ℕ, zero, suc, ◌<◌, List, [], ◌∷◌, length, get_or, map, Bool, true, false, cond, sym, ap, ◌∙◌, subst, arith}
use Rattle.std.specs.List.{filter, All, AllPairs, Contains}
use Rattle.std.proofs.lemmas.List.{get_or-map, get_or_default, length-map}
use Rattle.std.proofs.lemmas.List.Elements.{All-filter, All-from_get_or, All-map, filter_passes}
use Rattle.std.proofs.lemmas.Bool.{cases_order, cases_eq}
use Rattle.lp_model.specs.Names.{Differ}

pub differ_none : Differ []
differ_none i j d l m = absurd (omega arith)

-- a name that none of the others is
pub differ_cons : (name : List ℕ) (names : List (List ℕ)) → All (λ other. name ≢ other) names → Differ names → Differ (name ∷ names)
differ_cons name names h t zero zero d l m = absurd (omega arith)
differ_cons name names h t zero (suc j) d l m = h j d (omega arith)
differ_cons name names h t (suc i) zero d l m = absurd (omega arith)
differ_cons name names h t (suc i) (suc j) d l m = t i j d (omega arith) (omega arith)

pub differ_head : (name : List ℕ) (names : List (List ℕ)) → Differ (name ∷ names) → All (λ other. name ≢ other) names
differ_head name names h k d l = h 0 (suc k) d (omega arith) (omega arith)

pub differ_tail : (name : List ℕ) (names : List (List ℕ)) → Differ (name ∷ names) → Differ names
differ_tail name names h i j d l m = h (suc i) (suc j) d (omega arith) (omega arith)

-- names at two places
pub differ_apart : (names : List (List ℕ)) (i k : ℕ) (d : List ℕ) → Differ names → i ≢ k → i < length names → k < length names → get_or names i d ≢ get_or names k d
differ_apart names i k d h n l m = by (cases_order i k)
  where
    by : (i ≡ k) ⊎ ((i < k) ⊎ (k < i)) → get_or names i d ≢ get_or names k d
    by (inl e) = absurd (n e)
    by (inr (inl b)) = h i k d b m
    by (inr (inr b)) = λ e. h k i d b l (sym e)

-- what holds of each name that a list of things has, and the other way
pub all_names : {X : Type 0} (P : List ℕ → Type 0) (name : X → List ℕ) (xs : List X) → All P (map name xs) → All (λ x. P (name x)) xs
all_names P name xs h k d l = subst P (get_or-map name xs k d (name d) l) (h k (name d) (subst (λ n. k < n) (sym (length-map xs name)) l))

-- the names of those that pass a test
pub differ_kept : {X : Type 0} (name : X → List ℕ) (p : X → Bool) (xs : List X) → Differ (map name xs) → Differ (map name (filter p xs))
differ_kept name p [] h = h
differ_kept {X} name p (x ∷ xs) h = by (p x) (differ_kept name p xs (differ_tail (name x) (map name xs) h))
  where
    fresh : All (λ other. name x ≢ other) (map name (filter p xs))
    fresh = All-map (λ other. name x ≢ other) name (filter p xs) (All-filter p (λ (y : X). name x ≢ name y) xs (all_names (λ other. name x ≢ other) name xs (differ_head (name x) (map name xs) h)))

    by : (b : Bool) → Differ (map name (filter p xs)) → Differ (map name (cond b (x ∷ filter p xs) (filter p xs)))
    by true rest = differ_cons (name x) (map name (filter p xs)) fresh rest
    by false rest = rest

-- the names that pass a test
pub differ_filter : (p : List ℕ → Bool) (names : List (List ℕ)) → Differ names → Differ (filter p names)
differ_filter p [] h = h
differ_filter p (n ∷ ns) h = by (p n) (differ_filter p ns (differ_tail n ns h))
  where
    by : (b : Bool) → Differ (filter p ns) → Differ (cond b (n ∷ filter p ns) (filter p ns))
    by true rest = differ_cons n (filter p ns) (All-filter p (λ m. n ≢ m) ns (differ_head n ns h)) rest
    by false rest = rest

-- the name of one that does not pass, and the names of those that do
pub differ_besides : {X : Type 0} (name : X → List ℕ) (p : X → Bool) (xs : List X) (x : X) → Differ (map name xs) → Contains xs x → p x ≡ false → Differ (name x ∷ map name (filter p xs))
differ_besides {X} name p xs x h at fails = differ_cons (name x) (map name (filter p xs)) (All-map (λ other. name x ≢ other) name (filter p xs) apart) (differ_kept name p xs h)
  where
    here : get_or xs at.0 x ≡ x
    here = at.2

    not_both : (y : X) → y ≡ x → p y ≡ true → ⊥
    not_both y e t = let f : p y ≡ false = ap p e ∙ fails in cc

    other : (k : ℕ) (d : X) → k < length xs → p (get_or xs k d) ≡ true → name x ≢ name (get_or xs k d)
    other k d l t e = by (cases_eq at.0 k)
      where
        by : (at.0 ≡ k) ⊎ (at.0 ≢ k) → ⊥
        by (inl same) = not_both (get_or xs k d) (get_or_default xs k d x l ∙ ap (λ n. get_or xs n x) (sym same) ∙ here) t
        by (inr n) = differ_apart (map name xs) at.0 k (name d) h n
            (subst (λ m. at.0 < m) (sym (length-map xs name)) at.1)
            (subst (λ m. k < m) (sym (length-map xs name)) l)
            (get_or-map name xs at.0 x (name d) at.1 ∙ ap name here ∙ e ∙ sym (get_or-map name xs k d (name d) l))

    apart : All (λ (y : X). name x ≢ name y) (filter p xs)
    apart k d l = All-filter p (λ (y : X). p y ≡ true → name x ≢ name y) xs other k d l (filter_passes p xs k d l)

-- the names at ids that differ
pub differ_picked : (names : List (List ℕ)) (ids : List ℕ) → AllPairs (λ i k. i ≢ k) ids → All (λ i. i < length names) ids → Differ names → Differ (map (λ i. get_or names i []) ids)
differ_picked names ids apart below h i j d l m =
    let long : j < length ids = subst (λ n. j < n) (length-map ids (λ i. get_or names i [])) m in
    let first : i < length ids = omega arith in
    λ e. differ_apart names (get_or ids i 0) (get_or ids j 0) [] h (apart i j 0 l long) (below i 0 first) (below j 0 long)
    (sym (get_or-map (λ i. get_or names i []) ids i 0 d first) ∙ e ∙ get_or-map (λ i. get_or names i []) ids j 0 d long)

-- a name and those of a list of things
pub differ_first : {X : Type 0} (first : List ℕ) (name : X → List ℕ) (d : X) (xs : List X) → ((i : ℕ) → i < length xs → first ≢ name (get_or xs i d)) → Differ (map name xs) → Differ (first ∷ map name xs)
differ_first {X} first name d xs fresh h = differ_cons first (map name xs) (All-map (λ other. first ≢ other) name xs (All-from_get_or (λ (y : X). first ≢ name y) xs d fresh)) h

pub differ_parts : {X : Type 0} (first : List ℕ) (name : X → List ℕ) (d : X) (xs : List X) → Differ (first ∷ map name xs) → ((i : ℕ) → i < length xs → first ≢ name (get_or xs i d)) × Differ (map name xs)
differ_parts first name d xs h = (λ i l. all_names (λ other. first ≢ other) name xs (differ_head first (map name xs) h) i d l, differ_tail first (map name xs) h)

-- the same where the first name is that of the first thing
pub differ_more : {X : Type 0} (name : X → List ℕ) (d x : X) (xs ys : List X) → ys ≡ x ∷ xs → ((i : ℕ) → i < length xs → name x ≢ name (get_or xs i d)) → Differ (map name xs) → Differ (map name ys)
differ_more {X} name d x xs ys e fresh h = subst (λ (zs : List X). Differ (map name zs)) (sym e) (differ_first (name x) name d xs fresh h)

pub differ_less : {X : Type 0} (name : X → List ℕ) (d x : X) (xs ys : List X) → ys ≡ x ∷ xs → Differ (map name ys) → ((i : ℕ) → i < length xs → name x ≢ name (get_or xs i d)) × Differ (map name xs)
differ_less {X} name d x xs ys e h = differ_parts (name x) name d xs (subst (λ (zs : List X). Differ (map name zs)) e h)

pub differ_empty : {X : Type 0} (name : X → List ℕ) (xs : List X) → length xs ≡ 0 → Differ (map name xs)
differ_empty name [] e = differ_none
differ_empty name (x ∷ xs) e = absurd (omega arith)
