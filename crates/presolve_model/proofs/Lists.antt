-- What lists contain.
use Rattle.std.proofs.Common.{◌≡◌, ◌≢◌, ◌⊎◌, inl, inr, ℕ, ◌+◌, Bool, true, false, cond, zero, suc, ◌<◌, List, [], ◌∷◌, ◌++◌, length, map, get_or, ap, ap₂, refl, sym, ◌∙◌, subst, arith, true≢false}
use Rattle.std.specs.Prelude.{◌||◌}
use Rattle.std.specs.List.{All, Contains, filter, flat_map, range_with_len}
use Rattle.std.proofs.lemmas.Bool.{cases_eq}
use Rattle.std.proofs.lemmas.List.Elements.{All-nil, All-cons, All-head, All-tail, Contains-append_left, Contains-append_right}
use Rattle.std.proofs.lemmas.List.FromFn.{length-range_with_len, get_or-range_with_len}
use Rattle.lp_model.specs.declared.terms.Term.{Term}
use Rattle.lp_model.specs.Sparse.{has}
use Rattle.problem_laws.proofs.Terms.{has-cons_other}
use Rattle.undo_records.specs.declared.side.Side.{Side}
use Rattle.undo_records.specs.declared.side.Side.TheVariants.{Lower, Upper}
use Rattle.activity_laws.specs.BoundTightening.{bounds_of as named_bounds}
use Rattle.dual_laws.specs.DominatedColumn.{pairs_of}

flat_at : {X Y : Type 0} (f : X → List Y) (xs : List X) (x : X) (y : Y) (k : ℕ) → k < length xs → get_or xs k x ≡ x → Contains (f x) y → Contains (flat_map f xs) y
flat_at f [] x y k l e d = absurd (omega (arith, l))
flat_at f (z ∷ xs) x y zero l e d = Contains-append_left (f z) (flat_map f xs) y (subst (λ w. Contains (f w) y) (sym e) d)
flat_at f (z ∷ xs) x y (suc k) l e d = Contains-append_right (f z) (flat_map f xs) y (flat_at f xs x y k (omega (arith, l)) e d)

pub contains_flat : {X Y : Type 0} (f : X → List Y) (xs : List X) (x : X) (y : Y) → Contains xs x → Contains (f x) y → Contains (flat_map f xs) y
contains_flat f xs x y c d = flat_at f xs x y c.0 c.1 c.2 d

pub contains_map : {X Y : Type 0} (f : X → Y) (xs : List X) (x : X) → Contains xs x → Contains (map f xs) (f x)
contains_map f [] x (k, l, e) = absurd (omega (arith, l))
contains_map f (z ∷ xs) x (zero, l, e) = (zero, omega arith, ap f e)
contains_map f (z ∷ xs) x (suc k, l, e) = let (i, m, d) = contains_map f xs x (k, omega (arith, l), e) in (suc i, omega (arith, m), d)

-- each number below n is in the range
pub contains_range : (n k : ℕ) → k < n → Contains (range_with_len 0 n) k
contains_range n k l = (k, omega (arith, l, length-range_with_len 0 n), (let z : 0 + k ≡ k = omega arith in get_or-range_with_len 0 n k k l ∙ z))

-- each of those that a function gives
pub each_mapped : {X Y : Type 0} (P : Y → Type 0) (f : X → Y) (xs : List X) (y : Y) → ((x : X) → P (f x)) → Contains (map f xs) y → P y
each_mapped P f [] y h (k, l, e) = absurd (omega (arith, l))
each_mapped P f (x ∷ xs) y h (zero, l, e) = subst P e (h x)
each_mapped P f (x ∷ xs) y h (suc k, l, e) = each_mapped P f xs y h (k, omega (arith, l), e)

-- a term with an id that terms have
term_with : (ts : List Term) (i : ℕ) → has i ts ≡ true → (t : Term) × Contains ts t × (t.id ≡ i)
term_with [] i h = absurd (true≢false (sym h))
term_with (t ∷ ts) i h = by (cases_eq t.id i) (term_with ts i)
  where
    by : (t.id ≡ i) ⊎ (t.id ≢ i) → (has i ts ≡ true → (u : Term) × Contains ts u × (u.id ≡ i)) → (u : Term) × Contains (t ∷ ts) u × (u.id ≡ i)
    by (inl e) rest = (t, (zero, omega arith, refl), e)
    by (inr n) rest = let (u, (k, l, e), d) = rest (sym (has-cons_other i t ts n) ∙ h) in (u, (suc k, omega (arith, l), e), d)

-- a pair of columns that terms name is among those of the terms
pub contains_pair : (ts : List Term) (j k : ℕ) → has j ts ≡ true → has k ts ≡ true → Contains (pairs_of ts) (j, k)
contains_pair ts j k h g = by (term_with ts j h) (term_with ts k g)
  where
    by : ((t : Term) × Contains ts t × (t.id ≡ j)) → ((u : Term) × Contains ts u × (u.id ≡ k)) → Contains (pairs_of ts) (j, k)
    by (t, c, e) (u, d, f) = contains_flat (λ t. map (λ u. (t.id, u.id)) ts) ts t (j, k) c
        (subst (Contains (map (λ u. (t.id, u.id)) ts)) (ap₂ (λ (a b : ℕ). (a, b)) e f) (contains_map (λ u. (t.id, u.id)) ts u d))

-- ---- of what passes
pub contains_filter : {X : Type 0} (t : X → Bool) (xs : List X) (x : X) → Contains xs x → t x ≡ true → Contains (filter t xs) x
contains_filter t [] x c h = absurd (let l = c.1 in omega (arith, l))
contains_filter t (z ∷ xs) x (zero, l, e) h = subst (λ (b : Bool). Contains (cond b (z ∷ filter t xs) (filter t xs)) x) (sym (ap t e ∙ h)) (0, omega arith, e)
contains_filter t (z ∷ xs) x (suc k, l, e) h = by (t z) (contains_filter t xs x (k, omega (arith, l), e) h)
  where
    by : (b : Bool) → Contains (filter t xs) x → Contains (cond b (z ∷ filter t xs) (filter t xs)) x
    by true (i, m, d) = (suc i, omega (arith, m), d)
    by false c = c

-- one of two
pub either_true : (a b : Bool) → (a || b) ≡ true → (a ≡ true) ⊎ (b ≡ true)
either_true true b e = inl refl
either_true false b e = inr e

-- an id that terms have is among those of the terms
pub contains_id : (ts : List Term) (j : ℕ) → has j ts ≡ true → Contains (map (λ t. t.id) ts) j
contains_id ts j h = by (term_with ts j h)
  where
    by : ((t : Term) × Contains ts t × (t.id ≡ j)) → Contains (map (λ t. t.id) ts) j
    by (t, c, e) = subst (Contains (map (λ t. t.id) ts)) e (contains_map (λ t. t.id) ts t c)

-- a bound of a column that terms name is among those of the terms
pub contains_bound : (ts : List Term) (j : ℕ) (side : Side) → has j ts ≡ true → Contains (named_bounds ts) (j, side)
contains_bound ts j side h = by (term_with ts j h)
  where
    here : (s : Side) → Contains {X = ℕ × Side} ((j, Lower) ∷ (j, Upper) ∷ []) (j, s)
    here Lower = (0, omega arith, refl)
    here Upper = (1, omega arith, refl)

    by : ((t : Term) × Contains ts t × (t.id ≡ j)) → Contains (named_bounds ts) (j, side)
    by (t, c, e) = contains_flat (λ t. (t.id, Lower) ∷ (t.id, Upper) ∷ []) ts t (j, side) c
        (subst (λ (k : ℕ). Contains {X = ℕ × Side} ((k, Lower) ∷ (k, Upper) ∷ []) (j, side)) (sym e) (here side))

pub map_same : {X Y : Type 0} (f g : X → Y) (xs : List X) → All (λ x. f x ≡ g x) xs → map f xs ≡ map g xs
map_same f g [] h = refl
map_same f g (x ∷ xs) h = ap₂ ◌∷◌ (All-head (λ x. f x ≡ g x) x xs h) (map_same f g xs (All-tail (λ x. f x ≡ g x) x xs h))

pub all_left : {X : Type 0} (P : X → Type 0) (xs ys : List X) → All P (xs ++ ys) → All P xs
all_left P [] ys h = All-nil P
all_left P (x ∷ xs) ys h = All-cons P x xs (All-head P x (xs ++ ys) h) (all_left P xs ys (All-tail P x (xs ++ ys) h))

pub all_right : {X : Type 0} (P : X → Type 0) (xs ys : List X) → All P (xs ++ ys) → All P ys
all_right P [] ys h = h
all_right P (x ∷ xs) ys h = all_right P xs ys (All-tail P x (xs ++ ys) h)
