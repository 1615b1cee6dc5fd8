-- An id that is put in at its place.
use Rattle.std.proofs.Common.{◌≡◌, ◌⊎◌, inl, inr, ℕ, zero, suc, ◌+◌, ◌<◌, ◌≤◌, List, [], ◌∷◌, length, get_or, take, drop, refl, sym, subst, arith, Err}
use Rattle.std.specs.Prelude.{insert}
use Rattle.std.specs.List.{Contains}
use Rattle.std.specs.List.Sorted.{IsBinarySearchResult}
use Rattle.std.specs.Ordering.{nat_cmp}
use Rattle.std.proofs.lemmas.List.Sorted.{searched}
use Rattle.std.proofs.lemmas.List.{take-append-drop}
use Rattle.std.proofs.lemmas.List.Elements.{Contains-append_left, Contains-append_right, Contains-append_cases}
use Rattle.sorted_ids.specs.Ascending.{AscendsFrom}

pub kept : (xs : List ℕ) (i x k : ℕ) → Contains xs k → Contains (insert xs i x) k
kept xs i x k h = by (Contains-append_cases (take i xs) (drop i xs) k (subst (λ (ys : List ℕ). Contains ys k) (sym (take-append-drop i xs)) h))
  where
    by : Contains (take i xs) k ⊎ Contains (drop i xs) k → Contains (insert xs i x) k
    by (inl a) = Contains-append_left (take i xs) (x ∷ drop i xs) k a
    by (inr b) = Contains-append_right (take i xs) (x ∷ drop i xs) k (Contains-append_right (x ∷ []) (drop i xs) k b)

-- ---- ids that ascend
above : (a : ℕ) (xs : List ℕ) → AscendsFrom a xs → (k : ℕ) → k < length xs → a ≤ get_or xs k 0
above a [] h k l = absurd (omega (arith, l))
above a (x ∷ xs) (h, hs) zero l = h
above a (x ∷ xs) (h, hs) (suc k) l = let rest = above (x + 1) xs hs k (omega (arith, l)) in omega (arith, h, rest)

pub rises : (a : ℕ) (xs : List ℕ) → AscendsFrom a xs → (i j : ℕ) → i ≤ j → j < length xs → get_or xs i 0 ≤ get_or xs j 0
rises a [] h i j e l = absurd (omega (arith, l))
rises a (x ∷ xs) h zero zero e l = omega arith
rises a (x ∷ xs) (h, hs) zero (suc j) e l = let rest = above (x + 1) xs hs j (omega (arith, l)) in omega (arith, rest)
rises a (x ∷ xs) (h, hs) (suc i) zero e l = absurd (omega (arith, e))
rises a (x ∷ xs) (h, hs) (suc i) (suc j) e l = rises (x + 1) xs hs i j (omega (arith, e)) (omega (arith, l))

first : (xs : List ℕ) (x : ℕ) → insert xs zero x ≡ x ∷ xs
first [] x = refl
first (y ∷ ys) x = refl

raised : (a b : ℕ) (xs : List ℕ) → AscendsFrom a xs → (0 < length xs → b ≤ get_or xs 0 0) → AscendsFrom b xs
raised a b [] h l = tt
raised a b (x ∷ xs) (h, hs) l = (l (omega arith), hs)

pub ascends : (a : ℕ) (xs : List ℕ) (i x : ℕ) → AscendsFrom a xs → a ≤ x → i ≤ length xs → ((k : ℕ) → k < i → get_or xs k 0 < x) → ((k : ℕ) → i ≤ k → k < length xs → x < get_or xs k 0) → AscendsFrom a (insert xs i x)
ascends a xs zero x h b l low high = subst (AscendsFrom a) (sym (first xs x)) (b, raised a (x + 1) xs h (λ m. let g = high zero (omega arith) m in omega (arith, g)))
ascends a [] (suc i) x h b l low high = absurd (omega (arith, l))
ascends a (y ∷ ys) (suc i) x (h, hs) b l low high =
    (h, ascends (y + 1) ys i x hs (let g = low zero (omega arith) in omega (arith, g)) (omega (arith, l)) (λ k m. low (suc k) (omega (arith, m))) (λ k m n. high (suc k) (omega (arith, m)) (omega (arith, n))))

-- ---- at the place that a search tells
pub put_kept : (old ys new : List ℕ) (i x : ℕ) → ys ≡ old → new ≡ insert ys i x → (k : ℕ) → Contains old k → Contains new k
put_kept old ys new i x e f k h = subst (λ (zs : List ℕ). Contains zs k) (sym f) (kept ys i x k (subst (λ (zs : List ℕ). Contains zs k) (sym e) h))

pub put_ascends : (old ys xs new : List ℕ) (i x : ℕ) → ys ≡ old → xs ≡ ys → new ≡ insert ys i x → IsBinarySearchResult (λ y. nat_cmp y x) xs (Err i) → AscendsFrom 0 old → AscendsFrom 0 new
put_ascends old ys xs new i x e g f b h =
    let up : AscendsFrom 0 ys = subst (AscendsFrom 0) (sym e) h in
    let found = searched ys x (Err i) (subst (λ (zs : List ℕ). IsBinarySearchResult (λ y. nat_cmp y x) zs (Err i)) g b) (rises 0 ys up) in
    subst (AscendsFrom 0) (sym f) (ascends 0 ys i x up (omega arith) found.0 found.1 found.2)
