-- Lists by index, and an element more.
use Rattle.std.proofs.Common.{◌≡◌, ℕ, zero, suc, ◌+◌, ◌<◌, List, [], ◌∷◌, ◌++◌, map, ◌∙◌, sym, refl, ap, ap₂, arith}
use Rattle.std.specs.List.{All, range_with_len}
use Rattle.std.proofs.lemmas.List.Elements.{All-nil, All-cons}
use Rattle.std.proofs.lemmas.List.FromFn.{map-range_with_len_more}

pub listed : {X : Type 0} (f : ℕ → X) (xs ys : List X) (x : X) (n : ℕ) → xs ≡ map f (range_with_len 0 n) → ys ≡ xs ++ x ∷ [] → x ≡ f n → ys ≡ map f (range_with_len 0 (n + 1))
listed f xs ys x n before pushed is =
    let e : 0 + n ≡ n = omega arith in
    pushed ∙ ap₂ (λ zs z. zs ++ z ∷ []) before is ∙ sym (map-range_with_len_more f 0 n n e)

pub map_same : {X : Type 0} (f g : ℕ → X) (a n : ℕ) → ((i : ℕ) → i < a + n → f i ≡ g i) → map f (range_with_len a n) ≡ map g (range_with_len a n)
map_same f g a zero same = refl
map_same f g a (suc n) same = ap₂ (λ z zs. z ∷ zs) (same a (omega arith)) (map_same f g (a + 1) n (λ i l. same i (omega (arith, l))))

pub map_joined : {X Y : Type 0} (g : X → Y) (f : ℕ → X) (xs : List ℕ) → map g (map f xs) ≡ map (λ i. g (f i)) xs
map_joined g f [] = refl
map_joined g f (x ∷ xs) = ap (λ zs. g (f x) ∷ zs) (map_joined g f xs)

pub all_listed : {X : Type 0} (P : X → Type 0) (f : ℕ → X) (xs : List ℕ) → ((i : ℕ) → P (f i)) → All P (map f xs)
all_listed P f [] each = All-nil P
all_listed P f (x ∷ xs) each = All-cons P (f x) (map f xs) (each x) (all_listed P f xs each)
