-- What is found in pieces, piece by piece.
use Rattle.std.proofs.Common.{◌≡◌, Bool, List, [], ◌∷◌, ◌++◌, refl, sym, ap, ◌∙◌, append_assoc}
use Rattle.std.proofs.lemmas.List.Elements.{All-cons, All-nil, filter-append}
use Rattle.std.specs.List.{All, AllZip, filter, flat_map}

-- what holds of the right ones of pairs holds of each
pub all_right : {X Y : Type 0} (R : X → Y → Type 0) (P : Y → Type 0) → ((x : X) (y : Y) → R x y → P y) → (xs : List X) (ys : List Y) → AllZip R xs ys → All P ys
all_right R P turn [] [] h = All-nil P
all_right R P turn [] (y ∷ ys) h = absurd h
all_right R P turn (x ∷ xs) [] h = absurd h
all_right R P turn (x ∷ xs) (y ∷ ys) h = All-cons P y ys (turn x y h.0) (all_right R P turn xs ys h.1)

-- what follows of each pair
pub pairs_weaker : {X Y : Type 0} (R S : X → Y → Type 0) → ((x : X) (y : Y) → R x y → S x y) → (xs : List X) (ys : List Y) → AllZip R xs ys → AllZip S xs ys
pairs_weaker R S turn [] [] h = tt
pairs_weaker R S turn [] (y ∷ ys) h = absurd h
pairs_weaker R S turn (x ∷ xs) [] h = absurd h
pairs_weaker R S turn (x ∷ xs) (y ∷ ys) h = (turn x y h.0, pairs_weaker R S turn xs ys h.1)

-- ---- a test of what pieces have, piece by piece or at once
pub tested : {T X : Type 0} (P : X → Bool) (f : T → List X) (ts : List T) → flat_map (λ t. filter P (f t)) ts ≡ filter P (flat_map f ts)
tested P f [] = refl
tested P f (t ∷ ts) = ap (λ xs. filter P (f t) ++ xs) (tested P f ts) ∙ sym (filter-append P (f t) (flat_map f ts))

pub flat_append : {T X : Type 0} (f : T → List X) (ts us : List T) → flat_map f (ts ++ us) ≡ flat_map f ts ++ flat_map f us
flat_append f [] us = refl
flat_append f (t ∷ ts) us = ap (λ xs. f t ++ xs) (flat_append f ts us) ∙ sym (append_assoc (f t) (flat_map f ts) (flat_map f us))
