-- Lists whose items stand one for one.
use Rattle.std.proofs.Common.{◌≡◌, ◌↔◌, Bool, true, false, cond, List, [], ◌∷◌, ◌++◌, map, refl, subst, sym, ap₂, ◌∙◌}
use Rattle.std.specs.List.{All, filter, flat_map}
use Rattle.std.proofs.lemmas.List.{map-append}
use Rattle.std.proofs.lemmas.List.Elements.{All-append, All-cons, All-head, All-nil, All-tail}

module _ {X Y : Type 0} (P : X → Type 0) (Q : Y → Type 0) (f : X → Y) where
  pub all_both : (xs : List X) → All (λ x. P x ↔ Q (f x)) xs → All P xs ↔ All Q (map f xs)
  all_both [] h = (λ a. All-nil Q, λ a. All-nil P)
  all_both (x ∷ xs) h =
      let first = All-head (λ x. P x ↔ Q (f x)) x xs h in
      let others = all_both xs (All-tail (λ x. P x ↔ Q (f x)) x xs h) in (
        λ a. All-cons Q (f x) (map f xs) (first.0 (All-head P x xs a)) (others.0 (All-tail P x xs a)),
        λ a. All-cons P x xs (first.1 (All-head Q (f x) (map f xs) a)) (others.1 (All-tail Q (f x) (map f xs) a)),
      )

pub all_one : {X : Type 0} (P : X → Type 0) (x : X) → P x → All P (x ∷ [])
all_one P x h = All-cons P x [] h (All-nil P)

pub all_two : {X : Type 0} (P : X → Type 0) (x y : X) → P x → P y → All P (x ∷ y ∷ [])
all_two P x y h k = All-cons P x (y ∷ []) h (all_one P y k)

pub all_first : {X : Type 0} (P : X → Type 0) (xs ys : List X) → All P (xs ++ ys) → All P xs
all_first P [] ys h = All-nil P
all_first P (x ∷ xs) ys h = All-cons P x xs (All-head P x (xs ++ ys) h) (all_first P xs ys (All-tail P x (xs ++ ys) h))

-- ---- lists that are made of items, before and after a change of the items
pub map_across : {X X' Y Y' : Type 0} (f : X → X') (old : X → Y) (g : Y → Y') (new : X' → Y') → ((x : X) → new (f x) ≡ g (old x))
    → (xs : List X) → map new (map f xs) ≡ map g (map old xs)
map_across f old g new e [] = refl
map_across f old g new e (x ∷ xs) = ap₂ ◌∷◌ (e x) (map_across f old g new e xs)

-- where that is so of the items that are there
pub map_where : {X X' Y Y' : Type 0} (f : X → X') (old : X → Y) (g : Y → Y') (new : X' → Y') (xs : List X) → All (λ x. new (f x) ≡ g (old x)) xs
    → map new (map f xs) ≡ map g (map old xs)
map_where f old g new [] h = refl
map_where f old g new (x ∷ xs) h = ap₂ ◌∷◌ (All-head (λ x. new (f x) ≡ g (old x)) x xs h) (map_where f old g new xs (All-tail (λ x. new (f x) ≡ g (old x)) x xs h))

pub flat_across : {X X' Y Y' : Type 0} (f : X → X') (old : X → List Y) (g : Y → Y') (new : X' → List Y') → ((x : X) → new (f x) ≡ map g (old x))
    → (xs : List X) → flat_map new (map f xs) ≡ map g (flat_map old xs)
flat_across f old g new e [] = refl
flat_across f old g new e (x ∷ xs) = ap₂ ◌++◌ (e x) (flat_across f old g new e xs) ∙ sym (map-append g (old x) (flat_map old xs))

-- a test passes items before a change where another one passes them after it
pub filter_across : {X Y : Type 0} (f : X → Y) (old : X → Bool) (new : Y → Bool) (xs : List X) → All (λ x. new (f x) ≡ old x) xs → filter new (map f xs) ≡ map f (filter old xs)
filter_across f old new [] h = refl
filter_across f old new (x ∷ xs) h =
    ap₂ (λ (b : Bool) (ys : List _). cond b (f x ∷ ys) ys) (All-head (λ x. new (f x) ≡ old x) x xs h) (filter_across f old new xs (All-tail (λ x. new (f x) ≡ old x) x xs h))
    ∙ step (old x)
  where
    step : (b : Bool) → cond b (f x ∷ map f (filter old xs)) (map f (filter old xs)) ≡ map f (cond b (x ∷ filter old xs) (filter old xs))
    step true = refl
    step false = refl

pub all_flat : {X Y : Type 0} (P : Y → Type 0) (f : X → List Y) (xs : List X) → All (λ x. All P (f x)) xs → All P (flat_map f xs)
all_flat P f [] h = All-nil P
all_flat P f (x ∷ xs) h = All-append P (f x) (flat_map f xs) (All-head (λ x. All P (f x)) x xs h) (all_flat P f xs (All-tail (λ x. All P (f x)) x xs h))

-- ---- what holds of one holds of the other
pub both_by : {X : Type 0} (P : X → Type 0) (x y : X) → x ≡ y → P x ↔ P y
both_by P x y e = (subst P e, subst P (sym e))

pub both_then : {A B C : Type 0} → A ↔ B → B ↔ C → A ↔ C
both_then f g = (λ a. g.0 (f.0 a), λ c. f.1 (g.1 c))
