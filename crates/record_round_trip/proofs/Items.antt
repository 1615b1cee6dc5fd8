-- What holds of each item of a list, one after another.
use Rattle.std.proofs.Common.{◌≡◌, ℕ, ◌+◌, ◌<◌, Bool, true, false, ltb, List, length, slice_index_or, ◌∙◌, subst, arith, refl}
use Rattle.std.proofs.lemmas.Bool.Decides.{nat_tests}
use Rattle.std.proofs.lemmas.List.{get_or_default}

-- what holds of those before a place and at it holds of those up to it
pub next : {X : Type 0} (P : X → Type 0) (xs : List X) (i : ℕ) (x : X) → i < length xs → x ≡ slice_index_or xs i x → P x
    → ((k : ℕ) (d : X) → k < i → P (slice_index_or xs k d)) → (k : ℕ) (d : X) → k < i + 1 → P (slice_index_or xs k d)
next P xs i x l e p h k d b = by (ltb k i) refl
  where
    by : (t : Bool) → ltb k i ≡ t → P (slice_index_or xs k d)
    by true q = h k d (grind (arith, nat_tests))
    by false q = let s : i ≡ k = grind (arith, nat_tests) in subst (λ (n : ℕ). P (slice_index_or xs n d)) s (subst P (e ∙ get_or_default xs i x d l) p)

-- the same where the item is taken by its place
pub next_taken : {X : Type 0} (P : X → Type 0) (xs : List X) (i : ℕ) (x : X) → i < length xs → P (slice_index_or xs i x)
    → ((k : ℕ) (d : X) → k < i → P (slice_index_or xs k d)) → (k : ℕ) (d : X) → k < i + 1 → P (slice_index_or xs k d)
next_taken P xs i x l p h = next P xs i (slice_index_or xs i x) l (get_or_default xs i x (slice_index_or xs i x) l) p h
