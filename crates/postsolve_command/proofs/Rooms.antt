-- Numbers that have room, one after the other.
use Rattle.std.proofs.Common.{◌≡◌, ◌⊎◌, inl, inr, ℕ, ◌+◌, ◌<◌, ◌≤◌, List, length, map, slice_index_or, sym, ap, subst, ◌∙◌, arith}
use Rattle.std.proofs.lemmas.Bool.{cases_lt}
use Rattle.std.proofs.lemmas.List.{get_or-map}
use Rattle.fractions.specs.Number.{Number}

pub room_next : {A : Type 0} (f : A → Number) (P : Number → Type 0) (xs : List A) (i : ℕ) (x : A) → i < length xs → x ≡ slice_index_or xs i x → P (f x)
    → ((k : ℕ) (d : Number) → k < i → P (slice_index_or (map f xs) k d)) → (k : ℕ) (d : Number) → k < i + 1 → P (slice_index_or (map f xs) k d)
room_next f P xs i x l is p before k d lt = by (cases_lt k i)
  where
    here : P (slice_index_or (map f xs) i d)
    here = subst P (ap f is ∙ sym (get_or-map f xs i x d l)) p

    by : (k < i) ⊎ (i ≤ k) → P (slice_index_or (map f xs) k d)
    by (inl less) = before k d less
    by (inr most) = let same : i ≡ k = omega (arith, most, lt) in subst (λ j. P (slice_index_or (map f xs) j d)) same here
