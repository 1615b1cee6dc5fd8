-- Numbers by id.
use Rattle.std.proofs.Common.{◌≡◌, ℕ, ◌<◌, List, length, map, slice_set, slice_index_or, sym, ap, subst, ◌∙◌}
use Rattle.std.proofs.lemmas.List.{get_or-set_same, get_or-set_other, get_or-map, length-map, map-set}
use Rattle.fractions.specs.Number.{Number, zero_ℚ, neg_ℚ}
use Rattle.fractions.specs.Total.{put}
use Rattle.fractions.proofs.Totals.{put-same, put-other, at_or_off}
use Rattle.lp_model.specs.Vectors.{vector_of}

-- a list with one number set, by id
pub vector_of-set : (xs : List Number) (j : ℕ) (b : Number) → j < length xs → vector_of (slice_set xs j b) ≡ put (vector_of xs) j b
vector_of-set xs j b l = λ i k. each k i
  where
    each : (k : ℕ) → vector_of (slice_set xs j b) k ≡ put (vector_of xs) j b k
    each = at_or_off (λ k. vector_of (slice_set xs j b) k ≡ put (vector_of xs) j b k) j
        (get_or-set_same xs j b zero_ℚ l ∙ sym (put-same (vector_of xs) j b))
        (λ k n. get_or-set_other xs j k b zero_ℚ n ∙ sym (put-other (vector_of xs) j b k n))

-- the same of values that stand for numbers
pub mapped-set : {X : Type 0} (f : X → Number) (xs : List X) (ys : List Number) (j : ℕ) (x : X) → map f xs ≡ ys → j < length ys → vector_of (map f (slice_set xs j x)) ≡ put (vector_of ys) j (f x)
mapped-set f xs ys j x e l = ap vector_of (map-set f xs j x ∙ ap (λ (zs : List Number). slice_set zs j (f x)) e) ∙ vector_of-set ys j (f x) l

-- the number at an index
pub mapped-at : {X : Type 0} (f : X → Number) (xs : List X) (ys : List Number) (j : ℕ) (x : X) → map f xs ≡ ys → j < length ys → x ≡ slice_index_or xs j x → f x ≡ vector_of ys j
mapped-at f xs ys j x e l is = ap f is ∙ sym (get_or-map f xs j x zero_ℚ long) ∙ ap (λ (zs : List Number). slice_index_or zs j zero_ℚ) e
  where
    long : j < length xs
    long = subst (λ (n : ℕ). j < n) (ap length (sym e) ∙ length-map xs f) l

-- the number at an index as its negative
pub mapped-negated : {X : Type 0} (f : X → Number) (xs : List X) (ys : List Number) (j : ℕ) (old new : X) → map f xs ≡ ys → j < length ys → old ≡ slice_index_or xs j old → f new ≡ neg_ℚ (f old)
    → vector_of (map f (slice_set xs j new)) ≡ put (vector_of ys) j (neg_ℚ (vector_of ys j))
mapped-negated f xs ys j old new e l is turned = mapped-set f xs ys j new e l ∙ ap (λ (q : Number). put (vector_of ys) j q) (turned ∙ ap neg_ℚ (mapped-at f xs ys j old e l is))
