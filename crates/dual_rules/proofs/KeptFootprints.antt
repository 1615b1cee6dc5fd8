-- Footprints that are kept.
use Rattle.std.proofs.Common.{◌≡◌, ◌≢◌, ◌⊎◌, inl, inr, ℕ, zero, suc, ◌+◌, ◌<◌, ◌≤◌, Bool, true, false, nat_eq, List, [], ◌∷◌, length, map, replicate, refl, sym, ap, ◌∙◌, subst, arith, Option, Some, None}
use Rattle.std.specs.Prelude.{if◌then◌else◌, IfSome, slice_index_or, slice_set}
use Rattle.std.specs.List.{All}
use Rattle.std.proofs.lemmas.Bool.{cases_eq, cases_lt}
use Rattle.std.proofs.lemmas.Bool.Decides.{nat_tests}
use Rattle.std.proofs.lemmas.List.{get_or_past, get_or-map, get_or-set_other, get_or-set_same, length-map, length-set, map-set}
use Rattle.std.proofs.lemmas.List.Elements.{All-head, All-tail}
use Rattle.problem_model.specs.Problems.{column_entries}
use Rattle.problem_model.specs.Sparse.{Sparse}
use Rattle.dual_rules.specs.declared.footprints.Footprint.{Footprint}
use Rattle.dual_rules.specs.declared.footprints.Kept.{Kept}
use Rattle.dual_rules.specs.Footprints.{AreFootprints, IsFootprint, kept_in}

-- what was made in an earlier turn is not there
earlier : (n : ℕ) (k : Kept) → k.turn < n → kept_in n k ≡ None
earlier n k l = ap (λ (b : Bool). if b then Some k.footprint else None) (differ k.turn l)
  where
    differ : (m : ℕ) → m < n → nat_eq m n ≡ false
    differ m e = grind (arith, nat_tests, e)

none_there : (n : ℕ) (ks : List Kept) → All (λ k. k.turn < n) ks → (j : ℕ) → slice_index_or (map (kept_in n) ks) j None ≡ None
none_there n [] h j = get_or_past [] j None (omega arith)
none_there n (k ∷ ks) h zero = earlier n k (All-head (λ (k : Kept). k.turn < n) k ks h)
none_there n (k ∷ ks) h (suc j) = none_there n ks (All-tail (λ (k : Kept). k.turn < n) k ks h) j

pub all_earlier : (n : ℕ) (ks : List Kept) → All (λ k. k.turn < n) ks → (p : Sparse) → AreFootprints p (map (kept_in n) ks)
all_earlier n ks h p j = subst (λ (f : Option Footprint). IfSome f (λ f. IsFootprint p (column_entries p j) f)) (sym (none_there n ks h j)) tt

-- all turns so far are before the next
pub next_turn : (n m : ℕ) (ks : List Kept) → m ≡ n + 1 → All (λ k. k.turn ≤ n) ks → All (λ k. k.turn < m) ks
next_turn n m ks e h k d l = omega (arith, e, h k d l)

pub before_or_now : (n : ℕ) (ks : List Kept) → All (λ k. k.turn < n) ks → All (λ k. k.turn ≤ n) ks
before_or_now n ks h k d l = omega (arith, h k d l)

-- what is kept at a place
pub kept_at : (n : ℕ) (ks : List Kept) (j : ℕ) (k : Kept) → j < length ks → slice_index_or (map (kept_in n) ks) j None ≡ kept_in n (slice_index_or ks j k)
kept_at n ks j k l = get_or-map (kept_in n) ks j k None l

pub kept_past : (n : ℕ) (ks : List Kept) (j : ℕ) → length ks ≤ j → slice_index_or (map (kept_in n) ks) j None ≡ None
kept_past n ks j g = get_or_past (map (kept_in n) ks) j None (subst (λ (m : ℕ). m ≤ j) (sym (length-map ks (kept_in n))) g)

pub of_this_turn : (n : ℕ) (k : Kept) → k.turn ≡ n → kept_in n k ≡ Some k.footprint
of_this_turn n k e = ap (λ (b : Bool). if b then Some k.footprint else None) (same k.turn e)
  where
    same : (m : ℕ) → m ≡ n → nat_eq m n ≡ true
    same m f = grind (arith, nat_tests, f)

-- one more is kept
pub one_kept : (p : Sparse) (fs : List (Option Footprint)) (j : ℕ) (f : Footprint) → IsFootprint p (column_entries p j) f → AreFootprints p fs → AreFootprints p (slice_set fs j (Some f))
one_kept p fs j f is h i = by (cases_eq j i)
  where
    Good : ℕ → Option Footprint → Type 0
    Good k x = IfSome x (λ f. IsFootprint p (column_entries p k) f)

    here : (j < length fs) ⊎ (length fs ≤ j) → Good j (slice_index_or (slice_set fs j (Some f)) j None)
    here (inl l) = subst (Good j) (sym (get_or-set_same fs j (Some f) None l)) is
    here (inr g) = subst (Good j) (sym (get_or_past (slice_set fs j (Some f)) j None (subst (λ (m : ℕ). m ≤ j) (sym (length-set fs j (Some f))) g))) tt

    by : (j ≡ i) ⊎ (j ≢ i) → Good i (slice_index_or (slice_set fs j (Some f)) i None)
    by (inl e) = subst (λ k. Good k (slice_index_or (slice_set fs j (Some f)) k None)) e (here (cases_lt j (length fs)))
    by (inr n) = subst (Good i) (sym (get_or-set_other fs j i (Some f) None (λ e. n (sym e)))) (h i)

pub set_kept : (n : ℕ) (ks : List Kept) (j : ℕ) (k : Kept) → k.turn ≡ n → map (kept_in n) (slice_set ks j k) ≡ slice_set (map (kept_in n) ks) j (Some k.footprint)
set_kept n ks j k e = map-set (kept_in n) ks j k ∙ ap (slice_set (map (kept_in n) ks) j) (of_this_turn n k e)
