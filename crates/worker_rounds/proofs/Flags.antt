-- Flags that are set.
use Rattle.std.proofs.Common.{◌≡◌, ◌≢◌, ◌⊎◌, inl, inr, ℕ, zero, suc, ◌+◌, ◌<◌, Bool, true, false, true≢false, List, [], ◌∷◌, ◌++◌, length, get_or, slice_set, take, sym, refl, ap, ◌∙◌, subst, arith}
use Rattle.std.specs.List.{Contains}
use Rattle.std.proofs.lemmas.Bool.{cases_eq}
use Rattle.std.proofs.lemmas.List.{get_or_default, get_or-set_other, length-set, take_more}
use Rattle.std.proofs.lemmas.List.Elements.{Contains-append_left, Contains-append_right}
use Rattle.worker_rounds.specs.Done.{IsSet, Sets}
use Rattle.worker_rounds.specs.Workers.{IsDone, WorkerData}

-- ---- none is set
pub none_down : (i : ℕ) → IsSet [] i → ⊥
none_down i h = true≢false (sym h)

pub one_down : (flags : List Bool) → ((i : ℕ) → IsSet flags i → ⊥) → (i : ℕ) → IsSet (flags ++ false ∷ []) i → ⊥
one_down [] h zero s = true≢false (sym s)
one_down [] h (suc i) s = true≢false (sym s)
one_down (b ∷ bs) h zero s = h zero s
one_down (b ∷ bs) h (suc i) s = one_down bs (λ j t. h (suc j) t) i s

-- ---- one is set
pub sets_none : (flags : List Bool) → Sets [] flags flags
sets_none flags = record { long = refl; only = λ i h. inl h }

module _ (xs : List ℕ) (n d : ℕ) (inside : n < length xs) where
  contains_take : (i : ℕ) → Contains (take n xs) i → Contains (take (n + 1) xs) i
  contains_take i c = subst (λ (ys : List ℕ). Contains ys i) (sym (take_more xs n d inside)) (Contains-append_left (take n xs) (get_or xs n d ∷ []) i c)

  taken_there : Contains (take (n + 1) xs) (get_or xs n d)
  taken_there = subst (λ (ys : List ℕ). Contains ys (get_or xs n d)) (sym (take_more xs n d inside)) (Contains-append_right (take n xs) (get_or xs n d ∷ []) (get_or xs n d) (zero, omega arith, refl))

module _ (done : List ℕ) (n d : ℕ) (before flags : List Bool) (inside : n < length done) (h : Sets (take n done) before flags) where
  pub sets_more : (after : List Bool) → after ≡ slice_set flags (get_or done n d) true → Sets (take (n + 1) done) before after
  sets_more after e = record {
    long = ap length e ∙ length-set flags (get_or done n d) true ∙ h.long;
    only = λ i s. by i s (cases_eq i (get_or done n d));
  }
    where
      old : (i : ℕ) → IsSet before i ⊎ Contains (take n done) i → IsSet before i ⊎ Contains (take (n + 1) done) i
      old i (inl s) = inl s
      old i (inr c) = inr (contains_take done n d inside i c)

      by : (i : ℕ) → IsSet after i → (i ≡ get_or done n d) ⊎ (i ≢ get_or done n d) → IsSet before i ⊎ Contains (take (n + 1) done) i
      by i s (inl same) = inr (subst (λ (k : ℕ). Contains (take (n + 1) done) k) (sym same) (taken_there done n d inside))
      by i s (inr other) = old i (h.only i (sym (get_or-set_other flags (get_or done n d) i true false other) ∙ ap (λ (bs : List Bool). get_or bs i false) (sym e) ∙ s))

-- ---- of several workers
pub done_more : (ws : List WorkerData) (n : ℕ) (d : WorkerData) (flags after : List Bool) → n < length ws → ((i : ℕ) → IsSet flags i → IsDone ws i) → (done : List ℕ) → done ≡ (get_or ws n d).1.done → Sets done flags after → (i : ℕ) → IsSet after i → IsDone ws i
done_more ws n d flags after inside h done is sets i s = by (sets.only i s)
  where
    by : IsSet flags i ⊎ Contains done i → IsDone ws i
    by (inl t) = h i t
    by (inr c) = (get_or ws n d, (n, inside, get_or_default ws n (get_or ws n d) d inside), subst (λ (ns : List ℕ). Contains ns i) is c)
