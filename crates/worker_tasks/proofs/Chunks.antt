-- What a task finds at its ids is what there is in its chunk.
use Rattle.std.proofs.Common.{◌≡◌, ◌⊎◌, inl, inr, ℕ, zero, suc, ◌+◌, ◌*◌, ◌<◌, ◌≤◌, nat_lt, Bool, true, false, List, [], ◌∷◌, ◌++◌, map, refl, sym, ap, ap₂, ◌∙◌, arith}
use Rattle.std.specs.Prelude.{if◌then◌else◌}
use Rattle.std.specs.List.{Contains, filter, flat_map, range_with_len}
use Rattle.std.proofs.lemmas.Bool.{cases_lt, le-ltb, lt-ltb}
use Rattle.sorted_ids.specs.Ascending.{AscendsFrom}
use Rattle.sorted_ids.proofs.Passing.{same_at_all}
use Rattle.presolve_model.specs.declared.instance.Instance.{Instance}
use Rattle.presolve_model.specs.Enabled.{enabled_on}
use Rattle.presolve_model.specs.Instances.{instances_from}
use Rattle.presolve_model.specs.Scans.{found_at, proposal_of}
use Rattle.presolve_model.specs.Tallies.{open_on}
use Rattle.presolve_model.specs.Worlds.{Version}
use Rattle.worker_tasks.specs.Tasks.{found_of, HoldsChunk, TaskData}

-- what a function gives of ids below m, and nothing of others
module _ {X : Type 0} (P : X → Bool) (g : ℕ → List X) (m : ℕ) where
  abbrev below : ℕ → List X
  below k = if nat_lt k m then g k else []

  is_below : (k : ℕ) → k < m → below k ≡ g k
  is_below k l = ap (λ (b : Bool). if b then g k else []) (lt-ltb k m l)

  is_past : (k : ℕ) → m ≤ k → below k ≡ []
  is_past k l = ap (λ (b : Bool). if b then g k else []) (le-ltb k m l)

  all_below : (ids : List ℕ) → ((k : ℕ) → Contains ids k → k < m) → flat_map g ids ≡ flat_map below ids
  all_below [] h = refl
  all_below (k ∷ ks) h = ap₂ (λ (xs ys : List X). xs ++ ys) (sym (is_below k (h k (zero, omega arith, refl)))) (all_below ks (λ i c. h i (suc c.0, (let l = c.1 in omega (arith, l)), c.2)))

  range_below : (a n : ℕ) → a + n ≤ m → flat_map g (range_with_len a n) ≡ flat_map below (range_with_len a n)
  range_below a zero l = refl
  range_below a (suc n) l = ap₂ (λ (xs ys : List X). xs ++ ys) (sym (is_below a (omega (arith, l)))) (range_below (a + 1) n (omega (arith, l)))

  -- ids from a on, below m, among which each is at which something passes
  pub in_range : (a n : ℕ) (ids : List ℕ) → a + n ≡ m → AscendsFrom a ids → ((k : ℕ) → Contains ids k → k < m) → ((k : ℕ) → a ≤ k → k < m → (filter P (g k) ≡ []) ⊎ Contains ids k)
      → filter P (flat_map g ids) ≡ filter P (flat_map g (range_with_len a n))
  in_range a n ids e h within has = ap (filter P) (all_below ids within) ∙ same_at_all P below a n ids h past there ∙ ap (filter P) (sym (range_below a n (omega (arith, e))))
    where
      past : (k : ℕ) → a + n ≤ k → filter P (below k) ≡ []
      past k l = ap (filter P) (is_past k (omega (arith, e, l)))

      there : (k : ℕ) → a ≤ k → (filter P (below k) ≡ []) ⊎ Contains ids k
      there k l = by (cases_lt k m)
        where
          by : (k < m) ⊎ (m ≤ k) → (filter P (below k) ≡ []) ⊎ Contains ids k
          by (inl y) = up (has k l y)
            where
              up : (filter P (g k) ≡ []) ⊎ Contains ids k → (filter P (below k) ≡ []) ⊎ Contains ids k
              up (inl z) = inl (ap (filter P) (is_below k y) ∙ z)
              up (inr c) = inr c
          by (inr y) = inl (ap (filter P) (is_past k y))

-- nothing passes, or something does
one_passes : (P : Instance → Bool) (es : List Instance) → (filter P es ≡ []) ⊎ ((e : Instance) × Contains es e × (P e ≡ true))
one_passes P [] = inl refl
one_passes P (e ∷ es) = by (P e) refl (one_passes P es)
  where
    by : (b : Bool) → P e ≡ b → (filter P es ≡ []) ⊎ ((x : Instance) × Contains es x × (P x ≡ true)) → ((if b then e ∷ filter P es else filter P es) ≡ []) ⊎ ((x : Instance) × Contains (e ∷ es) x × (P x ≡ true))
    by true h k = inr (e, (0, omega arith, refl), h)
    by false h (inl k) = inl k
    by false h (inr (x, (i, l, f), t)) = inr (x, (suc i, omega (arith, l), f), t)

pub found_is : (v : Version) (t : TaskData) → HoldsChunk v t → found_at (open_on v.tally) v.problem v.applied t.rule t.ids ≡ found_of v t
found_is v t h = ap (map (proposal_of v.problem v.applied)) (in_range (enabled_on v.problem) (instances_from (open_on v.tally) v.problem t.rule) (t.chunk * 1024 + 1024) (t.chunk * 1024) 1024 t.ids refl h.ascends h.within has)
  where
    has : (k : ℕ) → t.chunk * 1024 ≤ k → k < t.chunk * 1024 + 1024 → (filter (enabled_on v.problem) (instances_from (open_on v.tally) v.problem t.rule k) ≡ []) ⊎ Contains t.ids k
    has k l m = by (one_passes (enabled_on v.problem) (instances_from (open_on v.tally) v.problem t.rule k))
      where
        by : (filter (enabled_on v.problem) (instances_from (open_on v.tally) v.problem t.rule k) ≡ []) ⊎ ((e : Instance) × Contains (instances_from (open_on v.tally) v.problem t.rule k) e × (enabled_on v.problem e ≡ true))
            → (filter (enabled_on v.problem) (instances_from (open_on v.tally) v.problem t.rule k) ≡ []) ⊎ Contains t.ids k
        by (inl e) = inl e
        by (inr (e, c, on)) = inr (h.complete k e l m c on)
