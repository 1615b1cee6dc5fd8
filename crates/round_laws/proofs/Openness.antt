-- What may be tightened by the counts after a reduction may be before it, and where it is another, the bounds have changed.
use Rattle.std.proofs.Common.{◌≡◌, ◌≢◌, ◌⊎◌, inl, inr, ℕ, ◌+◌, ◌<◌, ◌≤◌, Bool, true, false, List, length, slice_set, get_or, refl, sym, ap, subst, arith}
use Rattle.std.specs.Prelude.{if◌then◌else◌, nat_lt}
use Rattle.std.proofs.lemmas.Bool.{cases_eq, cases_lt, lt-ltb, ltb-true}
use Rattle.std.proofs.lemmas.List.{get_or_past, get_or-set_other, get_or-set_same}
use Rattle.undo_records.specs.declared.side.Side.{Side}
use Rattle.undo_records.specs.declared.side.Side.TheVariants.{Lower, Upper}
use Rattle.presolve_model.specs.declared.instance.Instance.{Instance}
use Rattle.presolve_model.specs.declared.instance.Instance.TheVariants as at
use Rattle.presolve_model.specs.declared.instance.Reduction.{Reduction}
use Rattle.presolve_model.specs.declared.instance.Reduction.TheVariants.{BoundTightening}
use Rattle.presolve_model.specs.Instances.{is_open, tallied}
use Rattle.presolve_model.specs.Tallies.{count_on, counted, Counts, one_more, open_on}

one_more_grows : (n : ℕ) → n ≤ one_more n
one_more_grows n = by (nat_lt n 10)
  where
    by : (b : Bool) → n ≤ (if b then n + 1 else n)
    by true = omega arith
    by false = omega arith

put_grows : (xs : List ℕ) (j k : ℕ) → get_or xs k 0 ≤ get_or (slice_set xs j (one_more (get_or xs j 0))) k 0
put_grows xs j k = by (cases_eq k j) (cases_lt j (length xs))
  where
    by : (k ≡ j) ⊎ (k ≢ j) → (j < length xs) ⊎ (length xs ≤ j) → get_or xs k 0 ≤ get_or (slice_set xs j (one_more (get_or xs j 0))) k 0
    by (inr n) l = let e = get_or-set_other xs j k (one_more (get_or xs j 0)) 0 n in omega (arith, e)
    by (inl e) (inl l) = subst (λ (m : ℕ). get_or xs m 0 ≤ get_or (slice_set xs j (one_more (get_or xs j 0))) m 0) (sym e) (let g = get_or-set_same xs j (one_more (get_or xs j 0)) 0 l in let h = one_more_grows (get_or xs j 0) in omega (arith, g, h))
    by (inl e) (inr l) = subst (λ (m : ℕ). get_or xs m 0 ≤ get_or (slice_set xs j (one_more (get_or xs j 0))) m 0) (sym e) (let g = get_or_past xs j 0 l in omega (arith, g))

count_grows : (c : Counts) (j : ℕ) (side : Side) (k : ℕ) (s : Side) → count_on c k s ≤ count_on (counted c j side) k s
count_grows c j Lower k Lower = put_grows c.lower j k
count_grows c j Lower k Upper = omega arith
count_grows c j Upper k Lower = omega arith
count_grows c j Upper k Upper = put_grows c.upper j k

fewer_open : (n m : ℕ) → n ≤ m → nat_lt m 10 ≡ true → nat_lt n 10 ≡ true
fewer_open n m l h = let k = ltb-true m 10 h in lt-ltb n 10 (omega (arith, l, k))

-- ---- what is open after a reduction was
pub open_before : (r : Reduction) (c : Counts) (e : Instance) → is_open (open_on (tallied r c)) e ≡ true → is_open (open_on c) e ≡ true
open_before (BoundTightening i j side) c (at.Reduction (BoundTightening h k s)) o = fewer_open (count_on c k s) (count_on (counted c j side) k s) (count_grows c j side k s) o
open_before (BoundTightening i j side) c (at.Reduction r) o = refl
open_before (BoundTightening i j side) c (at.Verdict v) o = refl
open_before r c e o = o

-- ---- on another side of another column it stays as it is
count_other : (c : Counts) (j : ℕ) (side : Side) (k : ℕ) (s : Side) → (count_on (counted c j side) k s ≡ count_on c k s) ⊎ ((j ≡ k) × (side ≡ s))
count_other c j Lower k Lower = by (cases_eq k j)
  where
    by : (k ≡ j) ⊎ (k ≢ j) → (get_or (slice_set c.lower j (one_more (get_or c.lower j 0))) k 0 ≡ get_or c.lower k 0) ⊎ ((j ≡ k) × (Lower ≡ Lower))
    by (inl e) = inr (sym e, refl)
    by (inr n) = inl (get_or-set_other c.lower j k (one_more (get_or c.lower j 0)) 0 n)
count_other c j Lower k Upper = inl refl
count_other c j Upper k Lower = inl refl
count_other c j Upper k Upper = by (cases_eq k j)
  where
    by : (k ≡ j) ⊎ (k ≢ j) → (get_or (slice_set c.upper j (one_more (get_or c.upper j 0))) k 0 ≡ get_or c.upper k 0) ⊎ ((j ≡ k) × (Upper ≡ Upper))
    by (inl e) = inr (sym e, refl)
    by (inr n) = inl (get_or-set_other c.upper j k (one_more (get_or c.upper j 0)) 0 n)

-- a reduction leaves what is open on a side of a column as it was, or tightens it
abbrev pub Tightens : Reduction → ℕ → Side → Type 0
Tightens r k s = (i : ℕ) × (r ≡ BoundTightening i k s)

pub open_cases : (r : Reduction) (c : Counts) (k : ℕ) (s : Side) → (open_on (tallied r c) k s ≡ open_on c k s) ⊎ Tightens r k s
open_cases (BoundTightening i j side) c k s = by (count_other c j side k s)
  where
    by : (count_on (counted c j side) k s ≡ count_on c k s) ⊎ ((j ≡ k) × (side ≡ s)) → (open_on (counted c j side) k s ≡ open_on c k s) ⊎ Tightens (BoundTightening i j side) k s
    by (inl e) = inl (ap (λ (n : ℕ). nat_lt n 10) e)
    by (inr (e, g)) = inr (i, λ t. BoundTightening i (e t) (g t))
open_cases r c k s = inl refl
