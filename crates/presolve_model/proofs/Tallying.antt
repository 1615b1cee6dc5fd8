-- Counts that stop at ten, and the records.
use Rattle.std.proofs.Common.{◌≡◌, ◌≢◌, ◌⊎◌, inl, inr, ℕ, zero, suc, ◌+◌, ◌<◌, min, nat_eq, nat_lt, Bool, true, false, ◌&&◌, cond, if◌then◌else◌, List, [], ◌∷◌, ◌++◌, length, get_or, replicate, slice_set, refl, sym, ap, ◌∙◌, subst, arith}
use Rattle.std.specs.List.{filter}
use Rattle.std.proofs.lemmas.Bool.{cases_eq, eq-eqb, le-ltb, lt-ltb, ltb-false, ltb-true, ne_eqb}
use Rattle.std.proofs.lemmas.List.{get_or-set_other, get_or-set_same, length-append, length-replicate, length-set}
use Rattle.std.proofs.lemmas.List.Elements.{filter-append}
use Rattle.undo_records.specs.declared.side.Side.{Side}
use Rattle.undo_records.specs.declared.side.Side.TheVariants.{Lower, Upper}
use Rattle.undo_records.specs.declared.kinds.bound_tightening.BoundTightening.{BoundTightening}
use Rattle.undo_records.specs.declared.undo.Undo.{Undo}
use Rattle.undo_records.specs.declared.undo.Undo.TheVariants as undo
use Rattle.presolve_model.specs.Tallies.{AreCountsOf, count_on, counted, Counts, is_tightening, IsTally, no_counts, one_more, open_by, open_on, same_side, tightenings}

-- ---- what may be tightened by the counts may be by the records
same_test : (n m : ℕ) → n ≡ min m 10 → nat_lt n 10 ≡ nat_lt m 10
same_test n m e = by (nat_lt m 10) refl
  where
    by : (b : Bool) → nat_lt m 10 ≡ b → nat_lt n 10 ≡ b
    by true h = let l : m < 10 = ltb-true m 10 h in lt-ltb n 10 (omega (arith, l, e))
    by false h = let l = ltb-false m 10 h in le-ltb n 10 (omega (arith, l, e))

pub open_same : (c : Counts) (us : List Undo) → IsTally c us → open_on c ≡ open_by us
open_same c us h = λ t j side. same_test (count_on c j side) (tightenings us j side) (h j side) t

-- ---- no counts, and no records
none_at : (n j : ℕ) → let zeros : List ℕ = replicate n 0 in get_or zeros j 0 ≡ 0
none_at zero j = refl
none_at (suc n) zero = refl
none_at (suc n) (suc j) = none_at n j

pub none_tallied : (n : ℕ) → IsTally (no_counts n) []
none_tallied n j Lower = none_at n j
none_tallied n j Upper = none_at n j

pub none_long : (n : ℕ) → AreCountsOf n (no_counts n)
none_long n = record { lower = length-replicate n 0; upper = length-replicate n 0 }

-- ---- one more on a side of a column
put_at : (xs : List ℕ) (j k : ℕ) → j < length xs → get_or (slice_set xs j (one_more (get_or xs j 0))) k 0 ≡ (if nat_eq j k then one_more (get_or xs k 0) else get_or xs k 0)
put_at xs j k l = by (cases_eq k j)
  where
    by : (k ≡ j) ⊎ (k ≢ j) → get_or (slice_set xs j (one_more (get_or xs j 0))) k 0 ≡ (if nat_eq j k then one_more (get_or xs k 0) else get_or xs k 0)
    by (inl e) = ap (λ (m : ℕ). get_or (slice_set xs j (one_more (get_or xs j 0))) m 0) e
        ∙ get_or-set_same xs j (one_more (get_or xs j 0)) 0 l
        ∙ ap (λ (m : ℕ). one_more (get_or xs m 0)) (sym e)
        ∙ sym (ap (λ (b : Bool). if b then one_more (get_or xs k 0) else get_or xs k 0) (eq-eqb j k (sym e)))
    by (inr n) = get_or-set_other xs j k (one_more (get_or xs j 0)) 0 n
        ∙ sym (ap (λ (b : Bool). if b then one_more (get_or xs k 0) else get_or xs k 0) (ne_eqb j k (λ e. n (sym e))))

and_true : (b : Bool) → b ≡ (b && true)
and_true true = refl
and_true false = refl

and_false : (b : Bool) → false ≡ (b && false)
and_false true = refl
and_false false = refl

count_after : (c : Counts) (n j : ℕ) (side : Side) → AreCountsOf n c → j < n → (k : ℕ) (s : Side)
    → count_on (counted c j side) k s ≡ (if nat_eq j k && same_side side s then one_more (count_on c k s) else count_on c k s)
count_after c n j Lower a l k Lower = put_at c.lower j k (subst (λ (m : ℕ). j < m) (sym a.lower) l) ∙ ap (λ (b : Bool). if b then one_more (count_on c k Lower) else count_on c k Lower) (and_true (nat_eq j k))
count_after c n j Lower a l k Upper = ap (λ (b : Bool). if b then one_more (count_on c k Upper) else count_on c k Upper) (and_false (nat_eq j k))
count_after c n j Upper a l k Lower = ap (λ (b : Bool). if b then one_more (count_on c k Lower) else count_on c k Lower) (and_false (nat_eq j k))
count_after c n j Upper a l k Upper = put_at c.upper j k (subst (λ (m : ℕ). j < m) (sym a.upper) l) ∙ ap (λ (b : Bool). if b then one_more (count_on c k Upper) else count_on c k Upper) (and_true (nat_eq j k))

step : (n m : ℕ) → n ≡ min m 10 → one_more n ≡ min (m + 1) 10
step n m e = by (nat_lt n 10) refl
  where
    by : (b : Bool) → nat_lt n 10 ≡ b → (if b then n + 1 else n) ≡ min (m + 1) 10
    by true h = let l : n < 10 = ltb-true n 10 h in omega (arith, l, e)
    by false h = let l = ltb-false n 10 h in omega (arith, l, e)

-- how many more a record adds
taken : (b : Bool) (n m : ℕ) (u : Undo) → n ≡ min m 10 → (if b then one_more n else n) ≡ min (m + length (cond b (u ∷ []) [])) 10
taken true n m u e = step n m e
taken false n m u e = let z : m + 0 ≡ m = omega arith in e ∙ ap (λ (k : ℕ). min k 10) (sym z)

with_one : (us : List Undo) (u : Undo) (k : ℕ) (s : Side) → tightenings (us ++ u ∷ []) k s ≡ tightenings us k s + tightenings (u ∷ []) k s
with_one us u k s = ap length (filter-append (is_tightening k s) us (u ∷ [])) ∙ length-append (filter (is_tightening k s) us) (filter (is_tightening k s) (u ∷ []))

pub tally_more : (c : Counts) (us : List Undo) (n : ℕ) (r : BoundTightening) → AreCountsOf n c → r.column < n → IsTally c us → IsTally (counted c r.column r.side) (us ++ undo.BoundTightening r ∷ [])
tally_more c us n r a l h k s =
    let u : Undo = undo.BoundTightening r in
    count_after c n r.column r.side a l k s
    ∙ taken (nat_eq r.column k && same_side r.side s) (count_on c k s) (tightenings us k s) u (h k s)
    ∙ ap (λ (m : ℕ). min m 10) (sym (with_one us u k s))

-- ---- another record
pub tally_same : (c : Counts) (us : List Undo) (u : Undo) → ((k : ℕ) (s : Side) → is_tightening k s u ≡ false) → IsTally c us → IsTally c (us ++ u ∷ [])
tally_same c us u other h k s =
    taken false (count_on c k s) (tightenings us k s) u (h k s)
    ∙ ap (λ (b : Bool). min (tightenings us k s + length (cond b (u ∷ []) [])) 10) (sym (other k s))
    ∙ ap (λ (m : ℕ). min m 10) (sym (with_one us u k s))

pub counts_long : (c : Counts) (n j : ℕ) (side : Side) → AreCountsOf n c → AreCountsOf n (counted c j side)
counts_long c n j Lower a = record { lower = length-set c.lower j (one_more (count_on c j Lower)) ∙ a.lower; upper = a.upper }
counts_long c n j Upper a = record { lower = a.lower; upper = length-set c.upper j (one_more (count_on c j Upper)) ∙ a.upper }
