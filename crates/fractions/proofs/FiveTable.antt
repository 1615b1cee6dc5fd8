-- The table of powers of five.
use Rattle.std.proofs.Common.{◌≡◌, ℕ, zero, suc, ◌*◌, ◌/◌, ◌<◌, ◌≤◌, ◌^◌, Bool, true, false, ◌&&◌, T, eqb, eqb→eq, ◌⊎◌, inl, inr, arith, subst}
use Rattle.std.proofs.lemmas.Bool.{cases_lt}
use Rattle.std.specs.Prelude.{slice_index}
use Rattle.fractions.specs.declared.fives.TheConstants.{POWERS}

abbrev all_below : ℕ → (ℕ → Bool) → Bool
all_below zero p = true
all_below (suc n) p = p n && all_below n p

each_below : (n : ℕ) (p : ℕ → Bool) → T (all_below n p) → (k : ℕ) → k < n → T (p k)
each_below zero p h k l = absurd (omega (arith, l))
each_below (suc n) p h k l = by (p n) (λ t. t) (each_below n p) h (cases_lt k n)
  where
    by : (b : Bool) → (T b → T (p n)) → (T (all_below n p) → (k : ℕ) → k < n → T (p k)) → T (b && all_below n p) → (k < n) ⊎ (n ≤ k) → T (p k)
    by true f g h (inl m) = g h k m
    by true f g h (inr m) = let e : n ≡ k = omega (arith, l, m) in subst (λ i. T (p i)) e (f tt)
    by false f g h m = absurd h

pub table_is : (k : ℕ) → k ≤ 64 → slice_index POWERS k ≡ 5 ^ (k * 3 / 7)
table_is k l = eqb→eq (slice_index POWERS k) (5 ^ (k * 3 / 7)) (each_below 65 (λ i. eqb (slice_index POWERS i) (5 ^ (i * 3 / 7))) tt k (omega (arith, l)))
