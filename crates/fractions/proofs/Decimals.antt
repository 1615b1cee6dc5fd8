-- How many decimals a number has, by its lowest terms.
use Rattle.std.proofs.Common.{◌≡◌, ℕ, ◌*◌, ◌/◌, ◌^◌, ◌<◌, ℤ, pos, ◌*ℤ◌, nat_abs, ◌↔◌, [], ◌∷◌, sym, refl, ap, ◌∙◌, subst}
use Prim.Native.Nat.{◌∣◌}
use native.Mathlib.Nat.{div-mul_cancel, dvd-mul_left, mul_assoc}
use mathlib.Core.Quot.{sound}
use Rattle.std.proofs.lemmas.Int.{unsigned_abs-mul}
use Rattle.fractions.specs.Ring.{ring, whole, v, num, ◌:*◌}
use Rattle.fractions.specs.Number.{Number, rational, ◌*ℚ◌, of_ℤ, of_ℤ-*ℤ, lift2, same_times}
use Rattle.fractions.specs.Gcd.{gauss, coprime_comm}
use Rattle.fractions.specs.Lowest.{over_of, under_of, under_of_positive, coprime_of, fraction-shown}
use Rattle.fractions.specs.Decimal.{HasPlaces}
use Rattle.fractions.proofs.Floors.{of_ℤ_same}

-- q times its denominator is its numerator
pub times_under : (q : Number) → q *ℚ of_ℤ (pos (under_of q)) ≡ of_ℤ (over_of q)
unfolding ◌*ℚ◌ lift2 of_ℤ
times_under q =
    ap (λ p. p *ℚ of_ℤ (pos (under_of q))) (sym (fraction-shown q))
    ∙ sound (ring whole (over_of q ∷ pos (under_of q) ∷ []) ((v 0 :* v 1) :* num (pos 1)) (v 0 :* (v 1 :* num (pos 1))) refl)

-- q t is the whole number m: so is n t = m d
across : (q : Number) (t : ℕ) (m : ℤ) → q *ℚ of_ℤ (pos t) ≡ of_ℤ m → over_of q *ℤ pos t ≡ m *ℤ pos (under_of q)
across q t m e = of_ℤ_same _ _
    (of_ℤ-*ℤ (over_of q) (pos t)
    ∙ ap (λ p. p *ℚ of_ℤ (pos t)) (sym (times_under q))
    ∙ ring rational (q ∷ of_ℤ (pos (under_of q)) ∷ of_ℤ (pos t) ∷ []) (v 0 :* v 1 :* v 2) (v 0 :* v 2 :* v 1) refl
    ∙ ap (λ p. p *ℚ of_ℤ (pos (under_of q))) e
    ∙ sym (of_ℤ-*ℤ m (pos (under_of q))))

-- the denominator divides the power of ten, and the numerator times the quotient has room
pub HasPlaces-lowest : (q : Number) (k : ℕ) → HasPlaces q k ↔ ((under_of q ∣ (10 ^ k)) × (nat_abs (over_of q) * (10 ^ k / under_of q) < 2 ^ 127))
HasPlaces-lowest q k = (to, from)
  where
    to : HasPlaces q k → (under_of q ∣ (10 ^ k)) × (nat_abs (over_of q) * (10 ^ k / under_of q) < 2 ^ 127)
    to h =
        let e : nat_abs (over_of q) * 10 ^ k ≡ nat_abs h.digits * under_of q = sym (unsigned_abs-mul (over_of q) (pos (10 ^ k))) ∙ ap nat_abs (across q (10 ^ k) h.digits h.value) ∙ unsigned_abs-mul h.digits (pos (under_of q)) in
        let d : under_of q ∣ (10 ^ k) = gauss (under_of q) (nat_abs (over_of q)) (10 ^ k) (coprime_comm _ _ (coprime_of q)) (subst (λ n. under_of q ∣ n) (sym e) (dvd-mul_left (under_of q) (nat_abs h.digits))) in
        let same : nat_abs (over_of q) * (10 ^ k / under_of q) ≡ nat_abs h.digits = same_times _ _ (under_of q) (under_of_positive q) (mul_assoc (nat_abs (over_of q)) (10 ^ k / under_of q) (under_of q) ∙ ap (λ (n : ℕ). nat_abs (over_of q) * n) (div-mul_cancel (under_of q) d) ∙ e) in
        (d, subst (λ n. n < 2 ^ 127) (sym same) h.small)

    from : (under_of q ∣ (10 ^ k)) × (nat_abs (over_of q) * (10 ^ k / under_of q) < 2 ^ 127) → HasPlaces q k
    from h = record {
      digits = over_of q *ℤ pos (10 ^ k / under_of q);
      small = subst (λ n. n < 2 ^ 127) (sym (unsigned_abs-mul (over_of q) (pos (10 ^ k / under_of q)))) h.1;
      value =
          ap (λ n. q *ℚ of_ℤ (pos n)) (sym (div-mul_cancel (under_of q) h.0))
          ∙ ap (λ p. q *ℚ p) (of_ℤ-*ℤ (pos (10 ^ k / under_of q)) (pos (under_of q)))
          ∙ ring rational (q ∷ of_ℤ (pos (10 ^ k / under_of q)) ∷ of_ℤ (pos (under_of q)) ∷ []) (v 0 :* (v 1 :* v 2)) ((v 0 :* v 2) :* v 1) refl
          ∙ ap (λ p. p *ℚ of_ℤ (pos (10 ^ k / under_of q))) (times_under q)
          ∙ sym (of_ℤ-*ℤ (over_of q) (pos (10 ^ k / under_of q)));
    }
