-- A sum with 0 has room in a `Frac` where its other number has.
use Rattle.std.proofs.Common.{◌≡◌, ℕ, ◌/◌, ◌<◌, ◌^◌, ℤ, pos, ◌+ℤ◌, ◌*ℤ◌, nat_abs, refl, lit<, [], ◌∷◌, mul-one, zero-mul}
use Rattle.std.proofs.Math.Nat.{div-one}
use Rattle.fractions.specs.Ring.{ring, whole, v, num, ◌:+◌, ◌:*◌}
use Rattle.fractions.specs.Gcd.{gcd, coprime_by}
use Rattle.fractions.specs.Number.{Number, zero_ℚ, of_ℤ}
use Rattle.fractions.specs.Lowest.{over_of, under_of, of_lowest, Fits}
use Rattle.fractions.specs.FracWords.{StepsFit, SumFits}
use Rattle.fractions.specs.Room.{Room, in_frac}

gcd-one : (n : ℕ) → gcd n 1 ≡ 1
gcd-one n = coprime_by n 1 (λ d p q. q)

over_zero : over_of zero_ℚ ≡ pos 0
unfolding of_ℤ
over_zero = (of_lowest (record { over = pos 0; under = 1; positive = lit< tt }) (gcd-one 0)).0

under_zero : under_of zero_ℚ ≡ 1
unfolding of_ℤ
under_zero = (of_lowest (record { over = pos 0; under = 1; positive = lit< tt }) (gcd-one 0)).1

pub zero_fits : Fits zero_ℚ
zero_fits = record { over = rw over_zero (lit< tt); under = rw under_zero (lit< tt) }

times_one : (a : ℤ) → a *ℤ pos 1 ≡ a
times_one a = ring whole (a ∷ []) (v 0 :* num (pos 1)) (v 0) refl

plus_none : (a z : ℤ) → a *ℤ pos 1 +ℤ pos 0 *ℤ z ≡ a
plus_none a z = ring whole (a ∷ z ∷ []) (v 0 :* num (pos 1) :+ num (pos 0) :* v 1) (v 0) refl

steps_with_zero : (a : ℤ) (b : ℕ) → nat_abs a < 2 ^ 127 → b < 2 ^ 127 → StepsFit a b (pos 0) 1
steps_with_zero a b h k = record {
  left = rw (gcd-one b, times_one a) h;
  right = rw (gcd-one b, zero-mul (b / 1)) (lit< tt);
  sum = rw (gcd-one b, plus_none a (pos (b / 1))) h;
  under = rw (gcd-one b, gcd-one (nat_abs (a *ℤ pos 1 +ℤ pos 0 *ℤ pos (b / 1))), div-one b, mul-one b) k;
}

pub room_with_zero : (p : Number) → Fits p → SumFits p zero_ℚ
room_with_zero p h = rw (over_zero, under_zero) (steps_with_zero (over_of p) (under_of p) h.over h.under)

-- 0 has room in a kind of numbers, and so has a sum with 0 where its other number has
pub record AddsNothing (m : Room) : Type 0 where
  pub zero : m.number zero_ℚ
  pub sum : (p : Number) → m.number p → m.sum p zero_ℚ

pub frac_adds_nothing : AddsNothing in_frac
frac_adds_nothing = record { zero = zero_fits; sum = room_with_zero }
