-- The test of decimal numbers finds exactly them.
use Rattle.std.proofs.Common.{◌≡◌, ℕ, ◌*◌, ◌/◌, ◌%◌, ◌^◌, ◌<◌, ◌≤◌, Bool, true, false, eqb, ltb, Option, Some, None, nat_abs, ◌↔◌, arith, sym, ◌∙◌, refl, subst, div-add-mod'}
use Prim.Native.Nat.{◌∣◌}
use Rattle.std.specs.Prelude.{is_some, ◌&&◌}
use Rattle.std.proofs.lemmas.Bool.{eqb-true, false≢true, lt-ltb, and_parts}
use native.Mathlib.Nat.{dvd-mul_left, div-mul_cancel}
use Rattle.fractions.specs.Number.{Number}
use Rattle.fractions.specs.Lowest.{over_of, under_of}
use Rattle.fractions.specs.Decimal.{HasPlaces, Decimal}
use Rattle.fractions.proofs.Decimals.{HasPlaces-lowest}
use Rattle.fractions.specs.Places.{has_room, places_of, is_decimal}
use Rattle.fractions.proofs.Placing.{room_of}
use Rattle.fractions.proofs.Least.{least_place, no_place}

-- ---- there is room for k decimals where the number has so many
pub room-has_places : (q : Number) (k : ℕ) → has_room (nat_abs (over_of q)) (under_of q) k ≡ true → HasPlaces q k
unfolding has_room
room-has_places q k e =
    let h = and_parts _ _ e in
    let z : 10 ^ k % under_of q ≡ 0 = eqb-true _ _ h.0 in
    let t : 10 ^ k / under_of q * under_of q ≡ 10 ^ k = let a = div-add-mod' (10 ^ k) (under_of q) in omega arith in
    (HasPlaces-lowest q k).1 (subst (λ (n : ℕ). under_of q ∣ n) t (dvd-mul_left (under_of q) (10 ^ k / under_of q)), room_of (nat_abs (over_of q)) (under_of q) k e)

both : (r s : ℕ) → r ≡ 0 → s < 2 ^ 127 → (eqb r 0 && ltb s (2 ^ 127)) ≡ true
both r s e l = rw (e, lt-ltb _ _ l) refl

pub has_places-room : (q : Number) (k : ℕ) → HasPlaces q k → has_room (nat_abs (over_of q)) (under_of q) k ≡ true
unfolding has_room
has_places-room q k p =
    let h = (HasPlaces-lowest q k).0 p in
    let t : 10 ^ k / under_of q * under_of q ≡ 10 ^ k = div-mul_cancel (under_of q) h.0 in
    let z : 10 ^ k % under_of q ≡ 0 = let a = div-add-mod' (10 ^ k) (under_of q) in omega arith in
    both (10 ^ k % under_of q) (nat_abs (over_of q) * (10 ^ k / under_of q)) z h.1

pub no_room-no_places : (q : Number) (k : ℕ) → has_room (nat_abs (over_of q)) (under_of q) k ≡ false → HasPlaces q k → ⊥
no_room-no_places q k e p = false≢true (sym e ∙ has_places-room q k p)

-- ---- the place that is found is the least
pub least_places : (q : Number) (k : ℕ) → places_of q ≡ Some k → (k ≤ 38) × HasPlaces q k × ((i : ℕ) → i < k → HasPlaces q i → ⊥)
least_places q k e =
    let h = least_place (nat_abs (over_of q)) (under_of q) k e in
    (h.0, room-has_places q k h.1, λ i l. no_room-no_places q i (h.2 i l))

pub no_places : (q : Number) → places_of q ≡ None → (i : ℕ) → i ≤ 38 → HasPlaces q i → ⊥
no_places q e i l = no_room-no_places q i (no_place (nat_abs (over_of q)) (under_of q) e i l)

-- ---- the test finds exactly the decimal numbers
pub decimal-from_test : (q : Number) → is_decimal q ≡ true → Decimal q
unfolding is_decimal
decimal-from_test q e = by (places_of q) refl e
  where
    by : (o : Option ℕ) → places_of q ≡ o → is_some o ≡ true → Decimal q
    by None p t = absurd (false≢true t)
    by (Some k) p t = let h = least_places q k p in record { places = k; few = h.0; written = h.1 }

pub test-from_decimal : (q : Number) → Decimal q → is_decimal q ≡ true
unfolding is_decimal
test-from_decimal q d = by (places_of q) refl
  where
    by : (o : Option ℕ) → places_of q ≡ o → is_some o ≡ true
    by (Some k) e = refl
    by None e = absurd (no_places q e d.places d.few d.written)

pub test_says : (b : Bool) (q : Number) → b ≡ is_some (places_of q) → (b ≡ true) ↔ Decimal q
unfolding is_decimal
test_says b q e = (λ t. decimal-from_test q (sym e ∙ t), λ d. e ∙ test-from_decimal q d)
