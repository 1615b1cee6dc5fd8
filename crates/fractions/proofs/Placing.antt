-- One try more, and what is known of the place that is found.
use Rattle.std.proofs.Common.{◌≡◌, ◌≢◌, ℕ, zero, suc, ◌+◌, ◌-◌, ◌*◌, ◌/◌, ◌%◌, ◌^◌, ◌<◌, ◌≤◌, ◌==◌, Bool, true, false, cond, Some, None, arith, refl, subst, sym, ap, ◌∙◌}
use Prim.Native.Nat.{◌∣◌}
use Rattle.std.specs.Prelude.{◌&&◌, nat_lt}
use Rattle.std.proofs.lemmas.Nat.{pow-add}
use native.Mathlib.Nat.{dvd_of_mod-eq-zero, mod-eq-zero_of_dvd, dvd-mul_left_of_dvd}
use Rattle.std.proofs.lemmas.Bool.{eqb-true, and_parts}
use Rattle.std.proofs.lemmas.Bool.Decides.{nat_tests}
use Rattle.fractions.specs.Places.{has_room, place_from, place_of}

pub place_here : (m d k : ℕ) → k < 39 → has_room m d k ≡ true → place_from (39 - k) m d k ≡ Some k
unfolding place_from
place_here m d k lt room = let e : 39 - k ≡ suc (38 - k) = omega arith in rw (e, room) refl

pub place_further : (m d k : ℕ) → k < 39 → has_room m d k ≡ false → place_from (39 - k) m d k ≡ place_from (39 - (k + 1)) m d (k + 1)
unfolding place_from
place_further m d k lt room = let e : 39 - k ≡ suc (39 - (k + 1)) = omega arith in rw (e, room) refl

pub place_start : (m d : ℕ) → place_from 39 m d 0 ≡ place_of m d
unfolding place_of
place_start m d = refl

pub place_end : (m d k : ℕ) → 39 ≤ k → place_from (39 - k) m d k ≡ None
unfolding place_from
place_end m d k le = let e : 39 - k ≡ 0 = omega arith in rw e refl

pub room_of : (m d k : ℕ) → has_room m d k ≡ true → m * (10 ^ k / d) < 2 ^ 127
unfolding has_room
room_of m d k e = grind (arith, nat_tests)

pub place_from-room : (left m d j k : ℕ) → place_from left m d j ≡ Some k → has_room m d k ≡ true
unfolding place_from
place_from-room zero m d j k e = absurd cc
place_from-room (suc left) m d j k e = by (has_room m d j) refl e (place_from-room left m d (j + 1) k)
  where
    by : (b : Bool) → has_room m d j ≡ b → cond b (Some j) (place_from left m d (j + 1)) ≡ Some k → (place_from left m d (j + 1) ≡ Some k → has_room m d k ≡ true) → has_room m d k ≡ true
    by true r f g = let h : j ≡ k = cc in subst (λ (i : ℕ). has_room m d i ≡ true) h r
    by false r f g = g f

pub place_of-room : (m d k : ℕ) → place_of m d ≡ Some k → (10 ^ k % d ≡ 0) × (m * (10 ^ k / d) < 2 ^ 127)
unfolding place_of has_room
place_of-room m d k e = let h = and_parts _ _ (place_from-room 39 m d 0 k e) in (eqb-true _ _ h.0, room_of m d k (place_from-room 39 m d 0 k e))

-- where 38 decimals are too few, no number of decimals up to 38 has room
few_shown : (m d k : ℕ) → 10 ^ 38 % d ≢ 0 → k ≤ 38 → has_room m d k ≡ false
unfolding has_room
few_shown m d k not le = by (10 ^ k % d == 0) refl
  where
    whole : 10 ^ k % d ≡ 0 → 10 ^ 38 % d ≡ 0
    whole e =
        let t : d ∣ 10 ^ k = dvd_of_mod-eq-zero d e in
        let s : 10 ^ 38 ≡ 10 ^ (38 - k) * 10 ^ k = (let a : 38 - k + k ≡ 38 = omega (arith, le) in ap (λ (i : ℕ). 10 ^ i) (sym a)) ∙ pow-add 10 (38 - k) k in
        mod-eq-zero_of_dvd d (subst (λ (n : ℕ). d ∣ n) (sym s) (dvd-mul_left_of_dvd d t (10 ^ (38 - k))))

    by : (b : Bool) → (10 ^ k % d == 0) ≡ b → (b && nat_lt (m * (10 ^ k / d)) (2 ^ 127)) ≡ false
    by true e = absurd (not (whole (eqb-true _ _ e)))
    by false e = refl

all_far : (left m d j : ℕ) → 10 ^ 38 % d ≢ 0 → j + left ≤ 39 → place_from left m d j ≡ None
unfolding place_from
all_far zero m d j not le = refl
all_far (suc left) m d j not le = rw (few_shown m d j not (omega (arith, le)), all_far left m d (j + 1) not (omega (arith, le))) refl

pub none_shown : (m d : ℕ) → 10 ^ 38 % d ≢ 0 → place_of m d ≡ None
unfolding place_of
none_shown m d not = all_far 39 m d 0 not (omega arith)
