-- What has room, as a test and as a fact.
use Rattle.std.proofs.Common.{◌≡◌, ℕ, ◌<◌, ap₂, Bool, true, false, ◌&&◌, IsTrue, ◌↔◌, [], ◌∷◌, pos, sym, refl, ap, Result, Ok, Err, IfOk, IsOk, nat_lt}
use Rattle.std.proofs.lemmas.Bool.{true≢false, lt-ltb, ltb-true}
use Rattle.fractions.specs.Ring.{ring, v, num, ◌:*◌}
use Rattle.fractions.specs.Number.{Number, rational, zero_ℚ, ◌*ℚ◌}
use Rattle.fractions.specs.Lowest.{Fits}
use Rattle.fractions.specs.declared.Past.{Past}
use Rattle.fractions.specs.FracWords.{SumFits}
use Rattle.row_spans.specs.Exact.{fits, steps_fit, sum_fits, if_room}

both : (a b : Bool) → (a && b) ≡ true → (a ≡ true) × (b ≡ true)
both true b e = (refl, e)
both false b e = absurd (true≢false (sym e))

lt-is : (m n : ℕ) → IsTrue (nat_lt m n) ↔ (m < n)
lt-is m n = (ltb-true m n, lt-ltb m n)

pub fits-is : (q : Number) → IsTrue (fits q) ↔ Fits q
unfolding fits
fits-is q = (
  λ h. let b = both _ _ h in record { over = (lt-is _ _).0 b.0; under = (lt-is _ _).0 b.1 },
  λ f. ap₂ ◌&&◌ ((lt-is _ _).1 f.over) ((lt-is _ _).1 f.under),
)

pub sum_fits-is : (p q : Number) → IsTrue (sum_fits p q) ↔ SumFits p q
unfolding sum_fits steps_fit
sum_fits-is p q = (
  λ h. let b = both _ _ h in let c = both _ _ b.0 in let d = both _ _ c.0 in
      record { left = (lt-is _ _).0 d.0; right = (lt-is _ _).0 d.1; sum = (lt-is _ _).0 c.1; under = (lt-is _ _).0 b.1 },
  λ f. ap₂ ◌&&◌ (ap₂ ◌&&◌ (ap₂ ◌&&◌ ((lt-is _ _).1 f.left) ((lt-is _ _).1 f.right)) ((lt-is _ _).1 f.sum)) ((lt-is _ _).1 f.under),
)

-- an answer that is told by a fact is told by its test
pub room : {F : Type 0} (r : Result Number Past) (b : Bool) (q : Number) → (IsTrue b ↔ F) → IfOk r (λ x. x ≡ q) → (IsOk r ↔ F) → r ≡ if_room b q
room (Ok x) true q t is f = ap Ok is
room (Ok x) false q t is f = absurd (true≢false (sym (t.1 (f.0 refl))))
room (Err e) true q t is f = absurd (true≢false (sym (f.1 (t.0 refl))))
room (Err e) false q t is f = refl

pub times_zero : (a : Number) → a *ℚ zero_ℚ ≡ zero_ℚ
times_zero a = ring rational (a ∷ []) (v 0 :* num (pos 0)) (num (pos 0)) refl

pub ruleset zero_rules = (times_zero)
