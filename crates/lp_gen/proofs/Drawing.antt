-- Draws that go on from a later state.
use Rattle.std.proofs.Common.{◌≡◌, ℕ, zero, suc, ◌+◌, ◌*◌, ◌/◌, ◌%◌, ◌^◌, ◌<◌, ◌∙◌, refl, ap, arith}
use Rattle.std.proofs.Math.Nat.{mod-add-mod}
use Rattle.std.proofs.lemmas.Nat.{mod_below}
use Rattle.lp_gen.specs.Draws.{state_after, drawn}

abbrev next : ℕ → ℕ
next state = (state * 6364136223846793005 + 1442695040888963407) % 2 ^ 64

pub states_join : (seed a b : ℕ) → state_after (state_after seed a) b ≡ state_after seed (a + b)
unfolding state_after
states_join seed a zero = let e : a ≡ a + 0 = omega arith in ap (state_after seed) e
states_join seed a (suc b) = let e : suc (a + b) ≡ a + suc b = omega arith in ap next (states_join seed a b) ∙ ap (state_after seed) e

pub drawn_later : (seed a k n : ℕ) → drawn (state_after seed a) k n ≡ drawn seed (a + k) n
unfolding drawn
drawn_later seed a k n =
    let e : a + suc k ≡ suc (a + k) = omega arith in
    ap (λ (state : ℕ). state / 2 ^ 33 % n) (states_join seed a (suc k) ∙ ap (state_after seed) e)

pub drawn_below : (seed k n : ℕ) → 0 < n → drawn seed k n < n
unfolding drawn
drawn_below seed k n some = mod_below _ n some

-- the state as the code makes it
pub state_once : (state : ℕ) → (state * 6364136223846793005 % 2 ^ 64 + 1442695040888963407) % 2 ^ 64 ≡ state_after state 1
unfolding state_after
state_once state = mod-add-mod (state * 6364136223846793005) (2 ^ 64) 1442695040888963407

pub drawn_once : (state n : ℕ) → (state * 6364136223846793005 % 2 ^ 64 + 1442695040888963407) % 2 ^ 64 / 2 ^ 33 % n ≡ drawn state 0 n
unfolding drawn
drawn_once state n = ap (λ (s : ℕ). s / 2 ^ 33 % n) (state_once state)

pub no_draw : (seed : ℕ) → seed ≡ state_after seed 0
unfolding state_after
no_draw seed = refl

pub state_here : (seed a k m draws new : ℕ) → draws ≡ state_after seed a → new ≡ state_after draws k → a + k ≡ m → new ≡ state_after seed m
state_here seed a k m draws new is then e = then ∙ ap (λ (s : ℕ). state_after s k) is ∙ states_join seed a k ∙ ap (state_after seed) e

pub drawn_here : (seed a n draws : ℕ) → draws ≡ state_after seed a → drawn draws 0 n ≡ drawn seed a n
drawn_here seed a n draws is = let e : a + 0 ≡ a = omega arith in ap (λ (s : ℕ). drawn s 0 n) is ∙ drawn_later seed a 0 n ∙ ap (λ (k : ℕ). drawn seed k n) e
