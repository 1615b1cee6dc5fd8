-- The step at which undoing has no room is one.
use Rattle.std.proofs.Common.{◌≡◌, ◌⊎◌, inl, inr, ℕ, zero, suc, pred, ◌<◌, ◌≤◌, List, [], ◌∷◌, drop, arith}
use Rattle.std.proofs.lemmas.Bool.{cases_lt}

-- where steps have room, those after the first of them have it
module _ {U : Type 0} (Room : List U → Type 0) (none : Room []) (rest : (u : U) (us : List U) → Room (u ∷ us) → Room us) where
  -- those from one on have room, and with the one before they don't
  abbrev StopsBy : List U → ℕ → Type 0
  StopsBy us a = Room (drop a us) × (Room (drop (pred a) us) → ⊥)

  pub room_drop : (us : List U) (b : ℕ) → Room us → Room (drop b us)
  room_drop us zero h = h
  room_drop [] (suc b) h = none
  room_drop (u ∷ us) (suc b) h = room_drop us b (rest u us h)

  room_later : (us : List U) (a b : ℕ) → a ≤ b → Room (drop a us) → Room (drop b us)
  room_later us zero b l h = room_drop us b h
  room_later us (suc a) zero l h = absurd (omega (arith, l))
  room_later [] (suc a) (suc b) l h = none
  room_later (u ∷ us) (suc a) (suc b) l h = room_later us a b (omega (arith, l)) h

  not_later : (us : List U) (a b : ℕ) → StopsBy us a → StopsBy us b → a < b → ⊥
  not_later us a zero s t l = omega (arith, l)
  not_later us a (suc b) s t l = t.1 (room_later us a b (omega (arith, l)) s.0)

  pub one_stop : (us : List U) (a b : ℕ) → StopsBy us a → StopsBy us b → a ≡ b
  one_stop us a b s t = by (cases_lt a b) (cases_lt b a)
    where
      by : (a < b) ⊎ (b ≤ a) → (b < a) ⊎ (a ≤ b) → a ≡ b
      by (inl l) m = absurd (not_later us a b s t l)
      by (inr g) (inl m) = absurd (not_later us b a t s m)
      by (inr g) (inr k) = omega (arith, g, k)
