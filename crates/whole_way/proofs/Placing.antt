-- Placed numbers are spread.
use Rattle.std.proofs.Common.{◌≡◌, ℕ, zero, suc, ◌+◌, ◌<◌, Bool, true, false, List, [], ◌∷◌, drop, sym, refl, ap, ◌∙◌, arith}
use Rattle.fractions.specs.Number.{Number, zero_ℚ}
use Rattle.fractions.proofs.Totals.{put-same, put-other}
use Rattle.lp_model.specs.Vectors.{Vector, vector_of}
use Rattle.lp_passages.specs.Renumbering.{spread}
use Rattle.undo_records.specs.declared.label.Label.{Label}
use Rattle.undo_records.specs.Lift.{placed}
use Rattle.presolve_model.specs.Accounts.{live_labels_from}
use Rattle.whole_way.specs.WayBack.{PlacedIsSpread}

-- below the first id nothing is spread
below : (k j : ℕ) (labels : List Label) (x : Vector) → j < k → spread (live_labels_from k labels) x j ≡ zero_ℚ
below k j [] x l = refl
below k j (c ∷ cs) x l = by c.live refl (below (k + 1) j cs (λ a. x (suc a)) (omega (arith, l))) (below (k + 1) j cs x (omega (arith, l)))
  where
    by : (b : Bool) → c.live ≡ b → spread (live_labels_from (k + 1) cs) (λ a. x (suc a)) j ≡ zero_ℚ → spread (live_labels_from (k + 1) cs) x j ≡ zero_ℚ → spread (live_labels_from k (c ∷ cs)) x j ≡ zero_ℚ
    by true e h r = rw e (put-other (spread (live_labels_from (k + 1) cs) (λ a. x (suc a))) k (x zero) j (λ m. omega (arith, l, m)) ∙ h)
    by false e h r = rw e r

rest_of : (xs : List Number) → vector_of (drop 1 xs) ≡ (λ a. vector_of xs (suc a))
rest_of [] = refl
rest_of (x ∷ xs) = refl

-- the first label
at_first : (k : ℕ) (c : Label) (cs : List Label) (xs : List Number) → vector_of (placed (c ∷ cs) xs) zero ≡ spread (live_labels_from k (c ∷ cs)) (vector_of xs) k
at_first k c cs xs = by c.live refl
  where
    by : (b : Bool) → c.live ≡ b → vector_of (placed (c ∷ cs) xs) zero ≡ spread (live_labels_from k (c ∷ cs)) (vector_of xs) k
    by true e = rw e (sym (put-same (spread (live_labels_from (k + 1) cs) (λ a. vector_of xs (suc a))) k (vector_of xs zero)))
    by false e = rw e (sym (below (k + 1) k cs (vector_of xs) (omega arith)))

-- a later label
at_later : (k n : ℕ) (c : Label) (cs : List Label) (xs : List Number)
    → ((ys : List Number) → vector_of (placed cs ys) n ≡ spread (live_labels_from (k + 1) cs) (vector_of ys) (k + suc n))
    → vector_of (placed (c ∷ cs) xs) (suc n) ≡ spread (live_labels_from k (c ∷ cs)) (vector_of xs) (k + suc n)
at_later k n c cs xs h = by c.live refl
  where
    by : (b : Bool) → c.live ≡ b → vector_of (placed (c ∷ cs) xs) (suc n) ≡ spread (live_labels_from k (c ∷ cs)) (vector_of xs) (k + suc n)
    by true e = rw e (h (drop 1 xs) ∙ ap (λ (x : Vector). spread (live_labels_from (k + 1) cs) x (k + suc n)) (rest_of xs)
        ∙ sym (put-other (spread (live_labels_from (k + 1) cs) (λ a. vector_of xs (suc a))) k (vector_of xs zero) (k + suc n) (λ m. omega (arith, m))))
    by false e = rw e (h xs)

placed_at : (k n m : ℕ) (labels : List Label) (xs : List Number) → m ≡ k + n → vector_of (placed labels xs) n ≡ spread (live_labels_from k labels) (vector_of xs) m
placed_at k n m [] xs e = refl
placed_at k zero m (c ∷ cs) xs e = at_first k c cs xs ∙ ap (spread (live_labels_from k (c ∷ cs)) (vector_of xs)) (omega (arith, e))
placed_at k (suc n) m (c ∷ cs) xs e =
    at_later k n c cs xs (λ ys. placed_at (k + 1) n (k + suc n) cs ys (omega arith)) ∙ ap (spread (live_labels_from k (c ∷ cs)) (vector_of xs)) (sym e)

pub placed_spread : PlacedIsSpread
placed_spread labels numbers = λ t n. placed_at 0 n n labels numbers (omega arith) t
