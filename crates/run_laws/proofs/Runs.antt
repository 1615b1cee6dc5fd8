-- Runs: how they go on and stop, and that there is one at most.
use Rattle.std.proofs.Common.{◌≡◌, inl, inr, ℕ, zero, suc, ◌<◌, ◌≤◌, List, [], ◌∷◌, length, Option, Some, None, sym, refl, ap, ◌∙◌, subst, arith}
use Rattle.presolve_model.specs.declared.conclusion.End.{End}
use Rattle.presolve_model.specs.declared.conclusion.End.TheVariants.{Fixpoint, LimitReached}
use Rattle.presolve_model.specs.declared.instance.Instance.{Instance}
use Rattle.presolve_model.specs.Ledger.{Ledger}
use Rattle.presolve_model.specs.Ordered.{Closes, Committed, enabled_verdicts, EndsIn, GoesOn, IsRound, Ordered, round_list, Stops, StopsAfter}
use Rattle.presolve_model.specs.Stuck.{skipped_on}
use Rattle.presolve_model.specs.Tallies.{open_on}
use Rattle.round_laws.proofs.Committing.{committed_same}

pub run_more : (b c d : Ledger) (e : Option End) → length b.history < b.limit → Committed b (round_list b) c → c.verdict ≡ None → length b.history < length c.history → Ordered c e d → Ordered b e d
run_more b c d e room h none more (n, k) = (suc n, (c, record { round = record { room = room; committed = h }; undecided = none; more = more }, k))

pub run_stops : (b c : Ledger) (e : Option End) → length b.history < b.limit → Committed b (round_list b) c → EndsIn b e c → Ordered b e c
run_stops b c e room h k = (zero, inl (record { room = room; committed = h }, k))

pub run_full : (b c : Ledger) (e : Option End) → b.limit ≤ length b.history → Closes b (enabled_verdicts (open_on b.tally) b.problem) e c → Ordered b e c
run_full b c e full k = (zero, inr (full, k))

-- ---- there is one run at most
fixpoint_same : (b c d : Ledger) (m n : ℕ) → EndsIn b (Some (Fixpoint m)) c → EndsIn b (Some (Fixpoint n)) d → c ≡ d → Some (Fixpoint m) ≡ Some (Fixpoint n)
fixpoint_same b c d m n x y s = ap (λ (k : ℕ). Some (Fixpoint k)) (x.2 ∙ ap (λ (z : Ledger). skipped_on (open_on z.tally) z.problem) s ∙ sym y.2)

ends_same : (b c d : Ledger) (e f : Option End) → EndsIn b e c → EndsIn b f d → c ≡ d → e ≡ f
ends_same b c d None None x y s = refl
ends_same b c d None (Some (Fixpoint n)) x y s = absurd (x (ap (λ (z : Ledger). z.verdict) s ∙ y.0))
ends_same b c d None (Some LimitReached) x y s = absurd y
ends_same b c d (Some (Fixpoint m)) None x y s = absurd (y (ap (λ (z : Ledger). z.verdict) (sym s) ∙ x.0))
ends_same b c d (Some (Fixpoint m)) (Some (Fixpoint n)) x y s = fixpoint_same b c d m n x y s
ends_same b c d (Some (Fixpoint m)) (Some LimitReached) x y s = absurd y
ends_same b c d (Some LimitReached) f x y s = absurd x

closes_same : (b c d : Ledger) (e f : Option End) (vs : List Instance) → Closes b vs e c → Closes b vs f d → (e ≡ f) × (c ≡ d)
closes_same b c d e f [] x y = (x.0 ∙ sym y.0, x.1 ∙ sym y.1)
closes_same b c d e f (v ∷ vs) x y = (x.0 ∙ sym y.0, x.1 ∙ sym y.1)

round_same : (b c d : Ledger) → IsRound b c → IsRound b d → c ≡ d
round_same b c d x y = committed_same b c d (round_list b) x.committed y.committed

stops_same : (b c d : Ledger) (e f : Option End) → Stops b e c → Stops b f d → (e ≡ f) × (c ≡ d)
stops_same b c d e f (inl (x, h)) (inl (y, k)) = let s = round_same b c d x y in (ends_same b c d e f h k s, s)
stops_same b c d e f (inl (x, h)) (inr (full, k)) = absurd (let r = x.room in omega (arith, r, full))
stops_same b c d e f (inr (full, h)) (inl (y, k)) = absurd (let r = y.room in omega (arith, r, full))
stops_same b c d e f (inr (full, h)) (inr (_, k)) = closes_same b c d e f (enabled_verdicts (open_on b.tally) b.problem) h k

goes_or_stops : (b c d : Ledger) (f : Option End) → GoesOn b c → Stops b f d → ⊥
goes_or_stops b c d f g (inr (full, k)) = let r = g.round.room in omega (arith, r, full)
goes_or_stops b c d f g (inl (y, k)) = by f k (round_same b c d g.round y)
  where
    by : (f : Option End) → EndsIn b f d → c ≡ d → ⊥
    by None k s = k (ap (λ (z : Ledger). z.verdict) (sym s) ∙ g.undecided)
    by (Some (Fixpoint n)) k s = let l : length c.history ≡ length d.history = ap (λ (z : Ledger). length z.history) s in let m = g.more in let o = k.1 in omega (arith, m, l, o)
    by (Some LimitReached) k s = k

stops_after_same : (n m : ℕ) (b c d : Ledger) (e f : Option End) → StopsAfter n b e c → StopsAfter m b f d → (e ≡ f) × (c ≡ d)
stops_after_same zero zero b c d e f x y = stops_same b c d e f x y
stops_after_same zero (suc m) b c d e f x (g, h, y) = absurd (goes_or_stops b g c e h x)
stops_after_same (suc n) zero b c d e f (g, h, x) y = absurd (goes_or_stops b g d f h y)
stops_after_same (suc n) (suc m) b c d e f (g, h, x) (u, k, y) =
    stops_after_same n m g c d e f x (subst (λ (z : Ledger). StopsAfter m z f d) (sym (round_same b g u h.round k.round)) y)

pub ordered_same : (b c d : Ledger) (e f : Option End) → Ordered b e c → Ordered b f d → (e ≡ f) × (c ≡ d)
ordered_same b c d e f (n, x) (m, y) = stops_after_same n m b c d e f x y
