-- Workers at places, and by their numbers.
use Rattle.std.proofs.Common.{◌≡◌, ◌≢◌, ℕ, zero, suc, ◌+◌, ◌<◌, ◌⊎◌, inl, inr, nat_eq, if◌then◌else◌, List, [], ◌∷◌, ◌++◌, length, get_or, sym, refl, ap, ◌∙◌, subst, arith, Bool, true, false}
use Rattle.std.proofs.Math.ListN.{set, get_or-append}
use Rattle.std.proofs.Math.Seq.{get_or-append_seam}
use Rattle.std.proofs.lemmas.Bool.{eq-eqb, eqb-true, ne_eqb, cases_eq}
use Rattle.std.proofs.lemmas.List.{length-append}
use Rattle.fractions.specs.Total.{put}
use Rattle.fractions.proofs.Totals.{put-same, put-other, at_or_off}
use Rattle.txn_world.specs.Workers.{WorkerData, newcomer, worker_in, nth_worker, IsAbsent, IsAt, SameWorkers, Replaces}

at_tail : (d : WorkerData) (ds : List WorkerData) (w i : ℕ) → IsAt (d ∷ ds) w (suc i) → IsAt ds w i
at_tail d ds w i h = record { within = omega (arith, h.within); number = h.number; before = λ k l. h.before (suc k) (omega (arith, l)) }

-- the worker of a number is the one at its place
pub worker_here : (ds : List WorkerData) (w i : ℕ) → IsAt ds w i → worker_in ds w ≡ nth_worker ds i
worker_here [] w i h = absurd (omega (arith, h.within))
worker_here (d ∷ ds) w zero h = rw (eq-eqb w d.number (sym h.number)) refl
worker_here (d ∷ ds) w (suc i) h = rw (ne_eqb w d.number (λ e. h.before 0 (omega arith) (sym e))) (worker_here ds w i (at_tail d ds w i h))

pub worker_absent : (ds : List WorkerData) (w : ℕ) → IsAbsent ds w → worker_in ds w ≡ newcomer w
worker_absent [] w h = refl
worker_absent (d ∷ ds) w h =
    rw (ne_eqb w d.number (λ e. h 0 (omega arith) (sym e))) (worker_absent ds w (λ k l. h (suc k) (omega (arith, l))))

-- ---- another worker at a place
set_here : (ds : List WorkerData) (w i : ℕ) (e : WorkerData) → IsAt ds w i → e.number ≡ w → worker_in (set ds i e) w ≡ e
set_here [] w i e h m = absurd (omega (arith, h.within))
set_here (d ∷ ds) w zero e h m = rw (eq-eqb w e.number (sym m)) refl
set_here (d ∷ ds) w (suc i) e h m = rw (ne_eqb w d.number (λ q. h.before 0 (omega arith) (sym q))) (set_here ds w i e (at_tail d ds w i h) m)

set_other : (ds : List WorkerData) (w i : ℕ) (e : WorkerData) → (nth_worker ds i).number ≡ w → e.number ≡ w → (v : ℕ) → v ≢ w → worker_in (set ds i e) v ≡ worker_in ds v
set_other [] w i e n m v o = refl
set_other (d ∷ ds) w zero e n m v o = rw (ne_eqb v e.number (λ q. o (q ∙ m)), ne_eqb v d.number (λ q. o (q ∙ n))) refl
set_other (d ∷ ds) w (suc i) e n m v o = ap (λ x. if nat_eq v d.number then d else x) (set_other ds w i e n m v o)

pub replaced : (ds : List WorkerData) (w i : ℕ) (e : WorkerData) → IsAt ds w i → e.number ≡ w → Replaces ds w e (set ds i e)
replaced ds w i e h m = at_or_off (λ v. worker_in (set ds i e) v ≡ put (worker_in ds) w e v) w
    (set_here ds w i e h m ∙ sym (put-same (worker_in ds) w e))
    (λ v o. set_other ds w i e h.number m v o ∙ sym (put-other (worker_in ds) w e v o))

-- ---- one worker more, who did nothing yet
pub same_pushed : (ds : List WorkerData) (w : ℕ) → SameWorkers ds (ds ++ newcomer w ∷ [])
same_pushed [] w v = by (cases_eq v w)
  where
    by : (v ≡ w) ⊎ (v ≡ w → ⊥) → worker_in (newcomer w ∷ []) v ≡ newcomer v
    by (inl e) = rw (eq-eqb v w e) (ap newcomer (sym e))
    by (inr o) = rw (ne_eqb v w o) refl
same_pushed (d ∷ ds) w v = ap (λ x. if nat_eq v d.number then d else x) (same_pushed ds w v)

pub at_pushed : (ds : List WorkerData) (w : ℕ) → IsAbsent ds w → IsAt (ds ++ newcomer w ∷ []) w (length ds)
at_pushed ds w h = record {
  within = let e : length (ds ++ newcomer w ∷ []) ≡ length ds + 1 = length-append _ _ in omega arith;
  number = ap (λ (d : WorkerData). d.number) (get_or-append_seam ds (newcomer w) [] (newcomer 0));
  before = λ k l e. h k l (sym (ap (λ (d : WorkerData). d.number) (get_or-append ds (newcomer w ∷ []) (newcomer 0) k l)) ∙ e);
}

-- ---- a worker changed
pub changed_at : (f : WorkerData → WorkerData) → ((d : WorkerData) → (f d).number ≡ d.number) → (ds mid : List WorkerData) (w i : ℕ) → SameWorkers ds mid → IsAt mid w i
    → Replaces ds w (f (worker_in ds w)) (set mid i (f (nth_worker mid i)))
changed_at f keeps ds mid w i same h v =
    let e : nth_worker mid i ≡ worker_in ds w = sym (worker_here mid w i h) ∙ same w in
    replaced mid w i (f (nth_worker mid i)) h (keeps (nth_worker mid i) ∙ h.number) v
    ∙ ap (λ d. put (worker_in mid) w (f d) v) e
    ∙ ap (λ g. put g w (f (worker_in ds w)) v) (λ t. λ k. same k t)

-- the same, where a worker was read and written
any_default : (ds : List WorkerData) (i : ℕ) (d e : WorkerData) → i < length ds → get_or ds i d ≡ get_or ds i e
any_default [] i d e l = absurd (omega (arith, l))
any_default (x ∷ ds) zero d e l = refl
any_default (x ∷ ds) (suc i) d e l = any_default ds i d e (omega (arith, l))

pub changed_there : (f : WorkerData → WorkerData) → ((d : WorkerData) → (f d).number ≡ d.number) → (ds mid : List WorkerData) (w i : ℕ) (d e : WorkerData) → SameWorkers ds mid → IsAt mid w i
    → d ≡ get_or mid i d → e ≡ f d → Replaces ds w (f (worker_in ds w)) (set mid i e)
changed_there f keeps ds mid w i d e same h read wrote =
    subst (λ x. Replaces ds w (f (worker_in ds w)) (set mid i x)) (sym (wrote ∙ ap f (read ∙ any_default mid i d (newcomer 0) h.within)))
    (changed_at f keeps ds mid w i same h)

pub worker_read : (ds : List WorkerData) (w i : ℕ) (d : WorkerData) → IsAt ds w i → d ≡ get_or ds i d → worker_in ds w ≡ d
worker_read ds w i d h read = worker_here ds w i h ∙ any_default ds i (newcomer 0) d h.within ∙ sym read

-- it has the number by which it is found
pub worker_numbered : (ds : List WorkerData) (w : ℕ) → (worker_in ds w).number ≡ w
worker_numbered [] w = refl
worker_numbered (d ∷ ds) w = by (nat_eq w d.number) refl (worker_numbered ds w)
  where
    by : (b : Bool) → nat_eq w d.number ≡ b → (worker_in ds w).number ≡ w → (if b then d else worker_in ds w).number ≡ w
    by true e ih = sym (eqb-true w d.number e)
    by false e ih = ih
