-- What a change of one worker makes of the state.
use Rattle.std.proofs.Common.{◌≡◌, ℕ, Bool, true, false, nat_eq, if◌then◌else◌, List, [], ◌∷◌, ◌++◌, drop, Option, Some, None, sym, refl, ap, ◌∙◌, subst, get_or}
use Rattle.fractions.specs.Total.{put}
use Rattle.fractions.proofs.Totals.{put-same, put-other, at_or_off}
use Rattle.presolve_model.specs.declared.outcome.Outcome.{Outcome}
use Rattle.presolve_model.specs.Given.{Proposed}
use Rattle.presolve_model.specs.Ledger.{Ledger}
use Rattle.presolve_model.specs.Worlds.{Version, version_of, Freeze, Propose, Commit, Commits, Steps}
use Rattle.txn_world.specs.Events.{CommitsFirst}
use Rattle.txn_world.specs.Workers.{IsAbsent, IsAt, Replaces, SameWorkers, WorkerData, state_of, worker_in}
use Rattle.txn_world.proofs.Placing.{worker_absent, worker_numbered, worker_read}

put_map : {A B : Type 0} (g : A → B) (f : ℕ → A) (w : ℕ) (e : A) (k : ℕ) → g (put f w e k) ≡ put (λ v. g (f v)) w (g e) k
unfolding put
put_map g f w e k = by (nat_eq k w)
  where
    by : (b : Bool) → g (if b then e else f k) ≡ (if b then g e else g (f k))
    by true = refl
    by false = refl

put_own : {A : Type 0} (f : ℕ → A) (w : ℕ) (k : ℕ) → put f w (f w) k ≡ f k
put_own f w k = at_or_off (λ v. put f w (f w) v ≡ f v) w (put-same f w (f w)) (λ v o. put-other f w (f w) v o) k

-- no worker changed
pub state_same : (b : Ledger) (ds es : List WorkerData) → SameWorkers ds es → state_of (record { book = b; workers = es }) ≡ state_of (record { book = b; workers = ds })
state_same b ds es same = λ t. record { book = b; frozen = λ k. (same k t).frozen; pending = λ k. (same k t).pending }

-- the worker w has another frozen version
pub freeze_steps : (b : Ledger) (ds es : List WorkerData) (w : ℕ) (v : Version) → v ≡ version_of b → Replaces ds w (record (worker_in ds w) { frozen = Some v }) es
    → Steps (state_of (record { book = b; workers = ds })) (Freeze w) None (state_of (record { book = b; workers = es }))
freeze_steps b ds es w v is r =
    let froze : (k : ℕ) → (worker_in es k).frozen ≡ put (λ u. (worker_in ds u).frozen) w (Some (version_of b)) k = λ k.
    ap (λ (d : WorkerData). d.frozen) (r k) ∙ put_map (λ (d : WorkerData). d.frozen) (worker_in ds) w (record (worker_in ds w) { frozen = Some v }) k
    ∙ ap (λ u. put (λ x. (worker_in ds x).frozen) w (Some u) k) is in
    let kept : (k : ℕ) → (worker_in es k).pending ≡ (worker_in ds k).pending = λ k.
    ap (λ (d : WorkerData). d.pending) (r k) ∙ put_map (λ (d : WorkerData). d.pending) (worker_in ds) w (record (worker_in ds w) { frozen = Some v }) k
    ∙ put_own (λ u. (worker_in ds u).pending) w k in
    (refl, λ t. record { book = b; frozen = λ k. froze k t; pending = λ k. kept k t })

-- the worker w has other proposals
pending_put : (b : Ledger) (ds es : List WorkerData) (w : ℕ) (ps : List Proposed) → Replaces ds w (record (worker_in ds w) { pending = ps }) es
    → state_of (record { book = b; workers = es }) ≡ record (state_of (record { book = b; workers = ds })) { pending = put (λ u. (worker_in ds u).pending) w ps }
pending_put b ds es w ps r =
    let kept : (k : ℕ) → (worker_in es k).frozen ≡ (worker_in ds k).frozen = λ k.
    ap (λ (d : WorkerData). d.frozen) (r k) ∙ put_map (λ (d : WorkerData). d.frozen) (worker_in ds) w (record (worker_in ds w) { pending = ps }) k
    ∙ put_own (λ u. (worker_in ds u).frozen) w k in
    let proposed : (k : ℕ) → (worker_in es k).pending ≡ put (λ u. (worker_in ds u).pending) w ps k = λ k.
    ap (λ (d : WorkerData). d.pending) (r k) ∙ put_map (λ (d : WorkerData). d.pending) (worker_in ds) w (record (worker_in ds w) { pending = ps }) k in
    λ t. record { book = b; frozen = λ k. kept k t; pending = λ k. proposed k t }

pub propose_steps : (b : Ledger) (ds es : List WorkerData) (w : ℕ) (p : Proposed) → Replaces ds w (record (worker_in ds w) { pending = (worker_in ds w).pending ++ p ∷ [] }) es
    → Steps (state_of (record { book = b; workers = ds })) (Propose w p) None (state_of (record { book = b; workers = es }))
propose_steps b ds es w p r = (refl, pending_put b ds es w ((worker_in ds w).pending ++ p ∷ []) r)

-- ---- the first proposal of the worker w was committed
pub nothing_steps : (b c : Ledger) (ds : List WorkerData) (w : ℕ) → CommitsFirst b w (worker_in ds w).pending None c
    → Steps (state_of (record { book = b; workers = ds })) (Commit w) None (state_of (record { book = c; workers = ds }))
nothing_steps b c ds w h = by (worker_in ds w).pending h
  where
    by : (ps : List Proposed) → CommitsFirst b w ps None c → Commits (state_of (record { book = b; workers = ds })) w ps None (state_of (record { book = c; workers = ds }))
    by [] g = ap (λ x. state_of (record { book = x; workers = ds })) g
    by (p ∷ ps) g = absurd g

pub commit_steps : (b c : Ledger) (ds es : List WorkerData) (w : ℕ) (o : Outcome) → CommitsFirst b w (worker_in ds w).pending (Some o) c
    → Replaces ds w (record (worker_in ds w) { pending = drop 1 (worker_in ds w).pending }) es
    → Steps (state_of (record { book = b; workers = ds })) (Commit w) (Some o) (state_of (record { book = c; workers = es }))
commit_steps b c ds es w o h r = by (worker_in ds w).pending h r
  where
    by : (ps : List Proposed) → CommitsFirst b w ps (Some o) c → Replaces ds w (record (worker_in ds w) { pending = drop 1 ps }) es
        → Commits (state_of (record { book = b; workers = ds })) w ps (Some o) (state_of (record { book = c; workers = es }))
    by [] g q = absurd g
    by (p ∷ ps) g q = (g.0, pending_put c ds es w ps q ∙ ap (λ x. record (state_of (record { book = x; workers = ds })) { pending = put (λ u. (worker_in ds u).pending) w ps }) g.1)

pub absent_steps : (b : Ledger) (ds : List WorkerData) (w : ℕ) → IsAbsent ds w
    → Steps (state_of (record { book = b; workers = ds })) (Commit w) None (state_of (record { book = b; workers = ds }))
absent_steps b ds w h = nothing_steps b b ds w (subst (λ (d : WorkerData). CommitsFirst b w d.pending None b) (sym (worker_absent ds w h)) refl)

-- what the worker that was read has committed is what the worker of that number has
pub commits_read : (b c : Ledger) (ds : List WorkerData) (w i : ℕ) (d : WorkerData) (o : Option Outcome) → IsAt ds w i → d ≡ get_or ds i d → CommitsFirst b d.number d.pending o c → CommitsFirst b w (worker_in ds w).pending o c
commits_read b c ds w i d o h read k =
    subst (λ (n : ℕ). CommitsFirst b n (worker_in ds w).pending o c) (worker_numbered ds w)
    (subst (λ (x : WorkerData). CommitsFirst b x.number x.pending o c) (sym (worker_read ds w i d h read)) k)
