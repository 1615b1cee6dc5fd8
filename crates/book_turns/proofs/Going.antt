-- A legal history keeps the book.
use Rattle.std.proofs.Common.{◌≡◌, ℕ, zero, suc, ◌+◌, Bool, true, false, cond, List, [], ◌∷◌, ◌++◌, length, map, take, Option, Some, None, refl, sym, ap, ◌∙◌, subst, arith, append_assoc, append-nil, take_all}
use Rattle.std.specs.Prelude.{IfSome, Ok}
use Rattle.std.specs.List.{All, Contains, filter}
use Rattle.std.proofs.lemmas.List.Elements.{All-cons, All-nil}
use Rattle.shared_book.specs.declared.call.Call.TheVariants.{Commit, Freeze}
use Rattle.shared_book.specs.History.{HasFrozen, IsAnswered, Known, Shared}
use Rattle.undo_records.specs.declared.undo.Undo.{Undo}
use Rattle.problem_model.specs.Sparse.{Sparse}
use Rattle.presolve_model.specs.declared.instance.Instance.{Instance}
use Rattle.presolve_model.specs.declared.instance.Instance.TheVariants as at
use Rattle.presolve_model.specs.declared.instance.Reduction.{Reduction}
use Rattle.presolve_model.specs.declared.instance.Verdict.{Verdict}
use Rattle.presolve_model.specs.declared.outcome.Outcome.TheVariants.{Closed, Full, Stale, Past, NotDecimal, Applied, NoMemory}
use Rattle.presolve_model.specs.Commits.{with_instance}
use Rattle.presolve_model.specs.Enabled.{Enabled, enabled_on, reading_of}
use Rattle.presolve_model.specs.Given.{Proposed}
use Rattle.presolve_model.specs.declared.instance.Rule.{Rule}
use Rattle.presolve_model.specs.Instances.{instances_from, is_open}
use Rattle.presolve_model.specs.Ledger.{instance_count, Ledger, Stands}
use Rattle.presolve_model.specs.Replay.{records, replay}
use Rattle.presolve_model.specs.Scans.{chunk_ids, found_in, instances_at, proposal_of}
use Rattle.presolve_model.specs.Tallies.{Open, open_by, open_on}
use Rattle.presolve_model.specs.Worlds.{Version, version_of}
use Rattle.presolve_model.proofs.Tallying.{open_same}
use Rattle.history_laws.proofs.Books.{stands_left}
use Rattle.place_laws.proofs.Places.{from_is}
use Rattle.place_laws.proofs.ShortLists.{comes_from}
use Rattle.instances.proofs.Proposing.{reading_enables}
use Rattle.txn_book.specs.Sharing.{after_call, allows_call, IsFrom, past_problem, past_records, takes_later}
use Rattle.book_turns.specs.Turns.{GoesOn, IsCalled, IsHistory, IsPass, left_of, StandsAt, Turn}

-- ---- a history in two parts
pub left_parts : (b : Ledger) (cs ds : List Turn) → left_of b (cs ++ ds) ≡ left_of (left_of b cs) ds
left_parts b [] ds = refl
left_parts b (c ∷ cs) ds = left_parts (after_call b c) cs ds

pub history_front : (b : Ledger) (cs ds : List Turn) → IsHistory b (cs ++ ds) → IsHistory b cs
history_front b [] ds h = tt
history_front b (c ∷ cs) ds h = (h.0, history_front (after_call b c) cs ds h.1)

pub history_rest : (b : Ledger) (cs ds : List Turn) → IsHistory b (cs ++ ds) → IsHistory (left_of b cs) ds
history_rest b [] ds h = h
history_rest b (c ∷ cs) ds h = history_rest (after_call b c) cs ds h.1

-- ---- one call
pub enabled_read : (b : Ledger) (p : Proposed) → IsFrom b p → Enabled p.instance p.reading
enabled_read b p t = subst (Enabled p.instance) (sym t.reading) (reading_enables (past_problem b p.version) p.instance t.enabled)

same_here : (b : Ledger) → Stands b → GoesOn b b
same_here b s = record { stands = s; start = refl; numbers = refl; limit = refl; history = ([], sym (append-nil b.history)); closed = by b.verdict refl }
  where
    by : (o : Option Verdict) → b.verdict ≡ o → IfSome o (λ v. (b.verdict ≡ Some v) × (b.history ≡ b.history))
    by None e = tt
    by (Some v) e = (e, refl)

none_closed : (b c : Ledger) → b.verdict ≡ None → IfSome b.verdict (λ v. (c.verdict ≡ Some v) × (c.history ≡ b.history))
none_closed b c none = subst (λ (o : Option Verdict). IfSome o (λ v. (c.verdict ≡ Some v) × (c.history ≡ b.history))) (sym none) tt

with_one : (b : Ledger) (w version : ℕ) (e : Instance) → b.verdict ≡ None → Stands (with_instance b w version e) → GoesOn b (with_instance b w version e)
with_one b w version (at.Reduction r) none s = record { stands = s; start = refl; numbers = refl; limit = refl; history = (r ∷ [], refl); closed = none_closed b (with_instance b w version (at.Reduction r)) none }
with_one b w version (at.Verdict v) none s = record { stands = s; start = refl; numbers = refl; limit = refl; history = ([], sym (append-nil b.history)); closed = none_closed b (with_instance b w version (at.Verdict v)) none }

pub one_call : (b : Ledger) (c : Turn) → Stands b → IsAnswered IsFrom allows_call b c → GoesOn b (after_call b c)
one_call b (Freeze reply) s a = same_here b s
one_call b (Commit w p (Applied k)) s a = with_one b w p.version p.instance a.1.0.undecided (stands_left b w p (Applied k) s (enabled_read b p a.0) a.1)
one_call b (Commit w p (Closed v)) s a = same_here b s
one_call b (Commit w p Full) s a = same_here b s
one_call b (Commit w p (Stale k)) s a = same_here b s
one_call b (Commit w p Past) s a = same_here b s
one_call b (Commit w p NotDecimal) s a = same_here b s
one_call b (Commit w p NoMemory) s a = same_here b s

-- ---- one after the other
goes_further : (a b c : Ledger) → GoesOn a b → GoesOn b c → GoesOn a c
goes_further a b c h k = record {
  stands = k.stands;
  start = k.start ∙ h.start;
  numbers = k.numbers ∙ h.numbers;
  limit = k.limit ∙ h.limit;
  history = (h.history.0 ++ k.history.0, k.history.1 ∙ ap (λ (rs : List Reduction). rs ++ k.history.0) h.history.1 ∙ append_assoc a.history h.history.0 k.history.0);
  closed = by a.verdict h.closed;
}
  where
    by : (o : Option Verdict) → IfSome o (λ v. (b.verdict ≡ Some v) × (b.history ≡ a.history)) → IfSome o (λ v. (c.verdict ≡ Some v) × (c.history ≡ a.history))
    by None e = tt
    by (Some v) e = let m : (c.verdict ≡ Some v) × (c.history ≡ b.history) = subst (λ (o : Option Verdict). IfSome o (λ w. (c.verdict ≡ Some w) × (c.history ≡ b.history))) e.0 k.closed in (m.0, m.1 ∙ e.1)

pub goes_along : (b : Ledger) (cs : List Turn) → Stands b → IsHistory b cs → GoesOn b (left_of b cs)
goes_along b [] s h = same_here b s
goes_along b (c ∷ cs) s h =
    let one = one_call b c s h.0 in
    goes_further b (after_call b c) (left_of (after_call b c) cs) one (goes_along (after_call b c) cs one.stands h.1)

-- ---- what is applied stands at its place
stands_later : (b c : Ledger) (k : ℕ) (e : Instance) → GoesOn b c → StandsAt b k e → StandsAt c k e
stands_later b c k (at.Reduction r) h (before, after, is, place) =
    (before, after ++ h.history.0, h.history.1 ∙ ap (λ (rs : List Reduction). rs ++ h.history.0) is ∙ append_assoc before (r ∷ after) h.history.0, place)
stands_later b c k (at.Verdict v) h (is, place) =
    let m : (c.verdict ≡ Some v) × (c.history ≡ b.history) = subst (λ (o : Option Verdict). IfSome o (λ w. (c.verdict ≡ Some w) × (c.history ≡ b.history))) is h.closed in
    (m.0, place ∙ ap (λ (rs : List Reduction). length rs + 1) (sym m.1))

stands_applied : (b : Ledger) (w version k : ℕ) (e : Instance) → k ≡ length b.history + 1 → StandsAt (with_instance b w version e) k e
stands_applied b w version k (at.Reduction r) place = (b.history, [], refl, place)
stands_applied b w version k (at.Verdict v) place = (refl, place)

pub applied_stands : (b : Ledger) (cs ds : List Turn) (w k : ℕ) (p : Proposed) → Stands b → IsHistory b (cs ++ Commit w p (Applied k) ∷ ds) → StandsAt (left_of b (cs ++ Commit w p (Applied k) ∷ ds)) k p.instance
applied_stands b cs ds w k p s h =
    let d : Ledger = left_of b cs in
    let rest : IsHistory d (Commit w p (Applied k) ∷ ds) = history_rest b cs (Commit w p (Applied k) ∷ ds) h in
    let before : GoesOn b d = goes_along b cs s (history_front b cs (Commit w p (Applied k) ∷ ds) h) in
    let one : GoesOn d (with_instance d w p.version p.instance) = one_call d (Commit w p (Applied k)) before.stands rest.0 in
    let after : GoesOn (with_instance d w p.version p.instance) (left_of (with_instance d w p.version p.instance) ds) = goes_along (with_instance d w p.version p.instance) ds one.stands rest.1 in
    subst (λ (c : Ledger). StandsAt c k p.instance) (sym (left_parts b cs (Commit w p (Applied k) ∷ ds)))
    (stands_later (with_instance d w p.version p.instance) (left_of (with_instance d w p.version p.instance) ds) k p.instance after (stands_applied d w p.version k p.instance rest.0.1.3))

pub frozen_is : (b : Ledger) (cs ds : List Turn) (v : Version) → IsHistory b (cs ++ Freeze (Ok v) ∷ ds) → v ≡ version_of (left_of b cs)
frozen_is b cs ds v h = (history_rest b cs (Freeze (Ok v) ∷ ds) h).0

-- ---- what a pass has frozen
pub frozen_by : (s : Shared Ledger) (p q : Known Ledger Turn) (v : Version) → IsCalled s p (Freeze (Ok v)) q → HasFrozen q v
frozen_by s p q v h = (p.seen ++ h.seen.0, [], h.seen.1)

pub frozen_still : (s : Shared Ledger) (p q : Known Ledger Turn) (c : Turn) (v : Version) → IsCalled s p c q → HasFrozen p v → HasFrozen q v
frozen_still s p q c v h (before, after, seen) =
    let between : List Turn = h.seen.0 in (
      before,
      (after ++ between) ++ c ∷ [],
      h.seen.1 ∙ ap (λ (cs : List Turn). (cs ++ between) ++ c ∷ []) seen
          ∙ ap (λ (cs : List Turn). cs ++ c ∷ []) (append_assoc before (Freeze (Ok v) ∷ after) between)
          ∙ append_assoc before (Freeze (Ok v) ∷ (after ++ between)) (c ∷ []),
    )

-- ---- what was found on a frozen version is taken
taken_along : (b : Ledger) (cs : List Turn) (p : Proposed) → IsFrom b p → IsHistory b cs → IsFrom (left_of b cs) p
taken_along b [] p t h = t
taken_along b (c ∷ cs) p t h = taken_along (after_call b c) cs p (takes_later b c p t (by c h.0)) h.1
  where
    by : (c : Turn) → IsAnswered IsFrom allows_call b c → allows_call b c
    by (Freeze reply) a = a
    by (Commit w q o) a = a.1

whole_past : (b : Ledger) → take (instance_count b) b.history ≡ b.history
whole_past b = take_all (instance_count b) b.history (omega arith)

taken_here : (b : Ledger) (e : Instance) → Stands b → enabled_on b.problem e ≡ true → is_open (open_on b.tally) e ≡ true → IsFrom b (proposal_of b.problem (instance_count b) e)
taken_here b e s on free =
    let past : past_problem b (instance_count b) ≡ b.problem = ap (replay b.start) (whole_past b) ∙ sym s.problem in
    let told : past_records b (instance_count b) ≡ b.records = ap (records b.start) (whole_past b) ∙ sym s.records in
    record {
      version = omega arith;
      reading = ap (λ (q : Sparse). reading_of q e) (sym past);
      enabled = ap (λ (q : Sparse). enabled_on q e) past ∙ on;
      free = ap (λ (us : List Undo). is_open (open_by us) e) told ∙ ap (λ (o : Open). is_open o e) (sym (open_same b.tally b.records s.tally)) ∙ free;
    }

pub found_taken : (s : Shared Ledger) (p : Known Ledger Turn) (v : Version) (e : Instance) → Stands s.start → IsPass s p → HasFrozen p v → enabled_on v.problem e ≡ true → is_open (open_on v.tally) e ≡ true → IsFrom (left_of s.start p.seen) (proposal_of v.problem v.applied e)
found_taken s p v e stands pass (before, after, seen) on free =
    let h : IsHistory s.start (before ++ Freeze (Ok v) ∷ after) = subst (IsHistory s.start) seen pass.legal in
    let d : Ledger = left_of s.start before in
    let is : v ≡ version_of d = frozen_is s.start before after v h in
    let d_stands : Stands d = (goes_along s.start before stands (history_front s.start before (Freeze (Ok v) ∷ after) h)).stands in
    let here : IsFrom d (proposal_of v.problem v.applied e) = subst (λ (x : Version). IsFrom d (proposal_of x.problem x.applied e)) (sym is)
    (taken_here d e d_stands (ap (λ (x : Version). enabled_on x.problem e) (sym is) ∙ on) (ap (λ (x : Version). is_open (open_on x.tally) e) (sym is) ∙ free)) in
    subst (λ (cs : List Turn). IsFrom (left_of s.start cs) (proposal_of v.problem v.applied e)) (sym seen)
    (subst (λ (b : Ledger). IsFrom b (proposal_of v.problem v.applied e)) (sym (left_parts s.start before (Freeze (Ok v) ∷ after)))
    (taken_along d after (proposal_of v.problem v.applied e) here (history_rest s.start before (Freeze (Ok v) ∷ after) h).1))

-- each of some enabled and open instances
pub each_taken : (s : Shared Ledger) (p : Known Ledger Turn) (v : Version) (es : List Instance) → Stands s.start → IsPass s p → HasFrozen p v → ((e : Instance) → Contains es e → is_open (open_on v.tally) e ≡ true)
    → All (IsFrom (left_of s.start p.seen)) (map (proposal_of v.problem v.applied) (filter (enabled_on v.problem) es))
each_taken s p v [] stands pass frozen free = All-nil (IsFrom (left_of s.start p.seen))
each_taken s p v (e ∷ es) stands pass frozen free = by (enabled_on v.problem e) refl (each_taken s p v es stands pass frozen (λ x c. free x (suc c.0, (let l = c.1 in omega (arith, l)), c.2)))
  where
    by : (b : Bool) → enabled_on v.problem e ≡ b → All (IsFrom (left_of s.start p.seen)) (map (proposal_of v.problem v.applied) (filter (enabled_on v.problem) es))
        → All (IsFrom (left_of s.start p.seen)) (map (proposal_of v.problem v.applied) (cond b (e ∷ filter (enabled_on v.problem) es) (filter (enabled_on v.problem) es)))
    by true on rest = All-cons (IsFrom (left_of s.start p.seen)) (proposal_of v.problem v.applied e) (map (proposal_of v.problem v.applied) (filter (enabled_on v.problem) es))
        (found_taken s p v e stands pass frozen on (free e (zero, omega arith, refl))) rest
    by false off rest = rest

pub scanned_taken : (s : Shared Ledger) (p : Known Ledger Turn) (v : Version) (r : Rule) (chunk : ℕ) → Stands s.start → IsPass s p → HasFrozen p v → All (IsFrom (left_of s.start p.seen)) (found_in (open_on v.tally) v.problem v.applied r chunk)
scanned_taken s p v r chunk stands pass frozen =
    each_taken s p v (instances_at (open_on v.tally) v.problem r (chunk_ids chunk)) stands pass frozen (λ e c.
    let of_id = comes_from (instances_from (open_on v.tally) v.problem r) (chunk_ids chunk) e c in
    (from_is (open_on v.tally) v.problem r of_id.0 e of_id.2).2)
