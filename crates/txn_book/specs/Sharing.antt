-- The book where it is shared: what may be committed to it, what its calls may answer, and what they leave.
use Rattle.std.specs.Prelude.{◌≡◌, ℕ, ◌≤◌, true, List, [], ◌∷◌, ◌++◌, length, take, None, IfOk}
use Rattle.std.proofs.Common.{sym, ap, ◌∙◌, arith, length-append}
use lib.Seq.{take-append-le}
use Rattle.shared_book.specs.declared.call.Call.{Call}
use Rattle.shared_book.specs.declared.call.Call.TheVariants.{Freeze, Commit}
use Rattle.undo_records.specs.declared.undo.Undo.{Undo}
use Rattle.problem_model.specs.Sparse.{Sparse}
use Rattle.presolve_model.specs.declared.instance.Instance.{Instance}
use Rattle.presolve_model.specs.declared.instance.Instance.TheVariants.{Reduction, Verdict}
use Rattle.presolve_model.specs.declared.instance.Reduction as reduction
use Rattle.presolve_model.specs.declared.outcome.Outcome.{Outcome}
use Rattle.presolve_model.specs.declared.outcome.Outcome.TheVariants.{Closed, Full, Stale, Past, NotDecimal, Applied, NoMemory}
use Rattle.presolve_model.specs.Commits.{Allows, left_by, with_instance}
use Rattle.presolve_model.specs.Enabled.{enabled_on, reading_of}
use Rattle.presolve_model.specs.Given.{Proposed}
use Rattle.presolve_model.specs.Instances.{is_open}
use Rattle.presolve_model.specs.Ledger.{closes, instance_count, Ledger}
use Rattle.presolve_model.specs.Replay.{records, replay}
use Rattle.presolve_model.specs.Tallies.{open_by}
use Rattle.presolve_model.specs.Worlds.{Version, version_of}

-- the problem that the first so many of the book's instances left, and the records of these
abbrev pub past_problem : Ledger → ℕ → Sparse
past_problem b version = replay b.start (take version b.history)

abbrev pub past_records : Ledger → ℕ → List Undo
past_records b version = records b.start (take version b.history)

-- a proposal that was read of the problem that the first so many of the book's instances left: its instance was enabled there, and open
pub record IsFrom (b : Ledger) (p : Proposed) : Type 0 where
  pub version : p.version ≤ instance_count b
  pub reading : p.reading ≡ reading_of (past_problem b p.version) p.instance
  pub enabled : enabled_on (past_problem b p.version) p.instance ≡ true
  pub free : is_open (open_by (past_records b p.version)) p.instance ≡ true

-- what a call may answer: a freeze gives the present version, where there is memory for it
abbrev pub allows_call : Ledger → Call Version Proposed Outcome → Type 0
allows_call b (Freeze r) = IfOk r (λ v. v ≡ version_of b)
allows_call b (Commit by p o) = Allows b p o

-- what it leaves
abbrev pub after_call : Ledger → Call Version Proposed Outcome → Ledger
after_call b (Freeze r) = b
after_call b (Commit by p o) = left_by b by p o

-- ---- what may be committed may be committed later
later_with : (b : Ledger) (w version : ℕ) (e : Instance) (p : Proposed) → b.verdict ≡ None → IsFrom b p → IsFrom (with_instance b w version e) p
later_with b w version (Reduction r) p undecided t =
    let none : closes b.verdict ≡ 0 = ap closes undecided in
    let early : p.version ≤ length b.history = (let v = t.version in omega (arith, v, none)) in
    let same : take p.version b.history ≡ take p.version (b.history ++ r ∷ []) = sym (take-append-le p.version b.history (r ∷ []) early) in
    let then : past_problem b p.version ≡ past_problem (with_instance b w version (Reduction r)) p.version = ap (replay b.start) same in
    record {
      version = omega (arith, early, length-append b.history (r ∷ []));
      reading = t.reading ∙ ap (λ (q : Sparse). reading_of q p.instance) then;
      enabled = ap (λ (q : Sparse). enabled_on q p.instance) (sym then) ∙ t.enabled;
      free = ap (λ (rs : List reduction.Reduction). is_open (open_by (records b.start rs)) p.instance) (sym same) ∙ t.free;
    }
later_with b w version (Verdict v) p undecided t = record {
  version = let none : closes b.verdict ≡ 0 = ap closes undecided in let early = t.version in omega (arith, early, none);
  reading = t.reading;
  enabled = t.enabled;
  free = t.free;
}

pub takes_later : (b : Ledger) (c : Call Version Proposed Outcome) (p : Proposed) → IsFrom b p → allows_call b c → IsFrom (after_call b c) p
takes_later b (Freeze r) p t a = t
takes_later b (Commit by q (Applied place)) p t a = later_with b by q.version q.instance p a.0.undecided t
takes_later b (Commit by q (Closed v)) p t a = t
takes_later b (Commit by q Full) p t a = t
takes_later b (Commit by q (Stale place)) p t a = t
takes_later b (Commit by q Past) p t a = t
takes_later b (Commit by q NotDecimal) p t a = t
takes_later b (Commit by q NoMemory) p t a = t
