-- Of two freezes the later one gives a version of the book that later calls left.
use Rattle.std.proofs.Common.{◌≡◌, ℕ, ◌+◌, ◌<◌, ◌≤◌, ◌^◌, true, List, [], ◌∷◌, ◌++◌, length, sym, ap, ◌∙◌, subst, arith, append_assoc}
use Rattle.std.specs.Prelude.{Ok}
use Rattle.shared_book.specs.declared.call.Call.TheVariants.{Commit, Freeze}
use Rattle.shared_book.specs.History.{HasFrozen, IsAnswered, Known, Shared, StartsWith}
use Rattle.problem_model.specs.declared.part.Part.{Part}
use Rattle.problem_model.specs.Parts.{changes_of}
use Rattle.problem_model.specs.Problems.{IsSparse}
use Rattle.problem_model.specs.Reading.{Agrees}
use Rattle.problem_model.specs.Sparse.{Sparse}
use Rattle.presolve_model.specs.declared.instance.Instance.{Instance}
use Rattle.presolve_model.specs.declared.instance.Instance.TheVariants as at
use Rattle.presolve_model.specs.declared.outcome.Outcome.TheVariants.{Closed, Full, Stale, Past, NotDecimal, Applied, NoMemory}
use Rattle.presolve_model.specs.Commits.{HasRoom, with_instance}
use Rattle.presolve_model.specs.Enabled.{enabled_on}
use Rattle.presolve_model.specs.Given.{Proposed}
use Rattle.presolve_model.specs.Instances.{is_open}
use Rattle.presolve_model.specs.Ledger.{Ledger, Stands}
use Rattle.presolve_model.specs.Tallies.{Open, open_on}
use Rattle.presolve_model.specs.Worlds.{Version, version_of}
use Rattle.presolve_model.proofs.Histories.{counted_along}
use Rattle.history_laws.proofs.Keeping.{sparse_replay}
use Rattle.round_laws.specs.Passing.{Follows}
use Rattle.round_laws.proofs.Committing.{fresh_enables}
use Rattle.round_laws.proofs.Openness.{open_before}
use Rattle.round_laws.proofs.Turns.{follows_applied, follows_start}
use Rattle.txn_book.specs.Sharing.{after_call, allows_call, IsFrom, past_problem}
use Rattle.book_turns.specs.Turns.{GoesOn, IsCalled, IsHistory, left_of, Turn}
use Rattle.book_turns.proofs.Going.{frozen_is, goes_along, history_front, history_rest, left_parts}
use Rattle.worker_rounds.specs.Marking.{IsLater}

-- what is applied is enabled
applied_enabled : (b : Ledger) (p : Proposed) → IsFrom b p → Agrees b.problem p.reading → enabled_on b.problem p.instance ≡ true
applied_enabled b p from agrees = fresh_enables (past_problem b p.version) b.problem p.instance (subst (Agrees b.problem) from.reading agrees) ∙ from.enabled

-- ---- the book's problem comes after f, and nothing opens
module _ (opens : Open) (f : Sparse) where
  with_one : (b : Ledger) (w version : ℕ) (e : Instance) → Follows opens f b → enabled_on b.problem e ≡ true → HasRoom b e → Follows opens f (with_instance b w version e)
  with_one b w version (at.Reduction r) h on room = let k = follows_applied opens f b version r h on room in record { later = k.later; counted = k.counted; short = k.short; sparse = k.sparse; size = k.size; moves = k.moves }
  with_one b w version (at.Verdict v) h on room = record { later = h.later; counted = h.counted; short = h.short; sparse = h.sparse; size = h.size; moves = h.moves }

  one_call : (b : Ledger) (c : Turn) → IsAnswered IsFrom allows_call b c → Follows opens f b → Follows opens f (after_call b c)
  one_call b (Freeze reply) a h = h
  one_call b (Commit w p (Applied k)) a h = with_one b w p.version p.instance h (applied_enabled b p a.0 a.1.0.agrees) a.1.0.room
  one_call b (Commit w p (Closed v)) a h = h
  one_call b (Commit w p Full) a h = h
  one_call b (Commit w p (Stale k)) a h = h
  one_call b (Commit w p Past) a h = h
  one_call b (Commit w p NotDecimal) a h = h
  one_call b (Commit w p NoMemory) a h = h

  follows_calls : (b : Ledger) (cs : List Turn) → IsHistory b cs → Follows opens f b → Follows opens f (left_of b cs)
  follows_calls b [] legal h = h
  follows_calls b (c ∷ cs) legal h = follows_calls (after_call b c) cs legal.1 (one_call b c legal.0 h)

opened_one : (b : Ledger) (w version : ℕ) (x e : Instance) → is_open (open_on (with_instance b w version x).tally) e ≡ true → is_open (open_on b.tally) e ≡ true
opened_one b w version (at.Reduction r) e o = open_before r b.tally e o
opened_one b w version (at.Verdict v) e o = o

opened_call : (b : Ledger) (c : Turn) (e : Instance) → is_open (open_on (after_call b c).tally) e ≡ true → is_open (open_on b.tally) e ≡ true
opened_call b (Freeze reply) e o = o
opened_call b (Commit w p (Applied k)) e o = opened_one b w p.version p.instance e o
opened_call b (Commit w p (Closed v)) e o = o
opened_call b (Commit w p Full) e o = o
opened_call b (Commit w p (Stale k)) e o = o
opened_call b (Commit w p Past) e o = o
opened_call b (Commit w p NotDecimal) e o = o
opened_call b (Commit w p NoMemory) e o = o

opened_calls : (b : Ledger) (cs : List Turn) (e : Instance) → is_open (open_on (left_of b cs).tally) e ≡ true → is_open (open_on b.tally) e ≡ true
opened_calls b [] e o = o
opened_calls b (c ∷ cs) e o = opened_call b c e (opened_calls (after_call b c) cs e o)

-- ---- a book that stands comes after itself
follows_here : (b : Ledger) → Stands b → b.limit < 2 ^ 64 → Follows (open_on b.tally) b.problem b
follows_here b s short = follows_start b counted short (subst IsSparse (sym s.problem) (sparse_replay b.numbers b.start b.history s.sound s.replays))
  where
    counted : (a : Part) → changes_of b.problem a ≤ length b.history
    counted a =
        let few : changes_of b.problem a ≤ changes_of b.start a + length b.history = subst (λ (p : Sparse). changes_of p a ≤ changes_of b.start a + length b.history) (sym s.problem) (counted_along b.numbers b.start b.history a s.sound s.replays) in
        omega (arith, few, s.unchanged a)

-- ---- a freeze, and calls behind it
module _ (start : Ledger) (before rest : List Turn) (v : Version) (stands : Stands start) (short : start.limit < 2 ^ 64) (legal : IsHistory start (before ++ (Freeze (Ok v) ∷ rest))) where
  abbrev early : Ledger
  early = left_of start before

  goes : GoesOn start early
  goes = goes_along start before stands (history_front start before (Freeze (Ok v) ∷ rest) legal)

  pub later_than : (w : Version) → w ≡ version_of (left_of start (before ++ (Freeze (Ok v) ∷ rest))) → IsLater v w
  later_than w is = record {
    earlier = early;
    later = left_of early (Freeze (Ok v) ∷ rest);
    before = frozen_is start before rest v legal;
    after = is ∙ ap version_of (left_parts start before (Freeze (Ok v) ∷ rest));
    follows = follows_calls (open_on early.tally) early.problem early (Freeze (Ok v) ∷ rest) (history_rest start before (Freeze (Ok v) ∷ rest) legal) (follows_here early goes.stands (omega (arith, short, goes.limit)));
    opened = opened_calls early (Freeze (Ok v) ∷ rest);
  }

-- ---- two freezes
module _ (s : Shared Ledger) (p q : Known Ledger Turn) (v w : Version) (stands : Stands s.start) (short : s.start.limit < 2 ^ 64) (frozen : HasFrozen p v) (call : IsCalled s p (Freeze (Ok w)) q) where
  abbrev before : List Turn
  before = frozen.0

  abbrev rest : List Turn
  rest = frozen.1 ++ call.seen.0

  seen : q.seen ≡ (before ++ (Freeze (Ok v) ∷ rest)) ++ Freeze (Ok w) ∷ []
  seen = call.seen.1 ∙ ap (λ (cs : List Turn). cs ++ Freeze (Ok w) ∷ []) (ap (λ (cs : List Turn). cs ++ call.seen.0) frozen.2 ∙ append_assoc before (Freeze (Ok v) ∷ frozen.1) call.seen.0)

  legal : IsHistory s.start ((before ++ (Freeze (Ok v) ∷ rest)) ++ Freeze (Ok w) ∷ [])
  legal = subst (IsHistory s.start) seen call.pass.legal

  pub later_version : IsLater v w
  later_version = later_than s.start before rest v stands short (history_front s.start (before ++ (Freeze (Ok v) ∷ rest)) (Freeze (Ok w) ∷ []) legal) w (frozen_is s.start (before ++ (Freeze (Ok v) ∷ rest)) [] w legal)

-- ---- a freeze that a pass saw, and the book that is left when all is closed
pub later_left : (s : Shared Ledger) (p : Known Ledger Turn) (c : Ledger) (v : Version) (log : List Turn) → Stands s.start → s.start.limit < 2 ^ 64 → IsHistory s.start log → c ≡ left_of s.start log → StartsWith log p.seen → HasFrozen p v → IsLater v (version_of c)
later_left s p c v log stands short legal left begins frozen =
    let long : log ≡ frozen.0 ++ (Freeze (Ok v) ∷ (frozen.1 ++ begins.0)) =
    begins.1 ∙ ap (λ (cs : List Turn). cs ++ begins.0) frozen.2 ∙ append_assoc frozen.0 (Freeze (Ok v) ∷ frozen.1) begins.0 in
    later_than s.start frozen.0 (frozen.1 ++ begins.0) v stands short (subst (IsHistory s.start) long legal) (version_of c) (ap version_of (left ∙ ap (left_of s.start) long))
