-- The calls of a shared book.
use Rattle.std.specs.Prelude.{◌≡◌, ℕ, ◌+◌, List, ◌∷◌, ◌++◌, length, Some, IfSome}
use Rattle.shared_book.specs.declared.call.Call.{Call}
use Rattle.shared_book.specs.History.{Calls, IsAnswered, IsLegal, IsPassOf, Known, left, Shared, StartsWith}
use Rattle.presolve_model.specs.declared.instance.Instance.{Instance}
use Rattle.presolve_model.specs.declared.instance.Instance.TheVariants.{Reduction, Verdict}
use Rattle.presolve_model.specs.declared.instance.Reduction as reduction
use Rattle.presolve_model.specs.declared.outcome.Outcome.{Outcome}
use Rattle.presolve_model.specs.Given.{Proposed}
use Rattle.presolve_model.specs.Ledger.{Ledger, Stands}
use Rattle.presolve_model.specs.Worlds.{Version}
use Rattle.txn_book.specs.Sharing.{after_call, allows_call, IsFrom}

-- a freeze with the version that it gave, or a commit with what became of it
abbrev pub Turn : Type 0
Turn = Call Version Proposed Outcome

-- calls in turn, each answered as it may be by the book that those before it leave
abbrev pub IsHistory : Ledger → List Turn → Type 0
IsHistory b cs = IsLegal (IsAnswered IsFrom allows_call) after_call b cs

-- the book that they leave
abbrev pub left_of : Ledger → List Turn → Ledger
left_of b cs = left after_call b cs

-- a pass of a shared book
abbrev pub IsPass : Shared Ledger → Known Ledger Turn → Type 0
IsPass s p = IsPassOf (IsAnswered IsFrom allows_call) after_call s p

-- what the pass knew, and what it knows after a call of its own
abbrev pub IsCalled : Shared Ledger → Known Ledger Turn → Turn → Known Ledger Turn → Type 0
IsCalled s p c q = Calls (IsAnswered IsFrom allows_call) after_call s p c q

-- the book c stands, was opened as b was, and goes on where b is: its history begins with that of b, and a verdict that closed b closes it still
pub record GoesOn (b c : Ledger) : Type 0 where
  pub stands : Stands c
  pub start : c.start ≡ b.start
  pub numbers : c.numbers ≡ b.numbers
  pub limit : c.limit ≡ b.limit
  pub history : StartsWith c.history b.history
  pub closed : IfSome b.verdict (λ v. (c.verdict ≡ Some v) × (c.history ≡ b.history))

-- an instance stands at a place of the book, from 1 on: a reduction in its history, a verdict behind that
abbrev pub StandsAt : Ledger → ℕ → Instance → Type 0
StandsAt b k (Reduction r) = (before after : List reduction.Reduction) × (b.history ≡ before ++ r ∷ after) × (k ≡ length before + 1)
StandsAt b k (Verdict v) = (b.verdict ≡ Some v) × (k ≡ length b.history + 1)
