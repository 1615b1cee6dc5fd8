-- No side is tightened more than ten times in a run of workers, and its book is the one that was opened.
use Rattle.std.proofs.Common.{ℕ, ◌<◌, ◌≤◌, ◌^◌, Option, Some, None, ◌∙◌}
use Rattle.std.specs.Prelude.{IfSome}
use Rattle.undo_records.specs.declared.side.Side.{Side}
use Rattle.presolve_model.specs.declared.conclusion.End.{End}
use Rattle.presolve_model.specs.Ledger.{Ledger, Stands}
use Rattle.presolve_model.specs.Ordered.{Ordered}
use Rattle.presolve_model.specs.Tallies.{tightenings}
use Rattle.round_laws.specs.Passing.{IsSameBook}
use Rattle.run_laws.proofs.TenTimes.{run_few}
use Rattle.worker_rounds.specs.Turns.{GoesOn}

abbrev pub IsFew : Ledger → Type 0
IsFew b = (j : ℕ) (side : Side) → tightenings b.records j side ≤ 10

-- books that were opened alike one after the other
pub same_twice : (a b c : Ledger) → IsSameBook a b → IsSameBook b c → IsSameBook a c
same_twice a b c x y = record { start = y.start ∙ x.start; numbers = y.numbers ∙ x.numbers; limit = y.limit ∙ x.limit }

pub same_on : (b c : Ledger) → GoesOn b c → IsSameBook b c
same_on b c h = record { start = h.start; numbers = h.numbers; limit = h.limit }

-- after a run in order to its end
pub end_few : (b c : Ledger) (end : Option End) → Stands b → b.limit < 2 ^ 64 → IsFew b → Ordered b end c → IfSome end (λ _. IsFew c)
end_few b c None s short few h = tt
end_few b c (Some e) s short few h = run_few b c e s short few h

pub any_few : (c : Ledger) (end : Option End) → IsFew c → IfSome end (λ _. IsFew c)
any_few c None few = tt
any_few c (Some e) few = few
