use Rattle.std.proofs.Common.{◌≡◌, ◌++◌, map, length}
use Rattle.std.specs.List.{All}
use Rattle.run_report.specs.Holding.{HoldsBack, IsHeld}
use Rattle.run_report.proofs.look.answers.Given as goal

-- the book is as it was; those so far have their answers, and those that are left are held back
abbrev pub invariant-loop-rest : goal.invariant-loop-rest
invariant-loop-rest l = record {
  book : l.book ≡ l.initial.book;
  all : map (λ h. h.instance) l.held.items ++ l.rest ≡ l.found;
  why : All (λ h. IsHeld l.initial.book h.instance h.answer) l.held.items;
  left : All (HoldsBack l.initial.book) l.rest;
}

abbrev pub decreases-loop-rest : goal.decreases-loop-rest
decreases-loop-rest l = length l.rest
