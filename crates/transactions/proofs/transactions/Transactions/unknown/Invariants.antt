use Rattle.std.proofs.Common.{◌≡◌, replicate}
use Rattle.transactions.specs.Transactions.{untold}
use Rattle.transactions.proofs.transactions.Transactions.unknown.Given as goal

abbrev pub invariant-loop : goal.invariant-loop
invariant-loop l = l.transactions ≡ replicate l.counter untold
