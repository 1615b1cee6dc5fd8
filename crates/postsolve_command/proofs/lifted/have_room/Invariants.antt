use Rattle.std.proofs.Common.{ℕ, ◌<◌, map, slice_index_or}
use Rattle.fractions.specs.Number.{Number}
use Rattle.postsolve_command.proofs.lifted.have_room.Given as goal

abbrev pub invariant-loop-number : goal.invariant-loop-number
invariant-loop-number g l = (k : ℕ) (d : Number) → k < l.number-index → g.T.Exact.room.number (slice_index_or (map g.T.Exact.number l.numbers) k d)
