use Rattle.std.proofs.Common.{ℕ, ◌<◌, slice_index_or}
use Rattle.fractions.specs.Number.{Number}
use Rattle.fractions.specs.Lowest.{Fits}
use Rattle.ray_file.proofs.texts.numbers_fit.Given as goal

abbrev pub invariant-loop-number : goal.invariant-loop-number
invariant-loop-number l = (k : ℕ) (d : Number) → k < l.number-index → Fits (slice_index_or l.numbers k d)
