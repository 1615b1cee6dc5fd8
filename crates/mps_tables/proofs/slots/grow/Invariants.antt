use Rattle.std.proofs.Common.{◌≡◌, ℕ, ◌+◌, ◌-◌, slice_index_or}
use Rattle.std.specs.Vec.{vec_len}
use Rattle.mps_tables.proofs.slots.grow.Given as goal

abbrev pub invariant-loop-blank : goal.invariant-loop-blank
invariant-loop-blank g l = (i : ℕ) → slice_index_or l.values.items i l.blank ≡ slice_index_or l.fn.values.items i l.blank

abbrev pub decreases-loop-blank : goal.decreases-loop-blank
decreases-loop-blank g l = l.number + 1 - vec_len l.values
