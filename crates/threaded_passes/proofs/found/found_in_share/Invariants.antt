use Rattle.std.proofs.Common.{◌≡◌, ℕ, ◌+◌, ◌*◌, ◌-◌, ◌<◌, length, slice_get, slice_index_or, Some, Vec, Global}
use Rattle.presolve_model.specs.declared.instance.Instance.{Instance}
use Rattle.presolve_model.specs.Tallies.{open_on}
use Rattle.threaded_passes.specs.Pieces.{enabled_in, PieceData}
use Rattle.threaded_passes.proofs.found.found_in_share.Given as goal

-- so many lists were made, each of its piece
abbrev pub invariant-loop-place : goal.invariant-loop-place
invariant-loop-place l = record {
  place : l.place ≡ l.first + length l.lists.items * l.step;
  found : (q : ℕ) (d : PieceData) → q < length l.lists.items → l.first + q * l.step < length l.pieces
      → (v : Vec Instance Global) × (slice_get l.lists.items q ≡ Some v) × (v.items ≡ enabled_in (open_on l.tally) l.problem (slice_index_or l.pieces (l.first + q * l.step) d));
}

abbrev pub decreases-loop-place : goal.decreases-loop-place
decreases-loop-place l = length l.pieces - l.place
