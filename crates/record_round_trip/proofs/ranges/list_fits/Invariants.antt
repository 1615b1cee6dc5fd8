use Rattle.std.proofs.Common.{ℕ, ◌<◌, slice_index_or}
use Rattle.fractions.specs.Lowest.{Fits}
use Rattle.lp_model.specs.declared.terms.Term.{Term}
use Rattle.record_round_trip.specs.Ranges.{IsId}
use Rattle.record_round_trip.proofs.ranges.list_fits.Given as goal

abbrev pub invariant-loop-term : goal.invariant-loop-term
invariant-loop-term l = (k : ℕ) (d : Term) → k < l.term-index → IsId (slice_index_or l.terms k d).id × Fits (slice_index_or l.terms k d).value
