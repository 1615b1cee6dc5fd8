use Rattle.std.proofs.Common.{◌≡◌, ◌-◌}
use Rattle.fractions.specs.Places.{place_from, place_of}
use Rattle.fractions.proofs.places.place.Given as goal

abbrev pub invariant-loop-k : goal.invariant-loop-k
invariant-loop-k l = place_from (39 - l.k) l.over l.under l.k ≡ place_of l.over l.under
