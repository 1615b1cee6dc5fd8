use Rattle.std.proofs.Common.{◌+◌, ◌≤◌, List, [], length}
use Rattle.lp_model.specs.Names.{Differ}
use Rattle.mps_profile.specs.Texts.{Text}
use Rattle.ray_text.specs.Holding.{HasPlaces, Holds}
use Rattle.ray_text.proofs.Going.{Goes}
use Rattle.ray_text.proofs.reading.take_lines.Given as goal

abbrev pub invariant-loop-rest : goal.invariant-loop-rest
invariant-loop-rest l = record {
  few : l.number + length l.rest ≤ length l.fn.text;
  places : HasPlaces l.reading;
  going : (rows columns : List Text) → Differ rows → Differ columns → Holds rows columns [] l.fn.reading → Goes rows columns l.fn.text l.rest l.number l.reading;
}

abbrev pub decreases-loop-rest : goal.decreases-loop-rest
decreases-loop-rest l = length l.rest
