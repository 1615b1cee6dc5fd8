-- The test of a row's sides in a direction.
use Rattle.std.specs.Prelude.{Bool}
use Rattle.fractions.specs.Number.{Number}
use Rattle.problem_model.specs.declared.part.Contents.{Contents}
use Rattle.dual_laws.specs.Locks.{takes_down, takes_up}
use Rattle.dual_rules.specs.declared.directions.Direction.{Direction}
use Rattle.dual_rules.specs.declared.directions.Direction.TheVariants.{Down, Up}

abbrev pub takes : Direction → Number → Contents → Bool
takes Down = takes_down
takes Up = takes_up
