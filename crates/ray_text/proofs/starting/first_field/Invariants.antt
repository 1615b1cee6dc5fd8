use Rattle.std.proofs.Common.{◌≡◌, length}
use Rattle.mps_profile.specs.Fields.{fields_of}
use Rattle.ray_text.proofs.starting.first_field.Given as goal

-- what was left out has no fields
abbrev pub invariant-loop-rest : goal.invariant-loop-rest
invariant-loop-rest l = fields_of l.rest ≡ fields_of l.fn.line

abbrev pub decreases-loop-rest : goal.decreases-loop-rest
decreases-loop-rest l = length l.rest
