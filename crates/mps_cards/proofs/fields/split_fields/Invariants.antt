use Rattle.std.proofs.Common.{◌≡◌, ◌++◌, length, map}
use Rattle.mps_profile.specs.Fields.{fields_of}
use Rattle.mps_cards.proofs.fields.split_fields.Given as goal

abbrev pub invariant-loop-rest : goal.invariant-loop-rest
invariant-loop-rest l = map (λ s. s.now) l.fields.items ++ fields_of l.rest ≡ fields_of l.fn.line

abbrev pub decreases-loop-rest : goal.decreases-loop-rest
decreases-loop-rest l = length l.rest
