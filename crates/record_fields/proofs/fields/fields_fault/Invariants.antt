use Rattle.std.proofs.Common.{◌≡◌, length}
use Rattle.record_fields.specs.Faults.{lower}
use Rattle.record_fields.specs.Fields.{fields_fault}
use Rattle.record_fields.specs.Views.{words_left}
use Rattle.record_fields.proofs.fields.fields_fault.Given as goal

abbrev pub invariant-loop-left : goal.invariant-loop-left
invariant-loop-left l = lower l.found (fields_fault l.left (words_left l.rest)) ≡ fields_fault l.fields (words_left l.words)

abbrev pub decreases-loop-left : goal.decreases-loop-left
decreases-loop-left l = length l.left
