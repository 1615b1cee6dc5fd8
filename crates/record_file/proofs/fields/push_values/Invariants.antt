use Rattle.std.proofs.Common.{◌≡◌, length}
use Rattle.record_file.specs.Fields.{words_of_values}
use Rattle.record_file.specs.Onto.{words_onto}
use Rattle.record_file.proofs.OntoLaws.{values_onto}
use Rattle.record_file.proofs.fields.push_values.Given as goal

abbrev pub invariant-loop-rest : goal.invariant-loop-rest
invariant-loop-rest l = values_onto l.out.items l.rest ≡ words_onto l.fn.out.items (words_of_values l.values)

abbrev pub decreases-loop-rest : goal.decreases-loop-rest
decreases-loop-rest l = length l.rest
