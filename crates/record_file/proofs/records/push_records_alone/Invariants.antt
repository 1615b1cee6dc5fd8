use Rattle.std.proofs.Common.{◌≡◌, ◌++◌, length, map}
use Rattle.record_file.specs.RecordText.{lines_text, undo_line}
use Rattle.record_file.proofs.records.push_records_alone.Given as goal

abbrev pub invariant-loop-rest : goal.invariant-loop-rest
invariant-loop-rest l = l.out.items ++ lines_text (map undo_line l.rest) ≡ l.fn.out.items ++ lines_text (map undo_line l.undos)

abbrev pub decreases-loop-rest : goal.decreases-loop-rest
decreases-loop-rest l = length l.rest
