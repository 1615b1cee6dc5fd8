use Rattle.std.proofs.Common.{◌≡◌, ◌++◌, length, map}
use Rattle.record_file.specs.RecordText.{lines_text, label_line, label_lines}
use Rattle.record_file.proofs.sections.push_labels.Given as goal

abbrev pub invariant-loop-rest : goal.invariant-loop-rest
invariant-loop-rest l = l.out.items ++ lines_text (map label_line l.rest) ≡ l.fn.out.items ++ lines_text (label_lines l.heading l.labels)

abbrev pub decreases-loop-rest : goal.decreases-loop-rest
decreases-loop-rest l = length l.rest
