use Rattle.std.proofs.Common.{◌≡◌, ◌++◌, ◌+◌, drop}
use Rattle.record_file.specs.RecordText.{lines_text, told_lines}
use Rattle.record_file.proofs.records.push_records_told.Given as goal

abbrev pub invariant-loop-place : goal.invariant-loop-place
invariant-loop-place l = l.out.items ++ lines_text (told_lines (l.place + 1) (drop l.place l.undos) (drop l.place l.transactions)) ≡ l.fn.out.items ++ lines_text (told_lines 1 l.undos l.transactions)
