use Rattle.std.proofs.Common.{◌≡◌, ◌++◌, codes, length, map}
use Rattle.record_file.specs.Fields.{read_words}
use Rattle.record_file.specs.RecordText.{line, lines_text, transaction_lines}
use Rattle.record_file.proofs.records.push_transaction.Given as goal

abbrev pub invariant-loop-rest : goal.invariant-loop-rest
invariant-loop-rest l = l.out.items ++ lines_text (map (λ r. line (codes "part") (read_words r)) l.rest) ≡ l.fn.out.items ++ lines_text (transaction_lines l.place l.transaction)

abbrev pub decreases-loop-rest : goal.decreases-loop-rest
decreases-loop-rest l = length l.rest
