use Rattle.std.proofs.Common.{◌≡◌, Some, length}
use Rattle.opb_text.specs.Faults.{least}
use Rattle.opb_text.specs.Words.{words_of}
use Rattle.opb_reader.specs.Later.{later_fault}
use Rattle.opb_reader.proofs.faults.least_fault.Given as goal

-- the least of what was found and of what is to come stays
abbrev pub invariant-loop-word : goal.invariant-loop-word
invariant-loop-word l = least (Some l.kind) (later_fault l.is_after (words_of l.rest)) ≡ least (Some l.fn.found) (later_fault l.fn.after_literal (words_of l.fn.line))

abbrev pub decreases-loop-word : goal.decreases-loop-word
decreases-loop-word l = length l.rest
