use Rattle.std.proofs.Common.{◌≡◌, ◌+◌, ◌≤◌, length}
use Rattle.text_lines.specs.Lines.{raw_lines_of}
use Rattle.record_reader.specs.Reading.{fault_from, progress_from}
use Rattle.record_reader.specs.Results.{seen}
use Rattle.record_reader.proofs.reading.take_lines.Given as goal

abbrev pub invariant-loop-rest : goal.invariant-loop-rest
invariant-loop-rest l = record {
  fault : fault_from (seen l.draft) l.number (raw_lines_of l.rest) ≡ fault_from (seen l.fn.draft) 0 (raw_lines_of l.text);
  progress : progress_from (seen l.draft) (raw_lines_of l.rest) ≡ progress_from (seen l.fn.draft) (raw_lines_of l.text);
  room : l.number + length l.rest ≤ length l.text;
}

abbrev pub decreases-loop-rest : goal.decreases-loop-rest
decreases-loop-rest l = length l.rest
