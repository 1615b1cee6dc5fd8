use Rattle.std.proofs.Common.{◌≡◌, ◌+◌, ◌≤◌, length}
use Rattle.std.specs.List.{count_by}
use Rattle.record_fields.specs.Words.{is_space}
use Rattle.record_fields.proofs.words.space_count.Given as goal

abbrev pub invariant-loop-rest : goal.invariant-loop-rest
invariant-loop-rest l = record {
  value : l.count + count_by is_space l.rest ≡ count_by is_space l.line;
  few : l.count + length l.rest ≤ length l.line;
}

abbrev pub decreases-loop-rest : goal.decreases-loop-rest
decreases-loop-rest l = length l.rest
