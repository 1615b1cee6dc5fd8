use Rattle.std.proofs.Common.{◌≡◌, true, length}
use Rattle.problem_model.specs.Matrices.{live_only}
use Rattle.rule_words.specs.Multiples.{are_times}
use Rattle.parallel_column_rules.proofs.EntryWalks.{begins_live}
use Rattle.parallel_column_rules.proofs.walks.are_times.Given as goal

-- the rows so far are alike, so that all depends on those that are left, of which the first are live
abbrev pub invariant-loop-rest : goal.invariant-loop-rest
invariant-loop-rest l = record {
  same : are_times l.factor (live_only l.lines l.rest) (live_only l.lines l.rest_of_others) ≡ are_times l.factor (live_only l.lines l.entries) (live_only l.lines l.others);
  first : begins_live l.lines l.rest ≡ true;
  second : begins_live l.lines l.rest_of_others ≡ true;
}

abbrev pub decreases-loop-rest : goal.decreases-loop-rest
decreases-loop-rest l = length l.rest
