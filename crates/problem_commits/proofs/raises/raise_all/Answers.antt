use Rattle.std.proofs.Common.{◌∙◌}
use Rattle.problem_commits.proofs.Changed.{all_there, raised_step}
use Rattle.problem_commits.proofs.raises.raise_all.Goals as goal

pub loop-note-preserved : goal.loop-note-preserved
loop-note-preserved c = record {
  same = raised_step c.loop-note.problem c.raise.new.problem c.args.notes.now c.loop-note.note-index c.note-item.result c.loop-note-test.true c.note-item.is c.raise.ensures ∙ c.loop-note.invariant.same;
  there = all_there c.loop-note.problem c.raise.new.problem c.note-item.result c.args.notes.now c.raise.ensures c.loop-note.invariant.there;
}
