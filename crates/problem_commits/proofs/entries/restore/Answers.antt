use Rattle.std.proofs.Common.{◌∙◌, sym, subst}
use Rattle.problem_model.specs.Sparse.{Sparse}
use Rattle.problem_commits.specs.Restoring.{CanRestore}
use Rattle.problem_commits.proofs.GivingBack.{give_last, restore_step}
use Rattle.problem_commits.proofs.entries.restore.Goals as goal

pub put_back-requires-clause-rows : goal.put_back-requires-clause-rows
put_back-requires-clause-rows c = let f = give_last c.loop-last.left.items c.pop.new.self.items c.in-Some.last c.loop-last.problem c.in-Some.ensures.items c.loop-last.invariant.can in f.0.rows

pub put_back-requires-clause-column : goal.put_back-requires-clause-column
put_back-requires-clause-column c = let f = give_last c.loop-last.left.items c.pop.new.self.items c.in-Some.last c.loop-last.problem c.in-Some.ensures.items c.loop-last.invariant.can in f.0.column

pub put_back-requires-clause-sound : goal.put_back-requires-clause-sound
put_back-requires-clause-sound c = let f = give_last c.loop-last.left.items c.pop.new.self.items c.in-Some.last c.loop-last.problem c.in-Some.ensures.items c.loop-last.invariant.can in f.0.sound

pub loop-last-preserved : goal.loop-last-preserved
loop-last-preserved c = record {
  same = restore_step c.loop-last.left.items c.pop.new.self.items c.in-Some.last c.loop-last.problem c.put_back.new.self c.in-Some.ensures.items c.put_back.ensures ∙ c.loop-last.invariant.same;
  can = subst (λ (q : Sparse). CanRestore c.pop.new.self.items q) (sym c.put_back.ensures) (give_last c.loop-last.left.items c.pop.new.self.items c.in-Some.last c.loop-last.problem c.in-Some.ensures.items c.loop-last.invariant.can).1;
}
