use Rattle.std.proofs.Common.{List, None, Some, subst}
use Rattle.presolve_model.specs.Worlds.{Commit, Steps}
use Rattle.txn_world.specs.Workers.{WorkerData, WorldData, state_of, IsAbsent, IsAt}
use Rattle.txn_world.proofs.Stepping.{absent_steps, commits_read, nothing_steps, commit_steps}
use Rattle.txn_world.proofs.world.World.commit.Goals as goal

pub returns-in-None-clause-ok : goal.returns-in-None-clause-ok
returns-in-None-clause-ok c =
    subst (λ (d : WorldData). Steps (state_of d) (Commit c.args.worker) None (state_of d)) c.self.view_is
    (absent_steps c.self.inside.book c.self.inside.workers.items c.args.worker (subst (λ (ds : List WorkerData). IsAbsent ds c.args.worker) c.as_slice.ensures.value c.in-None.ensures))

pub returns-in-None-commit_first-clause-ok : goal.returns-in-None-commit_first-clause-ok
returns-in-None-commit_first-clause-ok c =
    let ds = c.self.inside.workers.items in
    let there = subst (λ (es : List WorkerData). IsAt es c.args.worker c.in-Some.place) c.as_slice.ensures.value c.in-Some.ensures in
    subst (λ (d : WorldData). Steps (state_of d) (Commit c.args.worker) None (state_of (record { book = c.commit_first.new.book; workers = ds }))) c.self.view_is
    (nothing_steps c.self.inside.book c.commit_first.new.book ds c.args.worker
    (commits_read c.self.inside.book c.commit_first.new.book ds c.args.worker c.in-Some.place c.index.result.now None there c.index.ensures c.in-None-commit_first.ensures))

pub returns-clause-ok : goal.returns-clause-ok
returns-clause-ok c =
    let ds = c.self.inside.workers.items in
    let there = subst (λ (es : List WorkerData). IsAt es c.args.worker c.in-Some.place) c.as_slice.ensures.value c.in-Some.ensures in
    subst (λ (d : WorldData). Steps (state_of d) (Commit c.args.worker) (Some c.in-Some-commit_first.answer) (state_of (record { book = c.commit_first.new.book; workers = c.drop_first.new.workers.items }))) c.self.view_is
    (commit_steps c.self.inside.book c.commit_first.new.book ds c.drop_first.new.workers.items c.args.worker c.in-Some-commit_first.answer
    (commits_read c.self.inside.book c.commit_first.new.book ds c.args.worker c.in-Some.place c.index.result.now (Some c.in-Some-commit_first.answer) there c.index.ensures c.in-Some-commit_first.ensures)
    c.drop_first.ensures)
