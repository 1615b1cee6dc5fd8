use Rattle.std.proofs.Common.{List, ◌++◌, length, ap, ◌∙◌, subst, arith}
use Rattle.shared_book.proofs.Turns.{starts_trans}
use Rattle.presolve_model.specs.declared.instance.Rule.{Rule}
use Rattle.presolve_model.specs.Given.{Proposed}
use Rattle.presolve_model.specs.Scans.{found_at}
use Rattle.presolve_model.specs.Tallies.{open_on}
use Rattle.worker_tasks.specs.Tasks.{AreCommitted}
use Rattle.worker_tasks.specs.Work.{instances_in}
use Rattle.worker_tasks.proofs.Chunks.{found_is}
use Rattle.worker_tasks.proofs.Tasking.{all_counted, all_committed, all_found, gone_more}
use Rattle.worker_tasks.proofs.task.do_task.Goals as goal

pub loop-rest-preserved : goal.loop-rest-preserved
loop-rest-preserved g c =
    let i = c.loop-rest.invariant in
    let v = c.args.version.now in
    let t = c.args.task.now in
    let found : Rule → List Proposed = λ r. found_at (open_on v.tally) v.problem v.applied r c.split_at.result.0.now in
    record {
      pass = c.do_at.ensures.pass;
      number = c.do_at.ensures.number ∙ i.number;
      seen = starts_trans c.args.pass.now.seen c.loop-rest.pass.seen c.do_at.new.pass.seen i.seen c.do_at.ensures.seen;
      gone = gone_more (open_on v.tally) v.problem v.applied t.rule c.args.book.now t.ids c.loop-rest.rest.now c.split_at.result.0.now c.split_at.result.1.now c.args.pass.now c.loop-rest.pass c.do_at.new.pass c.args.work.now.found c.loop-rest.work.found c.do_at.new.work.found
          c.loop-rest.answered c.in_ok-count.count c.in_ok-answered.answered c.split_at.ensures.front c.split_at.ensures.back c.in_ok-answered.ensures i.gone
          (subst (λ (r : Rule). AreCommitted c.args.book.now c.loop-rest.pass (found r) c.do_at.new.pass) c.rule.ensures c.in_ok-count.ensures.committed)
          (c.in_ok-count.ensures.count ∙ ap (λ (r : Rule). length (found r)) c.rule.ensures)
          c.in_ok-count.ensures.turns
          (c.in_ok-count.ensures.found ∙ ap (λ (r : Rule). c.loop-rest.work.found ++ instances_in (found r)) c.rule.ensures);
      done = c.do_at.ensures.done ∙ i.done;
      kept = λ e k. c.do_at.ensures.kept e (i.kept e k);
    }

pub returns-clause-count : goal.returns-clause-count
returns-clause-count g c =
    let v = c.args.version.now in
    let t = c.args.task.now in
    all_counted (open_on v.tally) v.problem v.applied t.rule c.args.book.now t.ids c.loop-rest.rest.now c.args.pass.now c.loop-rest.pass c.args.work.now.found c.loop-rest.work.found c.loop-rest.answered c.loop-rest.invariant.gone (omega (arith, c.loop-rest-test.false))
    ∙ ap length (found_is v t c.requires.holds)

pub returns-clause-committed : goal.returns-clause-committed
returns-clause-committed g c =
    let v = c.args.version.now in
    let t = c.args.task.now in
    subst (λ (ps : List Proposed). AreCommitted c.args.book.now c.args.pass.now ps c.loop-rest.pass) (found_is v t c.requires.holds)
    (all_committed (open_on v.tally) v.problem v.applied t.rule c.args.book.now t.ids c.loop-rest.rest.now c.args.pass.now c.loop-rest.pass c.args.work.now.found c.loop-rest.work.found c.loop-rest.answered c.loop-rest.invariant.gone (omega (arith, c.loop-rest-test.false)))

pub returns-clause-found : goal.returns-clause-found
returns-clause-found g c =
    let v = c.args.version.now in
    let t = c.args.task.now in
    all_found (open_on v.tally) v.problem v.applied t.rule c.args.book.now t.ids c.loop-rest.rest.now c.args.pass.now c.loop-rest.pass c.args.work.now.found c.loop-rest.work.found c.loop-rest.answered c.loop-rest.invariant.gone (omega (arith, c.loop-rest-test.false))
    ∙ ap (λ (ps : List Proposed). c.args.work.now.found ++ instances_in ps) (found_is v t c.requires.holds)
