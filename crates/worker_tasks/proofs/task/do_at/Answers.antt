use Rattle.std.proofs.Common.{sym, ◌∙◌, subst}
use Rattle.std.specs.List.{All}
use Rattle.presolve_model.specs.Scans.{instances_at}
use Rattle.presolve_model.specs.Tallies.{open_on}
use Rattle.book_turns.specs.Sharing.{IsFrom}
use Rattle.book_turns.specs.Turns.{left_of}
use Rattle.book_turns.proofs.Going.{each_taken}
use Rattle.worker_tasks.proofs.Tasking.{open_there}
use Rattle.worker_tasks.proofs.task.do_at.Goals as goal

pub commit_all-requires-clause-taken : goal.commit_all-requires-clause-taken
commit_all-requires-clause-taken g c =
    let s = c.args.book.now in
    let p = c.args.pass.now in
    let v = c.args.version.now in
    subst (All (IsFrom (left_of s.start p.seen))) (sym (c.as_slice-proposals.ensures.value ∙ c.in_ok-found.ensures))
    (each_taken s p v (instances_at (open_on v.tally) v.problem c.args.rule c.args.ids.now) c.requires.stands c.requires.pass c.requires.frozen (open_there (open_on v.tally) v.problem c.args.rule c.args.ids.now))
