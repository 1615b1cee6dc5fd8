use Rattle.std.proofs.Common.{◌≡◌, sym, ap, ◌∙◌, ◌-◌, ◌∷◌, List, length, take, drop, subst, arith}
use Rattle.shared_book.specs.declared.call.Call.TheVariants.{Commit}
use Rattle.shared_book.proofs.Turns.{starts_trans}
use Rattle.presolve_model.specs.Given.{Proposed}
use Rattle.book_turns.specs.Sharing.{IsFrom}
use Rattle.book_turns.specs.Turns.{left_of}
use Rattle.worker_tasks.proofs.Commits.{call_begins, called_counts, called_ends, called_taken, first_and_rest}
use Rattle.worker_tasks.proofs.task.commit_all.Goals as goal

pub loop-rest-preserved : goal.loop-rest-preserved
loop-rest-preserved g c =
    let s = c.args.book.now in
    let a = c.args.pass.now in
    let p = c.loop-rest.pass in
    let q = c.commit-outcome.new.pass in
    let x = c.proposal-item.result in
    let o = c.commit-outcome.result in
    let i = c.loop-rest.invariant in
    let rest : List Proposed = c.loop-rest.rest.now in
    let split : x ∷ take (length rest - 1) (drop 1 rest) ≡ rest = ap (λ (y : Proposed). y ∷ take (length rest - 1) (drop 1 rest)) c.proposal-item.is ∙ first_and_rest rest x c.in-len1-up.len_at_least in
    record {
      pass = c.commit-outcome.ensures.pass;
      number = c.commit-outcome.ensures.number ∙ i.number;
      seen = starts_trans a.seen p.seen q.seen i.seen (call_begins s p q (Commit p.number x o) c.commit-outcome.ensures);
      taken = called_taken s a p q c.args.proposals.now _ _ x o split c.commit-outcome.ensures i.taken;
      ends = called_ends s a p q c.args.proposals.now _ _ x o split c.commit-outcome.ensures i.ends;
      counts = called_counts s a p q c.args.proposals.now _ _ x o split c.commit-outcome.ensures i.counts;
    }

pub commit-outcome-requires-clause-takes : goal.commit-outcome-requires-clause-takes
commit-outcome-requires-clause-takes g c =
    subst (IsFrom (left_of c.args.book.now.start c.loop-rest.pass.seen)) (sym c.proposal-item.is)
    (c.loop-rest.invariant.taken 0 c.proposal-item.result (omega (arith, c.in-len1-up.len_at_least)))
