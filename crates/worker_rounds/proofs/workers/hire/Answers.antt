use Rattle.std.proofs.Common.{[], ◌∷◌, length, length-append, sym, ap, ◌∙◌, subst, arith}
use Rattle.std.specs.List.{All}
use Rattle.std.proofs.lemmas.List.Elements.{All-append, All-cons, All-nil}
use Rattle.shared_book.specs.History.{HasFrozen, Known}
use Rattle.presolve_model.specs.Ledger.{Ledger}
use Rattle.book_turns.specs.Turns.{IsPass, Turn}
use Rattle.worker_rounds.specs.Workers.{MayBegin, WorkerData}
use Rattle.worker_rounds.proofs.Working.{frozen_too}
use Rattle.worker_rounds.proofs.workers.hire.Goals as goal

pub split-pass-requires : goal.split-pass-requires
split-pass-requires c = subst (IsPass c.args.book.now) (sym c.loop-number.invariant.same) c.requires.pass

pub loop-number-preserved : goal.loop-number-preserved
loop-number-preserved c =
    let s = c.args.book.now in
    let v = c.args.version.now in
    let i = c.loop-number.invariant in
    let worker : WorkerData = (c.split-pass.result, c.new.result) in
    let begins : MayBegin s v worker = record {
      pass = c.split-pass.ensures.pass;
      frozen = frozen_too c.loop-number.main c.split-pass.result v (ap (λ (k : Known Ledger Turn). k.seen) c.split-pass.ensures.fresh) (subst (λ (k : Known Ledger Turn). HasFrozen k v) (sym i.same) c.requires.frozen);
      fresh = c.new.ensures;
    } in
    record {
      same = c.split-pass.ensures.same ∙ i.same;
      long = let l = ap length c.in_ok-push.ensures.items in omega (arith, l, i.long, length-append c.loop-number.workers.items (worker ∷ []));
      ready = subst (All (MayBegin s v)) (sym c.in_ok-push.ensures.items) (All-append (MayBegin s v) c.loop-number.workers.items (worker ∷ []) i.ready (All-cons (MayBegin s v) worker [] begins (All-nil (MayBegin s v))));
    }
