use Rattle.std.proofs.Common.{ℕ, ◌<◌, sym, subst}
use mathlib.Core.List.{[], ◌∷◌}
use mir.Syntax.{Sym}
use denote.RattleType.{RattleType}
use denote.Exit.{yes}
use denote.Struct.Field.{row_field}
use denote.Struct.Tuple.{TupleAt, type_at}
use denote.Param.Send.{arg_sync, IsSync, param_sync, sendable, shr_slice_sync, shr_sync}
use denote.Param.SendFields.{as_row_sync, declared_sync}
use Rattle.std.proofs.Crossing.{crosses, sync as heap}
use Rattle.shared_book.proofs.pass.Pass.TheSendSync as pass
use Rattle.shared_book.proofs.book.SharedBook.TheSendSync as book
use Rattle.instances.proofs.version.Version.TheSendSync as version
use Rattle.txn_book.proofs.Crossing.{book_send}
use Rattle.txn_book.specs.contracts.book.Book as Book
use Rattle.txn_book.specs.contracts.sharing.BookSerial.TheImpl.{ghosts}
use Rattle.instances.specs.contracts.version.Version as Version
use Rattle.instances.specs.contracts.proposal.Proposal as Proposal
use Rattle.presolve_model.specs.contracts.outcome.Outcome as Outcome
use Rattle.worker_gate.proofs.tickets.Tickets.TheSendSync as tickets
use Rattle.worker_tasks.proofs.task.Task.TheSendSync as task
use Rattle.worker_tasks.proofs.work.Work.TheSendSync as work
use Rattle.worker_rounds.specs.Workers.{HasFound, MayBegin, WorkerData}
use Rattle.worker_rounds.proofs.Working.{found_none}
use Rattle.worker_rounds.proofs.workers.let_work.Goals as goal
use Rattle.worker_rounds.proofs.workers.let_work.Lts.{arg-1-2}

pub for_each_mut-requires-send-T : goal.for_each_mut-requires-send-T
for_each_mut-requires-send-T g c κs within = search (book_send, pass.the_send, work.the_send, crosses, sendable) depth 60 fits 20000

-- a closure crosses by reference, since each of the seven that it holds does
seven_sync : (name : Sym) (A B C D E F G : RattleType) → IsSync A → IsSync B → IsSync C → IsSync D → IsSync E → IsSync F → IsSync G → IsSync (TupleAt name (A ∷ B ∷ C ∷ D ∷ E ∷ F ∷ G ∷ []))
seven_sync name A B C D E F G a b c d e f g =
    declared_sync (type_at name (A ∷ B ∷ C ∷ D ∷ E ∷ F ∷ G ∷ [])) (as_row_sync (row_field A) a, (as_row_sync (row_field B) b, (as_row_sync (row_field C) c, (as_row_sync (row_field D) d, (as_row_sync (row_field E) e, (as_row_sync (row_field F) f, (as_row_sync (row_field G) g, tt)))))))

pub for_each_mut-requires-sync-F : goal.for_each_mut-requires-sync-F
for_each_mut-requires-sync-F g c κs within =
    let shared = book.the_sync Book.the_row Version.the_row Proposal.the_row Outcome.the_row ghosts book_send in
    param_sync 2 (arg-1-2 g.row.R g.row.G g.R.laws g.G.laws g.R.Threads-dict g.R.Wait-dict g.G.Gate-dict κs)
    (arg_sync _ yes _ (seven_sync _ _ _ _ _ _ _ _ (shr_sync _ κs.1.1.1.1.1.1.0 _ (param_sync 0 _ c.type_bounds.sync-R)) (shr_sync _ κs.1.1.1.1.1.1.1.0 _ heap) (shr_sync _ κs.1.1.1.1.1.1.1.1.0 _ shared) (shr_sync _ κs.1.1.1.1.1.1.1.1.1.0 _ version.the_sync)
    (shr_sync _ κs.1.1.1.1.1.1.1.1.1.1.0 _ (param_sync 1 _ c.type_bounds.sync-G)) (shr_sync _ κs.1.1.1.1.1.1.1.1.1.1.1.0 _ tickets.the_sync) (shr_slice_sync _ κs.1.1.1.1.1.1.1.1.1.1.1.1.0 _ task.the_sync)))

pub for_each_mut-requires-clause-accepts : goal.for_each_mut-requires-clause-accepts
for_each_mut-requires-clause-accepts g c κs within = λ i p l e.
    let begins : MayBegin c.args.book.now c.args.version.now p.now = subst (MayBegin c.args.book.now c.args.version.now) (sym e) (c.requires.ready i p.now l) in
    (c.requires.stands, (c.requires.hold, (begins.pass, (begins.frozen, (found_none c.args.version.now c.args.tasks.now p.now.1 begins.fresh, (search sendable depth 60, search sendable depth 60))))))

pub returns-clause-found : goal.returns-clause-found
returns-clause-found g c = λ k d l.
    let s = c.args.workers.now in
    let left = (c.for_each_mut.ensures k d (subst (λ (n : ℕ). k < n) c.for_each_mut.auto.s l)).1 in
    subst (λ (w : WorkerData). HasFound c.args.version.now c.args.tasks.now w.1) left.left left.call
