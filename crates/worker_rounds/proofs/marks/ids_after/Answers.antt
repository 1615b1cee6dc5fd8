use Rattle.std.proofs.Common.{List, sym, subst}
use Rattle.problem_model.specs.declared.part.Part.{Part}
use Rattle.problem_model.specs.Sparse.{Sparse}
use Rattle.place_laws.specs.Choosing.{HoldsAround}
use Rattle.round_marks.specs.Marking.{Notes}
use Rattle.round_tasks.specs.Changes.{IsAsLong, NoticesAll}
use Rattle.worker_rounds.proofs.Complete.{next_looks}
use Rattle.worker_rounds.proofs.marks.ids_after.Goals as goal

pub changed_parts-requires : goal.changed_parts-requires
changed_parts-requires c = subst (IsAsLong c.args.before.now) (sym c.problem.ensures) c.requires.long

pub returns-clause-looks : goal.returns-clause-looks
returns-clause-looks c = λ v left.
    next_looks v c.args.after.now c.in_ok-changed.changed.items c.args.before.now c.args.watch.now c.note.new.self left
    (subst (λ (q : Sparse). NoticesAll c.args.before.now q c.in_ok-changed.changed.items) c.problem.ensures c.in_ok-changed.ensures)
    (subst (λ (ps : List Part). Notes c.args.after.now.problem ps c.args.watch.now c.note.new.self) c.as_slice.ensures.value (subst (λ (q : Sparse). Notes q c.as_slice.result.now c.args.watch.now c.note.new.self) c.problem-2.ensures c.in_ok-note.ensures))
    c.requires.awake c.in_ok-ids.ids
    (subst (λ (q : Sparse). HoldsAround q c.note.new.self.marks c.in_ok-ids.ids) c.problem-3.ensures c.in_ok-ids.ensures.holds)
