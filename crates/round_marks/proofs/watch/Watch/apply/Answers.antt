use Rattle.std.proofs.Common.{List, [], subst, sym}
use Rattle.problem_model.specs.declared.part.Part.{Part}
use Rattle.problem_model.specs.Noted.{AreNoted}
use Rattle.problem_model.specs.Sparse.{Sparse}
use Rattle.edit_laws.specs.Sizes.{SameSize}
use Rattle.presolve_model.specs.Ledger.{Ledger}
use Rattle.presolve_model.specs.Scans.{proposal_of}
use Rattle.round_marks.specs.Marking.{Notes}
use Rattle.round_marks.proofs.Watching.{notes_forms, notes_noted, notes_stirred, size_left}
use Rattle.round_marks.proofs.watch.Watch.apply.Goals as goal

pub returns : goal.returns
returns c =
    let b : Ledger = c.args.book.now in
    let d : Ledger = c.apply-outcome.new.self in
    let changed : List Part = c.apply-outcome.new.changed.items in
    let noted : AreNoted b.problem d.problem [] changed = subst (λ (ps : List Part). AreNoted b.problem d.problem ps changed) c.new-changed.ensures.items (c.apply-outcome.ensures.noted c.in_default.not-NoMemory) in
    let notes : Notes d.problem changed c.args.self.now c.note.new.self =
    subst (λ (ps : List Part). Notes d.problem ps c.args.self.now c.note.new.self) c.as_slice.ensures.value (subst (λ (q : Sparse). Notes q c.as_slice.result.now c.args.self.now c.note.new.self) c.problem.ensures c.in_ok-note.ensures) in
    let size : SameSize b.problem d.problem =
    subst (λ (x : Ledger). SameSize b.problem x.problem) (sym c.apply-outcome.ensures.left) (size_left b (proposal_of b.problem c.args.version c.args.instance) c.apply-outcome.result) in
    record {
      answered = c.in_default.not-NoMemory;
      outcome = c.apply-outcome.ensures.outcome;
      left = c.apply-outcome.ensures.left;
      noted = notes_noted b.problem d.problem changed c.args.self.now c.note.new.self noted notes;
      stirred = notes_stirred b.problem d.problem changed c.args.self.now c.note.new.self noted notes c.requires.forms size;
      asleep = notes.asleep;
      forms = notes_forms b.problem d.problem changed c.args.self.now c.note.new.self noted notes c.requires.forms size;
    }
