use Rattle.std.proofs.Common.{true, false, ◌≡◌, sym, ◌∙◌, subst, map, List, All}
use Rattle.lp_model.specs.Name.{IsName}
use Rattle.undo_records.specs.declared.label.Label.{Label}
use Rattle.undo_records.proofs.Untold.{unknown_told}
use Rattle.undo_records.proofs.Walking.{judged}
use Rattle.undo_records.proofs.records.Records.checked.Goals as goal

pub returns-then-not-branch-clause-sound : goal.returns-then-not-branch-clause-sound
returns-then-not-branch-clause-sound c = (
  λ e. absurd (let h : false ≡ true = e in cc),
  λ s. sym c.if-not-branch.true ∙ (judged c.args.sense c.args.duals c.args.offset _ _ _ _ _ _ _ _ c.as_slice.ensures.value c.as_slice-2.ensures.value c.as_slice-3.ensures.value c.in_ok-are_sound.ensures).1 s,
)

pub new-requires-clause-sound : goal.new-requires-clause-sound
new-requires-clause-sound c = (judged c.args.sense c.args.duals c.args.offset _ _ _ _ _ _ _ _ c.as_slice.ensures.value c.as_slice-2.ensures.value c.as_slice-3.ensures.value c.in_ok-are_sound.ensures).0 c.if-not-branch.false

pub new-requires-clause-named : goal.new-requires-clause-named
new-requires-clause-named c = record {
  rows = subst (λ (ls : List Label). All IsName (map (λ l. l.name) ls)) c.as_slice-5.ensures.value c.labels_are_named-2.ensures;
  columns = subst (λ (ls : List Label). All IsName (map (λ l. l.name) ls)) c.as_slice-4.ensures.value c.labels_are_named.ensures;
}

pub new-requires-clause-told : goal.new-requires-clause-told
new-requires-clause-told c = unknown_told c.args.sense c.args.duals _ _ c.args.offset _ _ _ c.as_slice-6.ensures.value c.in_ok-transactions.ensures
