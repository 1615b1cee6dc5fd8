use Rattle.std.proofs.Common.{arith}
use Rattle.std.proofs.lemmas.List.Elements.{All-map}
use Rattle.lp_model.specs.Name.{IsName}
use Rattle.undo_records.specs.declared.label.Label.{Label}
use Rattle.undo_records.proofs.label.labels_are_named.Goals as goal

pub returns : goal.returns
returns c = All-map IsName (λ (one : Label). one.name) c.args.labels.now (λ i d l. c.loop-label.invariant i d (omega (arith, l, c.loop-label.auto.label-index-end, c.loop-label-test.false)))
