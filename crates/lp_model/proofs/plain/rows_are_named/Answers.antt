use Rattle.std.proofs.Common.{arith}
use Rattle.std.proofs.lemmas.List.Elements.{All-map}
use Rattle.lp_model.specs.Name.{IsName}
use Rattle.lp_model.specs.declared.program.RowDef.{RowDef}
use Rattle.lp_model.proofs.plain.rows_are_named.Goals as goal

pub returns : goal.returns
returns c = All-map IsName (λ (one : RowDef). one.name) c.args.rows.now (λ i d l. c.loop-row.invariant i d (omega (arith, l, c.loop-row.auto.row-index-end, c.loop-row-test.false)))
