use Rattle.std.proofs.Common.{arith}
use Rattle.std.proofs.lemmas.List.Elements.{All-map}
use Rattle.lp_model.specs.Name.{IsName}
use Rattle.lp_model.specs.declared.program.ColumnDef.{ColumnDef}
use Rattle.lp_model.proofs.plain.columns_are_named.Goals as goal

pub returns : goal.returns
returns c = All-map IsName (λ (one : ColumnDef). one.name) c.args.columns.now (λ i d l. c.loop-column.invariant i d (omega (arith, l, c.loop-column.auto.column-index-end, c.loop-column-test.false)))
