use Rattle.std.proofs.Common.{arith}
use Rattle.mps_assembly.proofs.Spreading.{ids_below}
use Rattle.mps_assembly.proofs.terms.terms_by_column.Goals as goal

pub add_row-requires-clause-few : goal.add_row-requires-clause-few
add_row-requires-clause-few c = omega (arith, c.loop-i.invariant.id, ids_below c.args.kinds.now c.loop-i.i)
