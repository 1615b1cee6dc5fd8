use Rattle.std.proofs.Common.{arith}
use Rattle.std.specs.Prelude.{nat_lt}
use Rattle.std.proofs.lemmas.List.Sums.{prefix_len-le-length}
use Rattle.lp_model.specs.declared.terms.Term.{Term}
use Rattle.lp_gen.proofs.columns.put.Goals as goal

pub insert-requires : goal.insert-requires
insert-requires c = omega (arith, c.place_of-place.ensures, c.as_slice.ensures.len, prefix_len-le-length (λ (t : Term). nat_lt t.id c.args.row) c.as_slice.result.now)
