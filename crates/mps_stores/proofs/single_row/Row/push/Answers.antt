use Rattle.std.proofs.Common.{arith}
use Rattle.mps_stores.proofs.Adding.{up_to_push, once_push}
use Rattle.mps_stores.proofs.single_row.Row.push.Goals as goal

pub invariant_of-self-2 : goal.invariant_of-self-2
invariant_of-self-2 c =
    rw c.in_ok-push.ensures.items (record {
      bounded = up_to_push _ _ c.self.inside.highest c.max-self-inside.result c.self.invariant.bounded (omega (arith, c.max-self-inside.ensures)) (omega (arith, c.max-self-inside.ensures));
      once = once_push _ _ c.self.invariant.once (rw c.self.view_is c.requires);
    })
