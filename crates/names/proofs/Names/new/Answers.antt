use Rattle.names.proofs.Places.{items_differ}
use Rattle.names.proofs.Names.new.Goals as goal

pub invariant_of-result : goal.invariant_of-result
invariant_of-result c = items_differ c.new.result.keys c.new.ensures.unique
