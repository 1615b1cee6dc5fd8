use Rattle.std.proofs.Common.{◌≡◌, length}
use Rattle.std.specs.List.{list_any}
use Rattle.record_fields.specs.Words.{same_id}
use Rattle.record_fields.specs.Lists.{pairs_of, is_listed}
use Rattle.record_fields.specs.Views.{words_left}
use Rattle.record_fields.proofs.lists.is_listed.Given as goal

abbrev pub invariant-loop-pair : goal.invariant-loop-pair
invariant-loop-pair l = list_any (λ pair. same_id pair.0 l.id) (pairs_of (words_left l.rest)) ≡ is_listed l.id (words_left l.words)

abbrev pub decreases-loop-pair : goal.decreases-loop-pair
decreases-loop-pair l = length (pairs_of (words_left l.rest))
