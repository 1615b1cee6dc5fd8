use Rattle.std.proofs.Common.{◌≡◌, ◌++◌, length}
use Rattle.std.specs.Prelude.{map}
use Rattle.record_fields.specs.Lists.{pairs_of, term_of, list_of}
use Rattle.record_fields.specs.Views.{words_left}
use Rattle.record_fields.proofs.lists.list_in.Given as goal

abbrev pub invariant-loop-pair : goal.invariant-loop-pair
invariant-loop-pair l = l.terms.items ++ map term_of (pairs_of (words_left l.rest)) ≡ list_of (words_left l.words)

abbrev pub decreases-loop-pair : goal.decreases-loop-pair
decreases-loop-pair l = length (pairs_of (words_left l.rest))
