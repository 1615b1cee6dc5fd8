use Rattle.std.proofs.Common.{◌≡◌, length, true, None}
use Rattle.std.specs.Option.{option_map, ForSome}
use Rattle.record_fields.specs.Words.{is_plain}
use Rattle.record_fields.specs.Faults.{lower}
use Rattle.record_fields.specs.Lists.{pairs_of, pairs_fault}
use Rattle.record_fields.specs.Views.{words_left}
use Rattle.record_fields.proofs.lists.pairs_fault.Given as goal

abbrev pub invariant-loop-pair : goal.invariant-loop-pair
invariant-loop-pair l = record {
  plain : ForSome l.before (λ s. is_plain s.now ≡ true);
  value : lower l.found (pairs_fault (option_map (λ s. s.now) l.before) (pairs_of (words_left l.rest))) ≡ pairs_fault None (pairs_of (words_left l.words));
}

abbrev pub decreases-loop-pair : goal.decreases-loop-pair
decreases-loop-pair l = length (pairs_of (words_left l.rest))
