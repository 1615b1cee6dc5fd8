use Rattle.whole_way.proofs.Whole.{in_both_kinds}
use Rattle.whole_way.specs.Texts.{PairsAgain}
use Rattle.whole_way.proofs.laws.pairs_are_read_again.Goals as goal

pub returns : goal.returns
returns c = in_both_kinds PairsAgain
    (record { fault = c.written_pair_is_read_in_kind.ensures.fault; point = c.written_pair_is_read_in_kind.ensures.point; duals = c.written_pair_is_read_in_kind.ensures.duals })
    (record { fault = c.written_pair_is_read_in_kind-2.ensures.fault; point = c.written_pair_is_read_in_kind-2.ensures.point; duals = c.written_pair_is_read_in_kind-2.ensures.duals })
