use Rattle.std.proofs.Common.{take}
use Rattle.kept_sums.specs.CommonSums.{IsCommonSum}
use Rattle.row_spans.specs.Spans.{ends_at}
use Rattle.kept_sums.proofs.common.common_sum.Given as goal

-- the sum is that of the terms that were passed
abbrev pub invariant-loop-span : goal.invariant-loop-span
invariant-loop-span l = IsCommonSum (ends_at l.extreme (take l.span-index l.spans)) l.sum
