-- The numbers that the values of a verdict stand for.
use Rattle.fractions.specs.Number.{Number}
use Rattle.lp_check.specs.declared.verdicts.Verdict.{Verdict}
use Rattle.lp_check.specs.declared.verdicts.Verdict.TheVariants.{Yes, No, Past}
use Rattle.lp_check.specs.declared.pair_verdicts.Misplaced.{Misplaced}
use Rattle.lp_check.specs.declared.pair_verdicts.PairVerdict.{PairVerdict}
use Rattle.lp_check.specs.declared.pair_verdicts.PairVerdict.TheVariants.{OnPoint, Dual, ReducedCost, PastReducedCost}

-- on a point
abbrev pub numbered : {A : Type 0} → (A → Number) → Verdict A → Verdict Number
numbered f (Yes c) = Yes (f c)
numbered f (No item v limit) = No item (f v) limit
numbered f (Past item) = Past item

-- on a point with duals
abbrev pub numbered_found : {A : Type 0} → (A → Number) → Misplaced A → Misplaced Number
numbered_found f found = record { multiplier = f found.multiplier; value = f found.value; end = found.end }

abbrev pub numbered_pair : {A : Type 0} → (A → Number) → PairVerdict A → PairVerdict Number
numbered_pair f (OnPoint verdict) = OnPoint (numbered f verdict)
numbered_pair f (Dual i found) = Dual i (numbered_found f found)
numbered_pair f (ReducedCost j found) = ReducedCost j (numbered_found f found)
numbered_pair f (PastReducedCost j) = PastReducedCost j
