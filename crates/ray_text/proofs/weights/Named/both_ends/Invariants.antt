use Rattle.std.proofs.Common.{◌≡◌, take, map}
use Rattle.ray_text.specs.Given.{weights_or_none}
use Rattle.ray_text.proofs.weights.Named.both_ends.Given as goal

-- the weights so far
abbrev pub invariant-loop-weights : goal.invariant-loop-weights
invariant-loop-weights l = record {
  lower : l.lower.items ≡ map (λ o. (weights_or_none o).lower) (take l.weights-index l.self.weights.items);
  upper : l.upper.items ≡ map (λ o. (weights_or_none o).upper) (take l.weights-index l.self.weights.items);
}
