use Rattle.std.proofs.Common.{◌≡◌, length}
use Rattle.lp_model.specs.Vectors.{vector_of}
use Rattle.exact_numbers.proofs.Turns.{Negating}
use Rattle.exact_numbers.proofs.numbers.Numbers.negate.Given as goal

abbrev pub invariant-loop-i : goal.invariant-loop-i
invariant-loop-i g l = record {
  size : length l.self ≡ length l.fn.self;
  negating : Negating l.i (vector_of l.fn.self) (vector_of l.self);
}
