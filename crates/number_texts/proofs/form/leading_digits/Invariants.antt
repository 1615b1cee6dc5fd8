use Rattle.std.proofs.Common.{◌≡◌, ◌^◌, ◌<◌, ◌≤◌, length}
use Rattle.number_texts.specs.Shorts.{leading}
use Rattle.number_texts.proofs.form.leading_digits.Given as goal

abbrev pub invariant-loop-rest : goal.invariant-loop-rest
invariant-loop-rest l = record {
  small : l.number < 10 ^ 19;
  shorter : length l.rest ≤ length l.text;
  value : leading l.number l.rest ≡ leading l.before l.text;
}

abbrev pub decreases-loop-rest : goal.decreases-loop-rest
decreases-loop-rest l = length l.rest
