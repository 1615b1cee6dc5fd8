use Rattle.std.proofs.Common.{◌≡◌, ◌<◌, ◌≤◌, ◌+◌, ◌^◌, length, true}
use Rattle.std.specs.List.{list_all}
use Rattle.std.specs.Char.{is_ascii_digit}
use Rattle.number_texts.specs.Mantissas.{mantissa_after}
use Rattle.number_texts.proofs.mantissa.after.Given as goal

abbrev pub invariant-loop-rest : goal.invariant-loop-rest
invariant-loop-rest l = record {
  small : l.mantissa.number < 2 ^ 127;
  digits : list_all is_ascii_digit l.rest ≡ true;
  zeros : l.mantissa.zeros + length l.rest ≤ l.fn.mantissa.zeros + length l.digits;
  value : mantissa_after l.mantissa l.rest ≡ mantissa_after l.fn.mantissa l.digits;
}

abbrev pub decreases-loop-rest : goal.decreases-loop-rest
decreases-loop-rest l = length l.rest
