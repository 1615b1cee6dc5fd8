use Rattle.std.proofs.Common.{◌≡◌, true, reverse, take}
use Rattle.opb_text.specs.Statements.{left_fits, left_of}
use Rattle.opb_reader.proofs.sides.left_of.Given as goal

-- what is left of the first numbers, whose steps were in range
abbrev pub invariant-loop-number : goal.invariant-loop-number
invariant-loop-number l = record {
  fits : left_fits l.fn.side (reverse (take l.number-index l.fn.numbers)) ≡ true;
  left : l.left ≡ left_of l.fn.side (reverse (take l.number-index l.fn.numbers));
}
