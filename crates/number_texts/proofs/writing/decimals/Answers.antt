use Rattle.std.proofs.Common.{arith}
use Rattle.number_texts.proofs.WritingLaws.{first_digit}
use Rattle.number_texts.proofs.writing.decimals.Goals as goal

pub range_from-requires : goal.range_from-requires
range_from-requires c = rw c.marked_digits.ensures (λ z. (omega arith, λ l h. absurd (omega (arith, h, first_digit c.args.places c.args.number c.requires.small))))
