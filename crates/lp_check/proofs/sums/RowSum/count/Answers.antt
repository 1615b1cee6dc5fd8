use Rattle.std.proofs.Common.{arith, refl}
use Rattle.lp_check.proofs.sums.RowSum.count.Goals as goal

pub returns-in_ok-self : goal.returns-in_ok-self
returns-in_ok-self g c = record {
  again = λ past. absurd (omega arith);
  counted = λ _. refl;
  sum = λ a x _ ef ew h. c.in_ok-self.ensures c.args.column a x ef ew h;
}
