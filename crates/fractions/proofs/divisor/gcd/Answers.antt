use Rattle.std.proofs.Common.{sym, ap, ◌∙◌}
use Rattle.fractions.specs.Gcd.{gcd}
use Rattle.fractions.specs.Divisors.{gcd_pos_l, gcd_pos_r}
use Rattle.fractions.proofs.GcdSteps.{gcd_one, gcd_self, gcd-≤}
use Rattle.fractions.proofs.divisor.gcd.Goals as goal

pub returns-then-b-eq1-clause-value : goal.returns-then-b-eq1-clause-value
returns-then-b-eq1-clause-value c = sym (ap (gcd c.args.a) c.if-b-eq1.true ∙ gcd_one c.args.a)

pub returns-then-a-b-clause-value : goal.returns-then-a-b-clause-value
returns-then-a-b-clause-value c = sym (ap (gcd c.args.a) (sym c.if-a-b.true) ∙ gcd_self c.args.a)

pub returns-else-a-b : goal.returns-else-a-b
returns-else-a-b c = record {
  value = c.long_gcd.ensures;
  some_left = λ h. rw c.long_gcd.ensures (gcd_pos_l _ _ h);
  some_right = λ h. rw c.long_gcd.ensures (gcd_pos_r _ _ h);
  below_right = λ h. rw c.long_gcd.ensures (gcd-≤ _ _ h);
}
