use Rattle.std.proofs.Common.{ap, ◌∙◌}
use Rattle.fractions.specs.Lowest.{ratio-is, over_of, under_of, under_of_positive, coprime_of, fraction-shown, of_lowest}
use Rattle.fractions.proofs.number_laws.lowest_terms_are_unique.Goals as goal

pub returns : goal.returns
returns c = record {
  positive = under_of_positive;
  coprime = coprime_of;
  value = λ q. ratio-is (over_of q) (under_of q) (under_of_positive q) ∙ fraction-shown q;
  alone = λ n d p e. let low = of_lowest (record { over = n; under = d; positive = p }) e in (ap over_of (ratio-is n d p) ∙ low.0, ap under_of (ratio-is n d p) ∙ low.1);
}
