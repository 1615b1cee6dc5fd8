use Rattle.fractions.proofs.DecimalLaws.{decimal-from_test, test-from_decimal}
use Rattle.fractions.proofs.places.test_finds_decimals.Goals as goal

pub returns : goal.returns
returns c = record { found = decimal-from_test; all = test-from_decimal }
