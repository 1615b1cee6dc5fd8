use Rattle.std.proofs.Common.{ap, ap₂, ◌∙◌, nat_abs}
use Rattle.std.specs.Prelude.{is_some}
use Rattle.fractions.specs.Places.{place_of}
use Rattle.fractions.proofs.DecimalLaws.{test_says}
use Rattle.fractions.proofs.places.is_decimal.Goals as goal

pub returns-clause-says : goal.returns-clause-says
returns-clause-says c = test_says _ c.args.number.now (c.is_some.ensures ∙ ap is_some (c.place.ensures.value ∙ ap₂ place_of (c.size.ensures.value ∙ ap nat_abs c.parts-parts.ensures.num) c.parts-parts.ensures.den))
