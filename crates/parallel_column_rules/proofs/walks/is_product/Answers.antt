use Rattle.fractions.specs.Number.{◌*ℚ◌}
use Rattle.parallel_column_rules.proofs.EntryWalks.{past_product}
use Rattle.parallel_column_rules.proofs.walks.is_product.Goals as goal

pub returns-in-Err : goal.returns-in-Err
returns-in-Err c = past_product c.args.number.now (c.args.factor.now *ℚ c.args.other.now) c.product.result c.in-Err.field-0 c.parts-parts.ensures.fits c.product.ensures.exact c.in-Err.is
