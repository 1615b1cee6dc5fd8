use Rattle.std.proofs.Common.{refl, subst}
use Rattle.std.specs.Prelude.{option_map}
use Rattle.lp_prices.specs.Prices.{IsSumIn}
use Rattle.lp_prices.proofs.Steps.{sum_more}
use Rattle.lp_check.proofs.sums.with_product.Goals as goal

pub returns-in-Ok : goal.returns-in-Ok
returns-in-Ok g c = λ n a x ef ew h. sum_more g.T.Exact.room n a x _ _ _ _ ef ew c.in-Ok.ensures.value c.in-Ok.ensures.kept (c.in-Ok.ensures.fits refl)
    (subst (λ o. IsSumIn g.T.Exact.room n a x (option_map g.T.Exact.number o)) c.in-Some.is h)
