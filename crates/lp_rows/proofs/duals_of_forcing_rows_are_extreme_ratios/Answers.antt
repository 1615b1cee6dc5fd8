use Rattle.lp_rows.proofs.ForcingRow.{greatest_ratio_is, least_ratio_is}
use Rattle.lp_rows.proofs.duals_of_forcing_rows_are_extreme_ratios.Goals as goal

pub returns-clause-greatest : goal.returns-clause-greatest
returns-clause-greatest c = greatest_ratio_is

pub returns-clause-least : goal.returns-clause-least
returns-clause-least c = least_ratio_is
