use Rattle.fractions.proofs.Totals.{total-put, total_swap}
use Rattle.fractions.proofs.number_laws.sums_change_by_terms.Goals as goal

pub returns : goal.returns
returns c = record { changed = total-put; exchanged = total_swap }
