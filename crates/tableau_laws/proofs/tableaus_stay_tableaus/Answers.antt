use Rattle.tableau_laws.proofs.Starts.{start_is_tableau}
use Rattle.tableau_laws.proofs.Keeps.{pivot_is_tableau, shift_is_tableau}
use Rattle.tableau_laws.proofs.tableaus_stay_tableaus.Goals as goal

pub returns-clause-start : goal.returns-clause-start
returns-clause-start c = start_is_tableau

pub returns-clause-pivot : goal.returns-clause-pivot
returns-clause-pivot c = pivot_is_tableau

pub returns-clause-shift : goal.returns-clause-shift
returns-clause-shift c = shift_is_tableau
