use Rattle.lp_rows.proofs.CrossedSides.{crossed_row}
use Rattle.lp_rows.proofs.crossed_sides_let_no_point_through.Goals as goal

pub returns : goal.returns
returns c = crossed_row
