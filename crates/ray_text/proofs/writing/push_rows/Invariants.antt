use Rattle.std.proofs.Common.{◌≡◌, ◌++◌, drop}
use Rattle.std.specs.Prelude.{codes}
use Rattle.lp_model.specs.Names.{names_of_rows}
use Rattle.ray_text.specs.RayText.{weight_lines}
use Rattle.ray_text.proofs.writing.push_rows.Given as goal

abbrev pub invariant-loop-id : goal.invariant-loop-id
invariant-loop-id l =
    l.out.items ++ weight_lines (codes "row") (drop l.id (names_of_rows l.rows)) (drop l.id l.lower) (drop l.id l.upper)
    ≡ l.fn.out.items ++ weight_lines (codes "row") (names_of_rows l.rows) l.lower l.upper
