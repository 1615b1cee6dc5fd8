use Rattle.std.proofs.Common.{◌≡◌, ◌++◌, drop}
use Rattle.std.specs.Prelude.{codes}
use Rattle.lp_model.specs.Names.{names_of_columns}
use Rattle.ray_text.specs.RayText.{weight_lines}
use Rattle.ray_text.proofs.writing.push_columns.Given as goal

abbrev pub invariant-loop-id : goal.invariant-loop-id
invariant-loop-id l =
    l.out.items ++ weight_lines (codes "column") (drop l.id (names_of_columns l.columns)) (drop l.id l.lower) (drop l.id l.upper)
    ≡ l.fn.out.items ++ weight_lines (codes "column") (names_of_columns l.columns) l.lower l.upper
