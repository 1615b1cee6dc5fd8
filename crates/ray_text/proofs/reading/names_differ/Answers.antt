use Rattle.lp_model.specs.Names.{names_of_rows}
use Rattle.ray_text.proofs.NameTables.{rest_differs}
use Rattle.ray_text.proofs.reading.names_differ.Goals as goal

pub returns-clause-rows : goal.returns-clause-rows
returns-clause-rows c = rest_differs c.args.program.now.objective (names_of_rows c.args.program.now.rows) c.objective.ensures.named.rows
