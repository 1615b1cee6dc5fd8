use Rattle.std.proofs.Common.{◌∙◌}
use Rattle.tableau_rows.proofs.RowLaws.{written_back}
use Rattle.tableau_rows.proofs.rows.Row.replace.Goals as goal

pub returns-clause-value : goal.returns-clause-value
returns-clause-value c = written_back c.replace.result c.args.b c.args.e c.self.inside.numbers.len c.args.line.now c.as_slice.result.now c.args.self.now c.as_mut_slice.result.now c.replace.new.row c.self.inside.numbers.items
    (c.as_mut_slice.ensures.value ∙ c.self.view_is) c.as_mut_slice.ensures.len c.replace.auto.row (c.as_slice.ensures.value ∙ c.line.view_is) c.replace.ensures.value
