use Rattle.std.proofs.lemmas.Result.{err_from_is_err_and}
use Rattle.postsolve_command.proofs.Brought.{duals_refused, handed_back, pair_refused, texts_given}
use Rattle.postsolve_command.proofs.command.brought_by.Goals as goal

pub returns-in_err-pair : goal.returns-in_err-pair
returns-in_err-pair g c =
    let handed = err_from_is_err_and c.from_residual.result c.from_residual.ensures.1 in
    handed_back g.T.Exact.room g.T.Textual.texts c.args.program.now c.args.records.now _ c.from_residual.result handed.0 c.in_err-pair.field-0.0 handed.1 handed.2
    (pair_refused g.T.Exact.room g.T.Textual.texts c.args.program.now c.args.records.now _ c.in_err-pair.field-0.0 c.in_err-pair.ensures.pair)

pub returns-in_err-see_duals : goal.returns-in_err-see_duals
returns-in_err-see_duals g c =
    let handed = err_from_is_err_and c.from_residual-in_err-see_duals.result c.from_residual-in_err-see_duals.ensures.1 in
    handed_back g.T.Exact.room g.T.Textual.texts c.args.program.now c.args.records.now _ c.from_residual-in_err-see_duals.result handed.0 c.in_err-see_duals.field-0.0 handed.1 handed.2
    (duals_refused g.T.Exact.room g.T.Textual.texts c.args.program.now c.args.records.now _ c.in_ok-pair.pair.point c.in_ok-pair.pair.duals c.in_ok-pair.ensures.pair c.in_err-see_duals.field-0.0 c.in_err-see_duals.ensures)

pub returns : goal.returns
returns g c = texts_given g.T.Exact.room g.T.Textual.texts c.args.program.now c.args.records.now _ c.in_ok-pair.pair.point c.in_ok-pair.pair.duals c.in_ok-pair.ensures.pair
    c.in_ok-see_duals.ensures c.lifted_texts.result c.lifted_texts.ensures
