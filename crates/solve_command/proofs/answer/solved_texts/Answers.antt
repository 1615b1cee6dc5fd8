use Rattle.std.proofs.lemmas.Result.{err_from_is_err_and}
use Rattle.solve_command.proofs.Made.{handed_on, made_at, refused}
use Rattle.solve_command.proofs.answer.solved_texts.Goals as goal

pub returns-in_err-program : goal.returns-in_err-program
returns-in_err-program c = λ names before now is few finds.
    let handed = err_from_is_err_and c.from_residual.result c.from_residual.ensures.1 in
    handed_on names before now c.from_residual.result handed.0 c.in_err-program.field-0.0 handed.1 handed.2
    (refused names before now c.args.form _ c.in_err-program.field-0.0 is finds c.in_err-program.ensures)

pub returns : goal.returns
returns c = λ names before now is few finds.
    made_at names before now c.args.form _ c.in_ok-program.program c.args.pivots c.answered.result is few finds c.in_ok-program.ensures c.answered.ensures
