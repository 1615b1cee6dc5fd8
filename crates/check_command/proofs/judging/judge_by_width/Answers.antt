use Rattle.std.proofs.Common.{Bool, subst, sym}
use Rattle.std.specs.Prelude.{IfOk}
use Rattle.exact_texts.specs.Kinds.{room_of, texts_of}
use Rattle.check_command.specs.Checked.{SaysSolution}
use Rattle.check_command.proofs.judging.judge_by_width.Goals as goal

pub returns-then-wide : goal.returns-then-wide
returns-then-wide c = λ name before now finds.
    subst (λ (wide : Bool). IfOk c.judge_solution.result (λ ending. SaysSolution (room_of wide) (texts_of wide) c.args.program.now name before now ending)) (sym c.if-wide.true)
    (c.judge_solution.ensures name before now finds)

pub returns-else-wide : goal.returns-else-wide
returns-else-wide c = λ name before now finds.
    subst (λ (wide : Bool). IfOk c.judge_solution-else-wide.result (λ ending. SaysSolution (room_of wide) (texts_of wide) c.args.program.now name before now ending)) (sym c.if-wide.false)
    (c.judge_solution-else-wide.ensures name before now finds)
