use Rattle.std.proofs.Common.{List, subst}
use Rattle.fractions.specs.Number.{Number}
use Rattle.lp_model.specs.Meaning.{meaning}
use Rattle.lp_model.specs.Vectors.{vector_of}
use Rattle.lp_check.specs.Deciding.{DecidesIn}
use Rattle.lp_check.specs.Numbered.{numbered}
use Rattle.std.proofs.lemmas.Result.{IfOk-weaker}
use Rattle.check_command.proofs.Told.{point_told}
use Rattle.check_command.proofs.judging.judge_alone.Goals as goal

pub returns-in-Ok : goal.returns-in-Ok
returns-in-Ok g c = λ name before now given. IfOk-weaker c.verdict_ending.result _ _
    (λ ending h. point_told g.T.Exact.room g.T.Textual.texts c.args.program.now c.args.point.now (numbered g.T.Exact.number c.in-Ok.verdict) ending name before now given (subst (λ (xs : List Number). DecidesIn g.T.Exact.room (meaning c.args.program.now) (vector_of xs) (numbered g.T.Exact.number c.in-Ok.verdict)) c.as_slice.ensures c.in-Ok.ensures) h) c.verdict_ending.ensures
