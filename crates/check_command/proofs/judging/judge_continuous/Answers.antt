use Rattle.std.proofs.Common.{List, map, subst}
use Rattle.fractions.specs.Number.{Number}
use Rattle.lp_model.specs.Meaning.{meaning}
use Rattle.lp_model.specs.Vectors.{vector_of}
use Rattle.lp_check.specs.DecidingPairs.{DecidesPairIn}
use Rattle.lp_check.specs.Numbered.{numbered_pair}
use Rattle.std.proofs.lemmas.Result.{IfOk-weaker}
use Rattle.check_command.proofs.Told.{pair_told}
use Rattle.check_command.proofs.judging.judge_continuous.Goals as goal

pub returns-in-Ok : goal.returns-in-Ok
returns-in-Ok g c = λ name before now given. IfOk-weaker c.pair_verdict_ending.result _ _
    (λ ending h. pair_told g.T.Exact.room g.T.Textual.texts c.args.program.now c.args.point.now c.args.duals.now (numbered_pair g.T.Exact.number c.in-Ok.verdict) ending name before now given c.requires.continuous (subst (λ (ys : List Number). DecidesPairIn g.T.Exact.room c.args.program.now.sense (meaning c.args.program.now) (vector_of c.args.point.now) (vector_of ys) (numbered_pair g.T.Exact.number c.in-Ok.verdict)) c.as_slice-2.ensures
    (subst (λ (xs : List Number). DecidesPairIn g.T.Exact.room c.args.program.now.sense (meaning c.args.program.now) (vector_of xs) (vector_of (map g.T.Exact.number c.as_slice-2.result.now)) (numbered_pair g.T.Exact.number c.in-Ok.verdict)) c.as_slice.ensures c.in-Ok.ensures)) h) c.pair_verdict_ending.ensures
