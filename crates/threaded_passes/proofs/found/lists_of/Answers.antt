use Rattle.std.proofs.Common.{subst}
use Rattle.std.proofs.lemmas.Result.{IfOk-weaker}
use Rattle.presolve_model.specs.Tallies.{open_on}
use Rattle.threaded_passes.specs.Shares.{IsShareOrLost}
use Rattle.threaded_passes.proofs.InOrder.{pairs_weaker}
use Rattle.threaded_passes.proofs.found.lists_of.Goals as goal

pub returns : goal.returns
returns g c =
    IfOk-weaker c.map_in_threads.result _ _ (λ v h. pairs_weaker _ _ (λ first list e. subst (λ k. IsShareOrLost (open_on c.args.tally.now) c.args.problem.now c.args.pieces.now c.args.step k list) e.shows e.says.met) c.args.firsts.now v.items h)
    c.map_in_threads.ensures
