use Rattle.std.proofs.lemmas.Result.{IfOk-weaker}
use Rattle.threaded_passes.specs.Sums.{AreSumsOrLost}
use Rattle.threaded_passes.proofs.InOrder.{all_right}
use Rattle.threaded_passes.proofs.sums.missing_by_threads.Goals as goal

pub returns : goal.returns
returns g c = IfOk-weaker c.map_in_threads.result _ _ (λ v h. all_right _ (AreSumsOrLost c.args.problem.now) (λ first made e. e.says.met) c.args.firsts.now v.items h) c.map_in_threads.ensures
