use Rattle.std.proofs.Common.{ap, ◌∙◌}
use Rattle.std.proofs.lemmas.Result.{IfOk-weaker}
use Rattle.thread_maps.proofs.Making.{made_each}
use Rattle.thread_maps.proofs.map_in_threads.Goals as goal

pub returns : goal.returns
returns g c =
    let slice = ap (λ it. it.slice.now) (ap (λ w. w.base) c.map.ensures.base ∙ c.with_min_len.ensures.base) ∙ c.par_iter.ensures in
    IfOk-weaker c.collect.result _ _ (λ v h. made_each g.F.Fn c.args.make c.map.result.f c.args.items.now h.0 v.items h.1.0 c.map.ensures.f (h.1.1 ∙ slice) h.1.2 h.2) c.collect.ensures
