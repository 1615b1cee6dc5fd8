use Rattle.std.proofs.Common.{ℕ, ◌+◌, ◌*◌, [], ◌∷◌, ◌++◌, ap, ◌∙◌, subst}
use Rattle.worker_tasks.specs.Tasks.{TaskData}
use Rattle.round_tasks.specs.Cutting.{IsCountBelow}
use Rattle.round_tasks.proofs.Chunking.{cut_more, cut_out}
use Rattle.round_tasks.proofs.cutting.add_tasks_of.Goals as goal

pub loop-rest-preserved-in_ok-push : goal.loop-rest-preserved-in_ok-push
loop-rest-preserved-in_ok-push c =
    cut_more c.args.version.now c.args.rule c.args.ids.now c.loop-rest.rest.now c.args.tasks.now.items c.loop-rest.tasks.items c.loop-rest.is_whole c.loop-rest.invariant c.chunk_of_first-chunk.result c.count_below-count.result c.requires.each c.loop-rest-test.true
    c.chunk_of_first-chunk.ensures.first c.chunk_of_first-chunk.ensures.inside (subst (λ (n : ℕ). IsCountBelow c.loop-rest.rest.now ((n + 1) * 1024) c.count_below-count.result) c.from.ensures c.count_below-count.ensures) _ _ _ c.split_at.ensures.front c.split_at.ensures.back (c.in_ok-push.ensures.items ∙ ap (λ (t : TaskData). c.loop-rest.tasks.items ++ t ∷ []) c.in_ok-task_at.ensures)

pub loop-rest-preserved : goal.loop-rest-preserved
loop-rest-preserved c =
    cut_out c.args.version.now c.args.rule c.args.ids.now c.loop-rest.rest.now c.args.tasks.now.items c.loop-rest.tasks.items c.loop-rest.is_whole c.loop-rest.invariant c.chunk_of_first-chunk.result c.count_below-count.result c.requires.each c.loop-rest-test.true
    c.chunk_of_first-chunk.ensures.first c.chunk_of_first-chunk.ensures.inside (subst (λ (n : ℕ). IsCountBelow c.loop-rest.rest.now ((n + 1) * 1024) c.count_below-count.result) c.from.ensures c.count_below-count.ensures) _ c.split_at.ensures.back
