use Rattle.std.proofs.Common.{length, refl, below_more}
use Rattle.lp_model.proofs.Sums.{not_so}
use Rattle.ray_check.proofs.LoopReads.{within, lower_here, upper_here, weight_here, row_holds}
use Rattle.ray_check.proofs.checking.failing_row.Goals as goal

pub returns-then-not-are_weights : goal.returns-then-not-are_weights
returns-then-not-are_weights c =
    let l = within c.rows-rows.result.now c.args.program.now.rows c.loop-i.i c.rows-rows.ensures c.loop-i-test.true in
    let same = row_holds _ _ _ _ _ _ _ _
    (lower_here c.args.program.now c.rows-rows.result.now c.loop-i.i c.index-rows-i.result c.rows-rows.ensures c.loop-i-test.true c.index-rows-i.is)
    (upper_here c.args.program.now c.rows-rows.result.now c.loop-i.i c.index-rows-i.result c.rows-rows.ensures c.loop-i-test.true c.index-rows-i.is)
    (weight_here c.args.ray.now.lower_sides c.lower_sides-low.result.now c.loop-i.i (length c.args.program.now.rows) c.index-low-i.result c.lower_sides-low.ensures c.requires.sized.lower_sides l c.index-low-i.is)
    (weight_here c.args.ray.now.upper_sides c.upper_sides-high.result.now c.loop-i.i (length c.args.program.now.rows) c.index-high-i.result c.upper_sides-high.ensures c.requires.sized.upper_sides l c.index-high-i.is) in
    (c.loop-i.invariant, l, λ h. not_so (c.if-not-are_weights.ensures.1 (same.1 h)))

pub loop-i-preserved : goal.loop-i-preserved
loop-i-preserved c =
    let l = within c.rows-rows.result.now c.args.program.now.rows c.loop-i.i c.rows-rows.ensures c.loop-i-test.true in
    let same = row_holds _ _ _ _ _ _ _ _
    (lower_here c.args.program.now c.rows-rows.result.now c.loop-i.i c.index-rows-i.result c.rows-rows.ensures c.loop-i-test.true c.index-rows-i.is)
    (upper_here c.args.program.now c.rows-rows.result.now c.loop-i.i c.index-rows-i.result c.rows-rows.ensures c.loop-i-test.true c.index-rows-i.is)
    (weight_here c.args.ray.now.lower_sides c.lower_sides-low.result.now c.loop-i.i (length c.args.program.now.rows) c.index-low-i.result c.lower_sides-low.ensures c.requires.sized.lower_sides l c.index-low-i.is)
    (weight_here c.args.ray.now.upper_sides c.upper_sides-high.result.now c.loop-i.i (length c.args.program.now.rows) c.index-high-i.result c.upper_sides-high.ensures c.requires.sized.upper_sides l c.index-high-i.is) in
    below_more _ _ c.loop-i.invariant (same.0 (c.if-not-are_weights.ensures.0 refl))
