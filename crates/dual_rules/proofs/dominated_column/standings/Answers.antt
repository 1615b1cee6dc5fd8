use Rattle.std.proofs.Common.{sym, ◌∙◌}
use Rattle.problem_model.specs.Matrices.{live_only}
use Rattle.dual_rules.proofs.Pairs.{standing_next}
use Rattle.dual_rules.proofs.dominated_column.standings.Goals as goal

pub loop-rest-preserved-in_ok-push : goal.loop-rest-preserved-in_ok-push
loop-rest-preserved-in_ok-push c =
    let more = standing_next c.args.problem.now c.loop-rest.found.items c.push.new.self.items c.term-item.result c.loop-rest.rest.now (live_only c.args.problem.now.matrix.columns c.args.terms.now) c.standing_of.result
    c.in-len1-up.len_at_least c.term-item.is (sym c.is_column_live.ensures ∙ c.if-is_column_live.true) c.in_ok-push.ensures.items c.standing_of.ensures.standing c.standing_of.ensures.entry c.loop-rest.invariant.0 c.loop-rest.invariant.1.0 in
    (more.0, (more.1, c.standing_of.ensures.kept))
