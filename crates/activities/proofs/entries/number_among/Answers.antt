use Rattle.std.proofs.Common.{◌∙◌}
use Rattle.activities.proofs.Halving.{before, behind, found}
use Rattle.activities.proofs.entries.number_among.Goals as goal

pub returns-then-term-id : goal.returns-then-term-id
returns-then-term-id c n s = let h = c.loop-rest.invariant n s in found c.loop-rest.rest.now c.split_at.result.0.now c.split_at.result.1.now _ c.term-item.result c.split_at.ensures.front c.split_at.ensures.back c.in-len1-up.len_at_least c.term-item.is n h.0 c.args.id c.if-term-id.true ∙ h.1

pub loop-rest-preserved-then-term-id-2 : goal.loop-rest-preserved-then-term-id-2
loop-rest-preserved-then-term-id-2 c n s = let h = c.loop-rest.invariant n s in let g = behind c.loop-rest.rest.now c.split_at.result.0.now c.split_at.result.1.now _ c.term-item.result c.split_at.ensures.front c.split_at.ensures.back c.in-len1-up.len_at_least c.term-item.is n h.0 c.args.id c.if-term-id-2.true in (g.0, g.1 ∙ h.1)

pub loop-rest-preserved : goal.loop-rest-preserved
loop-rest-preserved c n s = let h = c.loop-rest.invariant n s in let g = before c.loop-rest.rest.now c.split_at.result.0.now c.split_at.result.1.now _ c.term-item.result c.split_at.ensures.front c.split_at.ensures.back c.in-len1-up.len_at_least c.term-item.is n h.0 c.args.id c.if-term-id.false c.if-term-id-2.false in (g.0, g.1 ∙ h.1)
