use Rattle.std.proofs.Common.{◌∙◌}
use Rattle.number_texts.specs.Views.{terms_seen}
use Rattle.number_texts.proofs.Cutting.{Digits-append}
use Rattle.number_texts.proofs.ReachLaws.{reaches-some, reaches-none}
use Rattle.number_texts.proofs.reach.parts_reach.Goals as goal

pub returns-then-count-gt0 : goal.returns-then-count-gt0
returns-then-count-gt0 c = c.is_beyond.ensures ∙ reaches-some c.args.power (terms_seen c.args.parts.now) c.count-count.result (Digits-append c.args.parts.now.whole.now c.args.parts.now.decimals.now c.requires.whole c.requires.decimals) c.count-count.ensures.value c.if-count-gt0.true

pub returns-else-count-gt0 : goal.returns-else-count-gt0
returns-else-count-gt0 c = reaches-none c.args.power (terms_seen c.args.parts.now) c.count-count.result (Digits-append c.args.parts.now.whole.now c.args.parts.now.decimals.now c.requires.whole c.requires.decimals) c.count-count.ensures.value c.if-count-gt0.false
