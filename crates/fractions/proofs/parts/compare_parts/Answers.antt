use Rattle.std.proofs.Common.{◌∙◌}
use Rattle.fractions.proofs.LowestTerms.{int_cmp_times}
use Rattle.fractions.proofs.parts.compare_parts.Goals as goal

pub returns-then-a-b : goal.returns-then-a-b
returns-then-a-b c = c.compare.ensures ∙ int_cmp_times _ _ _ _ c.requires.right.positive c.if-a-b.true
