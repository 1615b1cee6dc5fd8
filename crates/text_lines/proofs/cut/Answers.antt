use Rattle.std.proofs.Common.{◌==◌, ℕ, ◌∙◌, sym, arith}
use Rattle.std.proofs.lemmas.Grind.{common_steps}
use Rattle.text_lines.proofs.LineLaws.{parts_at_feed}
use Rattle.text_lines.proofs.Splitting.{none_before, none_passes}
use Rattle.text_lines.proofs.cut.Goals as goal

pub returns-in-Some-clause-whole : goal.returns-in-Some-clause-whole
returns-in-Some-clause-whole c = grind (arith, common_steps, parts_at_feed c.args.text.now c.in-Some.end (sym c.line_feed.ensures ∙ c.in-Some.is))

pub returns-in-Some-clause-first : goal.returns-in-Some-clause-first
returns-in-Some-clause-first c = none_before (λ (b : ℕ). b == 10) c.args.text.now c.in-Some.end (sym c.line_feed.ensures ∙ c.in-Some.is)

pub returns-in-None-clause-none : goal.returns-in-None-clause-none
returns-in-None-clause-none c = none_passes (λ (b : ℕ). b == 10) c.args.text.now (sym c.line_feed.ensures ∙ c.in-None.is)
