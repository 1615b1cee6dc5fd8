use Rattle.std.proofs.Common.{◌∙◌, sym, arith}
use Rattle.std.proofs.lemmas.Grind.{common_steps}
use Rattle.ray_text.proofs.Fielding.{field_at, field_last}
use Rattle.ray_text.proofs.starting.cut_field.Goals as goal

pub returns-in-Some : goal.returns-in-Some
returns-in-Some c = grind (arith, common_steps, field_at c.args.text.now c.in-Some.end c.requires (sym c.blank.ensures ∙ c.in-Some.is))

pub returns-in-None : goal.returns-in-None
returns-in-None c = grind (arith, common_steps, field_last c.args.text.now c.requires (sym c.blank.ensures ∙ c.in-None.is))
