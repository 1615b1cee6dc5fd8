use Rattle.std.proofs.Common.{◌∙◌, sym, arith}
use Rattle.std.proofs.lemmas.Grind.{common_steps}
use Rattle.mps_cards.proofs.Fielding.{fields-at, fields-last}
use Rattle.mps_cards.proofs.fields.cut_field.Goals as goal

pub returns-in-Some-clause-fields : goal.returns-in-Some-clause-fields
returns-in-Some-clause-fields c = grind (arith, common_steps, fields-at c.args.text.now c.in-Some.end c.requires (sym c.blank.ensures ∙ c.in-Some.is))

pub returns-in-None-clause-fields : goal.returns-in-None-clause-fields
returns-in-None-clause-fields c = grind (arith, common_steps, fields-last c.args.text.now c.requires (sym c.blank.ensures ∙ c.in-None.is))
