use Rattle.std.proofs.Common.{sym, ◌∙◌}
use Rattle.number_texts.proofs.ShortLaws.{read-short}
use Rattle.number_texts.proofs.reading.unsigned_value.Goals as goal

pub returns-in-Some : goal.returns-in-Some
returns-in-Some c = c.short_value.ensures ∙ sym (read-short c.args.numbers c.args.negative c.args.text.now c.in-Some.short c.in-Some.ensures.form c.in-Some.ensures.small)
