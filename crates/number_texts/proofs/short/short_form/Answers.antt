use Rattle.number_texts.proofs.ShortLaws.{short_by}
use Rattle.number_texts.proofs.short.short_form.Goals as goal

pub returns-clause-form : goal.returns-clause-form
returns-clause-form c = short_by _ _ _ c.in_ok-number.ensures.form c.in_ok-below.ensures
