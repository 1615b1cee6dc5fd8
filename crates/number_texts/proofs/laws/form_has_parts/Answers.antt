use Rattle.number_texts.proofs.GrammarLaws.{terms-from_form, form-from_terms}
use Rattle.number_texts.proofs.laws.form_has_parts.Goals as goal

pub returns : goal.returns
returns c = record { read = terms-from_form; only = form-from_terms }
