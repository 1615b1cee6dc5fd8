use Rattle.wide_texts.proofs.Fields.{written-field}
use Rattle.exact_texts.proofs.words.FracTextual.is_field.Goals as goal

pub returns : goal.returns
returns c = written-field
