use Rattle.number_texts.proofs.TextLaws.{text_is_read, only_text_is_read}
use Rattle.number_texts.proofs.laws.text_is_number.Goals as goal

pub returns : goal.returns
returns c = record { read = text_is_read; only = only_text_is_read }
