use Rattle.std.proofs.Common.{◌∙◌, sym, ap}
use Rattle.std.specs.Option.{option_map}
use Rattle.record_fields.specs.Words.{is_empty}
use Rattle.record_fields.specs.Views.{words_in}
use Rattle.record_fields.proofs.WordLaws.{words-cut}
use Rattle.record_fields.proofs.words.is_empty.Goals as goal

pub returns-in-Some : goal.returns-in-Some
returns-in-Some c = sym (ap (λ rest. is_empty (words_in (option_map (λ s. s.now) rest))) c.in-Some.is ∙ ap is_empty (words-cut c.in-Some.field-0.now))
