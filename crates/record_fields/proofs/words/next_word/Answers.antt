use Rattle.std.proofs.Common.{◌∙◌, sym, ap}
use Rattle.std.specs.Option.{option_map}
use Rattle.record_fields.specs.Words.{first, others}
use Rattle.record_fields.specs.Views.{words_in}
use Rattle.record_fields.proofs.WordLaws.{words-cut}
use Rattle.record_fields.proofs.words.next_word.Goals as goal

pub returns-in-Some-clause-word : goal.returns-in-Some-clause-word
returns-in-Some-clause-word c =
    ap (λ r. r.0) c.cut_space.ensures
    ∙ sym (ap (λ rest. first (words_in (option_map (λ s. s.now) rest))) c.in-Some.is ∙ ap first (words-cut c.in-Some.line.now))

pub returns-in-Some-clause-left : goal.returns-in-Some-clause-left
returns-in-Some-clause-left c =
    ap (λ r. words_in r.1) c.cut_space.ensures
    ∙ sym (ap (λ rest. others (words_in (option_map (λ s. s.now) rest))) c.in-Some.is ∙ ap others (words-cut c.in-Some.line.now))
