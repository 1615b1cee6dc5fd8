use Rattle.std.proofs.Common.{◌∙◌, ◌+◌, sym, ap, length}
use Rattle.std.specs.Option.{option_map}
use Rattle.std.proofs.lemmas.List.Splits.{length-slice_split}
use Rattle.record_fields.specs.Words.{is_space}
use Rattle.record_fields.specs.Views.{words_in}
use Rattle.record_fields.proofs.words.word_count.Goals as goal

pub returns-in-Some-clause-value : goal.returns-in-Some-clause-value
returns-in-Some-clause-value c =
    ap (λ k. k + 1) c.space_count.ensures.value
    ∙ sym (ap (λ rest. length (words_in (option_map (λ s. s.now) rest))) c.in-Some.is ∙ length-slice_split is_space c.in-Some.line.now)
