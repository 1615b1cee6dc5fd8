use Rattle.record_fields.specs.Views.{words_left}
use Rattle.record_fields.proofs.WordLaws.{uncounted}
use Rattle.record_fields.proofs.lists.has_count.Goals as goal

pub returns-in-None : goal.returns-in-None
returns-in-None c = uncounted c.args.word.now (words_left c.args.words.now) c.word_count-left.result (λ h. c.in-None.ensures h) c.word_count-left.ensures.few c.word_count-left.ensures.value
