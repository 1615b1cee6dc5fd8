use Rattle.std.proofs.Common.{◌∙◌, sym}
use Rattle.opb_tokens.proofs.Wording.{words-cut, words-last}
use Rattle.opb_tokens.proofs.words.cut_word.Goals as goal

pub returns-in-Some-clause-words : goal.returns-in-Some-clause-words
returns-in-Some-clause-words c = words-cut c.args.text.now c.in-Some.end c.requires.begins (sym c.end_of_word.ensures ∙ c.in-Some.is)

pub returns-in-None-clause-words : goal.returns-in-None-clause-words
returns-in-None-clause-words c = words-last c.args.text.now c.requires.some (sym c.end_of_word.ensures ∙ c.in-None.is)
