use Rattle.std.proofs.Common.{◌≡◌, length}
use Rattle.record_file.specs.Onto.{words_onto}
use Rattle.record_file.specs.Words.{pair_words, list_words}
use Rattle.record_file.proofs.words.push_terms.Given as goal

abbrev pub invariant-loop-rest : goal.invariant-loop-rest
invariant-loop-rest l = words_onto l.out.items (pair_words l.rest) ≡ words_onto l.fn.out.items (list_words l.terms)

abbrev pub decreases-loop-rest : goal.decreases-loop-rest
decreases-loop-rest l = length l.rest
