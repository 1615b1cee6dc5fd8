use Rattle.std.proofs.Common.{◌≡◌, ◌≤◌, length}
use Rattle.opb_text.specs.Words.{words_of}
use Rattle.opb_tokens.proofs.words.first_word.Given as goal

-- only spaces stand before what is left
abbrev pub invariant-loop-rest : goal.invariant-loop-rest
invariant-loop-rest l = record { same : words_of l.rest ≡ words_of l.fn.line; few : length l.rest ≤ length l.fn.line }

abbrev pub decreases-loop-rest : goal.decreases-loop-rest
decreases-loop-rest l = length l.rest
