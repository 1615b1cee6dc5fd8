use Rattle.std.proofs.Common.{List, length, ◌<◌, ◌^◌}
use Rattle.opb_text.specs.Words.{words_of}
use Rattle.opb_text.specs.Tokens.{Token, tokens_on}
use Rattle.opb_text.specs.Reading.{going_on}
use Rattle.opb_reader.specs.Holding.{Holds}
use Rattle.opb_reader.proofs.Walking.{Walked}
use Rattle.opb_reader.proofs.reader.Reader.line.Given as goal

-- the words that are left, and the tokens before them
abbrev pub invariant-loop-word : goal.invariant-loop-word
invariant-loop-word l = (before : List Token) → Holds before l.fn.self → length (going_on before (tokens_on l.fn.line)) < 2 ^ 32 → Walked before (tokens_on l.fn.line) l.self (words_of l.rest)

abbrev pub decreases-loop-word : goal.decreases-loop-word
decreases-loop-word l = length l.rest
