-- The faults of tokens by themselves.
use Rattle.std.specs.Prelude.{Bool, List, [], ◌∷◌, Option, None}
use Rattle.opb_text.specs.Words.{Text}
use Rattle.opb_text.specs.Tokens.{token_of}
use Rattle.opb_text.specs.Faults.{least}
use Rattle.opb_text.specs.Reading.{is_literal, plain_fault}
use Rattle.opb_text.specs.declared.faults.OpbFaultKind.{OpbFaultKind}

-- the fault of words with the lowest number, each looked at by itself and the one before it
abbrev pub later_fault : Bool → List Text → Option OpbFaultKind
later_fault after_literal [] = None
later_fault after_literal (word ∷ words) = least (plain_fault after_literal (token_of word)) (later_fault (is_literal (token_of word)) words)
