-- What reading a line gives.
use Rattle.std.specs.Prelude.{◌≡◌, ℕ, List, Some, None, Result, Ok, Err}
use Rattle.lp_model.specs.Flags.{Flags}
use Rattle.undo_records.specs.declared.undo.Undo.{Undo}
use Rattle.record_fields.specs.Words.{words_of}
use Rattle.record_words.specs.Undos.{rule_fault, undo_of, undo_fault, undo_in}
use Rattle.record_words.specs.declared.lines.LineError.{LineError}
use Rattle.record_words.specs.declared.lines.LineError.TheVariants.{Fault, NoMemory}
use Rattle.record_values.specs.declared.rule.Rule.{Rule}

-- the record of a rule's words, or their fault
abbrev pub IsRuleUndo : Flags → Rule → List (List ℕ) → Result Undo LineError → Type 0
IsRuleUndo f rule ws (Ok undo) = (rule_fault f (Some rule) ws ≡ None) × (undo ≡ undo_of rule ws)
IsRuleUndo f rule ws (Err (Fault fault)) = rule_fault f (Some rule) ws ≡ Some fault
IsRuleUndo f rule ws (Err NoMemory) = Unit {0}

-- the record that a line is, or its fault
abbrev pub IsUndo : Flags → List ℕ → Result Undo LineError → Type 0
IsUndo f line (Ok undo) = (undo_fault f (words_of line) ≡ None) × (undo ≡ undo_in (words_of line))
IsUndo f line (Err (Fault fault)) = undo_fault f (words_of line) ≡ Some fault
IsUndo f line (Err NoMemory) = Unit {0}
