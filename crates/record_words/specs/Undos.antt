-- The record that a line is, and the fault of a line.
use Rattle.std.specs.Prelude.{ℕ, Bool, true, not, ◌&&◌, List, Option, Some, None, ⊤}
use Rattle.std.specs.List.{list_all}
use Rattle.lp_model.specs.Flags.{Flags}
use Rattle.undo_records.specs.Ids.{is_on}
use Rattle.undo_records.specs.Walk.{rows_named, columns_named}
use Rattle.undo_records.specs.declared.undo.Undo.{Undo}
use Rattle.undo_records.specs.declared.undo.Undo.TheVariants.{EmptyRow}
use Rattle.record_values.specs.Values.{made}
use Rattle.record_fields.specs.Words.{first, others, skip, same_id}
use Rattle.record_fields.specs.Faults.{unless, lower}
use Rattle.record_fields.specs.Lists.{is_listed}
use Rattle.record_fields.specs.Fields.{fields_fault, values_in}
use Rattle.record_words.specs.Rules.{rule_of, fields_of}
use Rattle.record_fields.specs.declared.faults.LineFault.{LineFault}
use Rattle.record_fields.specs.declared.faults.LineFault.TheVariants.{BadLine, BadId}
use Rattle.record_values.specs.declared.rule.Rule.{Rule}
use Rattle.record_values.specs.declared.rule.Rule.TheVariants.{K1, K4, K5, K6, K8, K9, K10, K11, K12, K13, K14, K15, K16, K17}

-- the word behind so many
abbrev pub word : ℕ → List (List ℕ) → List ℕ
word k ws = first (skip k ws)

-- the record of a rule, by its words
abbrev pub undo_of : Rule → List (List ℕ) → Undo
undo_of rule ws = made rule (values_in (fields_of rule) ws)

-- its record has ids alone
abbrev pub HasIdsAlone : Rule → Type 0
HasIdsAlone K1 = ⊤
HasIdsAlone K4 = ⊤
HasIdsAlone K5 = ⊤
HasIdsAlone K6 = ⊤
HasIdsAlone K9 = ⊤
HasIdsAlone K10 = ⊤
HasIdsAlone K11 = ⊤
HasIdsAlone K17 = ⊤
HasIdsAlone other = ⊥

-- two ids of one kind differ
abbrev pub differ : ℕ → ℕ → List (List ℕ) → Bool
differ j k ws = not (same_id (word j ws) (word k ws))

-- the list behind so many words hasn't the id
abbrev pub is_left_out : ℕ → ℕ → List (List ℕ) → Bool
is_left_out j k ws = not (is_listed (word j ws) (skip k ws))

-- what is asked of a rule's words together
abbrev pub agree : Rule → List (List ℕ) → Bool
agree K8 ws = is_listed (word 1 ws) (skip 4 ws)
agree K11 ws = differ 1 2 ws
agree K12 ws = differ 1 2 ws && is_left_out 0 9 ws
agree K13 ws = is_left_out 0 5 ws
agree K14 ws = is_left_out 0 9 ws
agree K15 ws = differ 0 1 ws
agree K16 ws = differ 0 1 ws
agree other ws = true

-- all that a record names is live
abbrev pub names_live : Flags → Undo → Bool
names_live f u = list_all (is_on f.rows) (rows_named u) && list_all (is_on f.columns) (columns_named u)

-- the fault of a rule's words by themselves
unfoldable pub form_fault : Rule → List (List ℕ) → Option LineFault
form_fault rule ws = lower (fields_fault (fields_of rule) ws) (unless (agree rule ws) BadLine)

abbrev pub rule_fault : Flags → Option Rule → List (List ℕ) → Option LineFault
rule_fault f None ws = Some BadLine
rule_fault f (Some rule) ws = lower (form_fault rule ws) (unless (names_live f (undo_of rule ws)) BadId)

-- the fault of a record's line where so much is live
abbrev pub undo_fault : Flags → List (List ℕ) → Option LineFault
undo_fault f ws = rule_fault f (rule_of (first ws)) (others ws)

abbrev pub rule_undo : Option Rule → List (List ℕ) → Undo
rule_undo None ws = EmptyRow (record { row = 0 })
rule_undo (Some rule) ws = undo_of rule ws

-- the record that a line is; that of row 0 stands for a line without a rule
abbrev pub undo_in : List (List ℕ) → Undo
undo_in ws = rule_undo (rule_of (first ws)) (others ws)
