-- What each field of a record has to be, and the value that its words are.
use Rattle.std.specs.Prelude.{ℕ, List, [], ◌∷◌, Option, None, is_some, unwrap_or, if◌then◌else◌}
use Rattle.undo_records.specs.declared.side.Side.TheVariants.{Lower}
use Rattle.undo_records.specs.declared.side.RowFate.TheVariants.{Kept}
use Rattle.record_values.specs.declared.value.Value.TheVariants as value
use Rattle.record_values.specs.declared.value.Value.{Value}
use Rattle.record_fields.specs.Words.{first, others, is_empty, id_of, id_fault}
use Rattle.record_fields.specs.Faults.{unless, lower}
use Rattle.record_fields.specs.Ratios.{ratio_read, ratio_of, number_fault, entry_fault}
use Rattle.record_fields.specs.Ends.{is_below, is_above, is_endless, end_of, letter_of, bound_of, fate_of, has_end}
use Rattle.record_fields.specs.Lists.{list_fault, list_of}
use Rattle.record_fields.specs.declared.faults.LineFault.{LineFault}
use Rattle.record_fields.specs.declared.faults.LineFault.TheVariants.{BadLine}
use Rattle.record_fields.specs.declared.fields.Field.{Field}
use Rattle.record_fields.specs.declared.fields.Field.TheVariants.{Id, Number, Entry, LowerEnd, UpperEnd, SideLetter, Bound, Fate, Entries}

-- the fault of the name of a bound and its end: the end is a number, or none on the bound's own side
abbrev pub bound_fault : List ℕ → List ℕ → Option LineFault
bound_fault v w = lower (unless (is_some (bound_of v)) BadLine) (lower (if is_endless w then None else number_fault (ratio_read w)) (unless (has_end (bound_of v) w) BadLine))

-- the fault of the first words in a field
abbrev pub field_fault : Field → List (List ℕ) → Option LineFault
field_fault Id ws = id_fault (first ws)
field_fault Number ws = number_fault (ratio_read (first ws))
field_fault Entry ws = entry_fault (ratio_read (first ws))
field_fault LowerEnd ws = if is_below (first ws) then None else number_fault (ratio_read (first ws))
field_fault UpperEnd ws = if is_above (first ws) then None else number_fault (ratio_read (first ws))
field_fault SideLetter ws = unless (is_some (letter_of (first ws))) BadLine
field_fault Bound ws = bound_fault (first ws) (first (others ws))
field_fault Fate ws = unless (is_some (fate_of (first ws))) BadLine
field_fault Entries ws = list_fault ws

-- the value that they are
abbrev pub value_in : Field → List (List ℕ) → Value
value_in Id ws = value.Id (id_of (first ws))
value_in Number ws = value.Ratio (ratio_of (first ws))
value_in Entry ws = value.Ratio (ratio_of (first ws))
value_in LowerEnd ws = value.LowerEnd (end_of (first ws))
value_in UpperEnd ws = value.UpperEnd (end_of (first ws))
value_in SideLetter ws = value.Letter (unwrap_or (letter_of (first ws)) Lower)
value_in Bound ws = value.Bound (unwrap_or (bound_of (first ws)) Lower) (end_of (first (others ws)))
value_in Fate ws = value.Fate (unwrap_or (fate_of (first ws)) Kept)
value_in Entries ws = value.Entries (list_of ws)

-- the words behind them: a bound is two words, and entries are all words that are left
abbrev pub behind : Field → List (List ℕ) → List (List ℕ)
behind Bound ws = others (others ws)
behind Entries ws = []
behind other ws = others ws

-- the fault of words in these fields
abbrev pub fields_fault : List Field → List (List ℕ) → Option LineFault
fields_fault [] ws = unless (is_empty ws) BadLine
fields_fault (f ∷ fs) ws = lower (field_fault f ws) (fields_fault fs (behind f ws))

-- their values
abbrev pub values_in : List Field → List (List ℕ) → List Value
values_in [] ws = []
values_in (f ∷ fs) ws = value_in f ws ∷ values_in fs (behind f ws)
