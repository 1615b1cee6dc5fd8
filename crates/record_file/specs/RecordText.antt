-- The record text, in both versions: lines of words.
use Rattle.std.specs.Prelude.{ℕ, suc, Bool, List, [], ◌∷◌, ◌++◌, length, map, Option, Some, None, codes}
use Rattle.std.specs.Fmt.{decimal}
use Rattle.number_texts.specs.Written.{written}
use Rattle.fractions.specs.Number.{Number}
use Rattle.lp_model.specs.declared.program.Sense.{Sense}
use Rattle.undo_records.specs.Postsolve.{Postsolve}
use Rattle.undo_records.specs.declared.label.Label.{Label}
use Rattle.undo_records.specs.declared.undo.Undo.{Undo}
use Rattle.transactions.specs.Transactions.{Transaction}
use Rattle.record_values.specs.declared.version.TextVersion.{TextVersion}
use Rattle.record_values.specs.declared.version.TextVersion.TheVariants.{First, Second}
use Rattle.record_values.specs.Values.{rule_undone}
use Rattle.record_file.specs.Words.{sense_word, duals_word, live_word, version_word}
use Rattle.record_file.specs.Fields.{rule_word, field_words, transaction_words, read_words}

-- a line: its first word, and its other words
pub record Line : Type 0 where
  pub first : List ℕ
  pub others : List (List ℕ)

abbrev pub line : List ℕ → List (List ℕ) → Line
line first others = record { first = first; others = others }

-- words, a space before each
abbrev pub spaced : List (List ℕ) → List ℕ
spaced [] = []
spaced (w ∷ ws) = 32 ∷ (w ++ spaced ws)

-- one space between words, and a line feed at the end
abbrev pub line_text : Line → List ℕ
line_text l = (l.first ++ spaced l.others) ++ 10 ∷ []

abbrev pub lines_text : List Line → List ℕ
lines_text [] = []
lines_text (l ∷ ls) = line_text l ++ lines_text ls

abbrev pub version_line : TextVersion → Line
version_line version = line (codes "papilo-records") (version_word version ∷ [])

abbrev pub setting_lines : Sense → Bool → List Line
setting_lines sense duals = line (codes "sense") (sense_word sense ∷ []) ∷ line (codes "duals") (duals_word duals ∷ []) ∷ []

abbrev pub header_lines : TextVersion → Sense → Bool → List Line
header_lines version sense duals = version_line version ∷ setting_lines sense duals

abbrev pub label_line : Label → Line
label_line l = line (live_word l.live) (l.name ∷ [])

-- a heading with their number, and the labels by id
abbrev pub label_lines : List ℕ → List Label → List Line
label_lines heading ls = line heading (decimal (length ls) ∷ []) ∷ map label_line ls

abbrev pub offset_line : Number → Line
offset_line q = line (codes "offset") (written q ∷ [])

abbrev pub undo_line : Undo → Line
undo_line u = line (rule_word (rule_undone u)) (field_words u)

-- a transaction at a place: a line for itself, and one for each part that it read
abbrev pub transaction_lines : ℕ → Transaction → List Line
transaction_lines place t = line (codes "transaction") (transaction_words place t) ∷ map (λ r. line (codes "part") (read_words r)) t.reads

-- a record at a place, behind its transaction if it has one
abbrev pub told_at : ℕ → Option Transaction → Undo → List Line
told_at place None u = undo_line u ∷ []
told_at place (Some t) u = transaction_lines place t ++ undo_line u ∷ []

-- records from a place on, each behind its transaction
abbrev pub told_lines : ℕ → List Undo → List Transaction → List Line
told_lines place [] ts = []
told_lines place (u ∷ us) [] = undo_line u ∷ told_lines (suc place) us []
told_lines place (u ∷ us) (t ∷ ts) = transaction_lines place t ++ undo_line u ∷ told_lines (suc place) us ts

-- records alone, or each behind its transaction
abbrev pub lines_of_records : TextVersion → List Undo → List Transaction → List Line
lines_of_records First us ts = map undo_line us
lines_of_records Second us ts = told_lines 1 us ts

-- a heading with their number, and the records
abbrev pub undo_lines : TextVersion → List Undo → List Transaction → List Line
undo_lines version us ts = line (codes "records") (decimal (length us) ∷ []) ∷ lines_of_records version us ts

abbrev pub end_line : Line
end_line = line (codes "end") []

abbrev pub record_lines : TextVersion → Postsolve → List Line
record_lines version p =
    header_lines version p.sense p.duals
    ++ (label_lines (codes "columns") p.columns
    ++ (label_lines (codes "rows") p.rows
    ++ offset_line p.offset ∷ (undo_lines version p.undos p.transactions
    ++ end_line ∷ [])))

-- the one text of records in a version
unfoldable pub record_text : TextVersion → Postsolve → List ℕ
record_text version p = lines_text (record_lines version p)
