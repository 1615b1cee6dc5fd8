-- The text of records is read as the records.
use Rattle.std.proofs.Common.{◌≡◌, ℕ, ◌^◌, ◌<◌, Bool, true, false, List, [], ◌∷◌, ◌++◌, map, length, None, refl, sym, ap, ◌∙◌, subst, arith}
use Rattle.std.specs.Prelude.{All, codes}
use Rattle.std.specs.Fmt.{decimal}
use Rattle.std.specs.List.{AllByRecursion, list_all}
use Rattle.std.proofs.lemmas.Bool.{and_from, and_parts}
use Rattle.std.proofs.lemmas.List.{map-append}
use Rattle.std.proofs.lemmas.List.Elements.{All-head, All-tail}
use Rattle.lp_model.specs.declared.program.Sense.{Sense}
use Rattle.lp_model.specs.declared.program.Sense.TheVariants.{Min, Max}
use Rattle.lp_model.specs.Name.{is_name, IsName}
use Rattle.text_lines.specs.Lines.{raw_lines_of}
use Rattle.undo_records.specs.Named.{AreNamed, AreTold}
use Rattle.undo_records.specs.Postsolve.{Postsolve}
use Rattle.undo_records.specs.Walk.{AreSound, all_live, flags_of}
use Rattle.undo_records.specs.declared.label.Label.{Label}
use Rattle.undo_records.specs.declared.undo.Undo.{Undo}
use Rattle.record_values.specs.declared.version.TextVersion.{TextVersion}
use Rattle.record_values.specs.declared.version.TextVersion.TheVariants.{First, Second}
use Rattle.record_file.specs.RecordText.{lines_of_records, Line, line, header_lines, label_line, label_lines, offset_line, undo_line, undo_lines, end_line, record_lines, record_text}
use Rattle.record_reader.specs.Progress.{Progress, start, nothing, columns_left, rows_left, records_left}
use Rattle.record_reader.specs.Reading.{first_fault, fault_from, records_of, progress_from}
use Rattle.record_reader.specs.declared.stages.Stage.TheVariants.{ColumnCount, RowCount, Offset, RecordCount, End, Over}
use Rattle.record_round_trip.specs.Ranges.{HasRange, without_transactions}
use Rattle.record_round_trip.proofs.Words.{Whole, decimal_whole, written_whole, bytes_of, IsWhole, all_on}
use Rattle.record_round_trip.proofs.Lines.{lines_again}
use Rattle.record_round_trip.proofs.Records.{IsReadAgain, all_again}
use Rattle.record_round_trip.proofs.Passing.{Passes, state, passes_on, no_fault, led}
use Rattle.record_round_trip.proofs.Sections.{Named, given, header_passes, columns_counted, rows_counted, records_counted, label_whole, columns_pass, rows_pass, offset_passes, undos_pass, end_passes}
use Rattle.record_round_trip.proofs.Told.{tells, told_whole, told_pass}

-- ---- no line has a line feed, no word a space
header_whole : (v : TextVersion) (s : Sense) (d : Bool) → AllByRecursion IsWhole (header_lines v s d)
header_whole First Min false = ((refl, (refl, tt)), ((refl, (refl, tt)), ((refl, (refl, tt)), tt)))
header_whole First Min true = ((refl, (refl, tt)), ((refl, (refl, tt)), ((refl, (refl, tt)), tt)))
header_whole First Max false = ((refl, (refl, tt)), ((refl, (refl, tt)), ((refl, (refl, tt)), tt)))
header_whole First Max true = ((refl, (refl, tt)), ((refl, (refl, tt)), ((refl, (refl, tt)), tt)))
header_whole Second Min false = ((refl, (refl, tt)), ((refl, (refl, tt)), ((refl, (refl, tt)), tt)))
header_whole Second Min true = ((refl, (refl, tt)), ((refl, (refl, tt)), ((refl, (refl, tt)), tt)))
header_whole Second Max false = ((refl, (refl, tt)), ((refl, (refl, tt)), ((refl, (refl, tt)), tt)))
header_whole Second Max true = ((refl, (refl, tt)), ((refl, (refl, tt)), ((refl, (refl, tt)), tt)))

all_named : (ls : List Label) → All IsName (map (λ (l : Label). l.name) ls) → Named ls
all_named [] h = refl
all_named (l ∷ ls) h =
    and_from (is_name l.name) (list_all (λ (l : Label). is_name l.name) ls) (All-head IsName l.name (map (λ (l : Label). l.name) ls) h)
    (all_named ls (All-tail IsName l.name (map (λ (l : Label). l.name) ls) h))

labels_whole : (ls : List Label) → Named ls → AllByRecursion IsWhole (map label_line ls)
labels_whole [] h = tt
labels_whole (l ∷ ls) h =
    let named = and_parts (is_name l.name) (list_all (λ (l : Label). is_name l.name) ls) h in
    (label_whole l named.0, labels_whole ls named.1)

count_whole : (heading : List ℕ) (n : ℕ) → Whole heading → n < 2 ^ 64 → IsWhole (line heading (decimal n ∷ []))
count_whole heading n w h = (w, (decimal_whole n (omega arith), tt))

undos_whole : (us : List Undo) → AllByRecursion IsReadAgain us → AllByRecursion IsWhole (map undo_line us)
undos_whole [] h = tt
undos_whole (u ∷ us) h = (h.0.whole, undos_whole us h.1)

-- the same, of which no record is read yet
abbrev before : Postsolve → Postsolve
before p = given p [] []

-- the lines of records are whole, and lead to these records
record AreBack (v : TextVersion) (p q : Postsolve) : Type 0 where
  whole : AllByRecursion IsWhole (lines_of_records v p.undos p.transactions)
  passes : Passes (state v (records_left v (length p.undos)) (before p) (all_live (length p.rows) (length p.columns))) (map bytes_of (lines_of_records v p.undos p.transactions)) (state v End q (flags_of q))

lines_whole : (v : TextVersion) (p q : Postsolve) → AreBack v p q → AreNamed p → HasRange p → AllByRecursion IsWhole (record_lines v p)
lines_whole v p q b n r =
    let undo_ls : List Line = undo_lines v p.undos p.transactions in
    let offset : IsWhole (offset_line p.offset) = (refl, (written_whole p.offset r.offset, tt)) in
    let end : AllByRecursion IsWhole (end_line ∷ []) = ((refl, tt), tt) in
    let columns : AllByRecursion IsWhole (label_lines (codes "columns") p.columns) = (count_whole (codes "columns") (length p.columns) refl r.columns, labels_whole p.columns (all_named p.columns n.columns)) in
    let rows : AllByRecursion IsWhole (label_lines (codes "rows") p.rows) = (count_whole (codes "rows") (length p.rows) refl r.rows, labels_whole p.rows (all_named p.rows n.rows)) in
    let undos : AllByRecursion IsWhole undo_ls = (count_whole (codes "records") (length p.undos) refl r.records, b.whole) in
    let behind : AllByRecursion IsWhole (offset_line p.offset ∷ (undo_ls ++ end_line ∷ [])) = (offset, all_on undo_ls (end_line ∷ []) undos end) in
    all_on (header_lines v p.sense p.duals) (label_lines (codes "columns") p.columns ++ (label_lines (codes "rows") p.rows ++ offset_line p.offset ∷ (undo_ls ++ end_line ∷ []))) (header_whole v p.sense p.duals)
    (all_on (label_lines (codes "columns") p.columns) (label_lines (codes "rows") p.rows ++ offset_line p.offset ∷ (undo_ls ++ end_line ∷ [])) columns
    (all_on (label_lines (codes "rows") p.rows) (offset_line p.offset ∷ (undo_ls ++ end_line ∷ [])) rows behind))

lines_are : (v : TextVersion) (p q : Postsolve) → AreBack v p q → AreNamed p → HasRange p → raw_lines_of (record_text v p) ≡ map bytes_of (record_lines v p)
unfolding record_text
lines_are v p q b n r = lines_again (record_lines v p) (lines_whole v p q b n r)

-- ---- section by section
parts_on : (xs ys : List Line) (p q r : Progress) → Passes p (map bytes_of xs) q → Passes q (map bytes_of ys) r → Passes p (map bytes_of (xs ++ ys)) r
parts_on xs ys p q r h k = subst (λ (ls : List (List ℕ)). Passes p ls r) (sym (map-append bytes_of xs ys)) (passes_on p q r (map bytes_of xs) (map bytes_of ys) h k)

all_pass : (v : TextVersion) (p q : Postsolve) → AreBack v p q → AreNamed p → HasRange p → Passes start (map bytes_of (record_lines v p)) (state v Over q (flags_of q))
all_pass v p q b n r =
    let f = all_live 0 0 in
    let f1 = all_live (length p.rows) (length p.columns) in
    let over = state v Over q (flags_of q) in
    let g1 : Postsolve = record nothing { sense = p.sense; duals = p.duals } in
    let g2 : Postsolve = record g1 { columns = p.columns } in
    let g3 : Postsolve = record g2 { rows = p.rows } in
    let g4 : Postsolve = before p in
    let end : List Line = end_line ∷ [] in
    let undo_ls : List Line = undo_lines v p.undos p.transactions in
    let behind_offset : List Line = undo_ls ++ end in
    let behind_rows : List Line = (offset_line p.offset ∷ []) ++ behind_offset in
    let behind_columns : List Line = label_lines (codes "rows") p.rows ++ behind_rows in
    let columns : Passes (state v ColumnCount g1 f) (map bytes_of (label_lines (codes "columns") p.columns)) (state v RowCount g2 f) =
    passes_on (state v ColumnCount g1 f) (state v (columns_left (length p.columns)) g1 f) (state v RowCount g2 f) (bytes_of (line (codes "columns") (decimal (length p.columns) ∷ [])) ∷ []) (map bytes_of (map label_line p.columns))
    (columns_counted v (length p.columns) g1 f r.columns) (columns_pass v g1 f p.columns (all_named p.columns n.columns)) in
    let rows : Passes (state v RowCount g2 f) (map bytes_of (label_lines (codes "rows") p.rows)) (state v Offset g3 f) =
    passes_on (state v RowCount g2 f) (state v (rows_left (length p.rows)) g2 f) (state v Offset g3 f) (bytes_of (line (codes "rows") (decimal (length p.rows) ∷ [])) ∷ []) (map bytes_of (map label_line p.rows))
    (rows_counted v (length p.rows) g2 f r.rows) (rows_pass v g2 f p.rows (all_named p.rows n.rows)) in
    let undos : Passes (state v RecordCount g4 f) (map bytes_of undo_ls) (state v End q (flags_of q)) =
    passes_on (state v RecordCount g4 f) (state v (records_left v (length p.undos)) g4 f1) (state v End q (flags_of q)) (bytes_of (line (codes "records") (decimal (length p.undos) ∷ [])) ∷ []) (map bytes_of (lines_of_records v p.undos p.transactions))
    (records_counted v (length p.undos) g4 f r.records) b.passes in
    parts_on (header_lines v p.sense p.duals) (label_lines (codes "columns") p.columns ++ behind_columns) start (state v ColumnCount g1 f) over (header_passes v p.sense p.duals)
    (parts_on (label_lines (codes "columns") p.columns) behind_columns (state v ColumnCount g1 f) (state v RowCount g2 f) over columns
    (parts_on (label_lines (codes "rows") p.rows) behind_rows (state v RowCount g2 f) (state v Offset g3 f) over rows
    (parts_on (offset_line p.offset ∷ []) behind_offset (state v Offset g3 f) (state v RecordCount g4 f) over (offset_passes v p.offset g3 f r.offset)
    (parts_on undo_ls end (state v RecordCount g4 f) (state v End q (flags_of q)) over undos (end_passes v q)))))

-- ---- the text
faultless : (v : TextVersion) (p q : Postsolve) → AreBack v p q → AreNamed p → HasRange p → first_fault (record_text v p) ≡ None
unfolding first_fault
faultless v p q b n r = ap (fault_from start 0) (lines_are v p q b n r) ∙ no_fault start (state v Over q (flags_of q)) 0 (map bytes_of (record_lines v p)) (all_pass v p q b n r) refl

gives : (v : TextVersion) (p q : Postsolve) → AreBack v p q → AreNamed p → HasRange p → records_of (record_text v p) ≡ q
unfolding records_of
gives v p q b n r =
    ap (λ (ls : List (List ℕ)). (progress_from start ls).given) (lines_are v p q b n r) ∙ ap (λ q. q.given) (led start (state v Over q (flags_of q)) (map bytes_of (record_lines v p)) (all_pass v p q b n r))

-- ---- the first version
first_back : (p : Postsolve) → AreSound p → HasRange p → AreBack First p (without_transactions p)
first_back p s r =
    let read = all_again (length p.rows) (length p.columns) p.undos s.records r.undos in
    record { whole = undos_whole p.undos read; passes = undos_pass (before p) (all_live (length p.rows) (length p.columns)) (flags_of p) p.undos read s.walk }

pub sound_first : (p : Postsolve) → AreSound p → AreNamed p → HasRange p → first_fault (record_text First p) ≡ None
sound_first p s n r = faultless First p (without_transactions p) (first_back p s r) n r

pub same_first : (p : Postsolve) → AreSound p → AreNamed p → HasRange p → records_of (record_text First p) ≡ without_transactions p
same_first p s n r = gives First p (without_transactions p) (first_back p s r) n r

-- ---- the second version
second_back : (p : Postsolve) → AreSound p → AreTold p → HasRange p → AreBack Second p p
second_back p s t r =
    let read = all_again (length p.rows) (length p.columns) p.undos s.records r.undos in
    let told = tells (length p.rows) (length p.columns) 1 p.undos p.transactions t.count (omega (arith, r.records)) t.versions t.parts r.transactions in
    record {
      whole = told_whole (length p.rows) (length p.columns) 1 p.undos p.transactions read told;
      passes = told_pass 1 (before p) (all_live (length p.rows) (length p.columns)) (flags_of p) p.undos p.transactions refl read told s.walk;
    }

pub sound_again : (p : Postsolve) → AreSound p → AreNamed p → AreTold p → HasRange p → first_fault (record_text Second p) ≡ None
sound_again p s n t r = faultless Second p p (second_back p s t r) n r

pub same_again : (p : Postsolve) → AreSound p → AreNamed p → AreTold p → HasRange p → records_of (record_text Second p) ≡ p
same_again p s n t r = gives Second p p (second_back p s t r) n r
