-- The lines of each section pass, and give what was written.
use Rattle.std.proofs.Common.{◌≡◌, ℕ, suc, ◌-◌, ◌^◌, ◌<◌, Bool, true, false, cond, not, ◌||◌, ◌==◌, ltb, List, [], ◌∷◌, ◌++◌, map, length, Option, Some, None, Result, Ok, Err, refl, ap, ap₂, ◌∙◌, subst, append_assoc, arith}
use Rattle.std.specs.Prelude.{codes, is_some, replicate, unwrap_or}
use Rattle.std.specs.Fmt.{decimal}
use Rattle.std.specs.List.{AllByRecursion, list_all}
use Rattle.std.specs.Str.{bytes_eq}
use Rattle.std.proofs.lemmas.Bool.{and_from, and_parts, lt-ltb, not-true, or_from, or_parts}
use Rattle.std.proofs.lemmas.List.{append-nil}
use Rattle.std.proofs.lemmas.Slice.Eq.{bytes_eq-Decides}
use Rattle.fractions.specs.Number.{Number}
use Rattle.fractions.specs.Lowest.{Fits}
use Rattle.fractions.specs.declared.Numbers.TheVariants.{Fractions}
use Rattle.lp_model.specs.declared.program.Sense.{Sense}
use Rattle.lp_model.specs.declared.program.Sense.TheVariants.{Min, Max}
use Rattle.number_texts.specs.Read.{read_of}
use Rattle.number_texts.specs.Written.{written}
use Rattle.number_texts.proofs.Again.{read-written}
use Rattle.undo_records.specs.Postsolve.{Postsolve}
use Rattle.lp_model.specs.Flags.{Flags}
use Rattle.undo_records.specs.Walk.{NamesLive, Walks, after, all_live, flags_of, lives}
use Rattle.undo_records.specs.declared.label.Label.{Label}
use Rattle.undo_records.specs.declared.undo.Undo.{Undo}
use Rattle.transactions.specs.Transactions.{Transaction, untold}
use Rattle.record_values.specs.declared.version.TextVersion.{TextVersion}
use Rattle.record_values.specs.declared.version.TextVersion.TheVariants.{First, Second}
use Rattle.record_file.specs.Words.{live_word}
use Rattle.record_file.specs.RecordText.{line, spaced, header_lines, label_line, offset_line, undo_line, end_line}
use Rattle.record_fields.specs.Words.{is_plain}
use Rattle.record_words.specs.Undos.{undo_fault, undo_in}
use Rattle.record_fields.specs.declared.faults.LineFault.{LineFault}
use Rattle.record_fields.specs.declared.faults.LineFault.TheVariants as line_faults
use Rattle.record_reader.specs.Faults.{line_fault, unless, offset_fault, kind_in, same_flag, same_flags}
use Rattle.record_reader.specs.Headings.{counted, count_of, offset_by, offset_of}
use Rattle.lp_model.specs.Name.{is_break, is_name}
use Rattle.record_reader.specs.Labels.{label_named, label_of, with_label}
use Rattle.record_reader.specs.Progress.{Progress, start, nothing, moved, columns_left, rows_left, records_left, number_or_zero, with_undo}
use Rattle.record_reader.specs.declared.faults.RecordFaultKind.TheVariants.{BadLine, BadId}
use Rattle.record_reader.specs.declared.stages.Stage.TheVariants.{ColumnCount, Columns, RowCount, Rows, Offset, RecordCount, Undos, End, Over}
use Rattle.record_round_trip.proofs.Numerals.{plain_decimal, number_decimal}
use Rattle.record_round_trip.proofs.Words.{is_gap, Whole, bytes_of, IsWhole}
use Rattle.record_round_trip.proofs.Records.{IsReadAgain, undo_words, undo_passes, undo_again}
use Rattle.record_round_trip.proofs.Passing.{Passes, state, passes_line}

-- ---- the header
pub header_passes : (v : TextVersion) (s : Sense) (d : Bool) → Passes start (map bytes_of (header_lines v s d)) (state v ColumnCount (record nothing { sense = s; duals = d }) (all_live 0 0))
unfolding line_fault moved
header_passes First Min false = (refl, (refl, (refl, refl)))
header_passes First Min true = (refl, (refl, (refl, refl)))
header_passes First Max false = (refl, (refl, (refl, refl)))
header_passes First Max true = (refl, (refl, (refl, refl)))
header_passes Second Min false = (refl, (refl, (refl, refl)))
header_passes Second Min true = (refl, (refl, (refl, refl)))
header_passes Second Max false = (refl, (refl, (refl, refl)))
header_passes Second Max true = (refl, (refl, (refl, refl)))

-- ---- counts
same_bytes : (w : List ℕ) → bytes_eq w w ≡ true
same_bytes w = (bytes_eq-Decides w w).1 refl

pub counted_again : (n : ℕ) → n < 2 ^ 64 → counted (decimal n) ≡ n
counted_again n h = ap (λ (k : ℕ). cond (ltb k (2 ^ 64)) k (2 ^ 64 - 1)) (number_decimal n (omega arith)) ∙ ap (λ (b : Bool). cond b n (2 ^ 64 - 1)) (lt-ltb _ _ h)

count_again : (n : ℕ) → n < 2 ^ 64 → cond (is_plain (decimal n ++ [])) (Some (counted (decimal n ++ []))) None ≡ Some n
count_again n h =
    ap (λ (ds : List ℕ). cond (is_plain ds) (Some (counted ds)) None) (append-nil (decimal n))
    ∙ ap (λ (b : Bool). cond b (Some (counted (decimal n))) None) (plain_decimal n (omega arith))
    ∙ ap Some (counted_again n h)

pub columns_counted : (v : TextVersion) (n : ℕ) (g : Postsolve) (f : Flags) → n < 2 ^ 64 → Passes (state v ColumnCount g f) (bytes_of (line (codes "columns") (decimal n ∷ [])) ∷ []) (state v (columns_left n) g f)
columns_counted v n g f h =
    let e : count_of (codes "columns ") (bytes_of (line (codes "columns") (decimal n ∷ []))) ≡ Some n = count_again n h in
    passes_line (state v ColumnCount g f) (state v (columns_left n) g f) _ _ [] (ap (λ (o : Option ℕ). unless (is_some o) BadLine) e) (ap (λ (o : Option ℕ). state v (columns_left (unwrap_or o 0)) g f) e) refl

pub rows_counted : (v : TextVersion) (n : ℕ) (g : Postsolve) (f : Flags) → n < 2 ^ 64 → Passes (state v RowCount g f) (bytes_of (line (codes "rows") (decimal n ∷ [])) ∷ []) (state v (rows_left n) g f)
rows_counted v n g f h =
    let e : count_of (codes "rows ") (bytes_of (line (codes "rows") (decimal n ∷ []))) ≡ Some n = count_again n h in
    passes_line (state v RowCount g f) (state v (rows_left n) g f) _ _ [] (ap (λ (o : Option ℕ). unless (is_some o) BadLine) e) (ap (λ (o : Option ℕ). state v (rows_left (unwrap_or o 0)) g f) e) refl

pub records_counted : (v : TextVersion) (n : ℕ) (g : Postsolve) (f : Flags) → n < 2 ^ 64
    → Passes (state v RecordCount g f) (bytes_of (line (codes "records") (decimal n ∷ [])) ∷ []) (state v (records_left v n) g (all_live (length g.rows) (length g.columns)))
records_counted v n g f h =
    let e : count_of (codes "records ") (bytes_of (line (codes "records") (decimal n ∷ []))) ≡ Some n = count_again n h in
    passes_line (state v RecordCount g f) (state v (records_left v n) g (all_live (length g.rows) (length g.columns))) _ _ [] (ap (λ (o : Option ℕ). unless (is_some o) BadLine) e)
    (ap (λ (o : Option ℕ). state v (records_left v (unwrap_or o 0)) g (all_live (length g.rows) (length g.columns))) e) refl

-- ---- labels
-- all have names
abbrev pub Named : List Label → Type 0
Named ls = list_all (λ l. is_name l.name) ls ≡ true

-- a byte that is no break is no gap
no_gap : (b : ℕ) → not (is_break b) ≡ true → not (is_gap b) ≡ true
no_gap b h =
    let e = or_parts ((b == 32) || (b == 9)) (b == 10) (not-true (is_break b) h) in
    ap not (or_from (b == 32) (b == 10) (or_parts (b == 32) (b == 9) e.0).0 e.1)

no_gaps : (name : List ℕ) → list_all (λ b. not (is_break b)) name ≡ true → Whole name
no_gaps [] h = refl
no_gaps (b ∷ bs) h =
    let parts = and_parts (not (is_break b)) (list_all (λ b. not (is_break b)) bs) h in
    and_from _ _ (no_gap b parts.0) (no_gaps bs parts.1)

name_whole : (name : List ℕ) → is_name name ≡ true → Whole name
name_whole name h = no_gaps name (and_parts (not (length name == 0)) (list_all (λ b. not (is_break b)) name) h).1

named_again : (live : Bool) (name : List ℕ) → is_name name ≡ true → label_named live (name ++ []) ≡ Some (record { name = name; live = live })
named_again live name h =
    ap (label_named live) (append-nil name) ∙ ap (λ (b : Bool). cond b (Some (record { name = name; live = live })) None) h

label_by : (live : Bool) (name : List ℕ) → is_name name ≡ true → label_of (live_word live ++ spaced (name ∷ [])) ≡ Some (record { name = name; live = live })
label_by true name h = named_again true name h
label_by false name h = named_again false name h

label_again : (l : Label) → is_name l.name ≡ true → label_of (bytes_of (label_line l)) ≡ Some l
label_again l h = label_by l.live l.name h

live_whole : (live : Bool) → Whole (live_word live)
live_whole true = refl
live_whole false = refl

pub label_whole : (l : Label) → is_name l.name ≡ true → IsWhole (label_line l)
label_whole l h = (live_whole l.live, (name_whole l.name h, tt))

pub columns_pass : (v : TextVersion) (g : Postsolve) (f : Flags) (ls : List Label) → Named ls
    → Passes (state v (columns_left (length ls)) g f) (map bytes_of (map label_line ls)) (state v RowCount (record g { columns = g.columns ++ ls }) f)
columns_pass v g f [] h = ap (λ (cs : List Label). state v RowCount (record g { columns = cs }) f) (append-nil g.columns)
columns_pass v g f (l ∷ ls) h =
    let named = and_parts (is_name l.name) (list_all (λ (l : Label). is_name l.name) ls) h in
    let e = label_again l named.0 in
    let g' : Postsolve = record g { columns = g.columns ++ l ∷ [] } in
    passes_line (state v (Columns (suc (length ls))) g f) (state v (columns_left (length ls)) g' f) _ (bytes_of (label_line l)) (map bytes_of (map label_line ls))
    (ap (λ (o : Option Label). unless (is_some o) BadLine) e)
    (ap (λ (o : Option Label). state v (columns_left (length ls)) (record g { columns = with_label g.columns o }) f) e)
    (subst (λ (cs : List Label). Passes (state v (columns_left (length ls)) g' f) (map bytes_of (map label_line ls)) (state v RowCount (record g { columns = cs }) f)) (append_assoc g.columns (l ∷ []) ls)
    (columns_pass v g' f ls named.1))

pub rows_pass : (v : TextVersion) (g : Postsolve) (f : Flags) (ls : List Label) → Named ls
    → Passes (state v (rows_left (length ls)) g f) (map bytes_of (map label_line ls)) (state v Offset (record g { rows = g.rows ++ ls }) f)
rows_pass v g f [] h = ap (λ (cs : List Label). state v Offset (record g { rows = cs }) f) (append-nil g.rows)
rows_pass v g f (l ∷ ls) h =
    let named = and_parts (is_name l.name) (list_all (λ (l : Label). is_name l.name) ls) h in
    let e = label_again l named.0 in
    let g' : Postsolve = record g { rows = g.rows ++ l ∷ [] } in
    passes_line (state v (Rows (suc (length ls))) g f) (state v (rows_left (length ls)) g' f) _ (bytes_of (label_line l)) (map bytes_of (map label_line ls))
    (ap (λ (o : Option Label). unless (is_some o) BadLine) e)
    (ap (λ (o : Option Label). state v (rows_left (length ls)) (record g { rows = with_label g.rows o }) f) e)
    (subst (λ (cs : List Label). Passes (state v (rows_left (length ls)) g' f) (map bytes_of (map label_line ls)) (state v Offset (record g { rows = cs }) f)) (append_assoc g.rows (l ∷ []) ls)
    (rows_pass v g' f ls named.1))

-- ---- the offset
offset_at : (q : Number) → Fits q → offset_by (written q) (read_of Fractions (written q)) ≡ Ok q
offset_at q f =
    ap (offset_by (written q)) (read-written Fractions q f refl)
    ∙ ap (λ (b : Bool). cond b (Ok q) (Err line_faults.BadLine)) (same_bytes (written q))

offset_again : (q : Number) → Fits q → offset_of (bytes_of (offset_line q)) ≡ Ok q
offset_again q f = ap (λ (w : List ℕ). offset_by w (read_of Fractions w)) (append-nil (written q)) ∙ offset_at q f

pub offset_passes : (v : TextVersion) (q : Number) (g : Postsolve) (f : Flags) → Fits q → Passes (state v Offset g f) (bytes_of (offset_line q) ∷ []) (state v RecordCount (record g { offset = q }) f)
offset_passes v q g f h =
    let e = offset_again q h in
    passes_line (state v Offset g f) (state v RecordCount (record g { offset = q }) f) _ (bytes_of (offset_line q)) [] (ap offset_fault e)
    (ap (λ (r : Result Number LineFault). state v RecordCount (record g { offset = number_or_zero r }) f) e) refl

-- ---- records
-- other records and transactions, all else the same
abbrev pub given : Postsolve → List Undo → List Transaction → Postsolve
given g us ts = record g { undos = us; transactions = ts }

abbrev pub with_one : Postsolve → Undo → Transaction → Postsolve
with_one g u t = given g (g.undos ++ u ∷ []) (g.transactions ++ t ∷ [])

pub one_more : (g : Postsolve) (u : Undo) (us : List Undo) (t : Transaction) (ts : List Transaction)
    → given g ((g.undos ++ u ∷ []) ++ us) ((g.transactions ++ t ∷ []) ++ ts) ≡ given g (g.undos ++ u ∷ us) (g.transactions ++ t ∷ ts)
one_more g u us t ts = ap₂ (given g) (append_assoc g.undos (u ∷ []) us) (append_assoc g.transactions (t ∷ []) ts)

pub none_more : (v : TextVersion) (g : Postsolve) (f h : Flags) → h ≡ f → state v End (given g (g.undos ++ []) (g.transactions ++ [])) h ≡ state v End g f
none_more v g f h w =
    ap₂ (λ (us : List Undo) (ts : List Transaction). state v End (given g us ts) h) (append-nil g.undos) (append-nil g.transactions) ∙ ap (state v End g) w

-- the line of a record
pub undo_line_passes : (v : TextVersion) (n : ℕ) (g : Postsolve) (f : Flags) (u : Undo) (q r : Progress) (ls : List (List ℕ)) → IsReadAgain u → NamesLive f u
    → with_undo (state v (Undos n) g f) n u ≡ q → Passes q ls r → Passes (state v (Undos n) g f) (bytes_of (undo_line u) ∷ ls) r
undo_line_passes v n g f u q r ls read live e h =
    passes_line (state v (Undos n) g f) q r (bytes_of (undo_line u)) ls
    (ap kind_in (ap (undo_fault f) (undo_words u read) ∙ undo_passes f u read live))
    (ap (with_undo (state v (Undos n) g f) n) (ap undo_in (undo_words u read) ∙ undo_again u read) ∙ e) h

-- in the first version nothing is known of their transactions
pub undos_pass : (g : Postsolve) (f h : Flags) (us : List Undo) → AllByRecursion IsReadAgain us → Walks f us h
    → Passes (state First (records_left First (length us)) g f) (map bytes_of (map undo_line us)) (state First End (given g (g.undos ++ us) (g.transactions ++ replicate (length us) untold)) h)
undos_pass g f h [] read w = none_more First g f h w
undos_pass g f h (u ∷ us) read w =
    let after_one : Progress = state First (records_left First (length us)) (with_one g u untold) (after u f) in
    let over : Postsolve → Progress = λ (k : Postsolve). state First End k h in
    undo_line_passes First (suc (length us)) g f u after_one (over (given g (g.undos ++ u ∷ us) (g.transactions ++ untold ∷ replicate (length us) untold))) (map bytes_of (map undo_line us)) read.0 w.0 refl
    (subst (λ (k : Postsolve). Passes after_one (map bytes_of (map undo_line us)) (over k)) (one_more g u us untold (replicate (length us) untold))
    (undos_pass (with_one g u untold) (after u f) h us read.1 w.1))

-- ---- the end
same_again : (b : Bool) → same_flag b b ≡ true
same_again true = refl
same_again false = refl

flags_again : (bs : List Bool) → same_flags bs bs ≡ true
flags_again [] = refl
flags_again (b ∷ bs) = and_from _ _ (same_again b) (flags_again bs)

pub end_passes : (v : TextVersion) (p : Postsolve) → Passes (state v End p (flags_of p)) (bytes_of end_line ∷ []) (state v Over p (flags_of p))
end_passes v p =
    passes_line (state v End p (flags_of p)) (state v Over p (flags_of p)) _ (bytes_of end_line) []
    (ap (λ (b : Bool). unless b BadId) (and_from _ _ (flags_again (lives p.columns)) (flags_again (lives p.rows)))) refl refl
