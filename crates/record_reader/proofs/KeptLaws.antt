-- What the lines of a text without a fault have given.
use Rattle.std.proofs.Common.{◌≡◌, ◌↔◌, ℕ, zero, suc, ◌+◌, ◌<◌, ◌^◌, ◌==◌, Bool, true, false, IsTrue, List, [], ◌∷◌, ◌++◌, length, map, Option, Some, None, append-nil, refl, sym, ap, ap₂, ◌∙◌, subst, All, slice_set, take, drop, arith, ltb-true}
use Rattle.std.specs.Prelude.{◌&&◌, ◌||◌, not, nat_lt, codes, unwrap_or, if◌then◌else◌}
use Rattle.std.specs.Str.{bytes_eq}
use Rattle.std.proofs.lemmas.List.{length-append, length-set, length-replicate, map-append}
use Rattle.std.proofs.lemmas.List.Elements.{All-nil, All-cons, All-append, All-head, All-tail}
use Rattle.number_texts.proofs.Cutting.{both_true}
use Rattle.lp_model.specs.Name.{is_name, IsName}
use Rattle.text_lines.specs.Lines.{raw_lines_of}
use Rattle.text_lines.proofs.FaultLaws.{later_none}
use Rattle.undo_records.specs.Named.{AreNamed, AreTold}
use Rattle.undo_records.specs.Postsolve.{Postsolve}
use Rattle.undo_records.specs.Sound.{IsSound}
use Rattle.transactions.specs.Transactions.{Transaction, IsPartOf, VersionsBelow, untold, with_read}
use Rattle.transactions.specs.declared.transactions.PartRead.{PartRead}
use Rattle.problem_model.specs.declared.part.Part.{Part}
use Rattle.problem_model.specs.declared.part.Part.TheVariants.{Row, Sides, Col, Bounds}
use Rattle.number_texts.specs.Form.{number}
use Rattle.lp_model.specs.Flags.{Flags}
use Rattle.undo_records.specs.Walk.{Walks, AreSound, all_live, cleared, lives, flags_of, rows_deleted, columns_deleted}
use Rattle.undo_records.specs.declared.label.Label.{Label}
use Rattle.undo_records.specs.declared.undo.Undo.{Undo}
use Rattle.undo_records.proofs.Walking.{walks_on}
use Rattle.record_fields.specs.Words.{words_of, first, others, is_far}
use Rattle.record_words.specs.Undos.{undo_fault, undo_in, word}
use Rattle.record_values.specs.declared.version.TextVersion.{TextVersion}
use Rattle.record_values.specs.declared.version.TextVersion.TheVariants.{First, Second}
use Rattle.record_words.specs.Rules.{rule_of}
use Rattle.record_fields.specs.declared.faults.LineFault.{LineFault}
use Rattle.record_words.proofs.Soundness.{sound_by}
use Rattle.record_reader.specs.Labels.{label_named, label_of, with_label}
use Rattle.record_reader.specs.Headings.{is_end}
use Rattle.record_reader.specs.Transactions.{has_transaction_form, is_placed, transaction_fault, transaction_in, has_read_form, is_part_of, read_fault, read_in}
use Rattle.record_reader.specs.Progress.{Progress, start, columns_left, rows_left, records_left, reads_left, untold_by, place_in, with_undo, with_records, with_transaction, with_part, moved_at, moved}
use Rattle.record_reader.specs.Faults.{kind_in, unless, same_flag, same_flags, ends_at, end_fault, fault_at, line_fault}
use Rattle.record_reader.specs.Reading.{is_over, fault_from, first_fault, progress_from, records_of}
use Rattle.record_reader.specs.declared.faults.RecordFaultKind.{RecordFaultKind}
use Rattle.record_reader.specs.declared.faults.RecordFaultKind.TheVariants.{BadLine, BadId, Cut, NumberPast, BadTransaction}
use Rattle.record_reader.specs.declared.stages.Stage.{Stage}
use Rattle.record_reader.specs.declared.stages.Stage.TheVariants.{Header, SenseLine, DualsLine, ColumnCount, Columns, RowCount, Rows, Offset, RecordCount, Transactions, Reads, Undos, End, Over}

-- parts of a program of m rows and n columns alone
abbrev AreParts : ℕ → ℕ → List Transaction → Type 0
AreParts m n ts = All (λ (t : Transaction). All (λ (r : PartRead). IsPartOf m n r.part) t.reads) ts

-- so far the records are sound, and lead to what is live; the versions are below their places, and what was read are parts of the program
record Going (p : Progress) : Type 0 where
  records : All (IsSound (length p.given.rows) (length p.given.columns)) p.given.undos
  walk : Walks (all_live (length p.given.rows) (length p.given.columns)) p.given.undos p.live
  row_count : length p.live.rows ≡ length p.given.rows
  column_count : length p.live.columns ≡ length p.given.columns
  versions : VersionsBelow 1 p.given.transactions
  parts : AreParts (length p.given.rows) (length p.given.columns) p.given.transactions

-- how many transactions there are before a record's line, behind n records
abbrev opened : TextVersion → ℕ → ℕ
opened First n = n
opened Second n = suc n

-- so many transactions for the records
abbrev Told : Progress → ℕ → Type 0
Told p n = length p.given.transactions ≡ n

abbrev KeptAt : Stage → Progress → Type 0
KeptAt (Transactions n) p = Going p × (p.version ≡ Second) × Told p (length p.given.undos)
KeptAt (Reads n r) p = Going p × (p.version ≡ Second) × Told p (suc (length p.given.undos))
KeptAt (Undos n) p = Going p × Told p (opened p.version (length p.given.undos))
KeptAt End p = Going p × Told p (length p.given.undos)
KeptAt Over p = AreSound p.given × AreTold p.given
KeptAt other p = (p.given.undos ≡ []) × (p.given.transactions ≡ [])

abbrev Kept : Progress → Type 0
Kept p = KeptAt p.stage p

some_is : (a b : Label) → ◌≡◌ {A = Option Label} (Some a) (Some b) → a ≡ b
some_is a b h = ap (λ o. unwrap_or o a) h

and-is : (a b : Bool) → a ≡ true → b ≡ true → (a && b) ≡ true
and-is true b e h = h
and-is false b e h = e

-- ---- records
all_more : (m n : ℕ) (us : List Undo) (u : Undo) → All (IsSound m n) us → IsSound m n u → All (IsSound m n) (us ++ u ∷ [])
all_more m n us u h s = All-append (IsSound m n) us (u ∷ []) h (All-cons (IsSound m n) u [] s (All-nil (IsSound m n)))

cleared-length : (ks : List ℕ) (flags : List Bool) → length (cleared ks flags) ≡ length flags
cleared-length [] flags = refl
cleared-length (k ∷ ks) flags = cleared-length ks (slice_set flags k false) ∙ length-set flags k false

no_records : (m n : ℕ) (f : Flags) (us : List Undo) → us ≡ [] → All (IsSound m n) us × Walks f us f
no_records m n f [] e = (All-nil (IsSound m n), refl)
no_records m n f (u ∷ us) e = cc

-- ---- transactions
no_transactions : (m n : ℕ) (ts : List Transaction) → ts ≡ [] → VersionsBelow 1 ts × AreParts m n ts
no_transactions m n [] e = (tt, All-nil (λ (t : Transaction). All (λ (r : PartRead). IsPartOf m n r.part) t.reads))
no_transactions m n (t ∷ ts) e = cc

versions_more : (k : ℕ) (ts : List Transaction) (t : Transaction) → VersionsBelow k ts → t.version < k + length ts → VersionsBelow k (ts ++ t ∷ [])
versions_more k [] t h l = (omega (arith, l), tt)
versions_more k (s ∷ ts) t h l = (h.0, versions_more (suc k) ts t h.1 (omega (arith, l)))

parts_more : (m n : ℕ) (ts : List Transaction) (by version : ℕ) → AreParts m n ts → AreParts m n (ts ++ record { by = by; version = version; reads = [] } ∷ [])
parts_more m n ts by version h =
    let P : Transaction → Type 0 = λ t. All (λ (r : PartRead). IsPartOf m n r.part) t.reads in
    All-append P ts (record { by = by; version = version; reads = [] } ∷ []) h (All-cons P (record { by = by; version = version; reads = [] }) [] (All-nil (λ (r : PartRead). IsPartOf m n r.part)) (All-nil P))

length_more : (ts : List Transaction) (t : Transaction) → length (ts ++ t ∷ []) ≡ suc (length ts)
length_more ts t = simp length-append (omega arith)

versions_read : (k : ℕ) (ts : List Transaction) (r : PartRead) → VersionsBelow k ts → VersionsBelow k (with_read ts r)
versions_read k [] r h = h
versions_read k (t ∷ []) r h = h
versions_read k (t ∷ u ∷ ts) r h = (h.0, versions_read (suc k) (u ∷ ts) r h.1)

length_read : (ts : List Transaction) (r : PartRead) → length (with_read ts r) ≡ length ts
length_read [] r = refl
length_read (t ∷ []) r = refl
length_read (t ∷ u ∷ ts) r = ap suc (length_read (u ∷ ts) r)

parts_read : (m n : ℕ) (ts : List Transaction) (r : PartRead) → AreParts m n ts → IsPartOf m n r.part → AreParts m n (with_read ts r)
parts_read m n [] r h i = h
parts_read m n (t ∷ []) r h i =
    let P : Transaction → Type 0 = λ t. All (λ (r : PartRead). IsPartOf m n r.part) t.reads in
    let R : PartRead → Type 0 = λ r. IsPartOf m n r.part in
    All-cons P (record t { reads = t.reads ++ r ∷ [] }) [] (All-append R t.reads (r ∷ []) (All-head P t [] h) (All-cons R r [] i (All-nil R))) (All-nil P)
parts_read m n (t ∷ u ∷ ts) r h i =
    let P : Transaction → Type 0 = λ t. All (λ (r : PartRead). IsPartOf m n r.part) t.reads in
    All-cons P t (with_read (u ∷ ts) r) (All-head P t (u ∷ ts) h) (parts_read m n (u ∷ ts) r (All-tail P t (u ∷ ts) h) i)

placed_by : (form small placed : Bool) → (if not form then Some BadLine else if not small then Some NumberPast else if placed then None else Some BadTransaction) ≡ None → placed ≡ true
placed_by false small placed h = cc
placed_by true false placed h = cc
placed_by true true false h = cc
placed_by true true true h = refl

-- a transaction's version is below its place
version_below : (place : ℕ) (ws : List (List ℕ)) → transaction_fault place ws ≡ None → number (word 3 ws) < place
version_below place ws h =
    let e = placed_by (has_transaction_form ws) (nat_lt (number (word 2 ws)) (2 ^ 32)) (is_placed place ws) h in
    let q = both_true (number (word 1 ws) == place) (nat_lt (number (word 3 ws)) place) e in
    ltb-true (number (word 3 ws)) place q.1

part_by : (form far part small : Bool) → (if not form then Some BadLine else if far || not part then Some BadId else if small then None else Some NumberPast) ≡ None → part ≡ true
part_by false far part small h = cc
part_by true true part small h = cc
part_by true false true small h = refl
part_by true false false small h = cc

part_is : (m n : ℕ) (part : Part) → is_part_of m n part ≡ true → IsPartOf m n part
part_is m n (Row i) h = ltb-true i m h
part_is m n (Sides i) h = ltb-true i m h
part_is m n (Col j) h = ltb-true j n h
part_is m n (Bounds j) h = ltb-true j n h

-- what was read is a part of the program
part_within : (m n : ℕ) (ws : List (List ℕ)) → read_fault m n ws ≡ None → IsPartOf m n (read_in ws).part
part_within m n ws h =
    part_is m n (read_in ws).part (part_by (has_read_form ws) (is_far (word 2 ws)) (is_part_of m n (read_in ws).part) (nat_lt (number (word 3 ws)) (2 ^ 64)) h)

-- ---- from one line to the next
going_start : (p : Progress) (n : ℕ) → p.given.undos ≡ [] → p.given.transactions ≡ [] → Going (with_records p n)
going_start p n e f =
    let q = no_records (length p.given.rows) (length p.given.columns) (all_live (length p.given.rows) (length p.given.columns)) p.given.undos e in
    let r = no_transactions (length p.given.rows) (length p.given.columns) p.given.transactions f in
    record {
      records = q.0;
      walk = q.1;
      row_count = length-replicate (length p.given.rows) true;
      column_count = length-replicate (length p.given.columns) true;
      versions = r.0;
      parts = r.1;
    }

-- the transaction that the line of a record brings along
versions_by : (v : TextVersion) (ts : List Transaction) → VersionsBelow 1 ts → VersionsBelow 1 (ts ++ untold_by v)
versions_by First ts h = versions_more 1 ts untold h (omega arith)
versions_by Second ts h = subst (VersionsBelow 1) (sym (append-nil ts)) h

parts_by : (v : TextVersion) (m n : ℕ) (ts : List Transaction) → AreParts m n ts → AreParts m n (ts ++ untold_by v)
parts_by First m n ts h = parts_more m n ts 0 0 h
parts_by Second m n ts h = subst (AreParts m n) (sym (append-nil ts)) h

count_by : (v : TextVersion) (n : ℕ) (ts : List Transaction) → length ts ≡ opened v n → length (ts ++ untold_by v) ≡ suc n
count_by First n ts e = length_more ts untold ∙ ap suc e
count_by Second n ts e = ap length (append-nil ts) ∙ e

going_on : (p : Progress) (n : ℕ) (line : List (List ℕ)) → undo_fault p.live line ≡ None → Going p → Going (with_undo p n (undo_in line))
going_on p n line h g =
    let q = sound_by p.live (rule_of (first line)) (others line) h in
    let s : IsSound (length p.given.rows) (length p.given.columns) (undo_in line) =
    subst (λ (k : ℕ). IsSound (length p.given.rows) k (undo_in line)) g.column_count (subst (λ (k : ℕ). IsSound k (length p.live.columns) (undo_in line)) g.row_count q.0) in
    record {
      records = all_more (length p.given.rows) (length p.given.columns) p.given.undos (undo_in line) g.records s;
      walk = walks_on (all_live (length p.given.rows) (length p.given.columns)) p.live p.given.undos (undo_in line) g.walk q.1;
      row_count = cleared-length (rows_deleted (undo_in line)) p.live.rows ∙ g.row_count;
      column_count = cleared-length (columns_deleted (undo_in line)) p.live.columns ∙ g.column_count;
      versions = versions_by p.version p.given.transactions g.versions;
      parts = parts_by p.version (length p.given.rows) (length p.given.columns) p.given.transactions g.parts;
    }

going_told : (p : Progress) (n : ℕ) (ws : List (List ℕ)) → transaction_fault (place_in p) ws ≡ None → Told p (length p.given.undos) → Going p → Going (with_transaction p n ws)
going_told p n ws h e g =
    let below : number (word 3 ws) < suc (length p.given.undos) = version_below (place_in p) ws h in
    record {
      records = g.records;
      walk = g.walk;
      row_count = g.row_count;
      column_count = g.column_count;
      versions = versions_more 1 p.given.transactions (transaction_in ws) g.versions (omega (arith, below, e));
      parts = parts_more (length p.given.rows) (length p.given.columns) p.given.transactions (number (word 2 ws)) (number (word 3 ws)) g.parts;
    }

going_read : (p : Progress) (n r : ℕ) (ws : List (List ℕ)) → read_fault (length p.given.rows) (length p.given.columns) ws ≡ None → Going p → Going (with_part p n r ws)
going_read p n r ws h g = record {
  records = g.records;
  walk = g.walk;
  row_count = g.row_count;
  column_count = g.column_count;
  versions = versions_read 1 p.given.transactions (read_in ws) g.versions;
  parts = parts_read (length p.given.rows) (length p.given.columns) p.given.transactions (read_in ws) g.parts (part_within (length p.given.rows) (length p.given.columns) ws h);
}

-- ---- the end
flag_is : (f g : Bool) → same_flag f g ≡ true → f ≡ g
flag_is true true h = refl
flag_is true false h = cc
flag_is false true h = cc
flag_is false false h = refl

flags_are : (fs gs : List Bool) → same_flags fs gs ≡ true → fs ≡ gs
flags_are [] [] h = refl
flags_are [] (g ∷ gs) h = cc
flags_are (f ∷ fs) [] h = cc
flags_are (f ∷ fs) (g ∷ gs) h = let q = both_true (same_flag f g) (same_flags fs gs) h in ap₂ (λ x xs. x ∷ xs) (flag_is f g q.0) (flags_are fs gs q.1)

ends_are : (f : Flags) (p : Postsolve) → ends_at f p ≡ true → f ≡ flags_of p
ends_are f p h =
    let q = both_true (same_flags f.columns (lives p.columns)) (same_flags f.rows (lives p.rows)) h in
    ap₂ (λ rs cs. record { rows = rs; columns = cs }) (flags_are f.rows (lives p.rows) q.1) (flags_are f.columns (lives p.columns) q.0)

end_is : (a b : Bool) → (if a then unless b BadId else Some BadLine) ≡ None → b ≡ true
end_is true true h = refl
end_is true false h = cc
end_is false b h = cc

told_end : (p : Progress) → Going p → Told p (length p.given.undos) → AreTold p.given
told_end p g e = record { count = e; versions = g.versions; parts = g.parts }

sound_end : (p : Progress) (line : List ℕ) → end_fault p line ≡ None → Going p → AreSound p.given
sound_end p line h g =
    let e = ends_are p.live p.given (end_is (is_end line) (ends_at p.live p.given) h) in
    record { records = g.records; walk = subst (λ f. Walks (all_live (length p.given.rows) (length p.given.columns)) p.given.undos f) e g.walk }

same_here : (fs : List Bool) → same_flags fs fs ≡ true
same_here [] = refl
same_here (true ∷ fs) = same_here fs
same_here (false ∷ fs) = same_here fs

are_ends : (f : Flags) (p : Postsolve) → f ≡ flags_of p → ends_at f p ≡ true
are_ends f p e = subst (λ g. ends_at g p ≡ true) (sym e) (and-is (same_flags (lives p.columns) (lives p.columns)) (same_flags (lives p.rows) (lives p.rows)) (same_here (lives p.columns)) (same_here (lives p.rows)))

ended_by : (f : Flags) (p : Postsolve) (a b : Bool) → ends_at f p ≡ b → IsTrue a ↔ (f ≡ flags_of p) → a ≡ b
ended_by f p true true e h = refl
ended_by f p false false e h = refl
ended_by f p true false e h = sym (are_ends f p (h.0 refl)) ∙ e
ended_by f p false true e h = h.1 (ends_are f p e)

-- a test of what the labels say
pub ended_is : (f : Flags) (p : Postsolve) (cs rs : List Label) (b : Bool) → cs ≡ p.columns → rs ≡ p.rows → IsTrue b ↔ (f ≡ record { rows = lives rs; columns = lives cs }) → b ≡ ends_at f p
ended_is f p cs rs b ec er h =
    ended_by f p b (ends_at f p) refl
    (subst (λ ds. IsTrue b ↔ (f ≡ record { rows = lives p.rows; columns = lives ds })) ec (subst (λ qs. IsTrue b ↔ (f ≡ record { rows = lives qs; columns = lives cs })) er h))

-- ---- a line
kind_none : (k : Option LineFault) → kind_in k ≡ None → k ≡ None
kind_none None h = refl
kind_none (Some k) h = cc

abbrev Fresh : Progress → Type 0
Fresh p = (p.given.undos ≡ []) × (p.given.transactions ≡ [])

at_columns : (n : ℕ) (p : Progress) → Fresh p → KeptAt (columns_left n) p
at_columns zero p e = e
at_columns (suc n) p e = e

at_rows : (n : ℕ) (p : Progress) → Fresh p → KeptAt (rows_left n) p
at_rows zero p e = e
at_rows (suc n) p e = e

-- where a record begins, each one before it has its transaction
at_records : (v : TextVersion) (n : ℕ) (p : Progress) → p.version ≡ v → Going p → Told p (length p.given.undos) → KeptAt (records_left v n) p
at_records First zero p v g e = (g, e)
at_records First (suc n) p v g e = (g, e ∙ ap (λ w. opened w (length p.given.undos)) (sym v))
at_records Second zero p v g e = (g, e)
at_records Second (suc n) p v g e = (g, v, e)

at_reads : (n r : ℕ) (p : Progress) → Going p → p.version ≡ Second → Told p (suc (length p.given.undos)) → KeptAt (reads_left n r) p
at_reads n zero p g v e = (g, e ∙ ap (λ w. opened w (length p.given.undos)) (sym v))
at_reads n (suc r) p g v e = (g, v, e)

length_undos : (us : List Undo) (u : Undo) → length (us ++ u ∷ []) ≡ suc (length us)
length_undos us u = simp length-append (omega arith)

told_on : (p : Progress) (n : ℕ) (u : Undo) → Told p (opened p.version (length p.given.undos)) → Told (with_undo p n u) (length (with_undo p n u).given.undos)
told_on p n u e = count_by p.version (length p.given.undos) p.given.transactions e ∙ sym (length_undos p.given.undos u)

told_none : (us : List Undo) (ts : List Transaction) → us ≡ [] → ts ≡ [] → length ts ≡ length us
told_none us ts e f = ap length f ∙ sym (ap length e)

kept_at : (s : Stage) (p : Progress) (line : List ℕ) → fault_at s p line ≡ None → KeptAt s p → Kept (moved_at s p line)
kept_at Header p line h k = k
kept_at SenseLine p line h k = k
kept_at DualsLine p line h k = k
kept_at ColumnCount p line h k = at_columns _ _ k
kept_at (Columns n) p line h k = at_columns _ _ k
kept_at RowCount p line h k = at_rows _ _ k
kept_at (Rows n) p line h k = at_rows _ _ k
kept_at Offset p line h k = k
kept_at RecordCount p line h k = at_records p.version _ _ refl (going_start p _ k.0 k.1) (told_none p.given.undos p.given.transactions k.0 k.1)
kept_at (Transactions n) p line h k = at_reads _ _ _ (going_told p n (words_of line) h k.2 k.0) k.1 (length_more p.given.transactions (transaction_in (words_of line)) ∙ ap suc k.2)
kept_at (Reads n r) p line h k = at_reads _ _ _ (going_read p n r (words_of line) h k.0) k.1 (length_read p.given.transactions (read_in (words_of line)) ∙ k.2)
kept_at (Undos n) p line h k = at_records p.version _ _ refl (going_on p n (words_of line) (kind_none _ h) k.0) (told_on p n (undo_in (words_of line)) k.1)
kept_at End p line h k = (sound_end p line h k.0, told_end p k.0 k.1)
kept_at Over p line h k = cc

kept : (p : Progress) (line : List ℕ) → line_fault p line ≡ None → Kept p → Kept (moved p line)
unfolding line_fault moved
kept p line h k = kept_at p.stage p line h k

abbrev over_or : Stage → ℕ → Option (RecordFaultKind × ℕ)
over_or s n = if is_over s then None else Some (Cut, n)

at_over : (s : Stage) (p : Progress) (n : ℕ) → over_or s n ≡ None → KeptAt s p → AreSound p.given × AreTold p.given
at_over Header p n h k = cc
at_over SenseLine p n h k = cc
at_over DualsLine p n h k = cc
at_over ColumnCount p n h k = cc
at_over (Columns m) p n h k = cc
at_over RowCount p n h k = cc
at_over (Rows m) p n h k = cc
at_over Offset p n h k = cc
at_over RecordCount p n h k = cc
at_over (Transactions m) p n h k = cc
at_over (Reads m r) p n h k = cc
at_over (Undos m) p n h k = cc
at_over End p n h k = cc
at_over Over p n h k = k

kept_lines : (p : Progress) (n : ℕ) (lines : List (List ℕ)) → fault_from p n lines ≡ None → Kept p → AreSound (progress_from p lines).given × AreTold (progress_from p lines).given
kept_lines p n [] h k = at_over p.stage p (n + 1) h k
kept_lines p n (line ∷ lines) h k =
    let q = later_none (line_fault p line) (n + 1) (fault_from (moved p line) (n + 1) lines) h in
    kept_lines (moved p line) (n + 1) lines q.1 (kept p line q.0 k)

pub sound_text : (text : List ℕ) → first_fault text ≡ None → AreSound (records_of text)
unfolding first_fault records_of
sound_text text h = (kept_lines start 0 (raw_lines_of text) h (refl, refl)).0

pub sound_given : (text : List ℕ) (p : Postsolve) → first_fault text ≡ None → p ≡ records_of text → AreSound p
sound_given text p h e = subst AreSound (sym e) (sound_text text h)

pub told_text : (text : List ℕ) → first_fault text ≡ None → AreTold (records_of text)
unfolding first_fault records_of
told_text text h = (kept_lines start 0 (raw_lines_of text) h (refl, refl)).1

pub told_given : (text : List ℕ) (p : Postsolve) → first_fault text ≡ None → p ≡ records_of text → AreTold p
told_given text p h e = subst AreTold (sym e) (told_text text h)

-- ---- names
named_is : (live : Bool) (name : List ℕ) (l : Label) → label_named live name ≡ Some l → IsName l.name
named_is live name l h = by (is_name name) refl h
  where
    by : (b : Bool) → is_name name ≡ b → (if b then Some (record { name = name; live = live }) else None) ≡ Some l → IsName l.name
    by true e h = let s = some_is (record { name = name; live = live }) l h in ap (λ k. is_name k.name) (sym s) ∙ e
    by false e h = cc

label_is : (line : List ℕ) (l : Label) → label_of line ≡ Some l → IsName l.name
label_is line l h = by (bytes_eq (take 5 line) (codes "live ")) (bytes_eq (take 5 line) (codes "gone ")) h
  where
    by : (a b : Bool) → (if a then label_named true (drop 5 line) else if b then label_named false (drop 5 line) else None) ≡ Some l → IsName l.name
    by true b h = named_is true (drop 5 line) l h
    by false true h = named_is false (drop 5 line) l h
    by false false h = cc

abbrev names : List Label → List (List ℕ)
names ls = map (λ (l : Label). l.name) ls

more_named : (ls : List Label) (o : Option Label) → ((l : Label) → o ≡ Some l → IsName l.name) → All IsName (names ls) → All IsName (names (with_label ls o))
more_named ls None n h = h
more_named ls (Some l) n h =
    subst (All IsName) (sym (map-append (λ (k : Label). k.name) ls (l ∷ []))) (All-append IsName (names ls) (l.name ∷ []) h (All-cons IsName l.name [] (n l refl) (All-nil IsName)))

named_at : (s : Stage) (p : Progress) (line : List ℕ) → AreNamed p.given → AreNamed (moved_at s p line).given
named_at Header p line k = record { rows = k.rows; columns = k.columns }
named_at SenseLine p line k = record { rows = k.rows; columns = k.columns }
named_at DualsLine p line k = record { rows = k.rows; columns = k.columns }
named_at ColumnCount p line k = record { rows = k.rows; columns = k.columns }
named_at (Columns n) p line k = record { rows = k.rows; columns = more_named p.given.columns (label_of line) (label_is line) k.columns }
named_at RowCount p line k = record { rows = k.rows; columns = k.columns }
named_at (Rows n) p line k = record { rows = more_named p.given.rows (label_of line) (label_is line) k.rows; columns = k.columns }
named_at Offset p line k = record { rows = k.rows; columns = k.columns }
named_at RecordCount p line k = record { rows = k.rows; columns = k.columns }
named_at (Transactions n) p line k = record { rows = k.rows; columns = k.columns }
named_at (Reads n r) p line k = record { rows = k.rows; columns = k.columns }
named_at (Undos n) p line k = record { rows = k.rows; columns = k.columns }
named_at End p line k = record { rows = k.rows; columns = k.columns }
named_at Over p line k = record { rows = k.rows; columns = k.columns }

named_lines : (p : Progress) (lines : List (List ℕ)) → AreNamed p.given → AreNamed (progress_from p lines).given
unfolding moved
named_lines p [] k = k
named_lines p (line ∷ lines) k = named_lines (moved p line) lines (named_at p.stage p line k)

pub named_text : (text : List ℕ) → AreNamed (records_of text)
unfolding records_of
named_text text = named_lines start (raw_lines_of text) (record { rows = All-nil IsName; columns = All-nil IsName })

pub named_given : (text : List ℕ) (p : Postsolve) → p ≡ records_of text → AreNamed p
named_given text p e = subst AreNamed (sym e) (named_text text)
