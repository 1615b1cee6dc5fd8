-- The lines of records, each behind its transaction, pass and give both.
use Rattle.std.proofs.Common.{◌≡◌, ℕ, suc, ◌+◌, ◌^◌, ◌≤◌, List, [], ◌∷◌, ◌++◌, map, length, refl, sym, ap, ap₂, ◌∙◌, subst, append_assoc, arith}
use Rattle.std.specs.Prelude.{All, codes, ⊤}
use Rattle.std.specs.List.{AllByRecursion}
use Rattle.std.proofs.lemmas.List.{append-nil, length-append, map-append}
use Rattle.std.proofs.lemmas.List.Elements.{All-head, All-tail}
use Rattle.lp_model.specs.Flags.{Flags}
use Rattle.undo_records.specs.Postsolve.{Postsolve}
use Rattle.transactions.specs.Transactions.{Transaction, IsPartOf, VersionsBelow, with_read}
use Rattle.undo_records.specs.Walk.{Walks, after}
use Rattle.transactions.specs.declared.transactions.PartRead.{PartRead}
use Rattle.undo_records.specs.declared.undo.Undo.{Undo}
use Rattle.record_values.specs.declared.version.TextVersion.TheVariants.{Second}
use Rattle.record_file.specs.Fields.{transaction_words}
use Rattle.record_file.specs.RecordText.{undo_line, told_lines}
use Rattle.record_reader.specs.Progress.{Progress, records_left, reads_left, with_transaction}
use Rattle.record_reader.specs.Transactions.{read_fault, transaction_fault, read_in}
use Rattle.record_reader.specs.declared.stages.Stage.TheVariants.{Transactions, Reads, Undos, End}
use Rattle.record_round_trip.specs.Ranges.{ReadFits, TransactionFits}
use Rattle.record_round_trip.proofs.Passing.{Passes, state, passes_line, passes_on}
use Rattle.record_round_trip.proofs.Records.{IsReadAgain}
use Rattle.record_round_trip.proofs.Sections.{counted_again, given, with_one, one_more, none_more, undo_line_passes}
use Rattle.record_round_trip.proofs.Transactions.{transaction_line, IsAt, transaction_whole, transaction_read, transaction_passes, transaction_again, part_line, part_whole, part_read, part_passes, part_again}
use Rattle.record_round_trip.proofs.Words.{bytes_of, IsWhole, all_on}

-- parts of a program of m rows and n columns
abbrev pub AreParts : ℕ → ℕ → Transaction → Type 0
AreParts m n t = All (λ r. IsPartOf m n r.part) t.reads

-- each record from a place on has its transaction
abbrev pub Tells : ℕ → ℕ → ℕ → List Undo → List Transaction → Type 0
Tells m n place [] [] = ⊤
Tells m n place (u ∷ us) (t ∷ ts) = IsAt place t × AreParts m n t × Tells m n (suc place) us ts
Tells m n place us ts = ⊥

pub tells : (m n place : ℕ) (us : List Undo) (ts : List Transaction) → length ts ≡ length us → place + length us ≤ 2 ^ 64 → VersionsBelow place ts → All (AreParts m n) ts → All TransactionFits ts → Tells m n place us ts
tells m n place [] [] c l v p f = tt
tells m n place [] (t ∷ ts) c l v p f = absurd (omega (arith, c))
tells m n place (u ∷ us) [] c l v p f = absurd (omega (arith, c))
tells m n place (u ∷ us) (t ∷ ts) c l v p f = (
  record { near = omega (arith, l); version = v.0; fits = All-head TransactionFits t ts f },
  All-head (AreParts m n) t ts p,
  tells m n (suc place) us ts (omega (arith, c)) (omega (arith, l)) v.1 (All-tail (AreParts m n) t ts p) (All-tail TransactionFits t ts f),
)

-- ---- no line has a line feed, no word a space
parts_whole : (rs : List PartRead) → All ReadFits rs → AllByRecursion IsWhole (map part_line rs)
parts_whole [] f = tt
parts_whole (r ∷ rs) f = (part_whole r (All-head ReadFits r rs f), parts_whole rs (All-tail ReadFits r rs f))

pub told_whole : (m n place : ℕ) (us : List Undo) (ts : List Transaction) → AllByRecursion IsReadAgain us → Tells m n place us ts → AllByRecursion IsWhole (told_lines place us ts)
told_whole m n place [] [] read h = tt
told_whole m n place [] (t ∷ ts) read h = absurd h
told_whole m n place (u ∷ us) [] read h = absurd h
told_whole m n place (u ∷ us) (t ∷ ts) read h = (
  transaction_whole place t h.0,
  all_on (map part_line t.reads) (undo_line u ∷ told_lines (suc place) us ts) (parts_whole t.reads h.0.fits.2)
      (read.0.whole, told_whole m n (suc place) us ts read.1 h.2),
)

-- ---- parts
one_part : (ts : List Transaction) (t : Transaction) (r : PartRead) → with_read (ts ++ t ∷ []) r ≡ ts ++ record t { reads = t.reads ++ r ∷ [] } ∷ []
one_part [] t r = refl
one_part (s ∷ []) t r = refl
one_part (s ∷ u ∷ ts) t r = ap (λ (xs : List Transaction). s ∷ xs) (one_part (u ∷ ts) t r)

-- a transaction behind others, as far as it is read
abbrev behind : Postsolve → List Transaction → Transaction → Postsolve
behind g ts t = record g { transactions = ts ++ t ∷ [] }

parts_pass : (n : ℕ) (g : Postsolve) (f : Flags) (ts : List Transaction) (t : Transaction) (rs : List PartRead) → All (λ r. IsPartOf (length g.rows) (length g.columns) r.part) rs → All ReadFits rs
    → Passes (state Second (reads_left n (length rs)) (behind g ts t) f) (map bytes_of (map part_line rs)) (state Second (Undos n) (behind g ts (record t { reads = t.reads ++ rs })) f)
parts_pass n g f ts t [] w h = ap (λ (rs : List PartRead). state Second (Undos n) (behind g ts (record t { reads = rs })) f) (append-nil t.reads)
parts_pass n g f ts t (r ∷ rs) w h =
    let IsPart = λ (r : PartRead). IsPartOf (length g.rows) (length g.columns) r.part in
    let fits = All-head ReadFits r rs h in
    let t' : Transaction = record t { reads = t.reads ++ r ∷ [] } in
    let p : Progress = state Second (Reads n (suc (length rs))) (behind g ts t) f in
    let q : Progress = state Second (reads_left n (length rs)) (behind g ts t') f in
    passes_line p q (state Second (Undos n) (behind g ts (record t { reads = t.reads ++ r ∷ rs })) f) (bytes_of (part_line r)) (map bytes_of (map part_line rs))
    (ap (read_fault (length g.rows) (length g.columns)) (part_read r fits) ∙ part_passes (length g.rows) (length g.columns) r (All-head IsPart r rs w) fits)
    (ap (λ (x : PartRead). state Second (reads_left n (length rs)) (record g { transactions = with_read (ts ++ t ∷ []) x }) f) (ap read_in (part_read r fits) ∙ part_again r fits)
    ∙ ap (λ (us : List Transaction). state Second (reads_left n (length rs)) (record g { transactions = us }) f) (one_part ts t r))
    (subst (λ (xs : List PartRead). Passes q (map bytes_of (map part_line rs)) (state Second (Undos n) (behind g ts (record t { reads = xs })) f)) (append_assoc t.reads (r ∷ []) rs)
    (parts_pass n g f ts t' rs (All-tail IsPart r rs w) (All-tail ReadFits r rs h)))

-- ---- a transaction, and the parts that it read
transaction_passes_on : (place n : ℕ) (g : Postsolve) (f : Flags) (t : Transaction) → place ≡ suc (length g.undos) → IsAt place t → AreParts (length g.rows) (length g.columns) t
    → Passes (state Second (Transactions n) g f) (bytes_of (transaction_line place t) ∷ map bytes_of (map part_line t.reads)) (state Second (Undos n) (behind g g.transactions t) f)
transaction_passes_on place n g f t e h w =
    let ws = codes "transaction" ∷ transaction_words place t in
    let bare : Transaction = record t { reads = [] } in
    let p : Progress = state Second (Transactions n) g f in
    passes_line p (state Second (reads_left n (length t.reads)) (behind g g.transactions bare) f) (state Second (Undos n) (behind g g.transactions t) f) (bytes_of (transaction_line place t)) (map bytes_of (map part_line t.reads))
    (ap (transaction_fault (suc (length g.undos))) (transaction_read place t h) ∙ ap (λ (k : ℕ). transaction_fault k ws) (sym e) ∙ transaction_passes place t h)
    (ap (with_transaction p n) (transaction_read place t h)
    ∙ ap₂ (λ (k : ℕ) (s : Transaction). state Second (reads_left n k) (behind g g.transactions s) f) (counted_again (length t.reads) h.fits.1) (transaction_again place t h))
    (parts_pass n g f g.transactions bare t.reads w h.fits.2)

-- ---- records behind their transactions
pub told_pass : (place : ℕ) (g : Postsolve) (f h : Flags) (us : List Undo) (ts : List Transaction) → place ≡ suc (length g.undos)
    → AllByRecursion IsReadAgain us → Tells (length g.rows) (length g.columns) place us ts → Walks f us h
    → Passes (state Second (records_left Second (length us)) g f) (map bytes_of (told_lines place us ts)) (state Second End (given g (g.undos ++ us) (g.transactions ++ ts)) h)
told_pass place g f h [] [] e read t w = none_more Second g f h w
told_pass place g f h [] (t ∷ ts) e read x w = absurd x
told_pass place g f h (u ∷ us) [] e read x w = absurd x
told_pass place g f h (u ∷ us) (t ∷ ts) e read x w =
    let n = suc (length us) in
    let ls = map bytes_of (told_lines (suc place) us ts) in
    let told : Progress = state Second (Undos n) (behind g g.transactions t) f in
    let q : Progress = state Second (records_left Second (length us)) (with_one g u t) (after u f) in
    let over : Postsolve → Progress = λ (k : Postsolve). state Second End k h in
    let r = over (given g (g.undos ++ u ∷ us) (g.transactions ++ t ∷ ts)) in
    let next : suc place ≡ suc (length (g.undos ++ u ∷ [])) = omega (arith, e, length-append g.undos (u ∷ [])) in
    subst (λ (ks : List (List ℕ)). Passes (state Second (Transactions n) g f) (bytes_of (transaction_line place t) ∷ ks) r) (sym (map-append bytes_of (map part_line t.reads) (undo_line u ∷ told_lines (suc place) us ts)))
    (passes_on (state Second (Transactions n) g f) told r (bytes_of (transaction_line place t) ∷ map bytes_of (map part_line t.reads)) (bytes_of (undo_line u) ∷ ls)
    (transaction_passes_on place n g f t e x.0 x.1)
    (undo_line_passes Second n (behind g g.transactions t) f u q r ls read.0 w.0
    (ap (λ (vs : List Transaction). state Second (records_left Second (length us)) (given g (g.undos ++ u ∷ []) vs) (after u f)) (append-nil (g.transactions ++ t ∷ [])))
    (subst (λ (k : Postsolve). Passes q ls (over k)) (one_more g u us t ts)
    (told_pass (suc place) (with_one g u t) (after u f) h us ts next read.1 x.2 w.1))))
