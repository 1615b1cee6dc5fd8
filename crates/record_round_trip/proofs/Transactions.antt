-- The lines of transactions are read as these.
use Rattle.std.proofs.Common.{◌≡◌, ℕ, ◌^◌, ◌<◌, Bool, true, false, not, ◌||◌, eqb, ltb, List, [], ◌∷◌, ◌++◌, length, None, refl, ap, ap₂, ◌∙◌, arith}
use Rattle.std.specs.Prelude.{codes}
use Rattle.std.specs.Fmt.{decimal}
use Rattle.std.proofs.lemmas.Bool.{and_from, lt-ltb}
use Rattle.std.proofs.lemmas.Bool.Decides.{nat_tests}
use Rattle.problem_model.specs.declared.part.Part.{Part}
use Rattle.problem_model.specs.declared.part.Part.TheVariants.{Row, Sides, Col, Bounds}
use Rattle.transactions.specs.Transactions.{Transaction, IsPartOf}
use Rattle.transactions.specs.declared.transactions.PartRead.{PartRead}
use Rattle.record_file.specs.Words.{part_words}
use Rattle.record_file.specs.Fields.{transaction_words, read_words}
use Rattle.record_file.specs.RecordText.{Line, line}
use Rattle.record_fields.specs.Words.{words_of, is_far, id_of}
use Rattle.record_reader.specs.Transactions.{has_transaction_form, is_placed, transaction_fault, transaction_in, is_kind, has_read_form, part_of, read_in, is_part_of, read_fault}
use Rattle.number_texts.specs.Form.{number}
use Rattle.record_round_trip.specs.Ranges.{IsId, PartFits, ReadFits, TransactionFits}
use Rattle.record_round_trip.proofs.Numerals.{plain_decimal, number_decimal, near_id, id_again}
use Rattle.record_round_trip.proofs.Words.{Whole, decimal_whole, words_again, bytes_of, IsWhole}
use Rattle.record_round_trip.proofs.Values.{id_whole}

-- ---- a transaction
abbrev pub transaction_line : ℕ → Transaction → Line
transaction_line place t = line (codes "transaction") (transaction_words place t)

-- a transaction of a place: both have room
pub record IsAt (place : ℕ) (t : Transaction) : Type 0 where
  pub near : place < 2 ^ 64
  pub version : t.version < place
  pub fits : TransactionFits t

pub transaction_whole : (place : ℕ) (t : Transaction) → IsAt place t → IsWhole (transaction_line place t)
transaction_whole place t h =
    (refl, (decimal_whole place (omega (arith, h.near)), (decimal_whole t.by (omega (arith, h.fits.0)), (decimal_whole t.version (omega (arith, h.near, h.version)), (decimal_whole (length t.reads) (omega (arith, h.fits.1)), tt)))))

pub transaction_read : (place : ℕ) (t : Transaction) → IsAt place t → words_of (bytes_of (transaction_line place t)) ≡ codes "transaction" ∷ transaction_words place t
transaction_read place t h = let w = transaction_whole place t h in words_again (codes "transaction") (transaction_words place t) w.0 w.1

pub transaction_passes : (place : ℕ) (t : Transaction) → IsAt place t → transaction_fault place (codes "transaction" ∷ transaction_words place t) ≡ None
transaction_passes place t h =
    let form : has_transaction_form (codes "transaction" ∷ transaction_words place t) ≡ true =
    and_from _ _ (plain_decimal place (omega (arith, h.near)))
    (and_from _ _ (plain_decimal t.by (omega (arith, h.fits.0)))
    (and_from _ _ (plain_decimal t.version (omega (arith, h.near, h.version))) (plain_decimal (length t.reads) (omega (arith, h.fits.1))))) in
    let near : ltb (number (decimal t.by)) (2 ^ 32) ≡ true = ap (λ (k : ℕ). ltb k (2 ^ 32)) (number_decimal t.by (omega (arith, h.fits.0))) ∙ lt-ltb _ _ h.fits.0 in
    let here : eqb place place ≡ true = grind (arith, nat_tests) in
    let placed : is_placed place (codes "transaction" ∷ transaction_words place t) ≡ true =
    and_from _ _ (ap (λ (k : ℕ). eqb k place) (number_decimal place (omega (arith, h.near))) ∙ here)
    (ap (λ (k : ℕ). ltb k place) (number_decimal t.version (omega (arith, h.near, h.version))) ∙ lt-ltb _ _ h.version) in
    rw (form, near, placed) refl

pub transaction_again : (place : ℕ) (t : Transaction) → IsAt place t → transaction_in (codes "transaction" ∷ transaction_words place t) ≡ record t { reads = [] }
transaction_again place t h =
    ap₂ (λ (b v : ℕ). record { by = b; version = v; reads = [] }) (number_decimal t.by (omega (arith, h.fits.0))) (number_decimal t.version (omega (arith, h.near, h.version)))

-- ---- a part that was read
abbrev pub part_line : PartRead → Line
part_line r = line (codes "part") (read_words r)

pub part_whole : (r : PartRead) → ReadFits r → IsWhole (part_line r)
part_whole r f = by r.part f.0
  where
    changes : Whole (decimal r.changes)
    changes = decimal_whole r.changes (omega (arith, f.1))

    by : (p : Part) → PartFits p → IsWhole (line (codes "part") (part_words p ++ decimal r.changes ∷ []))
    by (Row i) h = (refl, (refl, (id_whole i h, (changes, tt))))
    by (Sides i) h = (refl, (refl, (id_whole i h, (changes, tt))))
    by (Col j) h = (refl, (refl, (id_whole j h, (changes, tt))))
    by (Bounds j) h = (refl, (refl, (id_whole j h, (changes, tt))))

pub part_read : (r : PartRead) → ReadFits r → words_of (bytes_of (part_line r)) ≡ codes "part" ∷ read_words r
part_read r f = let w = part_whole r f in words_again (codes "part") (read_words r) w.0 w.1

kind_passes : (m n k c : ℕ) (kind : List ℕ) → is_kind kind ≡ true → is_part_of m n (part_of kind k) ≡ true → IsId k → c < 2 ^ 64 → read_fault m n (codes "part" ∷ kind ∷ decimal k ∷ decimal c ∷ []) ≡ None
kind_passes m n k c kind named within id few =
    let form : has_read_form (codes "part" ∷ kind ∷ decimal k ∷ decimal c ∷ []) ≡ true =
    and_from _ _ named (and_from _ _ (plain_decimal k (omega (arith, id))) (plain_decimal c (omega (arith, few)))) in
    let there : (is_far (decimal k) || not (is_part_of m n (part_of kind (id_of (decimal k))))) ≡ false =
    ap₂ (λ (b d : Bool). b || not d) (near_id k id) (ap (λ (i : ℕ). is_part_of m n (part_of kind i)) (id_again k id) ∙ within) in
    let short : ltb (number (decimal c)) (2 ^ 64) ≡ true = ap (λ (i : ℕ). ltb i (2 ^ 64)) (number_decimal c (omega (arith, few))) ∙ lt-ltb _ _ few in
    rw (form, there, short) refl

pub part_passes : (m n : ℕ) (r : PartRead) → IsPartOf m n r.part → ReadFits r → read_fault m n (codes "part" ∷ read_words r) ≡ None
part_passes m n r within f = by r.part within f.0
  where
    by : (p : Part) → IsPartOf m n p → PartFits p → read_fault m n (codes "part" ∷ (part_words p ++ decimal r.changes ∷ [])) ≡ None
    by (Row i) w h = kind_passes m n i r.changes (codes "row") refl (lt-ltb _ _ w) h f.1
    by (Sides i) w h = kind_passes m n i r.changes (codes "sides") refl (lt-ltb _ _ w) h f.1
    by (Col j) w h = kind_passes m n j r.changes (codes "col") refl (lt-ltb _ _ w) h f.1
    by (Bounds j) w h = kind_passes m n j r.changes (codes "bounds") refl (lt-ltb _ _ w) h f.1

pub part_again : (r : PartRead) → ReadFits r → read_in (codes "part" ∷ read_words r) ≡ r
part_again r f = by r.part f.0
  where
    by : (p : Part) → PartFits p → read_in (codes "part" ∷ (part_words p ++ decimal r.changes ∷ [])) ≡ record { part = p; changes = r.changes }
    by (Row i) h = ap₂ (λ (k c : ℕ). record { part = Row k; changes = c }) (id_again i h) (number_decimal r.changes (omega (arith, f.1)))
    by (Sides i) h = ap₂ (λ (k c : ℕ). record { part = Sides k; changes = c }) (id_again i h) (number_decimal r.changes (omega (arith, f.1)))
    by (Col j) h = ap₂ (λ (k c : ℕ). record { part = Col k; changes = c }) (id_again j h) (number_decimal r.changes (omega (arith, f.1)))
    by (Bounds j) h = ap₂ (λ (k c : ℕ). record { part = Bounds k; changes = c }) (id_again j h) (number_decimal r.changes (omega (arith, f.1)))
