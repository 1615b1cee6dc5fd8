-- The lines of transactions: the worker that applied a reduction, and the parts that were read for it.
use Rattle.std.specs.Prelude.{ℕ, ◌^◌, Bool, not, ◌&&◌, ◌||◌, List, [], length, Option, Some, None, nat_lt, ◌==◌, codes, if◌then◌else◌}
use Rattle.std.specs.Str.{bytes_eq}
use Rattle.number_texts.specs.Form.{number}
use Rattle.problem_model.specs.declared.part.Part.{Part}
use Rattle.problem_model.specs.declared.part.Part.TheVariants.{Row, Sides, Col, Bounds}
use Rattle.transactions.specs.declared.transactions.PartRead.{PartRead}
use Rattle.transactions.specs.Transactions.{Transaction}
use Rattle.record_fields.specs.Words.{first, others, is_plain, is_far, id_of}
use Rattle.record_words.specs.Undos.{word}
use Rattle.record_reader.specs.declared.faults.RecordFaultKind.{RecordFaultKind}
use Rattle.record_reader.specs.declared.faults.RecordFaultKind.TheVariants.{BadLine, BadId, NumberPast, BadTransaction}

-- a name, and so many words behind it
abbrev pub is_of : List ℕ → ℕ → List (List ℕ) → Bool
is_of name count ws = bytes_eq (first ws) name && (length (others ws) == count)

-- ---- `transaction`, its place, the worker, its version, and how many parts it read
abbrev pub has_transaction_form : List (List ℕ) → Bool
has_transaction_form ws = is_of (codes "transaction") 4 ws && (is_plain (word 1 ws) && (is_plain (word 2 ws) && (is_plain (word 3 ws) && is_plain (word 4 ws))))

-- it has this place, and a version below it
abbrev pub is_placed : ℕ → List (List ℕ) → Bool
is_placed place ws = (number (word 1 ws) == place) && nat_lt (number (word 3 ws)) place

abbrev pub transaction_fault : ℕ → List (List ℕ) → Option RecordFaultKind
transaction_fault place ws =
    if not (has_transaction_form ws) then Some BadLine
    else if not (nat_lt (number (word 2 ws)) (2 ^ 32)) then Some NumberPast
    else if is_placed place ws then None else Some BadTransaction

abbrev pub transaction_in : List (List ℕ) → Transaction
transaction_in ws = record { by = number (word 2 ws); version = number (word 3 ws); reads = [] }

-- ---- `part`, its kind, an id, and how often it had changed
abbrev pub is_kind : List ℕ → Bool
is_kind w = bytes_eq w (codes "row") || (bytes_eq w (codes "sides") || (bytes_eq w (codes "col") || bytes_eq w (codes "bounds")))

abbrev pub has_read_form : List (List ℕ) → Bool
has_read_form ws = is_of (codes "part") 3 ws && (is_kind (word 1 ws) && (is_plain (word 2 ws) && is_plain (word 3 ws)))

-- the part of a kind with an id
abbrev pub part_of : List ℕ → ℕ → Part
part_of w k =
    if bytes_eq w (codes "row") then Row k
    else if bytes_eq w (codes "sides") then Sides k
    else if bytes_eq w (codes "col") then Col k
    else Bounds k

abbrev pub read_in : List (List ℕ) → PartRead
read_in ws = record { part = part_of (word 1 ws) (id_of (word 2 ws)); changes = number (word 3 ws) }

-- a part of a program of m rows and n columns
abbrev pub is_part_of : ℕ → ℕ → Part → Bool
is_part_of m n (Row i) = nat_lt i m
is_part_of m n (Sides i) = nat_lt i m
is_part_of m n (Col j) = nat_lt j n
is_part_of m n (Bounds j) = nat_lt j n

-- the fault of the line of a part that was read in a program of m rows and n columns
abbrev pub read_fault : ℕ → ℕ → List (List ℕ) → Option RecordFaultKind
read_fault m n ws =
    if not (has_read_form ws) then Some BadLine
    else if is_far (word 2 ws) || not (is_part_of m n (read_in ws).part) then Some BadId
    else if nat_lt (number (word 3 ws)) (2 ^ 64) then None else Some NumberPast
