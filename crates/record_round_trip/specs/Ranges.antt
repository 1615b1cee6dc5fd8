-- Records whose ids and numbers have room.
use Rattle.std.specs.Prelude.{ℕ, ◌^◌, ◌<◌, List, length, replicate, Option, Some, None, All, ⊤}
use Rattle.fractions.specs.Number.{Number}
use Rattle.fractions.specs.Lowest.{Fits}
use Rattle.lp_model.specs.declared.terms.Term.{Term}
use Rattle.problem_model.specs.declared.part.Part.{Part}
use Rattle.problem_model.specs.declared.part.Part.TheVariants.{Row, Sides, Col, Bounds}
use Rattle.undo_records.specs.Postsolve.{Postsolve}
use Rattle.transactions.specs.Transactions.{Transaction, untold}
use Rattle.transactions.specs.declared.transactions.PartRead.{PartRead}
use Rattle.undo_records.specs.declared.undo.Undo.{Undo}
use Rattle.record_values.specs.declared.value.Value.{Value}
use Rattle.record_values.specs.declared.value.Value.TheVariants.{Id, Ratio, LowerEnd, UpperEnd, Bound, Entries}
use Rattle.record_values.specs.Values.{values}

-- an id of 32 bits
abbrev pub IsId : ℕ → Type 0
IsId k = k < 2 ^ 32

-- an end that is a number has room
abbrev pub EndFits : Option Number → Type 0
EndFits None = ⊤
EndFits (Some q) = Fits q

-- the ids and numbers of a list
abbrev pub ListFits : List Term → Type 0
ListFits ts = All (λ t. IsId t.id × Fits t.value) ts

-- the ids and numbers of a value
abbrev pub ValueFits : Value → Type 0
ValueFits (Id k) = IsId k
ValueFits (Ratio q) = Fits q
ValueFits (LowerEnd e) = EndFits e
ValueFits (UpperEnd e) = EndFits e
ValueFits (Bound s e) = EndFits e
ValueFits (Entries ts) = ListFits ts
ValueFits other = ⊤

-- the ids and numbers of a record
abbrev pub UndoFits : Undo → Type 0
UndoFits u = All ValueFits (values u)

-- the id of a part
abbrev pub PartFits : Part → Type 0
PartFits (Row i) = IsId i
PartFits (Sides i) = IsId i
PartFits (Col j) = IsId j
PartFits (Bounds j) = IsId j

-- a part that was read
abbrev pub ReadFits : PartRead → Type 0
ReadFits r = PartFits r.part × (r.changes < 2 ^ 64)

-- a transaction's worker and what it read
abbrev pub TransactionFits : Transaction → Type 0
TransactionFits t = (t.by < 2 ^ 32) × (length t.reads < 2 ^ 64) × All ReadFits t.reads

-- ids and workers have 32 bits, lists are shorter than 2 ^ 64, and numbers have room, as all values of the code do
pub record HasRange (p : Postsolve) : Type 0 where
  pub columns : length p.columns < 2 ^ 64
  pub rows : length p.rows < 2 ^ 64
  pub offset : Fits p.offset
  pub records : length p.undos < 2 ^ 64
  pub undos : All UndoFits p.undos
  pub transactions : All TransactionFits p.transactions

-- the same, of whose transactions nothing is known
abbrev pub without_transactions : Postsolve → Postsolve
without_transactions p = record p { transactions = replicate (length p.undos) untold }
