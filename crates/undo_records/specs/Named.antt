-- The names of records, their transactions, and what their type keeps.
use Rattle.std.specs.Prelude.{◌≡◌, ℕ, List, [], ◌∷◌, if◌then◌else◌, length, map, All}
use Rattle.lp_model.specs.Name.{IsName}
use Rattle.undo_records.specs.declared.label.Label.{Label}
use Rattle.undo_records.specs.Postsolve.{Postsolve}
use Rattle.transactions.specs.Transactions.{IsPartOf, VersionsBelow}
use Rattle.undo_records.specs.Walk.{AreSound}

-- the names of the live ones, in order
abbrev pub live_names : List Label → List (List ℕ)
live_names [] = []
live_names (l ∷ ls) = if l.live then l.name ∷ live_names ls else live_names ls

-- the original rows and columns have names
pub record AreNamed (p : Postsolve) : Type 0 where
  pub rows : All IsName (map (λ l. l.name) p.rows)
  pub columns : All IsName (map (λ l. l.name) p.columns)

-- each record has its transaction, of a version below its place from 1 on, which read parts of the original program
pub record AreTold (p : Postsolve) : Type 0 where
  pub count : length p.transactions ≡ length p.undos
  pub versions : VersionsBelow 1 p.transactions
  pub parts : All (λ t. All (λ r. IsPartOf (length p.rows) (length p.columns) r.part) t.reads) p.transactions

-- the records are sound, the rows and columns have names, and each record has its transaction
pub record AreRecords (p : Postsolve) : Type 0 where
  pub sound : AreSound p
  pub named : AreNamed p
  pub told : AreTold p
