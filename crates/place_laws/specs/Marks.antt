-- What rounds mark: parts that are noted for the next one, and a part of each instance that sleeps.
use Rattle.std.specs.Prelude.{◌≡◌, ◌⊎◌, Bool, true, false, List}
use Rattle.std.specs.List.{Contains}
use Rattle.fractions.specs.declared.Numbers.{Numbers}
use Rattle.problem_model.specs.declared.part.Part.{Part}
use Rattle.problem_model.specs.Sparse.{Sparse}
use Rattle.presolve_model.specs.declared.instance.Instance.{Instance}
use Rattle.presolve_model.specs.declared.instance.Instance.TheVariants as at
use Rattle.presolve_model.specs.declared.outcome.Outcome.{Outcome}
use Rattle.presolve_model.specs.declared.outcome.Outcome.TheVariants.{Closed, Full, Stale, Past, NotDecimal, Applied, NoMemory}
use Rattle.dual_laws.specs.declared.form.Form.{Form}
use Rattle.dual_laws.specs.Forms.{Lets, LetsByCost, LetsInPairs, seen_at}
use Rattle.presolve_model.specs.declared.instance.Reach.{Reach}
use Rattle.presolve_model.specs.declared.instance.Reach.TheVariants.{OwnRow, OwnColumn, RowsOfBounds, ColumnsOfSides, RowsOfBoth, SoleColumns, RowsBeside, ColumnsBeside}
use Rattle.presolve_model.specs.Changes.{ChangeFits, ChangeIsWritten}
use Rattle.presolve_model.specs.Enabled.{reading_of, reads}
use Rattle.presolve_model.specs.Instances.{goes_by_form, reach_of, rule_at}

-- what is noted: parts that have changed, and a part of each instance that is left over. The same for the rules that look only at the form of
-- ends: stirred and roused, parts of which something is seen that lets such a rule apply, at columns or at rows, where it didn't before
pub record Marks : Type 0 where
  pub noted : List Part
  pub stirred : List Part
  pub roused : List Part
  pub asleep : List Part

-- the parts that count for a reach
abbrev pub parts_for : Marks → Reach → List Part
parts_for n OwnRow = n.noted
parts_for n OwnColumn = n.noted
parts_for n RowsOfBounds = n.noted
parts_for n ColumnsOfSides = n.stirred
parts_for n RowsOfBoth = n.roused
parts_for n SoleColumns = n.noted
parts_for n RowsBeside = n.noted
parts_for n ColumnsBeside = n.noted

-- the one has what the other has
pub record Grows (n m : Marks) : Type 0 where
  pub noted : (a : Part) → Contains n.noted a → Contains m.noted a
  pub stirred : (a : Part) → Contains n.stirred a → Contains m.stirred a
  pub roused : (a : Part) → Contains n.roused a → Contains m.roused a
  pub asleep : (a : Part) → Contains n.asleep a → Contains m.asleep a

-- each part of which something is seen in q that lets more than in p is among these, and what was before still is
pub record LetsNoMore (R : Form → Form → Type 0) (p q : Sparse) (before after : List Part) : Type 0 where
  pub kept : (a : Part) → Contains before a → Contains after a
  pub changed : (a : Part) → Lets R (seen_at q a) (seen_at p a) ⊎ Contains after a

-- so it is with what is stirred and what is roused
pub record AreStirred (p q : Sparse) (n m : Marks) : Type 0 where
  pub stirred : LetsNoMore LetsByCost p q n.stirred m.stirred
  pub roused : LetsNoMore LetsInPairs p q n.roused m.roused

-- an instance reads a part that is noted
abbrev pub IsNoted : Sparse → List Part → Instance → Type 0
IsNoted p noted e = (a : Part) × Contains (reads p e) a × Contains noted a

-- a reduction has a number that is past, or else one that can't be written
abbrev pub IsRefused : Numbers → Sparse → Instance → Type 0
IsRefused numbers p (at.Reduction r) = (ChangeFits r p → ⊥) ⊎ (ChangeFits r p × (ChangeIsWritten numbers r p → ⊥))
IsRefused numbers p (at.Verdict v) = ⊥

-- it has one on each problem on which it reads what it reads here
abbrev pub RestsOnReading : Numbers → Sparse → Instance → Type 0
RestsOnReading numbers p e = (q : Sparse) → reading_of q e ≡ reading_of p e → IsRefused numbers q e

-- an instance sleeps: it reads a part that tells so, and is refused until what it reads changes
pub record IsAsleep (numbers : Numbers) (p : Sparse) (asleep : List Part) (e : Instance) : Type 0 where
  pub told : IsNoted p asleep e
  pub rests : RestsOnReading numbers p e
  pub by_ends : goes_by_form (reach_of (rule_at e)) ≡ false

-- it is looked at in the next round, or sleeps
abbrev pub IsMarked : Numbers → Sparse → Marks → Instance → Type 0
IsMarked numbers p n e = IsNoted p (parts_for n (reach_of (rule_at e))) e ⊎ IsAsleep numbers p n.asleep e

-- an answer refuses for a number
abbrev pub is_refusal : Outcome → Bool
is_refusal (Closed v) = false
is_refusal Full = false
is_refusal (Stale k) = false
is_refusal Past = true
is_refusal NotDecimal = true
is_refusal (Applied k) = false
is_refusal NoMemory = false
