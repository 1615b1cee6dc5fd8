-- What keeps records from walking: the first part of a walk that fails.
use Rattle.std.specs.Prelude.{◌≡◌, ◌≢◌, ℕ, zero, suc, true, List, [], ◌∷◌}
use Rattle.lp_model.specs.ProgramData.{ProgramData}
use Rattle.lp_model.specs.Turning.{signed}
use Rattle.transactions.specs.declared.transactions.PartRead.{PartRead}
use Rattle.transactions.specs.Transactions.{Transaction}
use Rattle.undo_records.specs.declared.undo.Undo.{Undo}
use Rattle.undo_records.specs.Postsolve.{Postsolve}
use Rattle.problem_model.specs.Programs.{IsProblemOf, written_program}
use Rattle.problem_model.specs.Sparse.{Sparse}
use Rattle.presolve_model.specs.declared.instance.Instance.TheVariants as at
use Rattle.presolve_model.specs.Changes.{changed}
use Rattle.presolve_model.specs.Enabled.{enabled_on}
use Rattle.presolve_model.specs.Tables.{record_of}
use Rattle.walk_laws.specs.declared.flaw.Flaw.{Flaw}
use Rattle.walk_laws.specs.declared.flaw.Flaw.TheVariants.{Header, Step, Program, Offset}
use Rattle.walk_laws.specs.declared.flaw.StepFlaw.{StepFlaw}
use Rattle.walk_laws.specs.declared.flaw.StepFlaw.TheVariants.{NotEnabled, Reading, Past, Fields}
use Rattle.walk_laws.specs.Walk.{AreSteps, HasChange, HasHeader, IsReadingOf, IsStep, reduction_of, walked_to}

-- this is the first part of a step that a record fails by
abbrev pub FailsBy : StepFlaw → Sparse → Undo → List PartRead → Type 0
FailsBy NotEnabled p u reads = enabled_on p (at.Reduction (reduction_of u)) ≢ true
FailsBy Reading p u reads = (enabled_on p (at.Reduction (reduction_of u)) ≡ true) × (IsReadingOf p (reduction_of u) reads → ⊥)
FailsBy Past p u reads = (enabled_on p (at.Reduction (reduction_of u)) ≡ true) × IsReadingOf p (reduction_of u) reads × (HasChange p (reduction_of u) → ⊥)
FailsBy Fields p u reads = (enabled_on p (at.Reduction (reduction_of u)) ≡ true) × IsReadingOf p (reduction_of u) reads × HasChange p (reduction_of u)
    × (record_of (reduction_of u) p ≢ u)

-- after so many steps the next record fails
abbrev pub StopsAfter : ℕ → StepFlaw → Sparse → List Undo → List Transaction → Type 0
StopsAfter n f p [] ts = ⊥
StopsAfter n f p (u ∷ us) [] = ⊥
StopsAfter zero f p (u ∷ us) (t ∷ ts) = FailsBy f p u t.reads
StopsAfter (suc n) f p (u ∷ us) (t ∷ ts) = IsStep p u t.reads × StopsAfter n f (changed (reduction_of u) p) us ts

-- from a problem on, this is the first part of a walk that fails, once the header is right; records count from 1
abbrev pub FailsFrom : Sparse → ProgramData → ProgramData → Postsolve → Flaw → Type 0
FailsFrom p program reduced told Header = ⊥
FailsFrom p program reduced told (Step number why) = (n : ℕ) × (number ≡ suc n) × StopsAfter n why p told.undos told.transactions
FailsFrom p program reduced told Program = AreSteps p told.undos told.transactions × (reduced ≢ written_program program (walked_to p told.undos))
FailsFrom p program reduced told Offset = AreSteps p told.undos told.transactions × (reduced ≡ written_program program (walked_to p told.undos))
    × (told.offset ≢ signed program.sense (walked_to p told.undos).offset)

-- the first part of a walk that fails
abbrev pub IsFirstFlaw : ProgramData → ProgramData → Postsolve → Flaw → Type 0
IsFirstFlaw program reduced told Header = HasHeader program told → ⊥
IsFirstFlaw program reduced told other = HasHeader program told × (start : Sparse) × IsProblemOf program start × FailsFrom start program reduced told other
