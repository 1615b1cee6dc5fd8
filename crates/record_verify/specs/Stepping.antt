-- What following records from a problem on may find.
use Rattle.std.specs.Prelude.{◌≡◌, ℕ, suc, List, Option, Some, None}
use Rattle.transactions.specs.declared.transactions.PartRead.{PartRead}
use Rattle.undo_records.specs.declared.undo.Undo.{Undo}
use Rattle.undo_records.specs.Postsolve.{Postsolve}
use Rattle.problem_model.specs.Sparse.{Sparse}
use Rattle.presolve_model.specs.declared.instance.Reduction.{Reduction}
use Rattle.presolve_model.specs.Changes.{changed}
use Rattle.presolve_model.specs.Tables.{record_of}
use Rattle.walk_laws.specs.declared.flaw.Flaw.{Flaw}
use Rattle.walk_laws.specs.declared.flaw.Flaw.TheVariants.{Header, Step, Program, Offset}
use Rattle.walk_laws.specs.declared.flaw.StepFlaw.{StepFlaw}
use Rattle.walk_laws.specs.Flaws.{FailsBy, StopsAfter}
use Rattle.walk_laws.specs.Walk.{AreSteps, HasChange, IsStep, reduction_of, walked_to}

-- the record of a reduction that is applied to p and leads to q; none where a number of its change has no room
abbrev pub Makes : Sparse → Reduction → Option Undo → Sparse → Type 0
Makes p r None q = HasChange p r → ⊥
Makes p r (Some u) q = HasChange p r × (u ≡ record_of r p) × (q ≡ changed r p)

-- a record is a step from p to q, or fails by its first part that does
abbrev pub Follows : Sparse → Undo → List PartRead → Option StepFlaw → Sparse → Type 0
Follows p u reads None q = IsStep p u reads × (q ≡ changed (reduction_of u) p)
Follows p u reads (Some why) q = FailsBy why p u reads

-- this one is the first record that fails
abbrev pub IsAt : Sparse → Postsolve → Flaw → Type 0
IsAt p told Header = ⊥
IsAt p told (Step number why) = (n : ℕ) × (number ≡ suc n) × StopsAfter n why p told.undos told.transactions
IsAt p told Program = ⊥
IsAt p told Offset = ⊥

-- all records are steps, which lead from p to q, or one of them fails
abbrev pub FollowsAll : Sparse → Postsolve → Option Flaw → Sparse → Type 0
FollowsAll p told None q = AreSteps p told.undos told.transactions × (q ≡ walked_to p told.undos)
FollowsAll p told (Some flaw) q = IsAt p told flaw
