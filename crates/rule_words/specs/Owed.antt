-- What a rule owes, in words that are the same for each: of its edits and its record, where it is enabled on a problem.
use Rattle.std.specs.Prelude.{◌≡◌, ℕ, true, length, List, All, Bool}
use Rattle.fractions.specs.declared.Numbers.{Numbers}
use Rattle.lp_model.specs.declared.program.Sense.TheVariants.{Min}
use Rattle.lp_model.specs.LinearProgram.{LinearProgram}
use Rattle.lp_model.specs.Optimality.{Continuous}
use Rattle.lp_model.specs.Reductions.{Reduces, ReducesPairs}
use Rattle.lp_rays.specs.Ray.{StepsBack}
use Rattle.undo_pairs.specs.Undo.{Undo}
use Rattle.undo_pairs.specs.Lift.{undone}
use Rattle.undo_pairs.specs.Sound.{IsSound}
use Rattle.undo_pairs.specs.Walk.{NamesLive, after}
use Rattle.undo_pairs.specs.LiftPair.{undone_pair}
use Rattle.ray_steps.specs.StepBack.{weighed_in}
use Rattle.problem_model.specs.Flags.{flags_of}
use Rattle.problem_model.specs.Problems.{IsSparse}
use Rattle.problem_model.specs.Showing.{shown}
use Rattle.problem_model.specs.Sparse.{Sparse}
use Rattle.problem_model.specs.Writing.{IsWritable}
use Rattle.problem_model.specs.declared.edit.Edit.{Edit}
use Rattle.problem_model.specs.Allowed.{AreAllowed, EntriesFirst}
use Rattle.problem_model.specs.Raised.{committed}
use Rattle.problem_model.specs.Living.{all_flags_edited}
use Rattle.problem_model.specs.NewNumbers.{EditIsSided}
use Rattle.problem_model.specs.Offsets.{added_by}

-- at one place of a problem
pub record Owes (p : Sparse) (es : List Edit) (u : Undo) : Type 0 where
  pub allowed : AreAllowed p es
  pub ordered : EntriesFirst es
  pub reduces : Reduces Min (shown p) (shown (committed p es)) (undone u) (added_by es)
  -- where no column is whole
  pub pairs : Continuous (shown p) → ReducesPairs Min (shown p) (shown (committed p es)) (undone_pair u)
  pub rays : Continuous (shown p) → StepsBack (shown p) (shown (committed p es)) (weighed_in u (shown (committed p es)))
  pub sided : (numbers : Numbers) → IsWritable numbers p → All EditIsSided es
  pub sound : IsSound (length p.matrix.rows) (length p.matrix.columns) u
  pub names : NamesLive (flags_of p) u
  pub deletes : all_flags_edited (flags_of p) es ≡ after u (flags_of p)

-- at each place where the rule is enabled
abbrev pub RuleOwes : (Sparse → ℕ → Bool) → (Sparse → ℕ → List Edit) → (Sparse → ℕ → Undo) → Type 0
RuleOwes enabled edits record_of = (p : Sparse) (k : ℕ) → IsSparse p → enabled p k ≡ true → Owes p (edits p k) (record_of p k)

-- what it means of the linear program that is shown that a verdict is enabled at a place
abbrev pub RuleDecides : (Sparse → ℕ → Bool) → (LinearProgram → Type 0) → Type 0
RuleDecides enabled Means = (p : Sparse) (k : ℕ) → IsSparse p → enabled p k ≡ true → Means (shown p)
