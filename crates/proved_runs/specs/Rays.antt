-- A check of the ray that a presolve wrote.
use Rattle.std.specs.Prelude.{◌≡◌, ◌≢◌, ◌⊎◌, ◌≤◌, ℕ, true, List, length, Some}
use Rattle.file_ports.specs.Ports.{Moment}
use Rattle.command_words.specs.Names.{CheckNames, PresolveNames}
use Rattle.lp_check.specs.declared.verdicts.Item.TheVariants.{Column}
use Rattle.lp_model.specs.Meaning.{meaning}
use Rattle.lp_model.specs.ProgramData.{ProgramData}
use Rattle.lp_rays.specs.RayData.{weights_of}
use Rattle.ray_check.specs.Deciding.{ColumnsFit}
use Rattle.ray_check.specs.Room.{TotalFits}
use Rattle.endings.specs.Ending.{infeasible_line}
use Rattle.endings.specs.Forms.{form_of}
use Rattle.endings.specs.ProgramTexts.{program_in}
use Rattle.endings.specs.declared.reads.TheConstants.{SOLUTION_LIMIT}
use Rattle.presolve_command.specs.Presolved.{EndsPresolve}
use Rattle.check_command.specs.Checked.{EndsCheck}
use Rattle.check_command.specs.GivenTexts.{ray_of}
use Rattle.check_command.specs.RayVerdictText.{infeasible_text, past_total_text}
use Rattle.check_command.specs.VerdictText.{past_text}
use Rattle.two_runs.specs.Runs.{Holds}

-- Presolve, asked for duals and for a ray at this name, ended at 20 and said that no point is feasible and no more; and a later check of these
-- files ended so. It read IN in the same format, found IN as presolve had found it, and RAY as presolve had left it, no longer than is read.
pub record IsGivenToCheck (first : PresolveNames) (name : List ℕ) (second : CheckNames) (status : ℕ) (said : List ℕ) : Type 0 where
  pub before : Moment
  pub left : Moment
  pub found : Moment
  pub now : Moment
  pub input : List ℕ
  pub ray : List ℕ
  pub dual : first.options.dual ≡ true
  pub named : first.ray ≡ Some name
  pub presolved : EndsPresolve first 20 infeasible_line before left
  pub checked : EndsCheck second status said found now
  pub format : second.format ≡ first.options.format
  pub input_read : Holds before first.input input
  pub ray_left : Holds left name ray
  pub input_found : Holds found second.input input
  pub ray_found : Holds found second.solution ray
  pub ray_fits : length ray ≤ SOLUTION_LIMIT

-- the line names a column whose sum has no room, or the total
abbrev pub SaysPast : ProgramData → List ℕ → Type 0
SaysPast program said = ((j : ℕ) × (said ≡ past_text program (Column j))) ⊎ (said ≡ past_total_text)

-- The answer is yes, or that a sum has no room; and where each sum that is made of the ray has room it is yes.
pub record IsTaken (program : ProgramData) (ray : List ℕ) (status : ℕ) (said : List ℕ) : Type 0 where
  pub answer : ((status ≡ 0) × (said ≡ infeasible_text)) ⊎ ((status ≡ 6) × SaysPast program said)
  pub yes : ColumnsFit program (weights_of (ray_of program ray)) → TotalFits (meaning program) (weights_of (ray_of program ray)) → status ≡ 0

-- what presolve wrote as RAY is taken, where no read failed and memory did not run out
abbrev pub WrittenRaysAreTaken : Type 0
WrittenRaysAreTaken = (first : PresolveNames) (name : List ℕ) (second : CheckNames) (status : ℕ) (said : List ℕ) (given : IsGivenToCheck first name second status said)
    → status ≢ 3
    → status ≢ 5
    → IsTaken (program_in (form_of first.options) given.input) given.ray status said
