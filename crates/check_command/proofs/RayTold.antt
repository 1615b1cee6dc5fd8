-- What an ending by a verdict on a ray says of SOL.
use Rattle.std.proofs.Common.{◌≡◌, ℕ, List, sym, ◌∙◌}
use Rattle.file_ports.specs.Ports.{Moment}
use Rattle.lp_model.specs.ProgramData.{ProgramData}
use Rattle.lp_model.specs.Meaning.{meaning}
use Rattle.lp_model.specs.Optimality.{Continuous}
use Rattle.lp_rays.specs.RayData.{RayData, weights_of}
use Rattle.ray_check.specs.Deciding.{DecidesRay}
use Rattle.ray_check.specs.declared.verdict.RayChecked.{RayChecked}
use Rattle.endings.specs.Moments.{Reads}
use Rattle.endings.specs.declared.reads.TheConstants.{SOLUTION_LIMIT}
use Rattle.endings.specs.declared.ending.Ending.{Ending}
use Rattle.endings.specs.declared.ending.Ending.TheVariants.{Done, Usage, Refused, ReadFault, WriteFault, NoMemory, NoRoom, RecordsRefused, SolutionRefused, Violated, Spent, Infeasible, RayPast, UnboundedOrInfeasible, Unbounded}
use Rattle.check_command.specs.GivenTexts.{IsRayOf}
use Rattle.check_command.specs.RayVerdictText.{status_of_ray_verdict, ray_verdict_text}
use Rattle.check_command.specs.JudgedRay.{IsRayJudged, SaysRay, TellsRayVerdict}
use Rattle.check_command.proofs.RayProved.{proved_infeasible, room_at_zero, zero_of_room}

module _ (program : ProgramData) (ray : RayData) (verdict : RayChecked) (name : List ℕ) (before now : Moment)
    (given : Reads SOLUTION_LIMIT (before.told name) (λ text. IsRayOf program text ray)) (continuous : Continuous (meaning program))
    (decides : DecidesRay program (weights_of ray) verdict) where
  ray_judged : (status : ℕ) (printed : List ℕ) → status_of_ray_verdict verdict ≡ status → printed ≡ ray_verdict_text program verdict
      → IsRayJudged program (before.told name) status printed
  ray_judged status printed answers said = record {
    ray = ray;
    verdict = verdict;
    given = given;
    continuous = continuous;
    decides = decides;
    answers = answers;
    said = said;
    yes = (
      λ zero. room_at_zero program (weights_of ray) verdict decides (answers ∙ zero),
      λ room. sym answers ∙ zero_of_room program (weights_of ray) verdict decides room,
    );
    proves = λ zero. proved_infeasible program (weights_of ray) verdict printed decides said (answers ∙ zero);
  }

  pub ray_told : (ending : Ending) → TellsRayVerdict program verdict ending → SaysRay program name before now ending
  ray_told (Done text) h = ray_judged 0 text.items h.0 h.1
  ray_told Usage h = absurd h
  ray_told (Refused line) h = absurd h
  ray_told ReadFault h = absurd h
  ray_told WriteFault h = absurd h
  ray_told NoMemory h = absurd h
  ray_told (NoRoom line) h = ray_judged 6 line.items h.0 h.1
  ray_told (RecordsRefused line) h = absurd h
  ray_told (SolutionRefused line) h = absurd h
  ray_told (Violated line) h = ray_judged 9 line.items h.0 h.1
  ray_told Spent h = absurd h
  ray_told Infeasible h = absurd h
  ray_told (RayPast lines) h = absurd h
  ray_told UnboundedOrInfeasible h = absurd h
  ray_told Unbounded h = absurd h
