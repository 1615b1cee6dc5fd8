-- Yes is said exactly of a ray with room, and is a proof.
use Rattle.std.proofs.Common.{◌≡◌, ℕ, List, refl, ◌∙◌, ap, subst}
use Rattle.lp_model.specs.ProgramData.{ProgramData}
use Rattle.lp_model.specs.Meaning.{meaning}
use Rattle.lp_rays.specs.Ray.{Weights}
use Rattle.lp_rays.proofs.Weighing.{ray_no_point}
use Rattle.ray_check.specs.Deciding.{DecidesRay}
use Rattle.ray_check.specs.declared.verdict.RayChecked.{RayChecked}
use Rattle.ray_check.specs.declared.verdict.RayChecked.TheVariants.{Yes, NoRow, NoColumn, NoTotal, PastColumn, PastTotal}
use Rattle.ray_check.proofs.OneVerdict.{verdict_same, yes_is_ray}
use Rattle.check_command.specs.RayVerdictText.{ray_verdict_text, status_of_ray_verdict}
use Rattle.check_command.specs.JudgedRay.{IsProvedInfeasible, IsRayWithRoom}

yes_at_zero : (verdict : RayChecked) → status_of_ray_verdict verdict ≡ 0 → verdict ≡ Yes
yes_at_zero Yes zero = refl
yes_at_zero (NoRow i) zero = cc
yes_at_zero (NoColumn j) zero = cc
yes_at_zero (NoTotal total) zero = cc
yes_at_zero (PastColumn j) zero = cc
yes_at_zero PastTotal zero = cc

decides_yes : (program : ProgramData) (w : Weights) (verdict : RayChecked) → DecidesRay program w verdict → status_of_ray_verdict verdict ≡ 0 → DecidesRay program w Yes
decides_yes program w verdict decides zero = subst (λ (v : RayChecked). DecidesRay program w v) (yes_at_zero verdict zero) decides

pub room_at_zero : (program : ProgramData) (w : Weights) (verdict : RayChecked) → DecidesRay program w verdict → status_of_ray_verdict verdict ≡ 0 → IsRayWithRoom program w
room_at_zero program w verdict decides zero =
    let yes = decides_yes program w verdict decides zero in
    record {
      ray = yes_is_ray program w yes;
      columns = λ j l. (yes.0.1 j l).1;
      total = yes.1;
    }

room_decides : (program : ProgramData) (w : Weights) → IsRayWithRoom program w → DecidesRay program w Yes
room_decides program w room =
    ((room.ray.weighting.rows, λ j l. (room.ray.weighting.columns j l, room.columns j l, room.ray.weighting.nets j l)), room.total, room.ray.positive)

pub zero_of_room : (program : ProgramData) (w : Weights) (verdict : RayChecked) → DecidesRay program w verdict → IsRayWithRoom program w → status_of_ray_verdict verdict ≡ 0
zero_of_room program w verdict decides room = ap status_of_ray_verdict (verdict_same program w verdict Yes decides (room_decides program w room))

pub proved_infeasible : (program : ProgramData) (w : Weights) (verdict : RayChecked) (printed : List ℕ) → DecidesRay program w verdict → printed ≡ ray_verdict_text program verdict
    → status_of_ray_verdict verdict ≡ 0 → IsProvedInfeasible program printed
proved_infeasible program w verdict printed decides said zero = record {
  line = said ∙ ap (ray_verdict_text program) (yes_at_zero verdict zero);
  none = ray_no_point (meaning program) w (yes_is_ray program w (decides_yes program w verdict decides zero));
}
