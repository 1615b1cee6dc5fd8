use Rattle.lp_rays.proofs.Moving.{steps_of, row_back}
use Rattle.ray_rows.proofs.deleted_rows_step_back.Goals as goal

pub returns : goal.returns
returns c = λ M i l. steps_of _ _ (λ w. w) (λ w h. row_back M i w l h)
