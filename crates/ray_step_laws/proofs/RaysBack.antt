-- What undoing a record makes of the weights of rays, where it is known what the edits make of the linear program that is shown.
use Rattle.std.proofs.Common.{◌≡◌, List, sym, ◌∙◌, subst}
use Rattle.lp_model.specs.LinearProgram.{LinearProgram}
use Rattle.lp_rays.specs.Ray.{StepsBack}
use Rattle.ray_steps.specs.StepBack.{weighed_in}
use Rattle.undo_records.specs.declared.undo.Undo.{Undo}
use Rattle.problem_model.specs.declared.edit.Edit.{Edit}
use Rattle.problem_model.specs.Allowed.{AreAllowed}
use Rattle.problem_model.specs.EditedPrograms.{programs_edited}
use Rattle.problem_model.specs.Problems.{IsSparse}
use Rattle.problem_model.specs.Raised.{committed}
use Rattle.problem_model.specs.Showing.{shown}
use Rattle.problem_model.specs.Sparse.{Sparse}
use Rattle.edit_laws.proofs.Committed.{shown_committed}

pub rays_by_edits : (p : Sparse) (es : List Edit) (R : LinearProgram) (u : Undo) → IsSparse p → AreAllowed p es → programs_edited (shown p) es ≡ R → StepsBack (shown p) R (weighed_in u R)
    → StepsBack (shown p) (shown (committed p es)) (weighed_in u (shown (committed p es)))
rays_by_edits p es R u s on same h = subst (λ (N : LinearProgram). StepsBack (shown p) N (weighed_in u N)) (sym (shown_committed p es s on ∙ same)) h
