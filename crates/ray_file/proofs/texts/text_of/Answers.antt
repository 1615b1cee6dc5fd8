use Rattle.std.proofs.lemmas.Result.{err_from_is_err_and}
use Rattle.ray_file.proofs.Errors.{error_kept}
use Rattle.ray_file.proofs.texts.text_of.Goals as goal

pub returns-in_err-ray-clause-past : goal.returns-in_err-ray-clause-past
returns-in_err-ray-clause-past c =
    let from = err_from_is_err_and c.from_residual.result c.from_residual.ensures.1 in
    rw (from.1, from.2) (λ at h p o. c.in_err-ray.ensures.past p at o (error_kept _ _ h))
