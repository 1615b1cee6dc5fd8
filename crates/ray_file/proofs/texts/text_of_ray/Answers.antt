use Rattle.std.proofs.Common.{sym}
use Rattle.ray_file.proofs.texts.text_of_ray.Goals as goal

pub returns-clause-past : goal.returns-clause-past
returns-clause-past c = λ at h. rw (sym (c.in_ok-program.ensures.program)) (c.text_of.ensures.past at h)
