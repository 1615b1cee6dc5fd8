use Rattle.std.proofs.Common.{◌∙◌, ap₂}
use Rattle.std.proofs.lemmas.Result.{IfOk-weaker}
use Rattle.clap.specs.Words.{with_rule}
use Rattle.command_app.specs.Line.{formats_app}
use Rattle.command_app.proofs.app.with_formats.Goals as goal

pub returns-clause-app : goal.returns-clause-app
unfolding formats_app
returns-clause-app c = IfOk-weaker c.arg-2.result _ _ (λ r h. h.shape c.flag-2.ensures.local ∙ ap₂ with_rule (c.in_ok-arg.ensures.shape c.flag.ensures.local ∙ ap₂ with_rule c.in_ok-with_ray.ensures.app c.flag.ensures.rule) c.flag-2.ensures.rule) c.arg-2.ensures
