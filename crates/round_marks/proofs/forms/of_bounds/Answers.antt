use Rattle.std.proofs.Common.{◌∷◌, [], ◌++◌, ◌∙◌, sym}
use Rattle.problem_model.specs.declared.part.Part.TheVariants as part
use Rattle.round_marks.specs.Forming.{form_on}
use Rattle.round_marks.proofs.Sorting.{each_more}
use Rattle.round_marks.proofs.forms.of_bounds.Goals as goal

pub loop-column-preserved : goal.loop-column-preserved
loop-column-preserved c =
    c.in_ok-push.ensures.items ∙ (λ t. c.loop-column.invariant t ++ c.form_of.ensures t ∷ []) ∙ sym (each_more (λ k. form_on c.args.problem.now (part.Bounds k)) c.loop-column.column)
