use Rattle.std.proofs.Common.{◌∷◌, [], ◌++◌, ◌∙◌, sym}
use Rattle.problem_model.specs.declared.part.Part.TheVariants as part
use Rattle.round_marks.specs.Forming.{form_on}
use Rattle.round_marks.proofs.Sorting.{each_more}
use Rattle.round_marks.proofs.forms.of_sides.Goals as goal

pub loop-row-preserved : goal.loop-row-preserved
loop-row-preserved c =
    c.in_ok-push.ensures.items ∙ (λ t. c.loop-row.invariant t ++ c.form_of.ensures t ∷ []) ∙ sym (each_more (λ k. form_on c.args.problem.now (part.Sides k)) c.loop-row.row)
