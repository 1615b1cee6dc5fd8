use Rattle.std.proofs.Common.{◌≡◌, map}
use Rattle.std.specs.List.{range_with_len}
use Rattle.problem_model.specs.declared.part.Part.TheVariants as part
use Rattle.round_marks.specs.Forming.{form_on}
use Rattle.round_marks.proofs.forms.of_bounds.Given as goal

-- those so far
abbrev pub invariant-loop-column : goal.invariant-loop-column
invariant-loop-column l = l.forms.items ≡ map (λ j. form_on l.problem (part.Bounds j)) (range_with_len 0 l.column)
