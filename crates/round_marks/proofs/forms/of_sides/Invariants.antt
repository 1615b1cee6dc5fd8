use Rattle.std.proofs.Common.{◌≡◌, map}
use Rattle.std.specs.List.{range_with_len}
use Rattle.problem_model.specs.declared.part.Part.TheVariants as part
use Rattle.round_marks.specs.Forming.{form_on}
use Rattle.round_marks.proofs.forms.of_sides.Given as goal

-- those so far
abbrev pub invariant-loop-row : goal.invariant-loop-row
invariant-loop-row l = l.forms.items ≡ map (λ i. form_on l.problem (part.Sides i)) (range_with_len 0 l.row)
