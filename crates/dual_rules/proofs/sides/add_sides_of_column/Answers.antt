use Rattle.std.proofs.Common.{List, ◌++◌, ap, ◌∙◌}
use Rattle.std.proofs.lemmas.Simd.{map-map}
use Rattle.lp_model.specs.declared.terms.Term.{Term}
use Rattle.problem_model.specs.declared.part.Part.{Part}
use Rattle.problem_model.specs.declared.part.Part.TheVariants as part
use Rattle.problem_model.specs.Matrices.{live_only}
use Rattle.rule_words.specs.Reading.{sides_of}
use Rattle.dual_rules.proofs.sides.add_sides_of_column.Goals as goal

pub returns : goal.returns
returns c = c.in_ok-add_sides_of.ensures ∙ ap (λ (ps : List Part). c.args.parts.now.items ++ ps)
    (map-map part.Sides (λ (t : Term). t.id) (live_only c.args.problem.now.matrix.rows c.entries_if_live.result.now) ∙ ap sides_of c.entries_if_live.ensures.named)
