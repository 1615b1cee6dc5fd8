use Rattle.std.proofs.Common.{rules, ◌∙◌, List, ap}
use Rattle.std.proofs.lemmas.Fn.{filter_same}
use Rattle.lp_model.specs.declared.terms.Term.{Term}
use Rattle.problem_model.specs.Matrices.{live_only}
use Rattle.entry_lines.proofs.moves.retain_live.Goals as goal

pub returns : goal.returns
returns c = c.new.ensures ∙ filter_same _ _ _ (λ x b f' k. search rules) _ _ c.retain.ensures.filtered
    ∙ ap (λ (ts : List Term). live_only c.args.others.now ts) (c.into_vec-items.ensures ∙ c.replace.ensures.value)
