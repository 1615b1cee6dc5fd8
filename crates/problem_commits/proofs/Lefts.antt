-- Entries that do not go on as wanted.
use Rattle.std.proofs.Common.{◌≡◌, List, [], ◌∷◌, None, sym, ap, ◌∙◌}
use Rattle.std.proofs.lemmas.List.Elements.{filter-append}
use Rattle.lp_model.specs.declared.terms.Term.{Term}
use Rattle.problem_model.specs.declared.line.Line.{Line}
use Rattle.problem_model.specs.Matrices.{live_only, line_at}
use Rattle.problem_commits.specs.Lefts.{IsLeft}

-- a first entry that is not wanted
pub never_left : (others : List Line) (rest after left : List Term) (first : Term) → rest ≡ first ∷ after → IsLeft (live_only others (first ∷ [])) left None → live_only others rest ≡ left → ⊥
never_left others rest after left first e h f = h (live_only others after) (sym f ∙ ap (live_only others) e ∙ filter-append (λ t. (line_at others t.id).live) (first ∷ []) after)
