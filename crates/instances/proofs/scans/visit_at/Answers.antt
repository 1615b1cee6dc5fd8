use Rattle.std.proofs.Common.{◌++◌, ◌≤◌, List, sym, ap, subst, ◌∙◌, ℕ}
use Rattle.std.proofs.lemmas.List.{append-nil}
use Rattle.presolve_model.specs.Given.{Proposed}
use Rattle.presolve_model.specs.Tallies.{open_on}
use Rattle.instances.proofs.Scanning.{found_past}
use Rattle.instances.proofs.scans.visit_at.Goals as goal

-- there is none past the last id
pub returns-then-id-ids_of : goal.returns-then-id-ids_of
returns-then-id-ids_of c =
    sym (append-nil c.args.found.now.items)
    ∙ ap (λ (ps : List Proposed). c.args.found.now.items ++ ps) (sym (found_past (open_on c.args.walk.now.tally.now) c.args.walk.now.problem.now c.args.walk.now.version c.args.rule c.args.id (subst (λ (n : ℕ). n ≤ c.args.id) c.ids_of.ensures.count c.if-id-ids_of.true)))
