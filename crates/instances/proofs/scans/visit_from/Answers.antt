use Rattle.std.proofs.Common.{◌≡◌, List, [], ◌∷◌, ◌++◌, map, sym, ap, subst, OnOk, ◌∙◌}
use Rattle.std.specs.List.{filter}
use Rattle.std.proofs.lemmas.List.{append-nil}
use Rattle.presolve_model.specs.declared.instance.Instance.{Instance}
use Rattle.presolve_model.specs.Enabled.{enabled_on}
use Rattle.presolve_model.specs.Instances.{instances_from}
use Rattle.presolve_model.specs.Scans.{instances_at, proposal_of}
use Rattle.presolve_model.specs.Tallies.{open_on}
use Rattle.instances.proofs.Scanning.{passes_again}
use Rattle.instances.proofs.scans.visit_from.Goals as goal

pub returns : goal.returns
returns c =
    let t = enabled_on c.args.walk.now.problem.now in
    let all : List Instance = instances_from (open_on c.args.walk.now.tally.now) c.args.walk.now.problem.now c.args.rule c.args.id in
    let found : filter t c.as_slice.result.now ≡ filter t (instances_at (open_on c.args.walk.now.tally.now) c.args.walk.now.problem.now c.args.rule (c.args.id ∷ [])) =
    ap (filter t) (c.as_slice.ensures.value ∙ c.in_ok-add_enabled.ensures ∙ ap (λ (es : List Instance). es ++ filter t all) c.new-instances.ensures.items) ∙ passes_again t all ∙ sym (ap (filter t) (append-nil all)) in
    subst (λ (es : List Instance). OnOk c.visit_each.result (c.visit_each.new.found.items ≡ c.args.found.now.items ++ map (proposal_of c.args.walk.now.problem.now c.args.walk.now.version) es)) found c.visit_each.ensures
