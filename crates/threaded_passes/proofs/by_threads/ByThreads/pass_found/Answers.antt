use Rattle.std.proofs.Common.{◌≡◌, ◌++◌, List, sym, ap, ◌∙◌, subst}
use Rattle.std.specs.List.{filter}
use Rattle.problem_model.specs.Sparse.{Sparse}
use Rattle.presolve_model.specs.declared.instance.Instance.{Instance}
use Rattle.presolve_model.specs.declared.instance.Rule.{Rule}
use Rattle.presolve_model.specs.Enabled.{enabled_on}
use Rattle.presolve_model.specs.Ledger.{Ledger}
use Rattle.presolve_model.specs.Tallies.{Counts, open_on}
use Rattle.place_laws.specs.Choosing.{Around, instances_of}
use Rattle.presolve_rounds.specs.Walking.{IsPassed}
use Rattle.presolve_rounds.proofs.Running.{both_passed}
use Rattle.threaded_passes.specs.Listing.{AreListed, listed_order, turned_order}
use Rattle.threaded_passes.proofs.Listing.{all_visited, found_listed, listed_passed}
use Rattle.threaded_passes.proofs.by_threads.ByThreads.pass_found.Goals as goal

-- what was found is what is enabled as the round begins
found_is : (a : Ledger) (p : Sparse) (t : Counts) (n : Around) (rules : List Rule) (es fs : List Instance) → p ≡ a.problem → t ≡ a.tally → rules ≡ listed_order → fs ≡ es → es ≡ filter (enabled_on p) (instances_of (open_on t) p n rules)
    → fs ≡ filter (enabled_on a.problem) (instances_of (open_on a.tally) a.problem n listed_order)
found_is a p t n rules es fs ep et er ef is = ef ∙ is ∙ (λ i. filter (enabled_on (ep i)) (instances_of (open_on (et i)) (ep i) n (er i)))

pub visit_listed-requires-clause-listed : goal.visit_listed-requires-clause-listed
visit_listed-requires-clause-listed g c =
    let a : Ledger = c.args.walk.now.frozen.now.value in
    let book : c.args.book.now ≡ a = sym c.requires.begins in
    subst (AreListed a) (sym (found_is a c.problem.result.now c.tally.result.now c.args.ids.now c.listed_rules.result c.in_ok-found.found.items c.as_slice.result.now
    (c.problem.ensures ∙ ap (λ (b : Ledger). b.problem) book) (c.tally.ensures ∙ ap (λ (b : Ledger). b.tally) book) c.listed_rules.ensures c.as_slice.ensures.value c.in_ok-found.ensures))
    (found_listed a c.args.ids.now listed_order)

pub returns : goal.returns
returns g c =
    let a : Ledger = c.args.walk.now.frozen.now.value in
    let book : c.args.book.now ≡ a = sym c.requires.begins in
    let n = c.args.ids.now in
    let listed = listed_passed a (instances_of (open_on a.tally) a.problem n listed_order) c.args.watch.now c.visit_listed.new.watch c.args.book.now c.visit_listed.new.book (ap (λ (b : Ledger). b.problem) book)
    (subst (λ (es : List Instance). IsPassed a es c.args.watch.now c.args.book.now c.visit_listed.new.watch c.visit_listed.new.book)
    (found_is a c.problem.result.now c.tally.result.now n c.listed_rules.result c.in_ok-found.found.items c.as_slice.result.now
    (c.problem.ensures ∙ ap (λ (b : Ledger). b.problem) book) (c.tally.ensures ∙ ap (λ (b : Ledger). b.tally) book) c.listed_rules.ensures c.as_slice.ensures.value c.in_ok-found.ensures)
    c.in_ok-visit_listed.ensures) in
    let turned = subst (λ (rs : List Rule). IsPassed a (instances_of (open_on a.tally) a.problem n rs) c.visit_listed.new.watch c.visit_listed.new.book c.visit_rules.new.watch c.visit_rules.new.book) c.turned_rules.ensures c.in_ok-visit_rules.ensures in
    subst (λ (es : List Instance). IsPassed a es c.args.watch.now c.args.book.now c.visit_rules.new.watch c.visit_rules.new.book) (all_visited (open_on a.tally) a.problem n)
    (both_passed a (instances_of (open_on a.tally) a.problem n listed_order) (instances_of (open_on a.tally) a.problem n turned_order) c.args.watch.now c.visit_listed.new.watch c.visit_rules.new.watch c.args.book.now c.visit_listed.new.book c.visit_rules.new.book listed turned)
