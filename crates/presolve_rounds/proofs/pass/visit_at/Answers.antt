use Rattle.std.proofs.Common.{◌≡◌, ℕ, ◌++◌, List, map, sym, ap, ◌∙◌, subst, true≢false}
use Rattle.std.specs.List.{filter}
use Rattle.presolve_model.specs.declared.instance.Instance.{Instance}
use Rattle.presolve_model.specs.Enabled.{enabled_on}
use Rattle.presolve_model.specs.Instances.{beside_at, instances_from}
use Rattle.presolve_model.specs.Ledger.{instance_count, Ledger}
use Rattle.presolve_model.specs.Tallies.{open_on}
use Rattle.round_laws.proofs.Thinning.{passed_found}
use Rattle.presolve_rounds.specs.Walking.{AreAlike, IsPassed}
use Rattle.presolve_rounds.proofs.Beside.{passed_lines}
use Rattle.presolve_rounds.proofs.Sharing.{found_alike}
use Rattle.presolve_rounds.proofs.pass.visit_at.Goals as goal

pub visit_alike-requires-clause-alike : goal.visit_alike-requires-clause-alike
visit_alike-requires-clause-alike c =
    let b : Ledger = c.args.book.now in
    let found : c.as_slice.result.now ≡ filter (enabled_on b.problem) (instances_from (open_on b.tally) b.problem c.args.rule c.args.id) =
    c.as_slice.ensures.value ∙ c.in_ok-add_enabled.ensures
    ∙ ap (λ (es : List Instance). es ++ filter (enabled_on c.problem.result.now) (instances_from (open_on c.tally.result.now) c.problem.result.now c.args.rule c.args.id)) c.new-found.ensures.items
    ∙ (λ t. filter (enabled_on (c.problem.ensures t)) (instances_from (open_on (c.tally.ensures t)) (c.problem.ensures t) c.args.rule c.args.id)) in
    subst (AreAlike b) (sym found) (found_alike b c.args.rule c.args.id (sym c.shares_reading.ensures ∙ c.if-shares_reading.true))

pub returns-then-shares_reading : goal.returns-then-shares_reading
returns-then-shares_reading c =
    let a : Ledger = c.args.walk.now.frozen.now.value in
    let b : Ledger = c.args.book.now in
    let found : c.as_slice.result.now ≡ filter (enabled_on b.problem) (instances_from (open_on b.tally) b.problem c.args.rule c.args.id) =
    c.as_slice.ensures.value ∙ c.in_ok-add_enabled.ensures
    ∙ ap (λ (es : List Instance). es ++ filter (enabled_on c.problem.result.now) (instances_from (open_on c.tally.result.now) c.problem.result.now c.args.rule c.args.id)) c.new-found.ensures.items
    ∙ (λ t. filter (enabled_on (c.problem.ensures t)) (instances_from (open_on (c.tally.ensures t)) (c.problem.ensures t) c.args.rule c.args.id)) in
    let h : IsPassed a (filter (enabled_on b.problem) (instances_from (open_on b.tally) b.problem c.args.rule c.args.id)) c.args.watch.now b c.visit_alike.new.watch c.visit_alike.new.book =
    subst (λ (es : List Instance). IsPassed a es c.args.watch.now b c.visit_alike.new.watch c.visit_alike.new.book) found c.in_ok-visit_alike.ensures in
    record {
      passed = passed_found (open_on a.tally) a.problem (instance_count a) c.args.rule c.args.id c.args.watch.now.marks c.visit_alike.new.watch.marks b c.visit_alike.new.book c.requires.going.follows h.passed;
      forms = h.forms;
    }

pub returns : goal.returns
returns c =
    let a : Ledger = c.args.walk.now.frozen.now.value in
    let b : Ledger = c.args.book.now in
    let found : c.as_slice-2.result.now ≡ filter (enabled_on b.problem) (instances_from (open_on b.tally) b.problem c.args.rule c.args.id) =
    c.as_slice-2.ensures.value ∙ c.in_ok-add_enabled.ensures
    ∙ ap (λ (es : List Instance). es ++ filter (enabled_on c.problem.result.now) (instances_from (open_on c.tally.result.now) c.problem.result.now c.args.rule c.args.id)) c.new-found.ensures.items
    ∙ (λ t. filter (enabled_on (c.problem.ensures t)) (instances_from (open_on (c.tally.ensures t)) (c.problem.ensures t) c.args.rule c.args.id)) in
    let h : IsPassed a (filter (enabled_on b.problem) (instances_from (open_on b.tally) b.problem c.args.rule c.args.id)) c.args.watch.now b c.visit_found.new.watch c.visit_found.new.book =
    subst (λ (es : List Instance). IsPassed a es c.args.watch.now b c.visit_found.new.watch c.visit_found.new.book) found c.in_ok-visit_found.ensures in
    record {
      passed = passed_found (open_on a.tally) a.problem (instance_count a) c.args.rule c.args.id c.args.watch.now.marks c.visit_found.new.watch.marks b c.visit_found.new.book c.requires.going.follows h.passed;
      forms = h.forms;
    }

pub add_enabled-requires : goal.add_enabled-requires
add_enabled-requires c t = absurd (true≢false (sym t ∙ sym c.goes_by_groups.ensures ∙ c.if-goes_by_groups.false))

pub returns-then-goes_by_groups : goal.returns-then-goes_by_groups
returns-then-goes_by_groups c =
    let a : Ledger = c.args.walk.now.frozen.now.value in
    let b : Ledger = c.args.book.now in
    passed_lines a c.args.walk.now.groups.now c.args.rule c.args.id c.args.watch.now c.visit_beside.new.watch b c.visit_beside.new.book c.requires.walk.groups (sym c.goes_by_groups.ensures ∙ c.if-goes_by_groups.true) c.requires.going
    (subst (λ (ks : List ℕ). IsPassed a (map (beside_at c.args.rule c.args.id) ks) c.args.watch.now b c.visit_beside.new.watch c.visit_beside.new.book) c.lines_beside-others.ensures c.in_ok-visit_beside.ensures)

pub returns-in-Some : goal.returns-in-Some
returns-in-Some c =
    let a : Ledger = c.args.walk.now.frozen.now.value in
    subst (λ (es : List Instance). IsPassed a es c.args.watch.now c.args.book.now c.visit.new.watch c.visit.new.book) (sym (c.in-Some.ensures (open_on a.tally) a.problem)) c.in_ok-visit.ensures.passed
