use Rattle.std.proofs.Common.{◌≡◌, List, ◌++◌, ap, subst, ◌∙◌, sym}
use Rattle.std.specs.List.{filter}
use Rattle.dual_rules.specs.Footprints.{AreFootprints}
use Rattle.problem_model.specs.Sparse.{Sparse}
use Rattle.presolve_model.specs.declared.instance.Instance.{Instance}
use Rattle.presolve_model.specs.declared.instance.Rule.TheVariants as rule_of
use Rattle.presolve_model.specs.Enabled.{enabled_on}
use Rattle.presolve_model.specs.Instances.{instances_from}
use Rattle.presolve_model.specs.Ledger.{instance_count, Ledger}
use Rattle.presolve_model.specs.Tallies.{open_on}
use Rattle.round_laws.proofs.Thinning.{passed_found}
use Rattle.presolve_rounds.specs.Walking.{IsPassed}
use Rattle.presolve_rounds.proofs.dominated.visit_row.Goals as goal

pub add_dominated-requires : goal.add_dominated-requires
add_dominated-requires c = subst (λ (p : Sparse). AreFootprints p c.args.footprints.now) (sym c.problem.ensures) c.requires.kept

pub visit_pairs-requires-clause-kept : goal.visit_pairs-requires-clause-kept
visit_pairs-requires-clause-kept c = subst (λ (p : Sparse). AreFootprints p c.add_dominated.new.footprints) c.problem.ensures c.add_dominated.ensures.kept

pub returns-clause-passed : goal.returns-clause-passed
returns-clause-passed c =
    let a : Ledger = c.args.walk.now.frozen.now.value in
    let b : Ledger = c.args.book.now in
    let found : c.as_slice.result.now ≡ filter (enabled_on b.problem) (instances_from (open_on b.tally) b.problem rule_of.DominatedColumn c.args.row) =
    c.as_slice.ensures.value ∙ c.in_ok-add_dominated.ensures.found
    ∙ ap (λ (es : List Instance). es ++ filter (enabled_on c.problem.result.now) (instances_from (open_on b.tally) c.problem.result.now rule_of.DominatedColumn c.args.row)) c.new-found.ensures.items
    ∙ ap (λ (p : Sparse). filter (enabled_on p) (instances_from (open_on b.tally) p rule_of.DominatedColumn c.args.row)) c.problem.ensures in
    let h : IsPassed a (filter (enabled_on b.problem) (instances_from (open_on b.tally) b.problem rule_of.DominatedColumn c.args.row)) c.args.watch.now b c.visit_pairs.new.watch c.visit_pairs.new.book =
    subst (λ (es : List Instance). IsPassed a es c.args.watch.now b c.visit_pairs.new.watch c.visit_pairs.new.book) found c.in_ok-visit_pairs.ensures.passed in
    record {
      passed = passed_found (open_on a.tally) a.problem (instance_count a) rule_of.DominatedColumn c.args.row c.args.watch.now.marks c.visit_pairs.new.watch.marks b c.visit_pairs.new.book c.requires.going.follows h.passed;
      forms = h.forms;
    }
