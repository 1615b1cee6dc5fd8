use Rattle.std.proofs.Common.{◌≡◌, false, ℕ, List, [], ◌∷◌, map, sym, subst, ap, ◌∙◌}
use Rattle.problem_model.specs.Sparse.{Sparse}
use Rattle.presolve_model.specs.declared.instance.Instance.{Instance}
use Rattle.presolve_model.specs.Instances.{beside_at}
use Rattle.round_marks.proofs.Watching.{first_and_rest}
use Rattle.presolve_rounds.specs.Lines.{has_line}
use Rattle.presolve_rounds.specs.Walking.{IsPassed}
use Rattle.presolve_rounds.proofs.Beside.{IsUnderway, underway_first, underway_gone, underway_next, underway_none}
use Rattle.presolve_rounds.proofs.pass.visit_beside.Goals as goal

pub loop-rest-init : goal.loop-rest-init
loop-rest-init c = underway_first c.args.walk.now.frozen.now.value (map (beside_at c.args.rule c.args.id) c.args.others.now) c.args.watch.now c.args.book.now c.requires.going

pub visit-requires-clause-going : goal.visit-requires-clause-going
visit-requires-clause-going c = c.loop-rest.invariant.going

pub returns : goal.returns
returns c = underway_none c.args.walk.now.frozen.now.value c.args.rule c.args.id (map (beside_at c.args.rule c.args.id) c.args.others.now) c.args.watch.now c.args.book.now c.loop-rest.rest.now c.loop-rest.watch c.loop-rest.book c.in_default.len_below c.loop-rest.invariant

pub returns-then-not-is_line_live : goal.returns-then-not-is_line_live
returns-then-not-is_line_live c =
    let off : has_line c.loop-rest.book.problem c.args.rule c.args.id ≡ false = ap (λ (p : Sparse). has_line p c.args.rule c.args.id) (sym c.problem.ensures) ∙ sym c.is_line_live.ensures ∙ c.if-not-is_line_live.true in
    underway_gone c.args.walk.now.frozen.now.value c.args.rule c.args.id (map (beside_at c.args.rule c.args.id) c.args.others.now) c.args.watch.now c.args.book.now c.loop-rest.rest.now c.loop-rest.watch c.loop-rest.book off c.loop-rest.invariant

pub loop-rest-preserved : goal.loop-rest-preserved
loop-rest-preserved c =
    let a = c.args.walk.now.frozen.now.value in
    let all : List Instance = map (beside_at c.args.rule c.args.id) c.args.others.now in
    underway_next a all c.args.watch.now c.args.book.now _ _ c.loop-rest.watch c.visit.new.watch c.loop-rest.book c.visit.new.book
    (subst (λ (ks : List ℕ). IsUnderway a all c.args.watch.now c.args.book.now (map (beside_at c.args.rule c.args.id) ks) c.loop-rest.watch c.loop-rest.book) (sym (first_and_rest c.loop-rest.rest.now _ c.in-len1-up.len_at_least)) c.loop-rest.invariant)
    (subst (λ (e : Instance). IsPassed a (e ∷ []) c.loop-rest.watch c.loop-rest.book c.visit.new.watch c.visit.new.book) c.instance_beside-instance.ensures c.in_ok-visit.ensures.passed)
