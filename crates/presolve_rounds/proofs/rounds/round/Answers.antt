use Rattle.std.proofs.Common.{List, ap, ap₂, inl, refl, ◌∙◌, subst, sym}
use Rattle.problem_model.specs.declared.part.Part.{Part}
use Rattle.problem_model.specs.Sparse.{Sparse}
use Rattle.line_groups.specs.Groups.{AreGroupsOf}
use Rattle.presolve_model.specs.Ledger.{instance_count, Ledger}
use Rattle.presolve_model.specs.Tallies.{open_on}
use Rattle.place_laws.specs.Choosing.{HoldsAround, visited}
use Rattle.round_marks.specs.Stamping.{AreStampsOf, restamped}
use Rattle.presolve_rounds.specs.Walking.{IsGoing, IsPassed}
use Rattle.presolve_rounds.proofs.Running.{groups_next, ready_begun, ready_next, round_committed, round_marked}
use Rattle.presolve_rounds.proofs.rounds.round.Goals as goal

pub pass-requires-clause-going : goal.pass-requires-clause-going
pass-requires-clause-going g c =
    let ready = ready_begun c.args.book.now c.args.stamps.now c.args.ids.now c.args.watch.now c.begin_round.new.self c.requires.ready c.begin_round.ensures in
    subst (λ (a : Ledger). IsGoing a c.begin_round.new.self c.args.book.now) (sym c.of-frozen.ensures) (record { began = ready.follows.sparse; follows = ready.follows; forms = ready.forms; noted = λ x. inl refl })

pub pass-requires-clause-begins : goal.pass-requires-clause-begins
pass-requires-clause-begins g c = c.of-frozen.ensures

pub pass-requires-clause-walk : goal.pass-requires-clause-walk
pass-requires-clause-walk g c = record {
  version = c.instance_count-version.ensures ∙ ap instance_count (sym c.of-frozen.ensures);
  stamps = subst (λ (a : Ledger). AreStampsOf c.args.stamps.now a.problem) (sym c.of-frozen.ensures) c.requires.ready.stamps;
  groups = subst (λ (a : Ledger). AreGroupsOf c.args.groups.now a.problem) (sym c.of-frozen.ensures) c.requires.groups;
}

pub returns-clause-committed : goal.returns-clause-committed
returns-clause-committed g c =
    let b : Ledger = c.args.book.now in
    round_committed b c.pass.new.book c.args.stamps.now c.args.ids.now c.begin_round.new.self c.pass.new.watch
    (ready_begun b c.args.stamps.now c.args.ids.now c.args.watch.now c.begin_round.new.self c.requires.ready c.begin_round.ensures)
    (subst (λ (a : Ledger). IsPassed a (visited (open_on a.tally) a.problem c.args.ids.now) c.begin_round.new.self b c.pass.new.watch c.pass.new.book) c.of-frozen.ensures c.in_ok-pass.ensures)

pub returns-clause-marked : goal.returns-clause-marked
returns-clause-marked g c =
    let b : Ledger = c.args.book.now in
    round_marked b c.pass.new.book c.args.stamps.now c.args.ids.now c.begin_round.new.self c.pass.new.watch
    (ready_begun b c.args.stamps.now c.args.ids.now c.args.watch.now c.begin_round.new.self c.requires.ready c.begin_round.ensures)
    (subst (λ (a : Ledger). IsPassed a (visited (open_on a.tally) a.problem c.args.ids.now) c.begin_round.new.self b c.pass.new.watch c.pass.new.book) c.of-frozen.ensures c.in_ok-pass.ensures)

pub returns-clause-ready : goal.returns-clause-ready
returns-clause-ready g c =
    let b : Ledger = c.args.book.now in
    ready_next b c.pass.new.book c.args.stamps.now c.args.ids.now c.begin_round.new.self c.pass.new.watch
    (ready_begun b c.args.stamps.now c.args.ids.now c.args.watch.now c.begin_round.new.self c.requires.ready c.begin_round.ensures)
    (subst (λ (a : Ledger). IsPassed a (visited (open_on a.tally) a.problem c.args.ids.now) c.begin_round.new.self b c.pass.new.watch c.pass.new.book) c.of-frozen.ensures c.in_ok-pass.ensures)
    c.refresh.new.self _
    (c.refresh.ensures ∙ ap₂ (λ (p : Sparse) (ps : List Part). restamped c.args.stamps.now p ps) c.problem.ensures c.noted.ensures)
    c.in_ok-ids.ensures.sorted (subst (λ (p : Sparse). HoldsAround p c.pass.new.watch.marks c.in_ok-ids.field-0) c.problem-3.ensures c.in_ok-ids.ensures.holds)

pub returns-clause-groups : goal.returns-clause-groups
returns-clause-groups g c =
    let b : Ledger = c.args.book.now in
    let h : IsPassed b (visited (open_on b.tally) b.problem c.args.ids.now) c.begin_round.new.self b c.pass.new.watch c.pass.new.book =
    subst (λ (a : Ledger). IsPassed a (visited (open_on a.tally) a.problem c.args.ids.now) c.begin_round.new.self b c.pass.new.watch c.pass.new.book) c.of-frozen.ensures c.in_ok-pass.ensures in
    groups_next c.args.groups.now c.refresh-2.new.self b c.pass.new.book c.pass.new.watch c.problem-2.result.now c.noted-2.result.now c.problem-2.ensures c.noted-2.ensures c.requires.groups h.passed.follows h.passed.moved c.in_ok-refresh.ensures

pub around-requires : goal.around-requires
around-requires g c =
    let b : Ledger = c.args.book.now in
    let h : IsPassed b (visited (open_on b.tally) b.problem c.args.ids.now) c.begin_round.new.self b c.pass.new.watch c.pass.new.book =
    subst (λ (a : Ledger). IsPassed a (visited (open_on a.tally) a.problem c.args.ids.now) c.begin_round.new.self b c.pass.new.watch c.pass.new.book) c.of-frozen.ensures c.in_ok-pass.ensures in
    subst (AreGroupsOf c.refresh-2.new.self) (sym c.problem-3.ensures)
    (groups_next c.args.groups.now c.refresh-2.new.self b c.pass.new.book c.pass.new.watch c.problem-2.result.now c.noted-2.result.now c.problem-2.ensures c.noted-2.ensures c.requires.groups h.passed.follows h.passed.moved c.in_ok-refresh.ensures)
