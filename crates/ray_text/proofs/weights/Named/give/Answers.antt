use Rattle.std.proofs.Common.{◌≡◌, Some, sym, ap, ◌∙◌, subst}
use Rattle.std.specs.Prelude.{is_some}
use Rattle.std.proofs.lemmas.Result.{err_from_is_err_and}
use Rattle.names.specs.Names.{place}
use Rattle.ray_text.specs.RayLines.{text_giving}
use Rattle.ray_text.proofs.Places.{held_at, put_place, told_twice, told_bad, told_none}
use Rattle.ray_text.proofs.NameTables.{name_at}
use Rattle.ray_text.proofs.weights.Named.give.Goals as goal

pub returns-then-is_some-clause-took : goal.returns-then-is_some-clause-took
returns-then-is_some-clause-took c = λ names before apart held.
    let here = subst (λ t. place c.args.giving.name.now t ≡ Some c.in-Some.id) held.table (sym c.in-Some.ensures.place) in
    let there = held_at names before c.args.giving.name.now c.in-Some.id c.args.self.now.weights.items c.index.result.now c.index.result.now held.weights here c.index.ensures in
    told_twice names before (text_giving c.args.giving) c.in-Some.id here (ap is_some (sym there) ∙ sym c.if-is_some.ensures)

pub returns-in_err-weights_of-clause-took : goal.returns-in_err-weights_of-clause-took
returns-in_err-weights_of-clause-took c = λ names before apart held.
    let here = subst (λ t. place c.args.giving.name.now t ≡ Some c.in-Some.id) held.table (sym c.in-Some.ensures.place) in
    let there = held_at names before c.args.giving.name.now c.in-Some.id c.args.self.now.weights.items c.index.result.now c.index.result.now held.weights here c.index.ensures in
    let bad = told_bad names before (text_giving c.args.giving) c.in-Some.id c.in_err-weights_of.field-0.0 here (ap is_some (sym there) ∙ sym c.if-is_some.ensures) c.in_err-weights_of.ensures in
    let p = err_from_is_err_and c.from_residual.result c.from_residual.ensures.1 in
    rw p.1 (bad ∙ ap Some (sym p.2))

pub returns-clause-took : goal.returns-clause-took
returns-clause-took c = λ names before apart held.
    let here = subst (λ t. place c.args.giving.name.now t ≡ Some c.in-Some.id) held.table (sym c.in-Some.ensures.place) in
    let there = held_at names before c.args.giving.name.now c.in-Some.id c.args.self.now.weights.items c.index.result.now c.index.result.now held.weights here c.index.ensures in
    let none = told_none names before (text_giving c.args.giving) c.in-Some.id c.in_ok-weights_of.field-0 here (ap is_some (sym there) ∙ sym c.if-is_some.ensures) c.in_ok-weights_of.ensures in
    let at = name_at c.args.giving.name.now names c.in-Some.id here in (
      none.0,
      record {
        table = held.table;
        weights = rw (← none.1, held.weights) (put_place names c.in-Some.id before (text_giving c.args.giving) apart at.0 at.1);
      },
    )
