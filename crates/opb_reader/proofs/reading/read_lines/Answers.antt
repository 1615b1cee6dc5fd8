use Rattle.std.proofs.Common.{◌≡◌, ◌∙◌, ◌+◌, length, ap, arith, Bool, cond, Some, None}
use Rattle.std.proofs.lemmas.Bool.Decides.{nat_tests}
use Rattle.opb_text.specs.declared.faults.OpbFaultKind.TheVariants.{NoEnd}
use Rattle.opb_reader.proofs.Walking.{all_tokens, at_end, going_few, rest_on, rest_stops}
use Rattle.opb_reader.proofs.reading.read_lines.Goals as goal

pub returns-in-Some : goal.returns-in-Some
returns-in-Some c =
    let going = c.loop-rest.invariant in
    rest_stops _ _ c.loop-rest.number c.loop-rest.reader c.line.new.self c.first_line.result.0.now c.first_line.result.1.now c.in_ok-kind.field-0 c.in-Some.kind going c.first_line.ensures.first c.in-Some.is
    (c.in_ok-kind.ensures going.before going.holds (going_few _ _ _ _ c.first_line.result.0.now c.first_line.result.1.now going c.requires c.first_line.ensures.first))

pub loop-rest-preserved : goal.loop-rest-preserved
loop-rest-preserved c =
    let going = c.loop-rest.invariant in
    rest_on _ _ c.loop-rest.number c.loop-rest.reader c.line.new.self c.first_line.result.0.now c.first_line.result.1.now c.in_ok-kind.field-0 going c.first_line.ensures.first c.first_line.ensures.shorter c.in_default.is
    (c.in_ok-kind.ensures going.before going.holds (going_few _ _ _ _ c.first_line.result.0.now c.first_line.result.1.now going c.requires c.first_line.ensures.first))

pub returns-then-may_end : goal.returns-then-may_end
returns-then-may_end c =
    let none : length c.loop-rest.rest.now ≡ 0 = grind (arith, nat_tests, c.loop-rest-test.ensures) in (
      at_end _ _ _ _ c.may_end.result c.loop-rest.invariant none c.may_end.ensures ∙ ap (λ (b : Bool). cond b None (Some (NoEnd, c.loop-rest.number + 1))) c.if-may_end.true,
      all_tokens _ _ _ _ c.loop-rest.invariant none,
    )

pub returns : goal.returns
returns c =
    at_end _ _ _ _ c.may_end.result c.loop-rest.invariant (grind (arith, nat_tests, c.loop-rest-test.ensures)) c.may_end.ensures ∙ ap (λ (b : Bool). cond b None (Some (NoEnd, c.loop-rest.number + 1))) c.if-may_end.false
