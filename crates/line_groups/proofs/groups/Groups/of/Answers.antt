use Rattle.std.proofs.Common.{arith}
use Rattle.line_groups.specs.Steps.{count_in, key_by}
use Rattle.line_groups.proofs.Tables.{key_inside, more_stand}
use Rattle.line_groups.proofs.groups.Groups.of.Goals as goal

pub loop-id-preserved : goal.loop-id-preserved
loop-id-preserved c =
    let i = c.loop-id.invariant in
    let r = c.in_ok-renew.ensures i.table in
    record { table = r.table; each = more_stand c.loop-id.groups c.renew.new.self (count_in c.args.kind c.args.problem.now) (key_by c.args.problem.now c.args.kind) c.loop-id.id r i.each }

pub returns : goal.returns
returns c =
    let i = c.loop-id.invariant in
    let value = c.count-count.ensures.value in
    record { table = i.table; each = λ k m e. let l = key_inside c.args.problem.now c.args.kind k m e in i.each k m (omega (arith, l, value)) e }
