use Rattle.std.proofs.Common.{◌≡◌, sym, ap, ◌∙◌, Some}
use Rattle.line_groups.specs.Keys.{key_at}
use Rattle.line_groups.specs.Steps.{count_in, key_by}
use Rattle.line_groups.proofs.OnResults.{on_ok}
use Rattle.line_groups.proofs.Tables.{key_inside, renews}
use Rattle.line_groups.proofs.groups.Groups.renew.Goals as goal

pub returns-in-Some : goal.returns-in-Some
returns-in-Some c t =
    let p = c.args.problem.now in
    let e : key_by p c.args.kind c.args.id ≡ Some c.in-Some.key = sym (c.in-Some.ensures ∙ ap (key_at p) c.part.ensures) in
    on_ok c.add.result (renews c.args.self.now c.add.new.self (count_in c.args.kind p) (key_by p c.args.kind) c.in-Some.key c.args.id e)
    (c.add.ensures (count_in c.args.kind p) t (key_inside p c.args.kind c.args.id c.in-Some.key e))
