use Rattle.line_groups.proofs.Tables.{adds}
use Rattle.line_groups.proofs.OnResults.{on_ok}
use Rattle.line_groups.proofs.groups.Groups.add.Goals as goal

pub returns : goal.returns
returns c count t l =
    let h = c.in_ok-number.ensures count t in
    on_ok c.put.result (adds c.args.self.now c.number_of.new.self c.put.new.self count c.args.key c.in_ok-number.number c.args.id h) (c.put.ensures count c.args.key h.table h.there l)
