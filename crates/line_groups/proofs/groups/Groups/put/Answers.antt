use Rattle.std.proofs.Common.{◌≡◌, ◌<◌, arith, refl, subst, nat_eq, Some}
use Rattle.std.specs.Prelude.{position}
use Rattle.line_groups.specs.Groups.{Grouped, IsTable}
use Rattle.line_groups.specs.Steps.{Adds}
use Rattle.line_groups.proofs.Positions.{place_within}
use Rattle.line_groups.proofs.Tables.{put_adds}
use Rattle.line_groups.proofs.groups.Groups.put.Goals as goal

pub returns : goal.returns
returns c count key =
    let old : Grouped = record { keys = c.self.inside.keys.keys; numbers = c.self.inside.numbers.items; groups = c.self.inside.groups.items } in
    let new : Grouped = record { keys = c.self.inside.keys.keys; numbers = c.set_number.new.numbers.items; groups = c.add_to.new.groups.items } in
    subst (λ (g : Grouped). IsTable g count → position (nat_eq key) g.keys ≡ Some c.args.number → c.args.id < count → Adds g new count key c.args.id) c.self.view_is
    (λ (t : IsTable old count) (e : position (nat_eq key) old.keys ≡ Some c.args.number) (l : c.args.id < count).
    let within = (place_within (nat_eq key) old.keys c.args.number e).1 in
    let long = t.long in let paired = t.paired in
    put_adds old new count key c.args.number c.args.id t e l refl (c.set_number.ensures (omega (arith, l, long))) (c.in_ok-add_to.ensures (omega (arith, within, paired))))
