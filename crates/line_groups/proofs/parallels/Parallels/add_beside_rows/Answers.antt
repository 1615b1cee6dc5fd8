use Rattle.std.proofs.Common.{ℕ, subst}
use Rattle.std.specs.Prelude.{OnOk}
use Rattle.std.specs.List.{Contains}
use Rattle.line_groups.specs.Groups.{LineGroups, group_at}
use Rattle.line_groups.proofs.parallels.Parallels.add_beside_rows.Goals as goal

pub returns-clause-holds : goal.returns-clause-holds
returns-clause-holds c =
    subst (λ (t : LineGroups). OnOk c.add_beside.result ((k m : ℕ) → Contains c.args.rows.now k → Contains (group_at t.rows k) m → Contains c.add_beside.new.ids.items m)) c.self.view_is
    c.add_beside.ensures.holds
