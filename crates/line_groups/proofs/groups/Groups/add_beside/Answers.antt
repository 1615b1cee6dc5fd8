use Rattle.line_groups.proofs.OnResults.{on_ok}
use Rattle.line_groups.proofs.Tables.{ids_beside, kept_beside}
use Rattle.line_groups.proofs.groups.Groups.add_beside.Goals as goal

pub returns-clause-kept : goal.returns-clause-kept
returns-clause-kept c = on_ok c.add_groups.result
    (kept_beside c.args.self.now c.args.lines.now c.as_slice.result.now c.args.ids.now.items c.add_all_lone.new.ids.items c.add_groups.new.ids.items c.in_ok-numbers.ensures.ids) c.add_groups.ensures

pub returns-clause-holds : goal.returns-clause-holds
returns-clause-holds c = on_ok c.add_groups.result
    (ids_beside c.args.self.now c.args.lines.now c.in_ok-numbers.numbers.items c.keep_once.new.numbers.items c.as_slice.result.now c.args.ids.now.items c.add_all_lone.new.ids.items c.add_groups.new.ids.items c.in_ok-numbers.ensures.ids c.in_ok-numbers.ensures.numbers
    c.keep_once.ensures c.as_slice.ensures.value)
    c.add_groups.ensures
