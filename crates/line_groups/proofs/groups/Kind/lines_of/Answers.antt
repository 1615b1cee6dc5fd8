use Rattle.line_groups.proofs.Tables.{lines_kept}
use Rattle.line_groups.proofs.groups.Kind.lines_of.Goals as goal

pub returns : goal.returns
returns c = lines_kept c.args.self c.args.parts.now c.in_ok-lines.lines.items c.sort_once.new.ids.items c.in_ok-lines.ensures c.in_ok-sort_once.ensures.kept
