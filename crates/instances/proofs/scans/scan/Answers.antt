use Rattle.std.proofs.Common.{◌≡◌, IfOk, List, subst, sym}
use Rattle.std.specs.List.{range_with_len}
use Rattle.line_groups.specs.Groups.{AreGroupsOf}
use Rattle.presolve_model.specs.Given.{Proposed}
use Rattle.presolve_model.specs.Scans.{found_at}
use Rattle.presolve_model.specs.Tallies.{open_on}
use Rattle.instances.proofs.scans.scan.Goals as goal

pub scan_row-requires-clause-groups : goal.scan_row-requires-clause-groups
scan_row-requires-clause-groups c = subst (AreGroupsOf c.walk_over-walk.result.groups.now) (sym c.walk_over-walk.ensures.problem) c.walk_over-walk.ensures.groups

pub returns : goal.returns
returns c = let w = c.walk_over-walk.ensures in
    subst (λ (ps : List Proposed). IfOk c.scan_row.result (λ found. found.items ≡ ps))
    (λ t. found_at (open_on (w.tally t)) (w.problem t) (w.version t) c.args.rule (range_with_len (c.first.ensures t) 1024)) c.scan_row.ensures
