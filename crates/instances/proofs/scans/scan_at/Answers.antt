use Rattle.std.proofs.Common.{◌≡◌, IfOk, List, subst, sym}
use Rattle.line_groups.specs.Groups.{AreGroupsOf}
use Rattle.presolve_model.specs.Given.{Proposed}
use Rattle.presolve_model.specs.Scans.{found_at}
use Rattle.presolve_model.specs.Tallies.{open_on}
use Rattle.instances.proofs.scans.scan_at.Goals as goal

pub scan_ids-requires : goal.scan_ids-requires
scan_ids-requires c = subst (AreGroupsOf c.walk_over-walk.result.groups.now) (sym c.walk_over-walk.ensures.problem) c.walk_over-walk.ensures.groups

pub returns : goal.returns
returns c = let w = c.walk_over-walk.ensures in
    subst (λ (ps : List Proposed). IfOk c.scan_ids.result (λ found. found.items ≡ ps)) (λ t. found_at (open_on (w.tally t)) (w.problem t) (w.version t) c.args.rule c.args.ids.now) c.scan_ids.ensures
