use Rattle.std.proofs.Common.{◌+◌, [], ◌∷◌, ◌++◌, List, sym, ap, ◌∙◌}
use Rattle.presolve_model.specs.Given.{Proposed}
use Rattle.presolve_model.specs.Scans.{found_at}
use Rattle.presolve_model.specs.Tallies.{open_on}
use Rattle.instances.proofs.Scanning.{found_more}
use Rattle.instances.proofs.scans.scan_row.Goals as goal

pub loop-passed-preserved : goal.loop-passed-preserved
loop-passed-preserved c =
    c.in_ok-visit_at.ensures
    ∙ ap (λ (ps : List Proposed). ps ++ found_at (open_on c.args.walk.now.tally.now) c.args.walk.now.problem.now c.args.walk.now.version c.args.rule ((c.args.first + c.loop-passed.passed) ∷ [])) c.loop-passed.invariant
    ∙ sym (found_more (open_on c.args.walk.now.tally.now) c.args.walk.now.problem.now c.args.walk.now.version c.args.rule c.args.first c.loop-passed.passed)
