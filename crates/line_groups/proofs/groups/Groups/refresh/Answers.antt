use Rattle.std.proofs.Common.{ℕ, List, subst, sym}
use Rattle.std.specs.List.{Contains}
use Rattle.line_groups.specs.Steps.{count_in}
use Rattle.line_groups.proofs.OnResults.{on_ok}
use Rattle.line_groups.proofs.Tables.{recounted, refreshed}
use Rattle.line_groups.proofs.groups.Groups.refresh.Goals as goal

pub returns : goal.returns
returns c f g e same =
    let p = c.args.problem.now in
    on_ok c.renew_lines.result (refreshed c.args.self.now c.renew_lines.new.self p f c.args.kind c.args.parts.now c.as_slice.result.now g same
    (λ k d. subst (λ (ks : List ℕ). Contains ks k) (sym c.as_slice.ensures.value) (c.in_ok-lines.ensures k d)))
    (c.renew_lines.ensures (recounted c.args.self.now (count_in c.args.kind p) (count_in c.args.kind f) e g.table))
