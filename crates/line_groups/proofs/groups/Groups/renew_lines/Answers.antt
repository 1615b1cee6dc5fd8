use Rattle.std.proofs.Common.{ℕ, List, subst, sym, refl}
use Rattle.std.proofs.lemmas.List.{take_all, take_more}
use Rattle.line_groups.specs.Steps.{RenewsLines}
use Rattle.line_groups.proofs.Tables.{lines_more, no_lines}
use Rattle.line_groups.proofs.groups.Groups.renew_lines.Goals as goal

pub loop-line-init : goal.loop-line-init
loop-line-init c t = no_lines c.args.self.now c.args.problem.now c.args.kind _ t refl

pub loop-line-preserved : goal.loop-line-preserved
loop-line-preserved c t =
    let r = c.loop-line.invariant t in
    subst (λ (ks : List ℕ). RenewsLines c.args.self.now c.renew.new.self c.args.problem.now c.args.kind ks) (sym (take_more c.args.lines.now c.loop-line.line-index _ c.loop-line-test.true))
    (lines_more c.args.self.now c.loop-line.self c.renew.new.self c.args.problem.now c.args.kind _ _ r (c.in_ok-renew.ensures r.table))

pub returns : goal.returns
returns c t =
    subst (λ (ks : List ℕ). RenewsLines c.args.self.now c.loop-line.self c.args.problem.now c.args.kind ks) (take_all c.loop-line.line-index c.args.lines.now c.loop-line-test.false) (c.loop-line.invariant t)
