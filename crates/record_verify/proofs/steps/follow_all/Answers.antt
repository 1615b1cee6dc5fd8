use Rattle.std.proofs.Common.{rules, ◌≡◌, ◌-◌, List, ◌∷◌, length, take, drop, sym, ap, ◌∙◌}
use Rattle.undo_records.specs.declared.undo.Undo.{Undo}
use Rattle.record_verify.proofs.Following.{first_and_rest, leads_next}
use Rattle.record_verify.proofs.steps.follow_all.Goals as goal

pub loop-rest-preserved : goal.loop-rest-preserved
loop-rest-preserved c =
    let rest : List Undo = c.loop-rest.rest.now in
    let u = c.undo-item.result in
    let split : u ∷ take (length rest - 1) (drop 1 rest) ≡ rest = ap (λ (x : Undo). x ∷ take (length rest - 1) (drop 1 rest)) c.undo-item.is ∙ first_and_rest rest u c.in-len1-up.len_at_least in
    leads_next c.args.problem.now c.args.records.now.undos c.args.records.now.transactions c.loop-rest.problem c.follow.new.problem u rest _ c.loop-rest.place _
    c.in-Some.transaction c.reads.result.now c.loop-rest.invariant (sym split) (search rules) (search rules) (search rules) (search rules)
