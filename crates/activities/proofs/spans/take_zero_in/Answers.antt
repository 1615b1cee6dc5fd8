use Rattle.std.proofs.Common.{rules, ap₂, ◌∙◌, ◌-◌, slice_set}
use Rattle.activities.proofs.LastEntry.{last_with_zero}
use Rattle.activities.proofs.spans.take_zero_in.Goals as goal

pub returns-in-Some : goal.returns-in-Some
returns-in-Some c = λ before s e.
    ap₂ (λ l u. slice_set c.args.spans.now.items (c.args.spans.now.len - 1) (record c.in-Some.span.now { lower = l; upper = u })) c.reach_lower-lower.ensures c.reach_upper-span.ensures
    ∙ last_with_zero c.args.spans.now.items before s c.in-Some.span.now c.args.spans.now.len e (search rules) c.in-Some.ensures.value
