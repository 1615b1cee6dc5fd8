use Rattle.same_written.proofs.Behind.{joined, not_said, other_first, rest_says, terms_from}
use Rattle.same_written.proofs.entries.are_renumbered.Goals as goal

pub returns-in_default-behind_term : goal.returns-in_default-behind_term
returns-in_default-behind_term c = not_said (λ e. other_first _ _ _ _ c.in_default-behind_term.ensures.none
    (terms_from c.args.rows.now c.loop-rest.rest.now _ c.term-item.result c.in-len1-up.len_at_least c.term-item.is)
    (c.loop-rest.invariant.1 e))

pub loop-rest-preserved : goal.loop-rest-preserved
loop-rest-preserved c = joined (rest_says _ _ _ _ _ c.in-Some.ensures.some
    (terms_from c.args.rows.now c.loop-rest.rest.now _ c.term-item.result c.in-len1-up.len_at_least c.term-item.is))
    c.loop-rest.invariant
