use Rattle.std.proofs.Common.{List, Option, ap, ◌∙◌}
use Rattle.kept_sums.specs.declared.kept.KeptSums.{KeptSums}
use Rattle.sparse_problem.specs.KeptRows.{kept_at}
use Rattle.sparse_problem.proofs.Mending.{none_kept, none_pushed}
use Rattle.sparse_problem.proofs.kept_rows.nothing_kept.Goals as goal

pub loop-init : goal.loop-init
loop-init c i = ap (λ (ks : List (Option KeptSums)). kept_at ks i) c.in_ok-kept.ensures.items

pub loop-preserved : goal.loop-preserved
loop-preserved c i = ap (λ (ks : List (Option KeptSums)). kept_at ks i) c.in_ok-push.ensures.items ∙ none_pushed c.loop.kept.items c.loop.invariant i

pub returns : goal.returns
returns c p = none_kept p c.loop.kept.items c.loop.invariant
