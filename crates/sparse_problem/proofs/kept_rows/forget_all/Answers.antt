use Rattle.std.proofs.Common.{List, Option, ap}
use Rattle.kept_sums.specs.declared.kept.KeptSums.{KeptSums}
use Rattle.sparse_problem.specs.KeptRows.{kept_at}
use Rattle.sparse_problem.proofs.Mending.{none_kept}
use Rattle.sparse_problem.proofs.kept_rows.forget_all.Goals as goal

pub returns : goal.returns
returns c q = none_kept q c.clear.new.self.items (λ i. ap (λ (ks : List (Option KeptSums)). kept_at ks i) c.clear.ensures.items)
