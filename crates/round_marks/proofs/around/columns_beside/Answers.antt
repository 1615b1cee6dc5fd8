use Rattle.std.proofs.Common.{List, ℕ, sym, subst}
use Rattle.std.specs.List.{Contains}
use Rattle.round_marks.proofs.Sorting.{columns_led}
use Rattle.round_marks.proofs.around.columns_beside.Goals as goal

pub returns-clause-holds : goal.returns-clause-holds
returns-clause-holds c =
    λ parts among.
    columns_led c.args.groups.now c.args.problem.now c.is_sparse.ensures c.requires parts c.args.columns.now c.add_beside_columns.new.ids.items c.sort_ids.new.ids.items among
    (λ k d. c.in_ok-add_beside_columns.ensures.kept k (subst (λ (ks : List ℕ). Contains ks k) (sym c.in_ok-ids.ensures.items) d))
    (λ k m d e. c.in_ok-add_beside_columns.ensures.holds k m d e)
    c.in_ok-sort_ids.ensures.kept
