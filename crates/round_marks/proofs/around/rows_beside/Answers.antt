use Rattle.std.proofs.Common.{List, ℕ, sym, subst}
use Rattle.std.specs.List.{Contains}
use Rattle.round_marks.proofs.Sorting.{rows_led}
use Rattle.round_marks.proofs.around.rows_beside.Goals as goal

pub returns-clause-holds : goal.returns-clause-holds
returns-clause-holds c =
    λ parts among.
    rows_led c.args.groups.now c.args.problem.now c.is_sparse.ensures c.requires parts c.args.rows.now c.add_beside_rows.new.ids.items c.sort_ids.new.ids.items among
    (λ k d. c.in_ok-add_beside_rows.ensures.kept k (subst (λ (ks : List ℕ). Contains ks k) (sym c.in_ok-ids.ensures.items) d))
    (λ k m d e. c.in_ok-add_beside_rows.ensures.holds k m d e)
    c.in_ok-sort_ids.ensures.kept
