use Rattle.std.proofs.Common.{◌≡◌, ◌++◌, ◌∙◌, ℕ}
use Rattle.std.specs.List.{flat_map}
use Rattle.undo_records.specs.Ids.{ids_of}
use Rattle.problem_model.specs.Matrices.{line_at, live_only}
use Rattle.problem_model.specs.Problems.{column_entries}
use Rattle.round_marks.proofs.Sorting.{bounds_led}
use Rattle.round_marks.proofs.around.rows_of_bounds.Goals as goal

pub returns-clause-holds : goal.returns-clause-holds
returns-clause-holds c =
    let p = c.args.problem.now in
    let mid : c.add_across.new.ids.items ≡ c.in_ok-ids.ids.items ++ flat_map (λ (j : ℕ). ids_of (column_entries p j)) c.sort_ids.new.ids.items =
    c.in_ok-add_across.ensures ∙ (λ t. c.in_ok-ids.ids.items ++ flat_map (λ (k : ℕ). ids_of (live_only (c.rows.ensures t) (line_at (c.columns.ensures t) k).entries)) (c.as_slice.ensures.value t)) in
    bounds_led p c.args.parts.now c.in_ok-ids.ids.items c.in_ok-columns.columns.items c.sort_ids.new.ids.items c.add_across.new.ids.items c.sort_ids-2.new.ids.items c.in_ok-ids.ensures c.in_ok-columns.ensures c.in_ok-sort_ids.ensures.kept mid c.in_ok-sort_ids-2.ensures.kept
