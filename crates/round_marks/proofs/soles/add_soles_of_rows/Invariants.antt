use Rattle.std.proofs.Common.{◌≡◌, ℕ, ◌++◌, length}
use Rattle.std.specs.List.{flat_map}
use Rattle.undo_records.specs.Ids.{ids_of}
use Rattle.problem_model.specs.Problems.{row_entries}
use Rattle.round_marks.specs.Soles.{soles}
use Rattle.round_marks.proofs.soles.add_soles_of_rows.Given as goal

-- those so far, and those of the rows that are left
abbrev pub invariant-loop-rest : goal.invariant-loop-rest
invariant-loop-rest l = l.ids.items ++ flat_map (λ (i : ℕ). soles l.problem (ids_of (row_entries l.problem i))) l.rest ≡ l.initial.ids.items ++ flat_map (λ (i : ℕ). soles l.problem (ids_of (row_entries l.problem i))) l.rows

abbrev pub decreases-loop-rest : goal.decreases-loop-rest
decreases-loop-rest l = length l.rest
