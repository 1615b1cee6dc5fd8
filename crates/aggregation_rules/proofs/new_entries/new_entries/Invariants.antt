use Rattle.std.proofs.Common.{◌≡◌, ℕ, ◌≤◌, ◌<◌, length, map, take, slice_index_or}
use Rattle.std.specs.List.{All}
use Rattle.lp_model.specs.Sparse.{Ascends, dense}
use Rattle.lp_model.specs.declared.terms.Term.{Term}
use Rattle.problem_model.specs.Problems.{column_entries}
use Rattle.aggregation_laws.specs.DoubletonEquation.{entry_less}
use Rattle.aggregation_rules.specs.Parts.{EntryFits}
use Rattle.aggregation_rules.proofs.new_entries.new_entries.Given as goal

-- the entries so far, of which no number is past; and what is left of the kept column says the entries that are to come
abbrev pub invariant-loop-term : goal.invariant-loop-term
invariant-loop-term l =
    (l.all.items ≡ map (entry_less l.problem l.other l.factor) (take l.term-index l.terms))
    × All (EntryFits l.problem l.other l.factor) (take l.term-index l.terms)
    × Ascends 0 (length l.problem.matrix.rows) l.rest
    × ((d : ℕ) (x : Term) → l.term-index ≤ d → d < length l.terms → dense l.rest (slice_index_or l.terms d x).id ≡ dense (column_entries l.problem l.other) (slice_index_or l.terms d x).id)
