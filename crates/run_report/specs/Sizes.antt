-- Sizes of programs and problems, and the rounds after which they are kept.
use Rattle.std.specs.Prelude.{ℕ, ◌-◌, ◌%◌, ◌^◌, Bool, cond, ◌||◌, nat_eq, nat_le, List, [], ◌∷◌, ◌++◌, length, min}
use Rattle.std.specs.List.{count_by, sum_by}
use Rattle.lp_model.specs.ProgramData.{ProgramData}
use Rattle.problem_model.specs.Sparse.{Sparse}
use Rattle.run_report.specs.declared.sizes.RoundSize.{RoundSize}
use Rattle.run_report.specs.declared.sizes.Size.{Size}

-- the rows and columns that are there, and the entries in both; these are counted up to the end of their type
abbrev pub size_in : Sparse → Size
size_in p = record {
  rows = count_by (λ line. line.live) p.matrix.rows;
  columns = count_by (λ line. line.live) p.matrix.columns;
  entries = min (sum_by (λ line. line.live_entries) p.matrix.rows) (2 ^ 64 - 1);
}

abbrev pub size_at_start : ProgramData → Size
size_at_start program = record {
  rows = length program.rows;
  columns = length program.columns;
  entries = min (sum_by (λ column. length column.entries) program.columns) (2 ^ 64 - 1);
}

-- the first ten rounds, and each tenth one
abbrev pub is_kept : ℕ → Bool
is_kept round = nat_le round 10 || nat_eq (round % 10) 0

-- with the size after a round, if it is kept
abbrev pub with_round : List RoundSize → ℕ → Sparse → List RoundSize
with_round sizes round p = cond (is_kept round) (sizes ++ record { round = round; size = size_in p } ∷ []) sizes
