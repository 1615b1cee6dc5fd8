-- Problems of programs.
use Rattle.std.proofs.Common.{◌≡◌, ℕ, ◌<◌, ◌^◌, List, length, map, sym, ap, ◌∙◌, subst}
use Rattle.std.specs.List.{All}
use Rattle.std.proofs.lemmas.List.{length-map}
use Rattle.fractions.specs.Number.{zero_ℚ}
use Rattle.lp_model.specs.declared.program.ColumnDef.{ColumnDef}
use Rattle.lp_model.specs.ProgramData.{ProgramData}
use Rattle.lp_model.specs.Sparse.{Ascends}
use Rattle.lp_model.specs.Writable.{EntriesAscend}
use Rattle.lp_model.specs.Turning.{signed}
use Rattle.problem_model.specs.declared.line.Line.{Line}
use Rattle.problem_model.specs.Sparse.{Sparse}
use Rattle.problem_model.specs.Matrices.{line_at, IsMatrix}
use Rattle.problem_model.specs.Problems.{IsSparse}
use Rattle.problem_model.specs.Programs.{bounds_of, line_of, sides_of}
use Rattle.entry_lines.specs.Across.{across}
use Rattle.entry_lines.proofs.Crossing.{lines_of, matrix_of}

-- the parts of a problem, as they are made of a program
pub record AreParts (program : ProgramData) (p : Sparse) : Type 0 where
  pub entries : EntriesAscend program
  pub few_rows : length program.rows < 2 ^ 32
  pub few_columns : length program.columns < 2 ^ 32
  pub long : length p.matrix.rows ≡ length program.rows
  pub rows : (i : ℕ) → i < length program.rows → line_at p.matrix.rows i ≡ line_of (across i 0 program.columns)
  pub columns : p.matrix.columns ≡ lines_of program.columns
  pub sides : p.sides ≡ map sides_of program.rows
  pub bounds : p.bounds ≡ map bounds_of program.columns
  pub costs : p.costs ≡ map (λ c. signed program.sense c.cost) program.columns
  pub offset : p.offset ≡ zero_ℚ
  pub constant : p.constant ≡ signed program.sense program.constant

pub parts_sparse : (program : ProgramData) (p : Sparse) → AreParts program p → IsSparse p
parts_sparse program p h = record {
  matrix = subst (λ (ls : List Line). IsMatrix (record { rows = p.matrix.rows; columns = ls })) (sym h.columns)
      (matrix_of p.matrix.rows program.columns
      (subst (λ (n : ℕ). All (λ (c : ColumnDef). Ascends 0 n c.entries) program.columns) (sym h.long) h.entries)
      (λ i l. h.rows i (subst (λ (n : ℕ). i < n) h.long l)));
  few_rows = subst (λ (n : ℕ). n < 2 ^ 32) (sym h.long) h.few_rows;
  few_columns = subst (λ (n : ℕ). n < 2 ^ 32) (sym wide) h.few_columns;
  sides = ap length h.sides ∙ length-map program.rows sides_of ∙ sym h.long;
  bounds = ap length h.bounds ∙ length-map program.columns bounds_of ∙ sym wide;
  costs = ap length h.costs ∙ length-map program.columns (λ c. signed program.sense c.cost) ∙ sym wide;
}
  where
    wide : length p.matrix.columns ≡ length program.columns
    wide = ap length h.columns ∙ length-map program.columns (λ c. line_of c.entries)
