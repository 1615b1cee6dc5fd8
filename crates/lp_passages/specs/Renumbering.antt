-- Passing from original ids to the ids of the written program, which leaves deleted rows and columns out, and back.
use Rattle.std.specs.Prelude.{◌≡◌, ◌≢◌, ℕ, zero, suc, ◌<◌, ◌≤◌, false, List, [], ◌∷◌, length, slice_index, None}
use Rattle.fractions.specs.Number.{zero_ℚ}
use Rattle.fractions.specs.Total.{put}
use Rattle.lp_model.specs.Vectors.{Vector}
use Rattle.lp_model.specs.LinearProgram.{LinearProgram}
use Rattle.lp_model.specs.Reductions.{Priced}

-- ids from m on and below n, ascending
abbrev pub IdsFrom : ℕ → ℕ → List ℕ → Type 0
IdsFrom m n [] = Unit {0}
IdsFrom m n (k ∷ ks) = (m ≤ k) × (k < n) × IdsFrom (suc k) n ks

-- k is none of the ids
abbrev pub IsLeftOut : ℕ → List ℕ → Type 0
IsLeftOut k ids = (a : ℕ) → a < length ids → slice_index ids a ≢ k

-- row a is row rows[a] of M
abbrev pub with_rows_at : List ℕ → LinearProgram → LinearProgram
with_rows_at rows M = record M {
  rows = length rows;
  coefficient = λ a. M.coefficient (slice_index rows a);
  lower_side = λ a. M.lower_side (slice_index rows a);
  upper_side = λ a. M.upper_side (slice_index rows a);
}

-- column b is column columns[b] of M
abbrev pub with_columns_at : List ℕ → LinearProgram → LinearProgram
with_columns_at columns M = record M {
  columns = length columns;
  coefficient = λ a b. M.coefficient a (slice_index columns b);
  lower_bound = λ b. M.lower_bound (slice_index columns b);
  upper_bound = λ b. M.upper_bound (slice_index columns b);
  whole = λ b. M.whole (slice_index columns b);
  gap = λ b. M.gap (slice_index columns b);
  costs = λ b. M.costs (slice_index columns b);
}

-- The written program: row a of it is row rows[a] of M, column b is column columns[b].
abbrev pub written : LinearProgram → List ℕ → List ℕ → LinearProgram
written M rows columns = with_columns_at columns (with_rows_at rows M)

-- what is left out was deleted: such a row has no sides, such a column has no coefficients, no bounds and no cost, and is not whole
pub record IsRest (M : LinearProgram) (rows columns : List ℕ) : Type 0 where
  pub rows_ascend : IdsFrom 0 M.rows rows
  pub columns_ascend : IdsFrom 0 M.columns columns
  pub no_lower_side : (i : ℕ) → i < M.rows → IsLeftOut i rows → M.lower_side i ≡ None
  pub no_upper_side : (i : ℕ) → i < M.rows → IsLeftOut i rows → M.upper_side i ≡ None
  pub no_coefficient : (i j : ℕ) → j < M.columns → IsLeftOut j columns → M.coefficient i j ≡ zero_ℚ
  pub no_lower_bound : (j : ℕ) → j < M.columns → IsLeftOut j columns → M.lower_bound j ≡ None
  pub no_upper_bound : (j : ℕ) → j < M.columns → IsLeftOut j columns → M.upper_bound j ≡ None
  pub not_whole : (j : ℕ) → j < M.columns → IsLeftOut j columns → M.whole j ≡ false
  pub no_gap : (j : ℕ) → j < M.columns → IsLeftOut j columns → M.gap j ≡ None
  pub no_cost : (j : ℕ) → j < M.columns → IsLeftOut j columns → M.costs j ≡ zero_ℚ

-- numbers by new id, from those by original id
abbrev pub gathered : List ℕ → Vector → Vector
gathered ids x a = x (slice_index ids a)

-- numbers by original id, from those by new id: 0 where an id was left out
abbrev pub spread : List ℕ → Vector → Vector
spread [] x = λ k. zero_ℚ
spread (i ∷ ids) x = put (spread ids (λ a. x (suc a))) i (x zero)

abbrev pub spread_pair : List ℕ → List ℕ → Priced → Priced
spread_pair rows columns p = record { x = spread columns p.x; y = spread rows p.y; z = spread columns p.z }

abbrev pub gathered_pair : List ℕ → List ℕ → Priced → Priced
gathered_pair rows columns p = record { x = gathered columns p.x; y = gathered rows p.y; z = gathered columns p.z }
