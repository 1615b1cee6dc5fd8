-- K3: a column whose bounds are one number v is deleted, with x_j = v.
use Rattle.std.specs.Prelude.{◌≡◌, ℕ, ◌<◌, IsTrue, Some, None}
use Rattle.fractions.specs.Number.{Number, ◌*ℚ◌}
use Rattle.fractions.specs.Floor.{IsWhole}
use Rattle.fractions.specs.Total.{put}
use Rattle.lp_model.specs.Vectors.{Vector}
use Rattle.lp_model.specs.LinearProgram.{LinearProgram}
use Rattle.lp_model.specs.Optimality.{reduced_cost}
use Rattle.lp_model.specs.Reductions.{Priced}
use Rattle.lp_model.specs.Edits.{without_column}

-- enabled at column j: l = u = v, whole if the column is
pub record IsFixedColumn (M : LinearProgram) (j : ℕ) (v : Number) : Type 0 where
  pub column : j < M.columns
  pub lower : M.lower_bound j ≡ Some v
  pub upper : M.upper_bound j ≡ Some v
  pub whole : IsTrue (M.whole j) → IsWhole v
  pub solid : M.gap j ≡ None

-- the column is deleted, and a v leaves the sides of its rows
abbrev pub fixed_column_deleted : LinearProgram → ℕ → Number → LinearProgram
fixed_column_deleted M j v = without_column M j v

-- the offset gains c v
abbrev pub fixed_column_offset : LinearProgram → ℕ → Number → Number
fixed_column_offset M j v = M.costs j *ℚ v

-- x_j = v
abbrev pub undo_fixed_column : ℕ → Number → Vector → Vector
undo_fixed_column j v x = put x j v

-- and z_j is its cost less the sum of the duals times its entries
abbrev pub undo_fixed_column_pair : LinearProgram → ℕ → Number → Priced → Priced
undo_fixed_column_pair M j v p = record p { x = undo_fixed_column j v p.x; z = put p.z j (reduced_cost M p.y j) }
