-- When the sums that are made of a ray's weights have room.
use Rattle.std.specs.Prelude.{ℕ, zero, suc, ⊤, Option, Some, None}
use Rattle.fractions.specs.Number.{Number, neg_ℚ, zero_ℚ, ◌+ℚ◌, ◌-ℚ◌, ◌*ℚ◌}
use Rattle.fractions.specs.Lowest.{Fits}
use Rattle.fractions.specs.Total.{total}
use Rattle.fractions.specs.FracWords.{SumFits}
use Rattle.lp_model.specs.Vectors.{Vector}
use Rattle.lp_model.specs.LinearProgram.{LinearProgram}
use Rattle.lp_model.specs.Meaning.{meaning, column_at}
use Rattle.lp_model.specs.ProgramData.{ProgramData}
use Rattle.lp_rays.specs.Nets.{NetFits}
use Rattle.lp_rays.specs.Ray.{Weights, worth}

-- ---- the sum of a column
-- the sum of (s_i - t_i) a_ij over the rows
abbrev pub rows_net : LinearProgram → Weights → ℕ → Number
rows_net M w j = total M.rows (λ i. (w.s i -ℚ w.t i) *ℚ M.coefficient i j)

-- the sum of column j: over its entries alone, for a row without one has no part in it; then plus p_j, and less q_j
pub record ColumnFits (d : ProgramData) (w : Weights) (j : ℕ) : Type 0 where
  pub entries : NetFits zero_ℚ (column_at d j).entries w
  pub lower : SumFits (rows_net (meaning d) w j) (w.p j)
  pub upper : SumFits (rows_net (meaning d) w j +ℚ w.p j) (neg_ℚ (w.q j))

-- ---- the total
-- r plus what a weight of an end is worth: an infinite end gives no term
abbrev pub WorthFits : Number → Option Number → Number → Type 0
WorthFits r None w = ⊤
WorthFits r (Some e) w = Fits (w *ℚ e) × SumFits r (w *ℚ e)

-- what the weights of the first n ends are worth
abbrev pub worth_of : ℕ → (ℕ → Option Number) → Vector → Number
worth_of n e w = total n (λ k. worth (e k) (w k))

abbrev pub WorthsFit : ℕ → (ℕ → Option Number) → Vector → Type 0
WorthsFit zero e w = ⊤
WorthsFit (suc n) e w = WorthsFit n e w × WorthFits (worth_of n e w) (e n) (w n)

-- each of the four sums by itself, and then one after the other
pub record TotalFits (M : LinearProgram) (w : Weights) : Type 0 where
  pub lower_sides : WorthsFit M.rows M.lower_side w.s
  pub upper_sides : WorthsFit M.rows M.upper_side w.t
  pub lower_bounds : WorthsFit M.columns M.lower_bound w.p
  pub upper_bounds : WorthsFit M.columns M.upper_bound w.q
  pub sides : SumFits (worth_of M.rows M.lower_side w.s) (neg_ℚ (worth_of M.rows M.upper_side w.t))
  pub with_lower : SumFits (worth_of M.rows M.lower_side w.s -ℚ worth_of M.rows M.upper_side w.t) (worth_of M.columns M.lower_bound w.p)
  pub with_upper : SumFits ((worth_of M.rows M.lower_side w.s -ℚ worth_of M.rows M.upper_side w.t) +ℚ worth_of M.columns M.lower_bound w.p) (neg_ℚ (worth_of M.columns M.upper_bound w.q))
