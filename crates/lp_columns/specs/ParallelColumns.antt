-- K16: a column j that is s times another column k, in its entries and in its cost, joins it.
use Rattle.std.specs.Prelude.{◌≡◌, ◌≢◌, ◌⊎◌, ℕ, ◌<◌, false, IsTrue, Option, Some, None, IfSome}
use Rattle.fractions.specs.Number.{Number, zero_ℚ, one_ℚ, ◌-ℚ◌, ◌*ℚ◌, neg_ℚ}
use Rattle.fractions.specs.Floor.{IsWhole}
use Rattle.fractions.specs.Total.{put}
use Rattle.fractions.specs.Ends.{plus, minus_ends, meet_low, meet_high}
use Rattle.lp_model.specs.Vectors.{Vector}
use Rattle.lp_model.specs.LinearProgram.{LinearProgram}
use Rattle.lp_model.specs.Reductions.{Priced}
use Rattle.lp_theory.specs.Activities.{least_term, greatest_term}
use Rattle.lp_model.specs.Edits.{with_bounds}
use Rattle.lp_theory.specs.Dropped.{column_dropped}
use Rattle.lp_theory.specs.MetEnds.{lower_over, upper_over}
use Rattle.lp_theory.specs.Nearest.{InOrder, near}

-- no bound of column j is a number that isn't whole
pub record HasWholeBounds (M : LinearProgram) (j : ℕ) : Type 0 where
  pub lower : IfSome (M.lower_bound j) IsWhole
  pub upper : IfSome (M.upper_bound j) IsWhole

-- both columns are continuous
pub record AreContinuous (M : LinearProgram) (j k : ℕ) : Type 0 where
  pub first : M.whole j ≡ false
  pub second : M.whole k ≡ false

-- both are whole, with whole or infinite bounds, and s is 1 or -1
pub record AreWhole (M : LinearProgram) (j k : ℕ) (s : Number) : Type 0 where
  pub first : IsTrue (M.whole j)
  pub second : IsTrue (M.whole k)
  pub first_bounds : HasWholeBounds M j
  pub second_bounds : HasWholeBounds M k
  pub factor : (s ≡ one_ℚ) ⊎ (s ≡ neg_ℚ one_ℚ)

-- enabled at columns j and k, neither with crossed bounds (that they have entries is a matter of the scan alone)
pub record AreParallelColumns (M : LinearProgram) (j k : ℕ) (s : Number) : Type 0 where
  pub first : j < M.columns
  pub second : k < M.columns
  pub differ : j ≢ k
  pub factor : s ≢ zero_ℚ
  pub entries : (i : ℕ) → i < M.rows → M.coefficient i j ≡ s *ℚ M.coefficient i k
  pub costs : M.costs j ≡ s *ℚ M.costs k
  pub first_bounds : InOrder (M.lower_bound j) (M.upper_bound j)
  pub second_bounds : InOrder (M.lower_bound k) (M.upper_bound k)
  pub kinds : AreContinuous M j k ⊎ AreWhole M j k s
  pub first_solid : M.gap j ≡ None
  pub second_solid : M.gap k ≡ None

-- the bounds of x_k + s x_j: l_k + s l_j and u_k + s u_j, for s below 0 l_k + s u_j and u_k + s l_j
abbrev pub joined_lower : LinearProgram → ℕ → ℕ → Number → Option Number
joined_lower M j k s = plus (M.lower_bound k) (least_term s (M.lower_bound j) (M.upper_bound j))

abbrev pub joined_upper : LinearProgram → ℕ → ℕ → Number → Option Number
joined_upper M j k s = plus (M.upper_bound k) (greatest_term s (M.lower_bound j) (M.upper_bound j))

-- column k has these bounds, and column j is deleted
abbrev pub parallel_columns_joined : LinearProgram → ℕ → ℕ → Number → LinearProgram
parallel_columns_joined M j k s = with_bounds (column_dropped M j) k (joined_lower M j k s) (joined_upper M j k s)

-- x_j where x_k + s x_j is X: the number nearest to 0 in its bounds l and u met with those that the bounds p and q of x_k leave it
abbrev pub part_of : Number → Option Number → Option Number → Option Number → Option Number → Number → Number
part_of s l u p q X = near
    (meet_low l (lower_over s (minus_ends (Some X) q) (minus_ends (Some X) p)))
    (meet_high u (upper_over s (minus_ends (Some X) q) (minus_ends (Some X) p)))

-- x_j is that part of X = x_k, and x_k what it leaves of it; l and u are j's old bounds, p and q are k's
abbrev pub undo_parallel_columns : ℕ → ℕ → Number → Option Number → Option Number → Option Number → Option Number → Vector → Vector
undo_parallel_columns j k s l u p q x = put (put x j (part_of s l u p q (x k))) k (x k -ℚ s *ℚ part_of s l u p q (x k))

-- and z_j = s z_k
abbrev pub undo_parallel_columns_pair : ℕ → ℕ → Number → Option Number → Option Number → Option Number → Option Number → Priced → Priced
undo_parallel_columns_pair j k s l u p q r = record r { x = undo_parallel_columns j k s l u p q r.x; z = put r.z j (s *ℚ r.z k) }
