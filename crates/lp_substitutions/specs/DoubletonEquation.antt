-- K12: an equation of two columns, a x_j + b x_k = r, puts (r - b x_k) / a for x_j everywhere.
use Rattle.std.specs.Prelude.{◌≡◌, ◌≢◌, ℕ, ◌<◌, false, IsTrue, if◌then◌else◌, Option, Some, None}
use Rattle.fractions.specs.Number.{Number, zero_ℚ, ◌+ℚ◌, ◌-ℚ◌, ◌*ℚ◌}
use Rattle.fractions.specs.Compare.{lt_ℚ}
use Rattle.fractions.specs.Division.{◌/ℚ◌}
use Rattle.fractions.specs.Floor.{IsWhole}
use Rattle.fractions.specs.Total.{put}
use Rattle.fractions.specs.Ends.{less, meet_low, meet_high}
use Rattle.lp_model.specs.Vectors.{Vector}
use Rattle.lp_model.specs.LinearProgram.{LinearProgram}
use Rattle.lp_model.specs.Reductions.{Priced}
use Rattle.lp_theory.specs.Elsewhere.{products, substituted}
use Rattle.lp_theory.specs.MetEnds.{is_from_row}

-- enabled at row i: L = U = r, entries at j and k alone, and j continuous, or both columns whole with b/a and r/a whole
-- (that no bounds are crossed is asked by the scan alone)
pub record IsDoubletonEquation (M : LinearProgram) (i j k : ℕ) (r : Number) : Type 0 where
  pub row : i < M.rows
  pub first : j < M.columns
  pub second : k < M.columns
  pub apart : j ≢ k
  pub first_entry : M.coefficient i j ≢ zero_ℚ
  pub second_entry : M.coefficient i k ≢ zero_ℚ
  pub only : (p : ℕ) → p < M.columns → p ≢ j → p ≢ k → M.coefficient i p ≡ zero_ℚ
  pub lower : M.lower_side i ≡ Some r
  pub upper : M.upper_side i ≡ Some r
  pub whole : IsTrue (M.whole j) → IsTrue (M.whole k) × IsWhole (M.coefficient i k /ℚ M.coefficient i j) × IsWhole (r /ℚ M.coefficient i j)
  pub solid : M.gap j ≡ None

-- the end of x_k where x_j is at an end v: (r - a v) / b, none where there is none
abbrev pub image : Number → Number → Number → Option Number → Option Number
image a b r None = None
image a b r (Some v) = Some ((r -ℚ a *ℚ v) /ℚ b)

-- the image of the range from l to u; for a/b > 0 its ends change over
abbrev pub image_lower : Number → Number → Number → Option Number → Option Number → Option Number
image_lower a b r l u = if lt_ℚ zero_ℚ (a /ℚ b) then image a b r u else image a b r l

abbrev pub image_upper : Number → Number → Number → Option Number → Option Number → Option Number
image_upper a b r l u = if lt_ℚ zero_ℚ (a /ℚ b) then image a b r l else image a b r u

-- where row i has a at j, b at k and both sides r: b/a times column j leaves column k, r/a times it leaves the sides,
-- k's bounds meet the image of j's, and row i and column j are deleted
abbrev pub substituted_by : LinearProgram → ℕ → ℕ → ℕ → Number → Number → Number → LinearProgram
substituted_by M i j k a b r = record M {
  coefficient = put (λ m. substituted (M.coefficient m) j k (b /ℚ a)) i (λ p. zero_ℚ);
  lower_side = put (λ m. less (M.lower_side m) (M.coefficient m j *ℚ (r /ℚ a))) i None;
  upper_side = put (λ m. less (M.upper_side m) (M.coefficient m j *ℚ (r /ℚ a))) i None;
  lower_bound = put (put M.lower_bound j None) k (meet_low (M.lower_bound k) (image_lower a b r (M.lower_bound j) (M.upper_bound j)));
  upper_bound = put (put M.upper_bound j None) k (meet_high (M.upper_bound k) (image_upper a b r (M.lower_bound j) (M.upper_bound j)));
  whole = put M.whole j false;
  gap = put M.gap j None;
  costs = substituted M.costs j k (b /ℚ a);
}

abbrev pub doubleton_equation_substituted : LinearProgram → ℕ → ℕ → ℕ → Number → LinearProgram
doubleton_equation_substituted M i j k r = substituted_by M i j k (M.coefficient i j) (M.coefficient i k) r

-- the offset gains c_j (r/a)
abbrev pub doubleton_equation_offset : LinearProgram → ℕ → ℕ → Number → Number
doubleton_equation_offset M i j r = M.costs j *ℚ (r /ℚ M.coefficient i j)

-- x_j = (r - b x_k) / a
abbrev pub undo_doubleton_equation : ℕ → ℕ → Number → Number → Number → Vector → Vector
undo_doubleton_equation j k a b r x = put x j ((r -ℚ b *ℚ x k) /ℚ a)

-- dj and dk are what is left of the costs of j and k where row i has the dual 0. Row i takes dk over where k holds z_k
-- at an end that it has of j alone, else dj.
-- l and u are k's old bounds, c the cost of j, and `column` its entries but that in row i, of n rows
abbrev pub undo_doubleton_equation_pair : ℕ → ℕ → ℕ → Number → Number → Number → Option Number → Option Number → Number → ℕ → Vector → Priced → Priced
undo_doubleton_equation_pair i j k a b r l u c n column p =
    let dj : Number = c -ℚ products n p.y column in
    let dk : Number = p.z k +ℚ (b /ℚ a) *ℚ dj in
    let t : Number = if is_from_row l u (p.x k) (p.z k) then dk /ℚ b else dj /ℚ a in
    record { x = undo_doubleton_equation j k a b r p.x; y = put p.y i t; z = put (put p.z j (dj -ℚ a *ℚ t)) k (dk -ℚ b *ℚ t) }

-- the undoing with what M holds
abbrev pub doubleton_equation_pair : LinearProgram → ℕ → ℕ → ℕ → Number → Priced → Priced
doubleton_equation_pair M i j k r = undo_doubleton_equation_pair i j k (M.coefficient i j) (M.coefficient i k) r (M.lower_bound k) (M.upper_bound k) (M.costs j) M.rows (put (λ m. M.coefficient m j) i zero_ℚ)
