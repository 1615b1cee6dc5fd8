-- When the numbers of a tableau have room: those of the start, of a pivot and of a shift.
use Rattle.std.specs.Prelude.{◌≢◌, ℕ, ◌<◌}
use Rattle.fractions.specs.Number.{Number, zero_ℚ, one_ℚ, ◌*ℚ◌, neg_ℚ}
use Rattle.fractions.specs.Division.{◌/ℚ◌}
use Rattle.fractions.specs.Lowest.{Fits}
use Rattle.fractions.specs.FracWords.{SumFits}
use Rattle.lp_model.specs.Vectors.{Vector}
use Rattle.lp_model.specs.LinearProgram.{LinearProgram}
use Rattle.lp_model.specs.Room.{ValueFits}
use Rattle.tableau_laws.specs.Tableaus.{Tableau, turned_row, gain, start_point}

-- the start: each row's value, summed by ascending column
abbrev pub StartFits : LinearProgram → Type 0
StartFits M = (i : ℕ) → i < M.rows → ValueFits M i (start_point M)

-- a number that gains a multiple of w; a product with 0 is 0, and has room
abbrev pub GainFits : Number → Number → Number → Type 0
GainFits value multiple w = multiple ≢ zero_ℚ → w ≢ zero_ℚ → Fits (multiple *ℚ w) × SumFits value (multiple *ℚ w)

-- the entering variable's row of n numbers, from that of the leaving one
pub record TurnFits (n b e : ℕ) (f : Vector) : Type 0 where
  pub inverse : Fits (one_ℚ /ℚ f e)
  pub others : (k : ℕ) → k < n → k ≢ b → k ≢ e → Fits (f k /ℚ f e)

-- a row of n numbers with the entering variable's row, `line`, in the place of e
pub record RowFits (n b e : ℕ) (line f : Vector) : Type 0 where
  pub leaving : f e ≢ zero_ℚ → Fits (f e *ℚ line b)
  pub others : (k : ℕ) → k < n → k ≢ b → k ≢ e → GainFits (f k) (f e) (line k)

-- the values of n variables where e gains w, but that of b
abbrev pub ValuesFit : (n b e : ℕ) → (ℕ → Vector) → Vector → Number → Type 0
ValuesFit n b e table values w = (m : ℕ) → m < n → m ≢ b → GainFits (values m) (table m e) w

pub record PivotFits (t : Tableau) (b e : ℕ) (bound : Number) : Type 0 where
  pub difference : SumFits bound (neg_ℚ (t.values b))
  pub quotient : Fits (gain t b e bound)
  pub entering : SumFits (t.values e) (gain t b e bound)
  pub values : ValuesFit t.size b e t.table t.values (gain t b e bound)
  pub line : TurnFits t.size b e (t.table b)
  pub rows : (m : ℕ) → m < t.size → m ≢ b → RowFits t.size b e (turned_row t b e) (t.table m)
  pub prices : RowFits t.size b e (turned_row t b e) t.prices

pub record ShiftFits (t : Tableau) (e : ℕ) (w : Number) : Type 0 where
  pub entering : SumFits (t.values e) w
  pub values : ValuesFit t.size e e t.table t.values w
