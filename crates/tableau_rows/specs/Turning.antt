-- A pivot of the rows and the prices.
use Rattle.std.specs.Prelude.{◌≡◌, ◌≢◌, ℕ, ◌<◌, List, [], length, slice_index_or}
use Rattle.fractions.specs.Number.{Number, zero_ℚ}
use Rattle.fractions.specs.Total.{put}
use Rattle.lp_model.specs.Vectors.{Vector, vector_of}
use Rattle.tableau_laws.specs.Tableaus.{turned, replacing}
use Rattle.tableau_laws.specs.Room.{TurnFits, RowFits}
use Rattle.tableau_rows.specs.Places.{row_of}

-- rows of n numbers, or empty ones, and prices, in which b can leave and e enter
pub record AreTurnable (n b e : ℕ) (rows : List (List Number)) (prices : List Number) : Type 0 where
  pub b_within : b < n
  pub e_within : e < n
  pub apart : b ≢ e
  pub rows_long : length rows ≡ n
  pub prices_long : length prices ≡ n
  pub leaving : length (slice_index_or rows b []) ≡ n
  pub entering : length (slice_index_or rows e []) ≡ 0
  pub not_zero : row_of rows b e ≢ zero_ℚ
  pub column : (m : ℕ) → row_of rows m b ≡ zero_ℚ
  pub others : (m : ℕ) → row_of rows m e ≢ zero_ℚ → length (slice_index_or rows m []) ≡ n
  pub price : vector_of prices b ≡ zero_ℚ

-- the entering variable's row
abbrev pub line_of : ℕ → ℕ → List (List Number) → Vector
line_of b e rows = turned b e (row_of rows b)

-- what becomes of them
pub record AreTurned (n b e : ℕ) (rows new : List (List Number)) (prices new_prices : List Number) : Type 0 where
  pub table : (m k : ℕ) → row_of new m k ≡ put (put (λ m. replacing b e (line_of b e rows) (row_of rows m)) b (λ k. zero_ℚ)) e (line_of b e rows) m k
  pub priced : (k : ℕ) → vector_of new_prices k ≡ replacing b e (line_of b e rows) (vector_of prices) k
  pub rows_long : length new ≡ n
  pub prices_long : length new_prices ≡ n
  pub entered : length (slice_index_or new e []) ≡ n
  pub left : length (slice_index_or new b []) ≡ 0
  pub others : (m : ℕ) → m ≢ b → m ≢ e → length (slice_index_or new m []) ≡ length (slice_index_or rows m [])

pub record TurningFits (n b e : ℕ) (rows : List (List Number)) (prices : List Number) : Type 0 where
  pub line : TurnFits n b e (row_of rows b)
  pub each_row : (m : ℕ) → m < n → m ≢ b → RowFits n b e (line_of b e rows) (row_of rows m)
  pub price_row : RowFits n b e (line_of b e rows) (vector_of prices)
