-- What becomes of a number at one place of a row.
use Rattle.std.specs.Prelude.{◌≡◌, ◌≢◌, ℕ, ◌<◌, List, [], length, slice_index_or}
use Rattle.fractions.specs.Number.{Number, zero_ℚ, ◌+ℚ◌, ◌*ℚ◌, neg_ℚ}
use Rattle.fractions.specs.Division.{◌/ℚ◌}
use Rattle.fractions.specs.Lowest.{Fits}
use Rattle.fractions.specs.Total.{put}
use Rattle.lp_model.specs.Vectors.{Vector, vector_of}
use Rattle.tableau_laws.specs.Room.{GainFits, RowFits}
use Rattle.tableau_laws.specs.Tableaus.{turned, replacing}

-- the numbers of row m; 0 past the last
abbrev pub row_of : List (List Number) → ℕ → Vector
row_of rows m = vector_of (slice_index_or rows m [])

-- at k, if that is neither b nor e
abbrev pub Off : ℕ → ℕ → ℕ → Type 0 → Type 0
Off b e k P = k ≢ b → k ≢ e → P

-- turned by a divisor
abbrev pub TurnedAt : ℕ → ℕ → Number → ℕ → Number → Number → Type 0
TurnedAt b e divisor k before after = Off b e k (after ≡ neg_ℚ (before /ℚ divisor))

abbrev pub TurnFitsAt : ℕ → ℕ → Number → ℕ → Number → Type 0
TurnFitsAt b e divisor k before = Off b e k (Fits (before /ℚ divisor))

-- with a multiple of another row's number
abbrev pub GainedAt : ℕ → ℕ → Number → Vector → ℕ → Number → Number → Type 0
GainedAt b e multiple line k before after = Off b e k (after ≡ before +ℚ multiple *ℚ line k)

abbrev pub GainFitsAt : ℕ → ℕ → Number → Vector → ℕ → Number → Type 0
GainFitsAt b e multiple line k before = Off b e k (GainFits before multiple (line k))

-- a value where w is gained, at m, if that isn't b
abbrev pub MovedAt : ℕ → ℕ → (ℕ → Vector) → Number → ℕ → Number → Number → Type 0
MovedAt b e table w m before after = m ≢ b → after ≡ before +ℚ table m e *ℚ w

abbrev pub MoveFitsAt : ℕ → ℕ → (ℕ → Vector) → Number → ℕ → Number → Type 0
MoveFitsAt b e table w m before = m ≢ b → GainFits before (table m e) w

-- what holds of each place, before and after
abbrev pub Everywhere : (ℕ → Number → Number → Type 0) → List Number → List Number → Type 0
Everywhere P old new = (k : ℕ) → k < length old → P k (vector_of old k) (vector_of new k)

abbrev pub FitEverywhere : (ℕ → Number → Type 0) → List Number → Type 0
FitEverywhere R old = (k : ℕ) → k < length old → R k (vector_of old k)

-- the entering variable's row from that of the leaving one
abbrev pub Turns : ℕ → ℕ → List Number → List Number → Type 0
Turns b e old new = (k : ℕ) → vector_of new k ≡ turned b e (vector_of old) k

-- a row with the entering variable's row in the place of e
abbrev pub Replaces : ℕ → ℕ → List Number → List Number → List Number → Type 0
Replaces b e line old new = (k : ℕ) → vector_of new k ≡ replacing b e (vector_of line) (vector_of old) k

-- rows that have 0 at b, and n numbers where they don't have 0 at e
pub record IsReplaceable (n b e : ℕ) (row : List Number) : Type 0 where
  pub leaving : vector_of row b ≡ zero_ℚ
  pub long : vector_of row e ≢ zero_ℚ → length row ≡ n

abbrev pub AllReplaceable : ℕ → ℕ → ℕ → List (List Number) → Type 0
AllReplaceable n b e rows = (m : ℕ) → m < length rows → IsReplaceable n b e (slice_index_or rows m [])

-- one row, by its place
abbrev pub ReplacesAt : ℕ → ℕ → List Number → ℕ → List Number → List Number → Type 0
ReplacesAt b e line m old new = Replaces b e line old new × (length new ≡ length old)

abbrev pub ReplaceFitsAt : ℕ → ℕ → List Number → ℕ → List Number → Type 0
ReplaceFitsAt b e line m old = RowFits (length line) b e (vector_of line) (vector_of old)

-- each row
abbrev pub AllReplace : ℕ → ℕ → List Number → List (List Number) → List (List Number) → Type 0
AllReplace b e line old new = (m : ℕ) → m < length old → ReplacesAt b e line m (slice_index_or old m []) (slice_index_or new m [])

-- the values where e gains w
abbrev pub Moves : ℕ → (ℕ → Vector) → Number → List Number → List Number → Type 0
Moves e table w old new = (k : ℕ) → vector_of new k ≡ put (λ m. vector_of old m +ℚ table m e *ℚ w) e (vector_of old e +ℚ w) k

-- and b goes to a bound
abbrev pub MovesTo : ℕ → ℕ → (ℕ → Vector) → Number → Number → List Number → List Number → Type 0
MovesTo b e table w bound old new = (k : ℕ) → vector_of new k ≡ put (put (λ m. vector_of old m +ℚ table m e *ℚ w) e (vector_of old e +ℚ w)) b bound k
