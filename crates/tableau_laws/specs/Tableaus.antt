-- A tableau: some of the variables are basic, and each of these is a sum of multiples of the others.
use Rattle.std.specs.Prelude.{◌≡◌, ◌≢◌, ℕ, ◌<◌, Bool, true, false}
use Rattle.fractions.specs.Number.{Number, zero_ℚ, one_ℚ, ◌+ℚ◌, ◌-ℚ◌, ◌*ℚ◌, neg_ℚ}
use Rattle.fractions.specs.Division.{◌/ℚ◌}
use Rattle.fractions.specs.Total.{total, put}
use Rattle.lp_model.specs.Vectors.{Vector}
use Rattle.lp_model.specs.LinearProgram.{LinearProgram, value_at}
use Rattle.tableau_laws.specs.Variables.{joined, variables, resting}

-- Variables are the ids below `size`. `table` has the multiple at a basic variable and another one, `prices` what each of the others
-- costs, `values` the number of each variable.
pub record Tableau : Type 0 where
  pub size : ℕ
  pub basic : ℕ → Bool
  pub table : ℕ → Vector
  pub prices : Vector
  pub values : Vector

-- the entering variable's row from that of the leaving one, f: 1/h at b, -(f[k]/h) at k, where h is f[e]
abbrev pub turned : ℕ → ℕ → Vector → Vector
turned b e f = put (put (λ k. neg_ℚ (f k /ℚ f e)) e zero_ℚ) b (one_ℚ /ℚ f e)

-- a row with the entering variable's row in the place of e
abbrev pub replacing : ℕ → ℕ → Vector → Vector → Vector
replacing b e line f = put (put (λ k. f k +ℚ f e *ℚ line k) e zero_ℚ) b (f e *ℚ line b)

abbrev pub turned_row : Tableau → ℕ → ℕ → Vector
turned_row t b e = turned b e (t.table b)

abbrev pub replaced : Tableau → ℕ → ℕ → Vector → Vector
replaced t b e f = replacing b e (turned_row t b e) f

-- the values where e gains w
abbrev pub moved : Tableau → ℕ → Number → Vector
moved t e w = put (λ m. t.values m +ℚ t.table m e *ℚ w) e (t.values e +ℚ w)

-- what e gains where b goes to a bound
abbrev pub gain : Tableau → ℕ → ℕ → Number → Number
gain t b e bound = (bound -ℚ t.values b) /ℚ t.table b e

-- b leaves at a bound, and e enters
abbrev pub pivoted : Tableau → ℕ → ℕ → Number → Tableau
pivoted t b e bound = record t {
  basic = put (put t.basic b false) e true;
  table = put (put (λ m. replaced t b e (t.table m)) b (λ k. zero_ℚ)) e (turned_row t b e);
  prices = replaced t b e t.prices;
  values = put (moved t e (gain t b e bound)) b bound;
}

-- e gains w, and the basis stays
abbrev pub shifted : Tableau → ℕ → Number → Tableau
shifted t e w = record t { values = moved t e w }

-- a point at which a run starts: each column at its lower bound, else at its upper one, else at 0
abbrev pub start_point : LinearProgram → Vector
start_point M j = resting (M.lower_bound j) (M.upper_bound j)

-- the tableau at which a run starts: the rows' variables are basic, each the sum of its coefficients times the columns
abbrev pub start : LinearProgram → Tableau
start M = record {
  size = variables M;
  basic = joined M.columns (λ j. false) (joined M.rows (λ i. true) (λ i. false));
  table = joined M.columns (λ j k. zero_ℚ) (joined M.rows (λ i. joined M.columns (M.coefficient i) (λ k. zero_ℚ)) (λ i k. zero_ℚ));
  prices = joined M.columns M.costs (λ i. zero_ℚ);
  values = joined M.columns (start_point M) (joined M.rows (λ i. value_at M i (start_point M)) (λ i. zero_ℚ));
}

-- each basic variable of v is the sum that its row says
abbrev pub Solves : Tableau → Vector → Type 0
Solves t v = (m : ℕ) → m < t.size → t.basic m ≡ true → v m ≡ total t.size (λ k. t.table m k *ℚ v k)

-- when b can leave and e enter
pub record CanPivot (t : Tableau) (b e : ℕ) : Type 0 where
  pub b_within : b < t.size
  pub e_within : e < t.size
  pub b_basic : t.basic b ≡ true
  pub e_other : t.basic e ≡ false
  pub not_zero : t.table b e ≢ zero_ℚ

-- when e can gain
pub record CanShift (t : Tableau) (e : ℕ) : Type 0 where
  pub e_within : e < t.size
  pub e_other : t.basic e ≡ false
