-- The steps back of rays, by reduction: what becomes of the weights of the program after it. `low` and `high` say whether the lower
-- and the upper end that a reduction met with others moved.
use Rattle.std.specs.Prelude.{ℕ, Bool, if◌then◌else◌}
use Rattle.fractions.specs.Number.{Number, zero_ℚ, neg_ℚ, ◌+ℚ◌, ◌-ℚ◌, ◌*ℚ◌}
use Rattle.fractions.specs.Compare.{lt_ℚ}
use Rattle.fractions.specs.Division.{◌/ℚ◌}
use Rattle.fractions.specs.Total.{total, put}
use Rattle.lp_model.specs.Vectors.{Vector}
use Rattle.lp_rays.specs.Ray.{Weights}
use Rattle.lp_rays.specs.Handing.{kept_of, handed_of, lower_share, upper_share, lower_part, upper_part, image_low_part, image_high_part, pushed_low, pushed_high, pulled_low, pulled_high, ratio_at_greatest, low_at_greatest, high_at_greatest, ratio_at_least, low_at_least, high_at_least}

-- K2: row i, whose one entry is a at column j, takes what came from it
abbrev pub ray_singleton_row : ℕ → ℕ → Number → Bool → Bool → Weights → Weights
ray_singleton_row i j a low high w = record {
  s = put w.s i (lower_share a (handed_of low (w.p j)) (handed_of high (w.q j)));
  t = put w.t i (upper_share a (handed_of low (w.p j)) (handed_of high (w.q j)));
  p = put w.p j (kept_of low (w.p j));
  q = put w.q j (kept_of high (w.q j));
}

-- row i, whose entries are a, takes d at its lower side from its columns but j, whose weights become p and q
abbrev pub push_row : ℕ → ℕ → Vector → Number → Number → Number → Weights → Weights
push_row i j a d p q w = record {
  s = put w.s i (w.s i +ℚ d);
  t = w.t;
  p = put (λ k. pushed_low (a k) d (w.p k)) j p;
  q = put (λ k. pushed_high (a k) d (w.q k)) j q;
}

-- and at its upper side
abbrev pub pull_row : ℕ → ℕ → Vector → Number → Number → Number → Weights → Weights
pull_row i j a d p q w = record {
  s = w.s;
  t = put w.t i (w.t i +ℚ d);
  p = put (λ k. pulled_low (a k) d (w.p k)) j p;
  q = put (λ k. pulled_high (a k) d (w.q k)) j q;
}

-- K8: the bound of column j that row i implied goes back to the row and to what bounded its rest
abbrev pub ray_lower_bound : ℕ → ℕ → Vector → Weights → Weights
ray_lower_bound i j a w = if lt_ℚ zero_ℚ (a j) then push_row i j a (w.p j /ℚ a j) zero_ℚ (w.q j) w else pull_row i j a (w.p j /ℚ neg_ℚ (a j)) zero_ℚ (w.q j) w

abbrev pub ray_upper_bound : ℕ → ℕ → Vector → Weights → Weights
ray_upper_bound i j a w = if lt_ℚ zero_ℚ (a j) then pull_row i j a (w.q j /ℚ a j) (w.p j) zero_ℚ w else push_row i j a (w.q j /ℚ neg_ℚ (a j)) (w.p j) zero_ℚ w

-- K7: row i, whose entries are a, of n columns, takes the sum of what its columns need
abbrev pub ray_forced_at_lower_side : ℕ → ℕ → Vector → Weights → Weights
ray_forced_at_lower_side n i a w =
    let d : Number = total n (λ k. ratio_at_greatest (a k) (w.p k) (w.q k)) in
    record { s = put w.s i d; t = w.t; p = λ k. low_at_greatest (a k) d (w.p k) (w.q k); q = λ k. high_at_greatest (a k) d (w.p k) (w.q k) }

abbrev pub ray_forced_at_upper_side : ℕ → ℕ → Vector → Weights → Weights
ray_forced_at_upper_side n i a w =
    let d : Number = total n (λ k. ratio_at_least (a k) (w.p k) (w.q k)) in
    record { s = w.s; t = put w.t i d; p = λ k. low_at_least (a k) d (w.p k) (w.q k); q = λ k. high_at_least (a k) d (w.p k) (w.q k) }

-- K10, K11: column j was fixed at its lower bound, or at its upper one
abbrev pub ray_kept_lower : ℕ → Weights → Weights
ray_kept_lower j w = record w { p = put w.p j (w.p j -ℚ w.q j); q = put w.q j zero_ℚ }

abbrev pub ray_kept_upper : ℕ → Weights → Weights
ray_kept_upper j w = record w { p = put w.p j zero_ℚ; q = put w.q j (neg_ℚ (w.p j -ℚ w.q j)) }

abbrev pub ray_fixed : Bool → ℕ → Weights → Weights
ray_fixed lower j w = if lower then ray_kept_lower j w else ray_kept_upper j w

-- K17: column j has no entries
abbrev pub ray_empty_column : ℕ → Weights → Weights
ray_empty_column j w = record w { p = put w.p j zero_ℚ; q = put w.q j zero_ℚ }

-- K15: row i, f times row k, takes what came from it
abbrev pub ray_parallel_rows : ℕ → ℕ → Number → Bool → Bool → Weights → Weights
ray_parallel_rows i k f low high w = record w {
  s = put (put w.s k (kept_of low (w.s k))) i (lower_share f (handed_of low (w.s k)) (handed_of high (w.t k)));
  t = put (put w.t k (kept_of high (w.t k))) i (upper_share f (handed_of low (w.s k)) (handed_of high (w.t k)));
}

-- K16: column j, f times column k, has f times its weights
abbrev pub ray_parallel_columns : ℕ → ℕ → Number → Weights → Weights
ray_parallel_columns j k f w = record w { p = put w.p j (lower_part f (w.p k) (w.q k)); q = put w.q j (upper_part f (w.p k) (w.q k)) }

-- K3: column j, whose entries in n rows are a, takes what the rows leave
abbrev pub ray_fixed_column : ℕ → ℕ → Vector → Weights → Weights
ray_fixed_column j n a w =
    let g : Number = total n (λ m. (w.s m -ℚ w.t m) *ℚ a m) in
    record w { p = put w.p j (if lt_ℚ zero_ℚ g then zero_ℚ else neg_ℚ g); q = put w.q j (if lt_ℚ zero_ℚ g then g else zero_ℚ) }

-- K14, the row kept: column j, a slack of row i with the entry a, takes the weights of its sides
abbrev pub ray_slack_column_singleton : ℕ → ℕ → Number → Weights → Weights
ray_slack_column_singleton j i a w = record w { p = put w.p j (lower_part a (w.t i) (w.s i)); q = put w.q j (upper_part a (w.t i) (w.s i)) }

-- K12: row i is a x_j + b x_k = r, and the other entries of column j, in n rows, are g; column j takes what came from it, and row i
-- what the rows leave of that
abbrev pub ray_doubleton_equation : ℕ → ℕ → ℕ → Number → Number → ℕ → Vector → Bool → Bool → Weights → Weights
ray_doubleton_equation i j k a b n g low high w =
    let p : Number = image_low_part (a /ℚ b) (handed_of low (w.p k)) (handed_of high (w.q k)) in
    let q : Number = image_high_part (a /ℚ b) (handed_of low (w.p k)) (handed_of high (w.q k)) in
    let e : Number = ((q -ℚ p) -ℚ total n (λ m. (w.s m -ℚ w.t m) *ℚ g m)) /ℚ a in
    record {
      s = put w.s i (if lt_ℚ zero_ℚ e then e else zero_ℚ);
      t = put w.t i (if lt_ℚ zero_ℚ e then zero_ℚ else neg_ℚ e);
      p = put (put w.p j p) k (kept_of low (w.p k));
      q = put (put w.q j q) k (kept_of high (w.q k));
    }

-- the same without knowing at which bound it was: the sign of what is left says it, and where that is 0 it doesn't matter
abbrev pub ray_settled : ℕ → Weights → Weights
ray_settled j w = if lt_ℚ zero_ℚ (w.p j -ℚ w.q j) then ray_kept_lower j w else ray_kept_upper j w
