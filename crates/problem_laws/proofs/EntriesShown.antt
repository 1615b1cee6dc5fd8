-- What edits of entries and costs do to the linear program that a problem shows.
use Rattle.std.proofs.Common.{◌≡◌, ◌≢◌, ℕ, Bool, true, ◌&&◌, length, sym, ap, ap₂, ◌∙◌, ◌⊎◌, inl, inr}
use Rattle.std.specs.Prelude.{if◌then◌else◌}
use Rattle.std.proofs.lemmas.Bool.{cases_eq}
use Rattle.std.proofs.lemmas.List.{get_or-set_same, get_or-set_other}
use Rattle.fractions.specs.Number.{Number, zero_ℚ}
use Rattle.fractions.specs.Total.{put}
use Rattle.fractions.proofs.Totals.{put-same, put-other, at_or_off}
use Rattle.lp_model.specs.Sparse.{dense}
use Rattle.lp_model.specs.Edits.{with_coefficient, with_cost}
use Rattle.problem_model.specs.Problems.{row_at, column_at, sides_at, bounds_at, cost_at, IsSparse}
use Rattle.problem_model.specs.Showing.{coefficient_of, end_if, shown, reach_low, reach_high, gap_if}
use Rattle.problem_model.specs.Sparse.{Sparse}
use Rattle.problem_laws.proofs.AtIds.{row_inside, column_inside, cost_inside}
use Rattle.problem_laws.proofs.ShowingEdits.{cell}
use Rattle.problem_model.specs.Edits.{entry_set, cost_set}
use Rattle.problem_laws.proofs.EntriesKept.{put_long, put_live, put_dense, put_dense_other}

module _ (p : Sparse) (m k : ℕ) (c : Number) (s : IsSparse p) (row : (row_at p m).live ≡ true) (column : (column_at p k).live ≡ true) where
  abbrev q : Sparse
  q = entry_set p m k c

  row_lives : (i : ℕ) → (row_at q i).live ≡ (row_at p i).live
  row_lives = put_live p.matrix.rows m k c (row_inside p m row)

  column_lives : (j : ℕ) → (column_at q j).live ≡ (column_at p j).live
  column_lives = put_live p.matrix.columns k m c (column_inside p k column)

  same_cell : (i j : ℕ) (a : Number) → dense (row_at q i).entries j ≡ a → coefficient_of q i j ≡ cell (row_at p i).live (column_at p j).live a
  same_cell i j a e t = cell (row_lives i t) (column_lives j t) (e t)

  coefficients : (i j : ℕ) → coefficient_of q i j ≡ put (coefficient_of p) m (put (coefficient_of p m) k c) i j
  coefficients i j = by (cases_eq i m) (cases_eq j k)
    where
      f : ℕ → Number
      f = put (coefficient_of p m) k c

      by : (i ≡ m) ⊎ (i ≢ m) → (j ≡ k) ⊎ (j ≢ k) → coefficient_of q i j ≡ put (coefficient_of p) m (put (coefficient_of p m) k c) i j
      by (inl e) (inl g) =
          ap₂ (coefficient_of q) e g
          ∙ same_cell m k c (put_dense p.matrix.rows m k c (length p.matrix.columns) (row_inside p m row) (s.matrix.rows.ascends m) k ∙ put-same (dense (row_at p m).entries) k c)
          ∙ ap₂ (λ (a b : Bool). cell a b c) row column
          ∙ sym (ap₂ (λ (x y : ℕ). put (coefficient_of p) m (put (coefficient_of p m) k c) x y) e g ∙ ap (λ (h : ℕ → Number). h k) (put-same (coefficient_of p) m (put (coefficient_of p m) k c)) ∙ put-same (coefficient_of p m) k c)
      by (inl e) (inr n) =
          ap (λ (x : ℕ). coefficient_of q x j) e
          ∙ same_cell m j (dense (row_at p m).entries j) (put_dense p.matrix.rows m k c (length p.matrix.columns) (row_inside p m row) (s.matrix.rows.ascends m) j ∙ put-other (dense (row_at p m).entries) k c j n)
          ∙ sym (ap (λ (x : ℕ). put (coefficient_of p) m (put (coefficient_of p m) k c) x j) e ∙ ap (λ (h : ℕ → Number). h j) (put-same (coefficient_of p) m (put (coefficient_of p m) k c)) ∙ put-other (coefficient_of p m) k c j n)
      by (inr d) o =
          same_cell i j (dense (row_at p i).entries j) (put_dense_other p.matrix.rows m k c i d j)
          ∙ sym (ap (λ (h : ℕ → Number). h j) (put-other (coefficient_of p) m (put (coefficient_of p m) k c) i d))

  pub shown-entry_set : shown (entry_set p m k c) ≡ with_coefficient (shown p) m k c
  shown-entry_set t = record {
    rows = put_long p.matrix.rows m k c t;
    columns = put_long p.matrix.columns k m c t;
    coefficient = λ i j. coefficients i j t;
    lower_side = λ i. end_if (row_lives i t) (sides_at p i).lower;
    upper_side = λ i. end_if (row_lives i t) (sides_at p i).upper;
    lower_bound = λ j. end_if (column_lives j t) (reach_low (bounds_at p j));
    upper_bound = λ j. end_if (column_lives j t) (reach_high (bounds_at p j));
    whole = λ j. column_lives j t && (bounds_at p j).whole;
    gap = λ j. gap_if (column_lives j t) (bounds_at p j);
    costs = λ j. if column_lives j t then cost_at p j else zero_ℚ;
    constant = p.constant;
  }

module _ (p : Sparse) (k : ℕ) (c : Number) (s : IsSparse p) (column : (column_at p k).live ≡ true) where
  costs_put : (j : ℕ) → (if (column_at p j).live then cost_at (cost_set p k c) j else zero_ℚ) ≡ put (λ j. if (column_at p j).live then cost_at p j else zero_ℚ) k c j
  costs_put = at_or_off (λ j. (if (column_at p j).live then cost_at (cost_set p k c) j else zero_ℚ) ≡ put (λ j. if (column_at p j).live then cost_at p j else zero_ℚ) k c j) k
      (ap₂ (λ (b : Bool) (a : Number). if b then a else zero_ℚ) column (get_or-set_same p.costs k c zero_ℚ (cost_inside p k s column)) ∙ sym (put-same (λ j. if (column_at p j).live then cost_at p j else zero_ℚ) k c))
      (λ j n. ap (λ (a : Number). if (column_at p j).live then a else zero_ℚ) (get_or-set_other p.costs k j c zero_ℚ n) ∙ sym (put-other (λ j. if (column_at p j).live then cost_at p j else zero_ℚ) k c j n))

  pub shown-cost_set : shown (cost_set p k c) ≡ with_cost (shown p) k c
  shown-cost_set t = record {
    rows = length p.matrix.rows;
    columns = length p.matrix.columns;
    coefficient = coefficient_of p;
    lower_side = λ i. end_if (row_at p i).live (sides_at p i).lower;
    upper_side = λ i. end_if (row_at p i).live (sides_at p i).upper;
    lower_bound = λ j. end_if (column_at p j).live (reach_low (bounds_at p j));
    upper_bound = λ j. end_if (column_at p j).live (reach_high (bounds_at p j));
    whole = λ j. (column_at p j).live && (bounds_at p j).whole;
    gap = λ j. gap_if (column_at p j).live (bounds_at p j);
    costs = λ j. costs_put j t;
    constant = p.constant;
  }
