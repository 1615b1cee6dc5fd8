-- What each edit does to the linear program that a problem shows.
use Rattle.std.proofs.Common.{◌≡◌, ◌≢◌, ℕ, ◌<◌, Bool, true, false, ◌&&◌, List, length, sym, refl, ap, ◌∙◌, ◌⊎◌, inl, inr, Option, None}
use Rattle.std.specs.Prelude.{if◌then◌else◌}
use Rattle.std.proofs.lemmas.Bool.{cases_eq}
use Rattle.fractions.specs.Number.{Number, zero_ℚ}
use Rattle.fractions.specs.Total.{put}
use Rattle.fractions.proofs.Totals.{put-same, put-other, at_or_off}
use Rattle.lp_model.specs.Sparse.{dense}
use Rattle.lp_model.specs.Edits.{without_row, with_bounds, with_sides}
use Rattle.problem_model.specs.declared.line.Line.{Line}
use Rattle.problem_model.specs.declared.line.Sides.{Sides}
use Rattle.problem_model.specs.declared.line.Bounds.{Bounds}
use Rattle.problem_model.specs.Problems.{row_at, column_at, sides_at, bounds_at, cost_at, IsSparse}
use Rattle.problem_model.specs.Edits.{lines_without, sides_moved, bounds_moved, row_deleted, column_deleted, sides_set, bounds_set, offset_set}
use Rattle.problem_model.specs.Showing.{coefficient_of, end_if, reach_low, reach_high, gap_if, shown}
use Rattle.problem_model.specs.Sparse.{Sparse}
use Rattle.problem_model.specs.LeftOut.{column_left_out}
use Rattle.problem_laws.proofs.AtIds.{without-dead, without-live, without-other, losing-live, row_inside, column_inside, sides_inside, bounds_inside, sides_set-same, sides_set-other, bounds_set-same, bounds_set-other}
use Rattle.problem_laws.proofs.Entries.{losing-dense}
use Rattle.problem_laws.proofs.Keeping.{length-lines_without, length-lines_losing}
use Rattle.lp_model.specs.Gaps.{gap_of, reach_lower, reach_upper}

-- a coefficient by what it is made of: whether the row and the column are live, and the number there
abbrev pub cell : Bool → Bool → Number → Number
cell row column a = if row && column then a else zero_ℚ

pub cell_dead : (row : Bool) (a : Number) → cell row false a ≡ zero_ℚ
cell_dead true a = refl
cell_dead false a = refl

same_cell : {r s c d : Bool} {a b : Number} → r ≡ s → c ≡ d → a ≡ b → cell r c a ≡ cell s d b
same_cell e f g t = cell (e t) (f t) (g t)

-- the numbers count where the column is live
same_where_live : {r s c d : Bool} {a b : Number} → r ≡ s → c ≡ d → (c ≡ true → a ≡ b) → cell r c a ≡ cell s d b
same_where_live {r} {s} {c} {d} {a} {b} e f g = by c refl
  where
    by : (x : Bool) → c ≡ x → cell r c a ≡ cell s d b
    by true h = same_cell e f (g h)
    by false h = ap (λ (y : Bool). cell r y a) h ∙ cell_dead r a ∙ sym (ap (λ (y : Bool). cell s y b) (sym f ∙ h) ∙ cell_dead s b)

-- an end by what it is made of
same_end_if : {a b : Bool} {e f : Option Number} → a ≡ b → e ≡ f → end_if a e ≡ end_if b f
same_end_if g h t = end_if (g t) (h t)

module _ (p : Sparse) (i : ℕ) (s : IsSparse p) (live : (row_at p i).live ≡ true) where
  abbrev rows_left : List Line
  rows_left = lines_without p.matrix.rows i

  row_there : i < length p.matrix.rows
  row_there = row_inside p i live

  row_coefficient : (k j : ℕ) → coefficient_of (row_deleted p i) k j ≡ put (coefficient_of p) i (λ m. zero_ℚ) k j
  row_coefficient k j = by (cases_eq k i)
    where
      by : (k ≡ i) ⊎ (k ≢ i) → coefficient_of (row_deleted p i) k j ≡ put (coefficient_of p) i (λ m. zero_ℚ) k j
      by (inl e) =
          ap (λ (b : Bool). cell b (column_at (row_deleted p i) j).live (dense (row_at (row_deleted p i) k).entries j)) (ap (λ (m : ℕ). (row_at (row_deleted p i) m).live) e ∙ without-dead p.matrix.rows i row_there)
          ∙ sym (ap (λ (m : ℕ). put (coefficient_of p) i (λ m. zero_ℚ) m j) e ∙ ap (λ (f : ℕ → Number). f j) (put-same (coefficient_of p) i (λ m. zero_ℚ)))
      by (inr n) =
          same_cell (without-live p.matrix.rows i k n) (losing-live rows_left p.matrix.columns i j) (ap (λ (y : Line). dense y.entries j) (without-other p.matrix.rows i k n))
          ∙ sym (ap (λ (f : ℕ → Number). f j) (put-other (coefficient_of p) i (λ m. zero_ℚ) k n))

  row_end : (end_of : Sides → Option Number) (k : ℕ) → end_if (row_at (row_deleted p i) k).live (end_of (sides_at (row_deleted p i) k)) ≡ put (λ k. end_if (row_at p k).live (end_of (sides_at p k))) i None k
  row_end end_of = at_or_off (λ k. end_if (row_at (row_deleted p i) k).live (end_of (sides_at (row_deleted p i) k)) ≡ put (λ k. end_if (row_at p k).live (end_of (sides_at p k))) i None k) i
      (ap (λ (b : Bool). end_if b (end_of (sides_at (row_deleted p i) i))) (without-dead p.matrix.rows i row_there) ∙ sym (put-same (λ k. end_if (row_at p k).live (end_of (sides_at p k))) i None))
      (λ k n. same_end_if (without-live p.matrix.rows i k n) refl ∙ sym (put-other (λ k. end_if (row_at p k).live (end_of (sides_at p k))) i None k n))

  pub shown-row_deleted : shown (row_deleted p i) ≡ without_row (shown p) i
  shown-row_deleted t = record {
    rows = length-lines_without p.matrix.rows i t;
    columns = length-lines_losing rows_left p.matrix.columns i t;
    coefficient = λ k j. row_coefficient k j t;
    lower_side = λ k. row_end (λ s. s.lower) k t;
    upper_side = λ k. row_end (λ s. s.upper) k t;
    lower_bound = λ j. end_if (losing-live rows_left p.matrix.columns i j t) (reach_low (bounds_at p j));
    upper_bound = λ j. end_if (losing-live rows_left p.matrix.columns i j t) (reach_high (bounds_at p j));
    whole = λ j. losing-live rows_left p.matrix.columns i j t && (bounds_at p j).whole;
    gap = λ j. gap_if (losing-live rows_left p.matrix.columns i j t) (bounds_at p j);
    costs = λ j. if losing-live rows_left p.matrix.columns i j t then cost_at p j else zero_ℚ;
    constant = p.constant;
  }

module _ (p : Sparse) (j : ℕ) (s : IsSparse p) (live : (column_at p j).live ≡ true) where
  abbrev columns_left : List Line
  columns_left = lines_without p.matrix.columns j

  column_there : j < length p.matrix.columns
  column_there = column_inside p j live

  column_coefficient : (i k : ℕ) → coefficient_of (column_deleted p j) i k ≡ put (coefficient_of p i) j zero_ℚ k
  column_coefficient i = at_or_off (λ k. coefficient_of (column_deleted p j) i k ≡ put (coefficient_of p i) j zero_ℚ k) j
      (ap (λ (b : Bool). cell (row_at (column_deleted p j) i).live b (dense (row_at (column_deleted p j) i).entries j)) (without-dead p.matrix.columns j column_there)
      ∙ cell_dead (row_at (column_deleted p j) i).live (dense (row_at (column_deleted p j) i).entries j) ∙ sym (put-same (coefficient_of p i) j zero_ℚ))
      (λ k n. same_where_live (losing-live columns_left p.matrix.rows j i) (without-live p.matrix.columns j k n) (losing-dense columns_left p.matrix.rows j i k)
      ∙ sym (put-other (coefficient_of p i) j zero_ℚ k n))

  -- what a column shows is that of before away from j, and none at j
  column_shows : {A : Type 0} (none : A) (show : Bool → Bounds → ℕ → A) → ((b : Bounds) (k : ℕ) → show false b k ≡ none)
      → (k : ℕ) → show (column_at (column_deleted p j) k).live (bounds_at (column_deleted p j) k) k ≡ put (λ k. show (column_at p k).live (bounds_at p k) k) j none k
  column_shows none show dead = at_or_off (λ k. show (column_at (column_deleted p j) k).live (bounds_at (column_deleted p j) k) k ≡ put (λ k. show (column_at p k).live (bounds_at p k) k) j none k) j
      (ap (λ (b : Bool). show b (bounds_at (column_deleted p j) j) j) (without-dead p.matrix.columns j column_there) ∙ dead (bounds_at (column_deleted p j) j) j
      ∙ sym (put-same (λ k. show (column_at p k).live (bounds_at p k) k) j none))
      (λ k n. ap (λ (b : Bool). show b (bounds_at p k) k) (without-live p.matrix.columns j k n)
      ∙ sym (put-other (λ k. show (column_at p k).live (bounds_at p k) k) j none k n))

  pub shown-column_deleted : shown (column_deleted p j) ≡ column_left_out (shown p) j
  shown-column_deleted t = record {
    rows = length-lines_losing columns_left p.matrix.rows j t;
    columns = length-lines_without p.matrix.columns j t;
    coefficient = λ i k. column_coefficient i k t;
    lower_side = λ i. end_if (losing-live columns_left p.matrix.rows j i t) (sides_at p i).lower;
    upper_side = λ i. end_if (losing-live columns_left p.matrix.rows j i t) (sides_at p i).upper;
    lower_bound = λ k. column_shows None (λ b e k. end_if b (reach_low e)) (λ e k. refl) k t;
    upper_bound = λ k. column_shows None (λ b e k. end_if b (reach_high e)) (λ e k. refl) k t;
    whole = λ k. column_shows false (λ b e k. b && e.whole) (λ e k. refl) k t;
    gap = λ k. column_shows None (λ b e k. gap_if b e) (λ e k. refl) k t;
    costs = λ k. column_shows zero_ℚ (λ b e k. if b then cost_at p k else zero_ℚ) (λ e k. refl) k t;
    constant = p.constant;
  }

module _ (p : Sparse) (i : ℕ) (lower upper : Option Number) (s : IsSparse p) (live : (row_at p i).live ≡ true) where
  sides_end : (end_of : Sides → Option Number) (e : Option Number) → end_of (sides_moved (sides_at p i) lower upper) ≡ e
      → (k : ℕ) → end_if (row_at p k).live (end_of (sides_at (sides_set p i lower upper) k)) ≡ put (λ k. end_if (row_at p k).live (end_of (sides_at p k))) i e k
  sides_end end_of e is = at_or_off (λ k. end_if (row_at p k).live (end_of (sides_at (sides_set p i lower upper) k)) ≡ put (λ k. end_if (row_at p k).live (end_of (sides_at p k))) i e k) i
      (same_end_if live (ap end_of (sides_set-same p i lower upper (sides_inside p i s live)) ∙ is) ∙ sym (put-same (λ k. end_if (row_at p k).live (end_of (sides_at p k))) i e))
      (λ k n. ap (λ (x : Sides). end_if (row_at p k).live (end_of x)) (sides_set-other p i lower upper k n) ∙ sym (put-other (λ k. end_if (row_at p k).live (end_of (sides_at p k))) i e k n))

  pub shown-sides_set : shown (sides_set p i lower upper) ≡ with_sides (shown p) i lower upper
  shown-sides_set t = record {
    rows = length p.matrix.rows;
    columns = length p.matrix.columns;
    coefficient = coefficient_of p;
    lower_side = λ k. sides_end (λ s. s.lower) lower refl k t;
    upper_side = λ k. sides_end (λ s. s.upper) upper refl k t;
    lower_bound = λ j. end_if (column_at p j).live (reach_low (bounds_at p j));
    upper_bound = λ j. end_if (column_at p j).live (reach_high (bounds_at p j));
    whole = λ j. (column_at p j).live && (bounds_at p j).whole;
    gap = λ j. gap_if (column_at p j).live (bounds_at p j);
    costs = λ j. if (column_at p j).live then cost_at p j else zero_ℚ;
    constant = p.constant;
  }

module _ (p : Sparse) (j : ℕ) (lower upper : Option Number) (s : IsSparse p) (live : (column_at p j).live ≡ true) (free : (bounds_at p j).semi ≡ false) where
  bounds_end : (end_of : Bounds → Option Number) (e : Option Number) → end_of (bounds_moved (bounds_at p j) lower upper) ≡ e
      → (k : ℕ) → end_if (column_at p k).live (end_of (bounds_at (bounds_set p j lower upper) k)) ≡ put (λ k. end_if (column_at p k).live (end_of (bounds_at p k))) j e k
  bounds_end end_of e is = at_or_off (λ k. end_if (column_at p k).live (end_of (bounds_at (bounds_set p j lower upper) k)) ≡ put (λ k. end_if (column_at p k).live (end_of (bounds_at p k))) j e k) j
      (same_end_if live (ap end_of (bounds_set-same p j lower upper (bounds_inside p j s live)) ∙ is) ∙ sym (put-same (λ k. end_if (column_at p k).live (end_of (bounds_at p k))) j e))
      (λ k n. ap (λ (x : Bounds). end_if (column_at p k).live (end_of x)) (bounds_set-other p j lower upper k n) ∙ sym (put-other (λ k. end_if (column_at p k).live (end_of (bounds_at p k))) j e k n))

  -- new bounds leave whole what was
  whole_stays : (k : ℕ) → (bounds_at (bounds_set p j lower upper) k).whole ≡ (bounds_at p k).whole
  whole_stays = at_or_off (λ k. (bounds_at (bounds_set p j lower upper) k).whole ≡ (bounds_at p k).whole) j
      (ap (λ (b : Bounds). b.whole) (bounds_set-same p j lower upper (bounds_inside p j s live)))
      (λ k n. ap (λ (b : Bounds). b.whole) (bounds_set-other p j lower upper k n))

  -- nor do they make or take a gap
  gap_stays : (k : ℕ) → gap_if (column_at p k).live (bounds_at (bounds_set p j lower upper) k) ≡ gap_if (column_at p k).live (bounds_at p k)
  gap_stays = at_or_off (λ k. gap_if (column_at p k).live (bounds_at (bounds_set p j lower upper) k) ≡ gap_if (column_at p k).live (bounds_at p k)) j
      (ap (gap_if (column_at p j).live) (bounds_set-same p j lower upper (bounds_inside p j s live))
      ∙ ap (λ (b : Bool). if (column_at p j).live then gap_of b lower upper else None) free
      ∙ sym (ap (λ (b : Bool). if (column_at p j).live then gap_of b (bounds_at p j).lower (bounds_at p j).upper else None) free))
      (λ k n. ap (gap_if (column_at p k).live) (bounds_set-other p j lower upper k n))

  pub shown-bounds_set : shown (bounds_set p j lower upper) ≡ with_bounds (shown p) j lower upper
  shown-bounds_set t = record {
    rows = length p.matrix.rows;
    columns = length p.matrix.columns;
    coefficient = coefficient_of p;
    lower_side = λ i. end_if (row_at p i).live (sides_at p i).lower;
    upper_side = λ i. end_if (row_at p i).live (sides_at p i).upper;
    lower_bound = λ k. bounds_end reach_low lower (ap (λ t. reach_lower t lower upper) free) k t;
    upper_bound = λ k. bounds_end reach_high upper (ap (λ t. reach_upper t lower upper) free) k t;
    whole = λ k. (column_at p k).live && whole_stays k t;
    gap = λ k. gap_stays k t;
    costs = λ k. if (column_at p k).live then cost_at p k else zero_ℚ;
    constant = p.constant;
  }

pub shown-offset_set : (p : Sparse) (k : Number) → shown (offset_set p k) ≡ shown p
shown-offset_set p k = refl
