-- What stands at an id after an edit.
use Rattle.std.proofs.Common.{◌≡◌, ◌≢◌, ℕ, ◌*◌, ◌<◌, ◌≤◌, nat_lt, Bool, true, false, List, length, sym, refl, ap, ◌∙◌, pred, arith, ◌⊎◌, inl, inr, Option}
use Rattle.std.specs.Prelude.{if◌then◌else◌}
use Rattle.std.proofs.lemmas.Bool.{cases_lt}
use Rattle.std.proofs.lemmas.List.{get_or-set_same, get_or-set_other, get_or_past}
use Rattle.std.proofs.Math.ListN.{get_or-map}
use Rattle.fractions.specs.Number.{Number}
use Rattle.fractions.proofs.Totals.{at_or_off}
use Rattle.lp_model.specs.declared.terms.Term.{Term}
use Rattle.lp_model.specs.Sparse.{has}
use Rattle.problem_model.specs.declared.line.Line.{Line}
use Rattle.problem_model.specs.Matrices.{no_line, line_at, live_only}
use Rattle.problem_model.specs.Problems.{no_sides, no_bounds, row_at, column_at, sides_at, bounds_at, IsSparse}
use Rattle.problem_model.specs.Edits.{deleted, losing, lines_without, lines_losing, sides_moved, bounds_moved, row_deleted, column_deleted, sides_set, bounds_set}
use Rattle.problem_model.specs.Sparse.{Sparse}

-- what is live stands before the end of the list
pub live_inside : (lines : List Line) (k : ℕ) → (line_at lines k).live ≡ true → k < length lines
live_inside lines k h = by (cases_lt k (length lines))
  where
    by : (k < length lines) ⊎ (length lines ≤ k) → k < length lines
    by (inl l) = l
    by (inr g) = let e : false ≡ true = sym (ap (λ (y : Line). y.live) (get_or_past lines k no_line g)) ∙ h in cc

-- ---- a deleted line
pub without-same : (lines : List Line) (k : ℕ) → k < length lines → line_at (lines_without lines k) k ≡ deleted (line_at lines k)
without-same lines k l = get_or-set_same lines k (deleted (line_at lines k)) no_line l

pub without-other : (lines : List Line) (k m : ℕ) → m ≢ k → line_at (lines_without lines k) m ≡ line_at lines m
without-other lines k m n = get_or-set_other lines k m (deleted (line_at lines k)) no_line n

pub without-dead : (lines : List Line) (k : ℕ) → k < length lines → (line_at (lines_without lines k) k).live ≡ false
without-dead lines k l = ap (λ (y : Line). y.live) (without-same lines k l)

pub without-live : (lines : List Line) (k m : ℕ) → m ≢ k → (line_at (lines_without lines k) m).live ≡ (line_at lines m).live
without-live lines k m n = ap (λ (y : Line). y.live) (without-other lines k m n)

-- what is live after a line was deleted stands as it did
pub without-kept : (lines : List Line) (k : ℕ) → k < length lines → (m : ℕ) → (line_at (lines_without lines k) m).live ≡ true → line_at (lines_without lines k) m ≡ line_at lines m
without-kept lines k l = at_or_off (λ m. (line_at (lines_without lines k) m).live ≡ true → line_at (lines_without lines k) m ≡ line_at lines m) k
    (λ h. let e : false ≡ true = sym (without-dead lines k l) ∙ h in cc)
    (λ m n h. without-other lines k m n)

-- ---- lines that lose an entry
-- a line that loses an entry, if it had it, and keeps its live entries alone, if few are left
abbrev lost : List Line → Bool → Bool → Line → Line
lost others b c l = if b then if c then record l { entries = live_only others l.entries; live_entries = pred l.live_entries } else record l { live_entries = pred l.live_entries } else l

-- fewer than half of the entries are live once one is lost
abbrev is_thin : Line → Bool
is_thin l = nat_lt (2 * pred l.live_entries) (length l.entries)

pub losing_live : (others : List Line) (k : ℕ) (l : Line) → (losing others k l).live ≡ l.live
losing_live others k l = by (has k l.entries) (is_thin l)
  where
    by : (b c : Bool) → (lost others b c l).live ≡ l.live
    by true true = refl
    by true false = refl
    by false c = refl

pub losing_changes : (others : List Line) (k : ℕ) (l : Line) → (losing others k l).changes ≡ l.changes
losing_changes others k l = by (has k l.entries) (is_thin l)
  where
    by : (b c : Bool) → (lost others b c l).changes ≡ l.changes
    by true true = refl
    by true false = refl
    by false c = refl

pub losing_live_entries : (others : List Line) (k : ℕ) (l : Line) → (losing others k l).live_entries ≡ if has k l.entries then pred l.live_entries else l.live_entries
losing_live_entries others k l = by (has k l.entries) (is_thin l)
  where
    by : (b c : Bool) → (lost others b c l).live_entries ≡ if b then pred l.live_entries else l.live_entries
    by true true = refl
    by true false = refl
    by false c = refl

-- what holds of the entries, and of the live ones among them, holds of those that are kept
pub losing_keeps : (others : List Line) (k : ℕ) (l : Line) (P : List Term → Type 0) → P l.entries → P (live_only others l.entries) → P (losing others k l).entries
losing_keeps others k l P all live = by (has k l.entries) (is_thin l)
  where
    by : (b c : Bool) → P (lost others b c l).entries
    by true true = live
    by true false = all
    by false c = all

pub losing-at : (others lines : List Line) (k m : ℕ) → line_at (lines_losing others lines k) m ≡ losing others k (line_at lines m)
losing-at others lines k m = get_or-map (losing others k) lines m no_line

pub losing-live : (others lines : List Line) (k m : ℕ) → (line_at (lines_losing others lines k) m).live ≡ (line_at lines m).live
losing-live others lines k m = ap (λ (y : Line). y.live) (losing-at others lines k m) ∙ losing_live others k (line_at lines m)

pub losing-live_entries : (others lines : List Line) (k m : ℕ) → (line_at (lines_losing others lines k) m).live_entries
    ≡ if has k (line_at lines m).entries then pred (line_at lines m).live_entries else (line_at lines m).live_entries
losing-live_entries others lines k m = ap (λ (y : Line). y.live_entries) (losing-at others lines k m) ∙ losing_live_entries others k (line_at lines m)

-- ---- rows and columns of a problem with a deleted row
pub row_deleted-same : (p : Sparse) (i : ℕ) → i < length p.matrix.rows → row_at (row_deleted p i) i ≡ deleted (row_at p i)
row_deleted-same p i l = without-same p.matrix.rows i l

pub row_deleted-other : (p : Sparse) (i k : ℕ) → k ≢ i → row_at (row_deleted p i) k ≡ row_at p k
row_deleted-other p i k n = without-other p.matrix.rows i k n

pub row_deleted-column : (p : Sparse) (i j : ℕ) → column_at (row_deleted p i) j ≡ losing (row_deleted p i).matrix.rows i (column_at p j)
row_deleted-column p i j = losing-at (row_deleted p i).matrix.rows p.matrix.columns i j

-- ---- and with a deleted column
pub column_deleted-same : (p : Sparse) (j : ℕ) → j < length p.matrix.columns → column_at (column_deleted p j) j ≡ deleted (column_at p j)
column_deleted-same p j l = without-same p.matrix.columns j l

pub column_deleted-other : (p : Sparse) (j k : ℕ) → k ≢ j → column_at (column_deleted p j) k ≡ column_at p k
column_deleted-other p j k n = without-other p.matrix.columns j k n

pub column_deleted-row : (p : Sparse) (j i : ℕ) → row_at (column_deleted p j) i ≡ losing (column_deleted p j).matrix.columns j (row_at p i)
column_deleted-row p j i = losing-at (column_deleted p j).matrix.columns p.matrix.rows j i

-- ---- new sides and bounds
pub sides_set-same : (p : Sparse) (i : ℕ) (l u : Option Number) → i < length p.sides → sides_at (sides_set p i l u) i ≡ sides_moved (sides_at p i) l u
sides_set-same p i l u h = get_or-set_same p.sides i (sides_moved (sides_at p i) l u) no_sides h

pub sides_set-other : (p : Sparse) (i : ℕ) (l u : Option Number) (k : ℕ) → k ≢ i → sides_at (sides_set p i l u) k ≡ sides_at p k
sides_set-other p i l u k n = get_or-set_other p.sides i k (sides_moved (sides_at p i) l u) no_sides n

pub bounds_set-same : (p : Sparse) (j : ℕ) (l u : Option Number) → j < length p.bounds → bounds_at (bounds_set p j l u) j ≡ bounds_moved (bounds_at p j) l u
bounds_set-same p j l u h = get_or-set_same p.bounds j (bounds_moved (bounds_at p j) l u) no_bounds h

pub bounds_set-other : (p : Sparse) (j : ℕ) (l u : Option Number) (k : ℕ) → k ≢ j → bounds_at (bounds_set p j l u) k ≡ bounds_at p k
bounds_set-other p j l u k n = get_or-set_other p.bounds j k (bounds_moved (bounds_at p j) l u) no_bounds n

-- ---- live rows and columns have sides, bounds and costs
pub row_inside : (p : Sparse) (i : ℕ) → (row_at p i).live ≡ true → i < length p.matrix.rows
row_inside p i h = live_inside p.matrix.rows i h

pub column_inside : (p : Sparse) (j : ℕ) → (column_at p j).live ≡ true → j < length p.matrix.columns
column_inside p j h = live_inside p.matrix.columns j h

pub sides_inside : (p : Sparse) (i : ℕ) → IsSparse p → (row_at p i).live ≡ true → i < length p.sides
sides_inside p i s h = omega (arith, row_inside p i h, s.sides)

pub bounds_inside : (p : Sparse) (j : ℕ) → IsSparse p → (column_at p j).live ≡ true → j < length p.bounds
bounds_inside p j s h = omega (arith, column_inside p j h, s.bounds)

pub cost_inside : (p : Sparse) (j : ℕ) → IsSparse p → (column_at p j).live ≡ true → j < length p.costs
cost_inside p j s h = omega (arith, column_inside p j h, s.costs)
