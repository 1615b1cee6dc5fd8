-- Problems that differ in their numbers of changes alone.
use Rattle.std.proofs.Common.{◌≡◌, ℕ, zero, suc, ◌+◌, ◌<◌, ◌&&◌, List, [], ◌∷◌, length, map, get_or, sym, refl, ap, ap₂, ◌∙◌, subst, arith, Option, None, add-zero}
use Rattle.std.specs.Prelude.{if◌then◌else◌, IfSome}
use Rattle.std.specs.List.{All}
use Rattle.fractions.specs.Number.{Number, zero_ℚ}
use Rattle.lp_model.specs.Numbers.{Numbers}
use Rattle.lp_model.specs.declared.terms.Term.{Term}
use Rattle.lp_model.specs.Sparse.{Ascends, dense}
use Rattle.lp_model.specs.Writable.{WritableNumber, WritableBound}
use Rattle.problem_model.specs.declared.line.Line.{Line}
use Rattle.problem_model.specs.declared.line.Sides.{Sides}
use Rattle.problem_model.specs.declared.line.Bounds.{Bounds}
use Rattle.problem_model.specs.declared.part.Part.{Part}
use Rattle.problem_model.specs.declared.part.Part.TheVariants as part
use Rattle.problem_model.specs.declared.part.Contents.TheVariants as holds
use Rattle.problem_model.specs.Flags.{flags_of}
use Rattle.problem_model.specs.Grids.{Grid}
use Rattle.problem_model.specs.Matrices.{no_line, line_at, live_only, Crosses, IsMatrix}
use Rattle.problem_model.specs.Parts.{contents_of, changes_of, bounds_held}
use Rattle.problem_model.specs.Problems.{no_sides, no_bounds, row_at, column_at, sides_at, bounds_at, cost_at, row_entries, column_entries, IsSparse}
use Rattle.problem_model.specs.Raised.{each_at, numbered_line, numbered_sides, numbered_bounds, numbered}
use Rattle.problem_model.specs.Showing.{end_if, shown, reach_low, reach_high}
use Rattle.problem_model.specs.Sparse.{Sparse}
use Rattle.problem_model.specs.Writing.{KeptSides, IsWritable}
use Rattle.problem_laws.proofs.Entries.{live_only-same}
use Rattle.problem_laws.proofs.Keeping.{few}
use Rattle.problem_laws.proofs.ShowingEdits.{cell}
use Rattle.lp_model.specs.Gaps.{gap_of}

-- ---- each of a list
pub length-each_at : {X : Type 0} (f : ℕ → X → X) (k : ℕ) (xs : List X) → length (each_at f k xs) ≡ length xs
length-each_at f k [] = refl
length-each_at f k (x ∷ xs) = ap suc (length-each_at f (suc k) xs)

each_from : {X : Type 0} (f : ℕ → X → X) (d : X) (k : ℕ) (xs : List X) (m : ℕ) → m < length xs → get_or (each_at f k xs) m d ≡ f (k + m) (get_or xs m d)
each_from f d k [] m l = absurd (omega (arith, l))
each_from f d k (x ∷ xs) zero l = ap (λ (n : ℕ). f n x) (sym (add-zero k))
each_from f d k (x ∷ xs) (suc m) l = each_from f d (suc k) xs m (omega (arith, l)) ∙ ap (λ (n : ℕ). f n (get_or xs m d)) (shift k m)
  where
    shift : (k m : ℕ) → suc k + m ≡ k + suc m
    shift k m = omega arith

pub each_at-get : {X : Type 0} (f : ℕ → X → X) (d : X) (xs : List X) (m : ℕ) → m < length xs → get_or (each_at f 0 xs) m d ≡ f m (get_or xs m d)
each_at-get f d xs m l = each_from f d 0 xs m l ∙ ap (λ (n : ℕ). f n (get_or xs m d)) (omega arith)

-- what f leaves as it is
pub each_at-field : {X A : Type 0} (g : X → A) (f : ℕ → X → X) (d : X) → ((k : ℕ) (x : X) → g (f k x) ≡ g x) → (k : ℕ) (xs : List X) (m : ℕ) → g (get_or (each_at f k xs) m d) ≡ g (get_or xs m d)
each_at-field g f d h k [] m = refl
each_at-field g f d h k (x ∷ xs) zero = h k x
each_at-field g f d h k (x ∷ xs) (suc m) = each_at-field g f d h (suc k) xs m

pub each_at-map : {X A : Type 0} (g : X → A) (f : ℕ → X → X) → ((k : ℕ) (x : X) → g (f k x) ≡ g x) → (k : ℕ) (xs : List X) → map g (each_at f k xs) ≡ map g xs
each_at-map g f h k [] = refl
each_at-map g f h k (x ∷ xs) = ap₂ ◌∷◌ (h k x) (each_at-map g f h (suc k) xs)

-- ---- lines that differ in their numbers of changes alone
pub record AreLike (old new : List Line) : Type 0 where
  pub long : length new ≡ length old
  pub live : (x : ℕ) → (line_at new x).live ≡ (line_at old x).live
  pub entries : (x : ℕ) → (line_at new x).entries ≡ (line_at old x).entries
  pub count : (x : ℕ) → (line_at new x).live_entries ≡ (line_at old x).live_entries

numbered_like : (number : ℕ → ℕ) (lines : List Line) → AreLike lines (each_at (numbered_line number) 0 lines)
numbered_like number lines = record {
  long = length-each_at (numbered_line number) 0 lines;
  live = λ x. each_at-field (λ (l : Line). l.live) (numbered_line number) no_line (λ k l. refl) 0 lines x;
  entries = λ x. each_at-field (λ (l : Line). l.entries) (numbered_line number) no_line (λ k l. refl) 0 lines x;
  count = λ x. each_at-field (λ (l : Line). l.live_entries) (numbered_line number) no_line (λ k l. refl) 0 lines x;
}

like_crosses : (lines others new_lines new_others : List Line) → AreLike lines new_lines → AreLike others new_others → Crosses lines others → Crosses new_lines new_others
like_crosses lines others new_lines new_others a b h = record {
  ascends = λ x. subst (λ (n : ℕ). Ascends 0 n (line_at new_lines x).entries) (sym b.long) (subst (Ascends 0 (length others)) (sym (a.entries x)) (h.ascends x));
  counted = λ x. a.count x ∙ h.counted x ∙ ap length (sym (live_only-same others new_others b.live (line_at lines x).entries)) ∙ ap (λ (ts : List Term). length (live_only new_others ts)) (sym (a.entries x));
  gone = λ x off. a.entries x ∙ h.gone x (sym (a.live x) ∙ off);
}

like_matrix : (g h : Grid) → AreLike g.rows h.rows → AreLike g.columns h.columns → IsMatrix g → IsMatrix h
like_matrix g h a b m = record {
  rows = like_crosses g.rows g.columns h.rows h.columns a b m.rows;
  columns = like_crosses g.columns g.rows h.columns h.rows b a m.columns;
  agree = λ i j on off. ap (λ (ts : List Term). dense ts j) (a.entries i) ∙ m.agree i j (sym (a.live i) ∙ on) (sym (b.live j) ∙ off) ∙ sym (ap (λ (ts : List Term). dense ts i) (b.entries j));
}

-- ---- a problem with other numbers
module _ (q : Sparse) (number : Part → ℕ) where
  abbrev to : Sparse
  to = numbered q number

  pub rows_like : AreLike q.matrix.rows to.matrix.rows
  rows_like = numbered_like (λ i. number (part.Row i)) q.matrix.rows

  pub columns_like : AreLike q.matrix.columns to.matrix.columns
  columns_like = numbered_like (λ j. number (part.Col j)) q.matrix.columns

  pub sides_like : {A : Type 0} (g : Sides → A) → ((n : ℕ) (x : Sides) → g (record x { changes = n }) ≡ g x) → (i : ℕ) → g (sides_at to i) ≡ g (sides_at q i)
  sides_like g h i = each_at-field g (numbered_sides (λ i. number (part.Sides i))) no_sides (λ k x. h (number (part.Sides k)) x) 0 q.sides i

  pub bounds_like : {A : Type 0} (g : Bounds → A) → ((n : ℕ) (x : Bounds) → g (record x { changes = n }) ≡ g x) → (j : ℕ) → g (bounds_at to j) ≡ g (bounds_at q j)
  bounds_like g h j = each_at-field g (numbered_bounds (λ j. number (part.Bounds j))) no_bounds (λ k x. h (number (part.Bounds k)) x) 0 q.bounds j

  pub numbered_sparse : IsSparse q → IsSparse to
  numbered_sparse s = record {
    matrix = like_matrix q.matrix to.matrix rows_like columns_like s.matrix;
    few_rows = few (length q.matrix.rows) (length to.matrix.rows) rows_like.long s.few_rows;
    few_columns = few (length q.matrix.columns) (length to.matrix.columns) columns_like.long s.few_columns;
    sides = length-each_at (numbered_sides (λ i. number (part.Sides i))) 0 q.sides ∙ s.sides ∙ sym rows_like.long;
    bounds = length-each_at (numbered_bounds (λ j. number (part.Bounds j))) 0 q.bounds ∙ s.bounds ∙ sym columns_like.long;
    costs = s.costs ∙ sym columns_like.long;
  }

  pub shown-numbered : shown to ≡ shown q
  shown-numbered t = record {
    rows = rows_like.long t;
    columns = columns_like.long t;
    coefficient = λ i j. cell (rows_like.live i t) (columns_like.live j t) (dense (rows_like.entries i t) j);
    lower_side = λ i. end_if (rows_like.live i t) (sides_like (λ x. x.lower) (λ n x. refl) i t);
    upper_side = λ i. end_if (rows_like.live i t) (sides_like (λ x. x.upper) (λ n x. refl) i t);
    lower_bound = λ j. end_if (columns_like.live j t) (bounds_like reach_low (λ n b. refl) j t);
    upper_bound = λ j. end_if (columns_like.live j t) (bounds_like reach_high (λ n b. refl) j t);
    whole = λ j. columns_like.live j t && bounds_like (λ b. b.whole) (λ n b. refl) j t;
    gap = λ j. if columns_like.live j t then bounds_like (λ b. gap_of b.semi b.lower b.upper) (λ n b. refl) j t else None;
    costs = λ j. if columns_like.live j t then cost_at q j else zero_ℚ;
    constant = q.constant;
  }

  pub flags-numbered : flags_of to ≡ flags_of q
  flags-numbered t = record {
    rows = each_at-map (λ (l : Line). l.live) (numbered_line (λ i. number (part.Row i))) (λ k l. refl) 0 q.matrix.rows t;
    columns = each_at-map (λ (l : Line). l.live) (numbered_line (λ j. number (part.Col j))) (λ k l. refl) 0 q.matrix.columns t;
  }

  row_entries-numbered : (i : ℕ) → row_entries to i ≡ row_entries q i
  row_entries-numbered i = ap (live_only to.matrix.columns) (rows_like.entries i) ∙ live_only-same q.matrix.columns to.matrix.columns columns_like.live (row_at q i).entries

  column_entries-numbered : (j : ℕ) → column_entries to j ≡ column_entries q j
  column_entries-numbered j = ap (live_only to.matrix.rows) (columns_like.entries j) ∙ live_only-same q.matrix.rows to.matrix.rows rows_like.live (column_at q j).entries

  -- parts hold what they held
  pub contents-numbered : (a : Part) → contents_of to a ≡ contents_of q a
  contents-numbered (part.Row i) t = if rows_like.live i t then holds.Entries (row_entries-numbered i t) else holds.Gone
  contents-numbered (part.Sides i) t = if rows_like.live i t then holds.Sides (sides_like (λ x. x.lower) (λ n x. refl) i t) (sides_like (λ x. x.upper) (λ n x. refl) i t) else holds.Gone
  contents-numbered (part.Col j) t = if columns_like.live j t then holds.Column (column_entries-numbered j t) (cost_at q j) else holds.Gone
  contents-numbered (part.Bounds j) t = if columns_like.live j t then bounds_like (λ b. bounds_held b.semi b.lower b.upper b.whole) (λ n b. refl) j t else holds.Gone

  -- where there is a part, its number is the one that is given
  pub changes-row : (i : ℕ) → i < length q.matrix.rows → changes_of to (part.Row i) ≡ number (part.Row i)
  changes-row i l = ap (λ (x : Line). x.changes) (each_at-get (numbered_line (λ i. number (part.Row i))) no_line q.matrix.rows i l)

  pub changes-column : (j : ℕ) → j < length q.matrix.columns → changes_of to (part.Col j) ≡ number (part.Col j)
  changes-column j l = ap (λ (x : Line). x.changes) (each_at-get (numbered_line (λ j. number (part.Col j))) no_line q.matrix.columns j l)

  pub changes-sides : (i : ℕ) → i < length q.sides → changes_of to (part.Sides i) ≡ number (part.Sides i)
  changes-sides i l = ap (λ (x : Sides). x.changes) (each_at-get (numbered_sides (λ i. number (part.Sides i))) no_sides q.sides i l)

  pub changes-bounds : (j : ℕ) → j < length q.bounds → changes_of to (part.Bounds j) ≡ number (part.Bounds j)
  changes-bounds j l = ap (λ (x : Bounds). x.changes) (each_at-get (numbered_bounds (λ j. number (part.Bounds j))) no_bounds q.bounds j l)

  pub writable-numbered : (numbers : Numbers) → IsWritable numbers q → IsWritable numbers to
  writable-numbered numbers w = record {
    rows = λ i on. subst (λ (l : Option Number). KeptSides numbers l (sides_at to i).upper) (sym (sides_like (λ x. x.lower) (λ n x. refl) i))
        (subst (λ (u : Option Number). KeptSides numbers (sides_at q i).lower u) (sym (sides_like (λ x. x.upper) (λ n x. refl) i)) (w.rows i (sym (rows_like.live i) ∙ on)));
    columns = λ j on. let k = w.columns j (sym (columns_like.live j) ∙ on) in record {
      cost = k.cost;
      lower = subst (λ (e : Option Number). IfSome e (WritableBound numbers)) (sym (bounds_like (λ b. b.lower) (λ n b. refl) j)) k.lower;
      upper = subst (λ (e : Option Number). IfSome e (WritableBound numbers)) (sym (bounds_like (λ b. b.upper) (λ n b. refl) j)) k.upper;
      entries = subst (All (λ (t : Term). WritableNumber numbers t.value)) (sym (columns_like.entries j)) k.entries;
    };
  }

-- ---- numbers count where there are parts
each_ext : {X : Type 0} (f g : ℕ → X → X) (k : ℕ) (xs : List X) → ((m : ℕ) → m < length xs → (x : X) → f (k + m) x ≡ g (k + m) x) → each_at f k xs ≡ each_at g k xs
each_ext f g k [] h = refl
each_ext f g k (x ∷ xs) h = ap₂ ◌∷◌ (rw (sym (add-zero k)) (h 0 (omega arith) x)) (each_ext f g (suc k) xs (λ m l y. let e : suc k + m ≡ k + suc m = omega arith in rw e (h (suc m) (omega (arith, l)) y)))

pub each_at-ext : {X : Type 0} (f g : ℕ → X → X) (xs : List X) → ((m : ℕ) → m < length xs → (x : X) → f m x ≡ g m x) → each_at f 0 xs ≡ each_at g 0 xs
each_at-ext f g xs h = each_ext f g 0 xs (λ m l x. let e : 0 + m ≡ m = omega arith in rw e (h m l x))

pub each_at-twice : {X : Type 0} (f g : ℕ → X → X) → ((k : ℕ) (x : X) → g k (f k x) ≡ g k x) → (k : ℕ) (xs : List X) → each_at g k (each_at f k xs) ≡ each_at g k xs
each_at-twice f g h k [] = refl
each_at-twice f g h k (x ∷ xs) = ap₂ ◌∷◌ (h k x) (each_at-twice f g h (suc k) xs)
