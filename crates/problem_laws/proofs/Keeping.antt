-- Each edit keeps what is asked of a problem.
use Rattle.std.proofs.Common.{◌≡◌, ℕ, pred, ◌<◌, ◌^◌, Bool, true, false, List, [], length, refl, sym, ap, ap₂, ◌∙◌, subst, Option}
use Rattle.std.specs.Prelude.{if◌then◌else◌}
use Rattle.std.proofs.lemmas.List.{length-map, length-set}
use Rattle.fractions.specs.Number.{Number}
use Rattle.fractions.proofs.Totals.{at_or_off}
use Rattle.lp_model.specs.Sparse.{Ascends, dense, has, without}
use Rattle.problem_model.specs.declared.line.Line.{Line}
use Rattle.problem_model.specs.Grids.{Grid}
use Rattle.problem_model.specs.Matrices.{line_at, live_only, Crosses, IsMatrix}
use Rattle.problem_model.specs.Problems.{row_at, column_at, sides_at, bounds_at, IsSparse}
use Rattle.problem_model.specs.Edits.{deleted, losing, lines_without, lines_losing, sides_moved, bounds_moved, row_deleted, column_deleted, sides_set, bounds_set, offset_set}
use Rattle.problem_model.specs.Sparse.{Sparse}
use Rattle.problem_laws.proofs.AtIds.{live_inside, without-same, without-other, without-kept, losing_keeps, losing-at, losing-live, losing-live_entries}
use Rattle.problem_laws.proofs.Terms.{length-without}
use Rattle.problem_laws.proofs.Entries.{live_only-losing, live_only-without, has-live, ascends-live_only, losing-live_only, losing-dense}

pub length-lines_without : (lines : List Line) (k : ℕ) → length (lines_without lines k) ≡ length lines
length-lines_without lines k = length-set lines k (deleted (line_at lines k))

pub length-lines_losing : (others lines : List Line) (k : ℕ) → length (lines_losing others lines k) ≡ length lines
length-lines_losing others lines k = length-map lines (losing others k)

-- the lines of which one is deleted
module _ (lines others : List Line) (k : ℕ) (l : k < length lines) (c : Crosses lines others) where
  abbrev left : List Line
  left = lines_without lines k

  abbrev across : List Line
  across = lines_losing left others k

  without_crosses : Crosses left across
  without_crosses = record {
    ascends = at_or_off (λ m. Ascends 0 (length across) (line_at left m).entries) k
        (subst (λ (y : Line). Ascends 0 (length across) y.entries) (sym (without-same lines k l)) tt)
        (λ m n. subst (λ (y : Line). Ascends 0 (length across) y.entries) (sym (without-other lines k m n))
        (subst (λ (n : ℕ). Ascends 0 n (line_at lines m).entries) (sym (length-lines_losing left others k)) (c.ascends m)));
    counted = at_or_off (λ m. (line_at left m).live_entries ≡ length (live_only across (line_at left m).entries)) k
        (subst (λ (y : Line). y.live_entries ≡ length (live_only across y.entries)) (sym (without-same lines k l)) refl)
        (λ m n. subst (λ (y : Line). y.live_entries ≡ length (live_only across y.entries)) (sym (without-other lines k m n))
        (c.counted m ∙ ap length (sym (live_only-losing left others k (line_at lines m).entries))));
    gone = at_or_off (λ m. (line_at left m).live ≡ false → (line_at left m).entries ≡ []) k
        (λ h. ap (λ (y : Line). y.entries) (without-same lines k l))
        (λ m n. subst (λ (y : Line). y.live ≡ false → y.entries ≡ []) (sym (without-other lines k m n)) (c.gone m));
  }

-- the others, of which each loses its entry there
losing_crosses : (lines others : List Line) (k : ℕ) → (line_at lines k).live ≡ true → Crosses others lines → Crosses (lines_losing (lines_without lines k) others k) (lines_without lines k)
losing_crosses lines others k live c = record {
  ascends = λ m. subst (λ (y : Line). Ascends 0 (length left) y.entries) (sym (losing-at left others k m))
      (losing_keeps left k (line_at others m) (Ascends 0 (length left)) (ascends m) (ascends-live_only left (line_at others m).entries 0 (length left) (ascends m)));
  counted = λ m. losing-live_entries left others k m ∙ fewer m ∙ ap length (sym (live_only-without lines k (live_inside lines k live) (line_at others m).entries))
      ∙ ap length (sym (losing-live_only left others k m));
  gone = λ m h. ap (λ (y : Line). y.entries) (losing-at left others k m) ∙ none m (c.gone m (sym (losing-live left others k m) ∙ h));
}
  where
    left : List Line
    left = lines_without lines k

    ascends : (m : ℕ) → Ascends 0 (length left) (line_at others m).entries
    ascends m = subst (λ (n : ℕ). Ascends 0 n (line_at others m).entries) (sym (length-lines_without lines k)) (c.ascends m)

    none : (m : ℕ) → (line_at others m).entries ≡ [] → (losing left k (line_at others m)).entries ≡ []
    none m e = losing_keeps left k (line_at others m) (λ us. us ≡ []) e (ap (live_only left) e)

    fewer : (m : ℕ) → (if has k (line_at others m).entries then pred (line_at others m).live_entries else (line_at others m).live_entries)
        ≡ length (without k (live_only lines (line_at others m).entries))
    fewer m = ap₂ (λ (b : Bool) (n : ℕ). if b then pred n else n) (sym (has-live lines k (line_at others m).entries live)) (c.counted m)
        ∙ sym (length-without k (live_only lines (line_at others m).entries) 0 (length lines) (ascends-live_only lines (line_at others m).entries 0 (length lines) (c.ascends m)))

-- what crosses after it tells what it told
module _ (lines others : List Line) (k : ℕ) (l : k < length lines) where
  still_live : (m : ℕ) → (line_at (lines_without lines k) m).live ≡ true → (line_at lines m).live ≡ true
  still_live m h = ap (λ (y : Line). y.live) (sym (without-kept lines k l m h)) ∙ h

  still_tells : (m n : ℕ) → (line_at (lines_without lines k) m).live ≡ true → dense (line_at (lines_without lines k) m).entries n ≡ dense (line_at lines m).entries n
  still_tells m n h = ap (λ (y : Line). dense y.entries n) (without-kept lines k l m h)

-- one line is deleted, and each of the others loses its entry there
pub row_deleted_matrix : (g : Grid) (i : ℕ) → (line_at g.rows i).live ≡ true → IsMatrix g
    → IsMatrix (record { rows = lines_without g.rows i; columns = lines_losing (lines_without g.rows i) g.columns i })
row_deleted_matrix g i live m = record {
  rows = without_crosses g.rows g.columns i there m.rows;
  columns = losing_crosses g.rows g.columns i live m.columns;
  agree = λ a b on off. still_tells g.rows g.columns i there a b on
      ∙ m.agree a b (still_live g.rows g.columns i there a on) (sym (losing-live left g.columns i b) ∙ off) ∙ sym (losing-dense left g.columns i b a on);
}
  where
    left : List Line
    left = lines_without g.rows i

    there : i < length g.rows
    there = live_inside g.rows i live

pub column_deleted_matrix : (g : Grid) (j : ℕ) → (line_at g.columns j).live ≡ true → IsMatrix g
    → IsMatrix (record { rows = lines_losing (lines_without g.columns j) g.rows j; columns = lines_without g.columns j })
column_deleted_matrix g j live m = record {
  rows = losing_crosses g.columns g.rows j live m.rows;
  columns = without_crosses g.columns g.rows j there m.columns;
  agree = λ a b on off. losing-dense left g.rows j a b off
      ∙ m.agree a b (sym (losing-live left g.rows j a) ∙ on) (still_live g.columns g.rows j there b off) ∙ sym (still_tells g.columns g.rows j there b a off);
}
  where
    left : List Line
    left = lines_without g.columns j

    there : j < length g.columns
    there = live_inside g.columns j live

pub few : (m n : ℕ) → n ≡ m → m < 2 ^ 32 → n < 2 ^ 32
few m n e l = subst (λ (k : ℕ). k < 2 ^ 32) (sym e) l

pub row_deleted_sparse : (p : Sparse) (i : ℕ) → IsSparse p → (row_at p i).live ≡ true → IsSparse (row_deleted p i)
row_deleted_sparse p i s live = record {
  matrix = row_deleted_matrix p.matrix i live s.matrix;
  few_rows = few (length p.matrix.rows) _ (length-lines_without p.matrix.rows i) s.few_rows;
  few_columns = few (length p.matrix.columns) _ (length-lines_losing (row_deleted p i).matrix.rows p.matrix.columns i) s.few_columns;
  sides = s.sides ∙ sym (length-lines_without p.matrix.rows i);
  bounds = s.bounds ∙ sym (length-lines_losing (row_deleted p i).matrix.rows p.matrix.columns i);
  costs = s.costs ∙ sym (length-lines_losing (row_deleted p i).matrix.rows p.matrix.columns i);
}

pub column_deleted_sparse : (p : Sparse) (j : ℕ) → IsSparse p → (column_at p j).live ≡ true → IsSparse (column_deleted p j)
column_deleted_sparse p j s live = record {
  matrix = column_deleted_matrix p.matrix j live s.matrix;
  few_rows = few (length p.matrix.rows) _ (length-lines_losing (column_deleted p j).matrix.columns p.matrix.rows j) s.few_rows;
  few_columns = few (length p.matrix.columns) _ (length-lines_without p.matrix.columns j) s.few_columns;
  sides = s.sides ∙ sym (length-lines_losing (column_deleted p j).matrix.columns p.matrix.rows j);
  bounds = s.bounds ∙ sym (length-lines_without p.matrix.columns j);
  costs = s.costs ∙ sym (length-lines_without p.matrix.columns j);
}

pub sides_set_sparse : (p : Sparse) (i : ℕ) (l u : Option Number) → IsSparse p → IsSparse (sides_set p i l u)
sides_set_sparse p i l u s = record {
  matrix = s.matrix;
  few_rows = s.few_rows;
  few_columns = s.few_columns;
  sides = length-set p.sides i (sides_moved (sides_at p i) l u) ∙ s.sides;
  bounds = s.bounds;
  costs = s.costs;
}

pub bounds_set_sparse : (p : Sparse) (j : ℕ) (l u : Option Number) → IsSparse p → IsSparse (bounds_set p j l u)
bounds_set_sparse p j l u s = record {
  matrix = s.matrix;
  few_rows = s.few_rows;
  few_columns = s.few_columns;
  sides = s.sides;
  bounds = length-set p.bounds j (bounds_moved (bounds_at p j) l u) ∙ s.bounds;
  costs = s.costs;
}

pub offset_set_sparse : (p : Sparse) (k : Number) → IsSparse p → IsSparse (offset_set p k)
offset_set_sparse p k s = record {
  matrix = s.matrix;
  few_rows = s.few_rows;
  few_columns = s.few_columns;
  sides = s.sides;
  bounds = s.bounds;
  costs = s.costs;
}
