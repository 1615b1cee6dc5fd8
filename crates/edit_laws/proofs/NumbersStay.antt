-- Edits leave all numbers of changes as they are, and let nothing live again.
use Rattle.std.proofs.Common.{◌≡◌, ℕ, ◌<◌, true, List, [], ◌∷◌, length, refl, sym, ap, ◌∙◌, Option}
use Rattle.fractions.specs.Number.{Number}
use Rattle.fractions.proofs.Totals.{at_or_off}
use Rattle.problem_model.specs.declared.edit.Edit.{Edit}
use Rattle.problem_model.specs.declared.edit.Edit.TheVariants.{DeleteRow, DeleteColumn, SetSides, SetBounds, AddOffset, SetCost, SetEntry}
use Rattle.problem_model.specs.declared.line.Line.{Line}
use Rattle.problem_model.specs.declared.line.Sides.{Sides}
use Rattle.problem_model.specs.declared.line.Bounds.{Bounds}
use Rattle.problem_model.specs.declared.part.Part.{Part}
use Rattle.problem_model.specs.declared.part.Part.TheVariants as part
use Rattle.problem_model.specs.Allowed.{IsAllowed, AreAllowed}
use Rattle.problem_model.specs.Applied.{edited, applied}
use Rattle.problem_model.specs.Edits.{lines_without, lines_losing, lines_put, row_deleted, column_deleted, sides_set, bounds_set}
use Rattle.problem_model.specs.Matrices.{line_at}
use Rattle.problem_model.specs.Parts.{changes_of}
use Rattle.problem_model.specs.Problems.{row_at, column_at, sides_at, bounds_at, IsSparse}
use Rattle.problem_model.specs.Sparse.{Sparse}
use Rattle.problem_laws.proofs.AtIds.{row_inside, column_inside, sides_inside, bounds_inside, without-same, without-other, without-dead, without-live, losing_changes, losing-at, losing-live, sides_set-same, sides_set-other, bounds_set-same, bounds_set-other}
use Rattle.problem_laws.proofs.EntriesKept.{put-same_line, put-other_line, put_row_live, put_column_live}
use Rattle.problem_laws.proofs.Single.{sparse_edited}
use Rattle.problem_laws.proofs.Terms.{not_both}

abbrev count : Line → ℕ
count l = l.changes

without_count : (lines : List Line) (k : ℕ) → k < length lines → (m : ℕ) → count (line_at (lines_without lines k) m) ≡ count (line_at lines m)
without_count lines k l = at_or_off (λ m. count (line_at (lines_without lines k) m) ≡ count (line_at lines m)) k (ap count (without-same lines k l)) (λ m n. ap count (without-other lines k m n))

losing_count : (others lines : List Line) (k m : ℕ) → count (line_at (lines_losing others lines k) m) ≡ count (line_at lines m)
losing_count others lines k m = ap count (losing-at others lines k m) ∙ losing_changes others k (line_at lines m)

put_count : (lines : List Line) (m k : ℕ) (a : Number) → m < length lines → (x : ℕ) → count (line_at (lines_put lines m k a) x) ≡ count (line_at lines x)
put_count lines m k a l = at_or_off (λ x. count (line_at (lines_put lines m k a) x) ≡ count (line_at lines x)) m (ap count (put-same_line lines m k a l)) (λ x n. ap count (put-other_line lines m k a x n))

sides_count : (p : Sparse) (i : ℕ) (l u : Option Number) → i < length p.sides → (k : ℕ) → (sides_at (sides_set p i l u) k).changes ≡ (sides_at p k).changes
sides_count p i l u h = at_or_off (λ k. (sides_at (sides_set p i l u) k).changes ≡ (sides_at p k).changes) i (ap (λ (s : Sides). s.changes) (sides_set-same p i l u h)) (λ k n. ap (λ (s : Sides). s.changes) (sides_set-other p i l u k n))

bounds_count : (p : Sparse) (j : ℕ) (l u : Option Number) → j < length p.bounds → (k : ℕ) → (bounds_at (bounds_set p j l u) k).changes ≡ (bounds_at p k).changes
bounds_count p j l u h = at_or_off (λ k. (bounds_at (bounds_set p j l u) k).changes ≡ (bounds_at p k).changes) j (ap (λ (b : Bounds). b.changes) (bounds_set-same p j l u h)) (λ k n. ap (λ (b : Bounds). b.changes) (bounds_set-other p j l u k n))

-- what is counted by part
by_part : (p q : Sparse) → ((i : ℕ) → count (row_at q i) ≡ count (row_at p i)) → ((i : ℕ) → (sides_at q i).changes ≡ (sides_at p i).changes) → ((j : ℕ) → count (column_at q j) ≡ count (column_at p j))
    → ((j : ℕ) → (bounds_at q j).changes ≡ (bounds_at p j).changes) → (a : Part) → changes_of q a ≡ changes_of p a
by_part p q r s c b (part.Row i) = r i
by_part p q r s c b (part.Sides i) = s i
by_part p q r s c b (part.Col j) = c j
by_part p q r s c b (part.Bounds j) = b j

pub changes_edited : (p : Sparse) (e : Edit) → IsSparse p → IsAllowed p e → (a : Part) → changes_of (edited p e) a ≡ changes_of p a
changes_edited p (DeleteRow i) s h = by_part p (edited p (DeleteRow i)) (without_count p.matrix.rows i (row_inside p i h)) (λ k. refl) (losing_count (row_deleted p i).matrix.rows p.matrix.columns i) (λ k. refl)
changes_edited p (DeleteColumn j) s h = by_part p (edited p (DeleteColumn j)) (losing_count (column_deleted p j).matrix.columns p.matrix.rows j) (λ k. refl) (without_count p.matrix.columns j (column_inside p j h)) (λ k. refl)
changes_edited p (SetSides i l u) s h = by_part p (edited p (SetSides i l u)) (λ k. refl) (sides_count p i l u (sides_inside p i s h)) (λ k. refl) (λ k. refl)
changes_edited p (SetBounds j l u) s h = by_part p (edited p (SetBounds j l u)) (λ k. refl) (λ k. refl) (λ k. refl) (bounds_count p j l u (bounds_inside p j s h.0))
changes_edited p (AddOffset o) s h = by_part p (edited p (AddOffset o)) (λ k. refl) (λ k. refl) (λ k. refl) (λ k. refl)
changes_edited p (SetCost j c) s h = by_part p (edited p (SetCost j c)) (λ k. refl) (λ k. refl) (λ k. refl) (λ k. refl)
changes_edited p (SetEntry i j a) s h = by_part p (edited p (SetEntry i j a)) (put_count p.matrix.rows i j a (row_inside p i h.0)) (λ k. refl) (put_count p.matrix.columns j i a (column_inside p j h.1)) (λ k. refl)

pub changes_applied : (p : Sparse) (es : List Edit) → IsSparse p → AreAllowed p es → (a : Part) → changes_of (applied p es) a ≡ changes_of p a
changes_applied p [] s h a = refl
changes_applied p (e ∷ es) s h a = changes_applied (edited p e) es (sparse_edited p e s h.0) h.1 a ∙ changes_edited p e s h.0 a

-- ---- what is live after edits was so before
pub record Lives (p q : Sparse) : Type 0 where
  pub rows : (i : ℕ) → (row_at q i).live ≡ true → (row_at p i).live ≡ true
  pub columns : (j : ℕ) → (column_at q j).live ≡ true → (column_at p j).live ≡ true

pub lives_self : (p : Sparse) → Lives p p
lives_self p = record { rows = λ i h. h; columns = λ j h. h }

pub lives_more : (p q r : Sparse) → Lives p q → Lives q r → Lives p r
lives_more p q r f g = record { rows = λ i h. f.rows i (g.rows i h); columns = λ j h. f.columns j (g.columns j h) }

without_lives : (lines : List Line) (k : ℕ) → k < length lines → (m : ℕ) → (line_at (lines_without lines k) m).live ≡ true → (line_at lines m).live ≡ true
without_lives lines k l = at_or_off (λ m. (line_at (lines_without lines k) m).live ≡ true → (line_at lines m).live ≡ true) k
    (λ h. absurd (not_both h (without-dead lines k l))) (λ m n h. sym (without-live lines k m n) ∙ h)

pub lives_edited : (p : Sparse) (e : Edit) → IsAllowed p e → Lives p (edited p e)
lives_edited p (DeleteRow i) h = record { rows = without_lives p.matrix.rows i (row_inside p i h); columns = λ j on. sym (losing-live (row_deleted p i).matrix.rows p.matrix.columns i j) ∙ on }
lives_edited p (DeleteColumn j) h = record { rows = λ i on. sym (losing-live (column_deleted p j).matrix.columns p.matrix.rows j i) ∙ on; columns = without_lives p.matrix.columns j (column_inside p j h) }
lives_edited p (SetSides i l u) h = record { rows = λ k on. on; columns = λ k on. on }
lives_edited p (SetBounds j l u) h = record { rows = λ k on. on; columns = λ k on. on }
lives_edited p (AddOffset o) h = record { rows = λ k on. on; columns = λ k on. on }
lives_edited p (SetCost j c) h = record { rows = λ k on. on; columns = λ k on. on }
lives_edited p (SetEntry i j a) h = record { rows = λ k on. sym (put_row_live p i j a h.0 k) ∙ on; columns = λ k on. sym (put_column_live p i j a h.1 k) ∙ on }

pub lives_applied : (p : Sparse) (es : List Edit) → IsSparse p → AreAllowed p es → Lives p (applied p es)
lives_applied p [] s h = lives_self p
lives_applied p (e ∷ es) s h = lives_more p (edited p e) (applied (edited p e) es) (lives_edited p e h.0) (lives_applied (edited p e) es (sparse_edited p e s h.0) h.1)
