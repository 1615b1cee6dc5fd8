-- Stamps of a problem, and stamps that are put right where something has changed.
use Rattle.std.proofs.Common.{◌≡◌, ◌≢◌, ◌⊎◌, inl, inr, ℕ, zero, suc, ◌<◌, ◌≤◌, List, [], ◌∷◌, length, slice_set, sym, ap, ◌∙◌, subst, arith}
use Rattle.std.specs.Prelude.{slice_index_or}
use Rattle.std.specs.List.{Contains}
use Rattle.std.proofs.lemmas.Bool.{cases_eq, cases_lt}
use Rattle.std.proofs.lemmas.List.{get_or_past, get_or-set_other, get_or-set_same, length-map, length-set}
use Rattle.std.proofs.Math.ListN.{get_or-map}
use Rattle.problem_model.specs.declared.line.Line.{Line}
use Rattle.problem_model.specs.declared.line.Sides.{Sides}
use Rattle.problem_model.specs.declared.line.Bounds.{Bounds}
use Rattle.problem_model.specs.declared.part.Part.{Part}
use Rattle.problem_model.specs.declared.part.Part.TheVariants as part
use Rattle.problem_model.specs.Matrices.{no_line}
use Rattle.problem_model.specs.Parts.{changes_of}
use Rattle.problem_model.specs.Problems.{IsSparse, no_bounds, no_sides}
use Rattle.problem_model.specs.Sparse.{Sparse}
use Rattle.edit_laws.specs.Sizes.{SameSize}
use Rattle.round_marks.specs.Stamping.{AreStampsOf, restamped, stamp_at, stamp_put, Stamped, stamps_of}

-- ---- the stamps of a problem
pub stamped : (p : Sparse) → AreStampsOf (stamps_of p) p
stamped p = record {
  tell = tells;
  rows = length-map p.matrix.rows _;
  sides = length-map p.sides _;
  columns = length-map p.matrix.columns _;
  bounds = length-map p.bounds _;
}
  where
    tells : (a : Part) → stamp_at (stamps_of p) a ≡ changes_of p a
    tells (part.Row i) = get_or-map (λ (l : Line). l.changes) p.matrix.rows i no_line
    tells (part.Sides i) = get_or-map (λ (x : Sides). x.changes) p.sides i no_sides
    tells (part.Col j) = get_or-map (λ (l : Line). l.changes) p.matrix.columns j no_line
    tells (part.Bounds j) = get_or-map (λ (x : Bounds). x.changes) p.bounds j no_bounds

-- ---- a number that is put
-- at its own place, where nothing stands past the list
put_here : (s : List ℕ) (k c : ℕ) → (length s ≤ k → c ≡ 0) → slice_index_or (slice_set s k c) k 0 ≡ c
put_here s k c past = by (cases_lt k (length s))
  where
    by : (k < length s) ⊎ (length s ≤ k) → slice_index_or (slice_set s k c) k 0 ≡ c
    by (inl l) = get_or-set_same s k c 0 l
    by (inr g) = get_or_past (slice_set s k c) k 0 (subst (λ (n : ℕ). n ≤ k) (sym (length-set s k c)) g) ∙ sym (past g)

-- at another place
put_keeps : (s : List ℕ) (k m c d : ℕ) → (length s ≤ k → c ≡ 0) → slice_index_or s m 0 ≡ d → (k ≡ m → c ≡ d) → slice_index_or (slice_set s k c) m 0 ≡ d
put_keeps s k m c d past e f = by (cases_eq m k)
  where
    by : (m ≡ k) ⊎ (m ≢ k) → slice_index_or (slice_set s k c) m 0 ≡ d
    by (inl g) = ap (λ (n : ℕ). slice_index_or (slice_set s k c) n 0) g ∙ put_here s k c past ∙ f (sym g)
    by (inr n) = get_or-set_other s k m c 0 n ∙ e

-- as many numbers as parts
pub record IsAsLong (s : Stamped) (q : Sparse) : Type 0 where
  pub rows : length s.rows ≡ length q.matrix.rows
  pub sides : length s.sides ≡ length q.sides
  pub columns : length s.columns ≡ length q.matrix.columns
  pub bounds : length s.bounds ≡ length q.bounds

module _ (q : Sparse) where
  long_put : (s : Stamped) (b : Part) (n : ℕ) → IsAsLong s q → IsAsLong (stamp_put s b n) q
  long_put s (part.Row i) n h = record { rows = length-set s.rows i n ∙ h.rows; sides = h.sides; columns = h.columns; bounds = h.bounds }
  long_put s (part.Sides i) n h = record { rows = h.rows; sides = length-set s.sides i n ∙ h.sides; columns = h.columns; bounds = h.bounds }
  long_put s (part.Col j) n h = record { rows = h.rows; sides = h.sides; columns = length-set s.columns j n ∙ h.columns; bounds = h.bounds }
  long_put s (part.Bounds j) n h = record { rows = h.rows; sides = h.sides; columns = h.columns; bounds = length-set s.bounds j n ∙ h.bounds }

  pub long_restamped : (s : Stamped) (ps : List Part) → IsAsLong s q → IsAsLong (restamped s q ps) q
  long_restamped s [] h = h
  long_restamped s (a ∷ ps) h = long_restamped (stamp_put s a (changes_of q a)) ps (long_put s a (changes_of q a) h)

  -- where there is no part nothing has changed
  rows_past : (s : Stamped) (i : ℕ) → IsAsLong s q → length s.rows ≤ i → changes_of q (part.Row i) ≡ 0
  rows_past s i h l = ap (λ (x : Line). x.changes) (get_or_past q.matrix.rows i no_line (let e = h.rows in omega (arith, l, e)))

  sides_past : (s : Stamped) (i : ℕ) → IsAsLong s q → length s.sides ≤ i → changes_of q (part.Sides i) ≡ 0
  sides_past s i h l = ap (λ (x : Sides). x.changes) (get_or_past q.sides i no_sides (let e = h.sides in omega (arith, l, e)))

  columns_past : (s : Stamped) (j : ℕ) → IsAsLong s q → length s.columns ≤ j → changes_of q (part.Col j) ≡ 0
  columns_past s j h l = ap (λ (x : Line). x.changes) (get_or_past q.matrix.columns j no_line (let e = h.columns in omega (arith, l, e)))

  bounds_past : (s : Stamped) (j : ℕ) → IsAsLong s q → length s.bounds ≤ j → changes_of q (part.Bounds j) ≡ 0
  bounds_past s j h l = ap (λ (x : Bounds). x.changes) (get_or_past q.bounds j no_bounds (let e = h.bounds in omega (arith, l, e)))

  right_here : (s : Stamped) (b : Part) → IsAsLong s q → stamp_at (stamp_put s b (changes_of q b)) b ≡ changes_of q b
  right_here s (part.Row i) h = put_here s.rows i (changes_of q (part.Row i)) (rows_past s i h)
  right_here s (part.Sides i) h = put_here s.sides i (changes_of q (part.Sides i)) (sides_past s i h)
  right_here s (part.Col j) h = put_here s.columns j (changes_of q (part.Col j)) (columns_past s j h)
  right_here s (part.Bounds j) h = put_here s.bounds j (changes_of q (part.Bounds j)) (bounds_past s j h)

  right_kept : (s : Stamped) (b a : Part) → IsAsLong s q → stamp_at s a ≡ changes_of q a → stamp_at (stamp_put s b (changes_of q b)) a ≡ changes_of q a
  right_kept s (part.Row k) (part.Row i) h e = put_keeps s.rows k i (changes_of q (part.Row k)) (changes_of q (part.Row i)) (rows_past s k h) e (λ f. ap (λ (m : ℕ). changes_of q (part.Row m)) f)
  right_kept s (part.Sides k) (part.Sides i) h e = put_keeps s.sides k i (changes_of q (part.Sides k)) (changes_of q (part.Sides i)) (sides_past s k h) e (λ f. ap (λ (m : ℕ). changes_of q (part.Sides m)) f)
  right_kept s (part.Col k) (part.Col j) h e = put_keeps s.columns k j (changes_of q (part.Col k)) (changes_of q (part.Col j)) (columns_past s k h) e (λ f. ap (λ (m : ℕ). changes_of q (part.Col m)) f)
  right_kept s (part.Bounds k) (part.Bounds j) h e = put_keeps s.bounds k j (changes_of q (part.Bounds k)) (changes_of q (part.Bounds j)) (bounds_past s k h) e (λ f. ap (λ (m : ℕ). changes_of q (part.Bounds m)) f)
  right_kept s (part.Row k) (part.Sides i) h e = e
  right_kept s (part.Row k) (part.Col j) h e = e
  right_kept s (part.Row k) (part.Bounds j) h e = e
  right_kept s (part.Sides k) (part.Row i) h e = e
  right_kept s (part.Sides k) (part.Col j) h e = e
  right_kept s (part.Sides k) (part.Bounds j) h e = e
  right_kept s (part.Col k) (part.Row i) h e = e
  right_kept s (part.Col k) (part.Sides i) h e = e
  right_kept s (part.Col k) (part.Bounds j) h e = e
  right_kept s (part.Bounds k) (part.Row i) h e = e
  right_kept s (part.Bounds k) (part.Sides i) h e = e
  right_kept s (part.Bounds k) (part.Col j) h e = e

  -- numbers that are right but at these parts are right once they are put right there
  right_after : (s : Stamped) (ps : List Part) → IsAsLong s q → (a : Part) → Contains ps a ⊎ (stamp_at s a ≡ changes_of q a) → stamp_at (restamped s q ps) a ≡ changes_of q a
  right_after s [] h a (inl c) = absurd (omega (arith, c.1))
  right_after s [] h a (inr e) = e
  right_after s (b ∷ ps) h a (inl (zero, l, e)) = right_after (stamp_put s b (changes_of q b)) ps (long_put s b (changes_of q b) h) a
      (inr (subst (λ (x : Part). stamp_at (stamp_put s b (changes_of q b)) x ≡ changes_of q x) e (right_here s b h)))
  right_after s (b ∷ ps) h a (inl (suc k, l, e)) = right_after (stamp_put s b (changes_of q b)) ps (long_put s b (changes_of q b) h) a (inl (k, omega (arith, l), e))
  right_after s (b ∷ ps) h a (inr e) = right_after (stamp_put s b (changes_of q b)) ps (long_put s b (changes_of q b) h) a (inr (right_kept s b a h e))

-- ---- from one round to the next
pub restamped_right : (f q : Sparse) (s : Stamped) (ps : List Part) → AreStampsOf s f → IsSparse f → IsSparse q → SameSize f q → ((a : Part) → (changes_of q a ≡ changes_of f a) ⊎ Contains ps a) → AreStampsOf (restamped s q ps) q
restamped_right f q s ps h sound sparse size moved =
    let long : IsAsLong s q = record {
      rows = h.rows ∙ sym size.rows;
      sides = h.sides ∙ sound.sides ∙ sym size.rows ∙ sym sparse.sides;
      columns = h.columns ∙ sym size.columns;
      bounds = h.bounds ∙ sound.bounds ∙ sym size.columns ∙ sym sparse.bounds;
    } in
    let after : IsAsLong (restamped s q ps) q = long_restamped q s ps long in
    record {
      tell = λ a. right_after q s ps long a (known a (moved a));
      rows = after.rows;
      sides = after.sides;
      columns = after.columns;
      bounds = after.bounds;
    }
  where
    known : (a : Part) → (changes_of q a ≡ changes_of f a) ⊎ Contains ps a → Contains ps a ⊎ (stamp_at s a ≡ changes_of q a)
    known a (inl e) = inr (h.tell a ∙ sym e)
    known a (inr c) = inl c
