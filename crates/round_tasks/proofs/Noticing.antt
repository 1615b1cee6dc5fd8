-- Parts that have changed are noticed.
use Rattle.std.proofs.Common.{◌≡◌, ◌⊎◌, inl, inr, ℕ, ◌+◌, ◌<◌, ◌≤◌, List, [], ◌∷◌, ◌++◌, length, sym, refl, ap, ◌∙◌, subst, arith}
use Rattle.std.specs.Prelude.{slice_index_or}
use Rattle.std.specs.List.{Contains}
use Rattle.std.proofs.lemmas.Bool.{cases_lt}
use Rattle.std.proofs.lemmas.List.{get_or_past}
use Rattle.std.proofs.lemmas.List.Elements.{Contains-append_left, Contains-append_right}
use Rattle.problem_model.specs.declared.line.Bounds.{Bounds}
use Rattle.problem_model.specs.declared.line.Line.{Line}
use Rattle.problem_model.specs.declared.line.Sides.{Sides}
use Rattle.problem_model.specs.declared.part.Part.{Part}
use Rattle.problem_model.specs.declared.part.Part.TheVariants as part
use Rattle.problem_model.specs.Matrices.{no_line}
use Rattle.problem_model.specs.Parts.{changes_of}
use Rattle.problem_model.specs.Problems.{IsSparse, no_bounds, no_sides}
use Rattle.problem_model.specs.Sparse.{Sparse}
use Rattle.round_marks.specs.Stamping.{stamp_at, Stamped}
use Rattle.round_tasks.specs.Changes.{IsAsLong, IsNoticed, Notices, NoticesAll, NoticesBelow}

-- one part
pub noticed_same : (p : Stamped) (q : Sparse) (a : Part) (ps : List Part) → changes_of q a ≡ stamp_at p a → Notices p q a ps ps
noticed_same p q a ps e = record { kept = λ x c. c; noticed = inl e }

pub noticed_new : (p : Stamped) (q : Sparse) (a : Part) (ps qs : List Part) → qs ≡ ps ++ a ∷ [] → Notices p q a ps qs
noticed_new p q a ps qs e = subst (Notices p q a ps) (sym e) (record { kept = λ x c. Contains-append_left ps (a ∷ []) x c; noticed = inr (Contains-append_right ps (a ∷ []) a (0, omega arith, refl)) })

-- ---- two parts of each of the first lines
pub record AreNoticed (p : Stamped) (q : Sparse) (f g : ℕ → Part) (n : ℕ) (before after : List Part) : Type 0 where
  pub kept : (x : Part) → Contains before x → Contains after x
  pub first : (k : ℕ) → k < n → IsNoticed p q after (f k)
  pub second : (k : ℕ) → k < n → IsNoticed p q after (g k)

pub noticed_none : (p : Stamped) (q : Sparse) (f g : ℕ → Part) (ps : List Part) → AreNoticed p q f g 0 ps ps
noticed_none p q f g ps = record { kept = λ x c. c; first = λ k l. absurd (omega (arith, l)); second = λ k l. absurd (omega (arith, l)) }

still : (p : Stamped) (q : Sparse) (a : Part) (ps qs : List Part) → ((x : Part) → Contains ps x → Contains qs x) → IsNoticed p q ps a → IsNoticed p q qs a
still p q a ps qs h (inl e) = inl e
still p q a ps qs h (inr c) = inr (h a c)

pub noticed_more : (p : Stamped) (q : Sparse) (f g : ℕ → Part) (n : ℕ) (before ps qs rs : List Part) → AreNoticed p q f g n before ps → Notices p q (f n) ps qs → Notices p q (g n) qs rs → AreNoticed p q f g (n + 1) before rs
noticed_more p q f g n before ps qs rs h x y = record {
  kept = λ a c. y.kept a (x.kept a (h.kept a c));
  first = λ k l. first_at k (cases_lt k n) l;
  second = λ k l. second_at k (cases_lt k n) l;
}
  where
    first_at : (k : ℕ) → (k < n) ⊎ (n ≤ k) → k < n + 1 → IsNoticed p q rs (f k)
    first_at k (inl m) l = still p q (f k) ps rs (λ a c. y.kept a (x.kept a c)) (h.first k m)
    first_at k (inr m) l = let same : n ≡ k = omega (arith, l, m) in subst (λ j. IsNoticed p q rs (f j)) same (still p q (f n) qs rs y.kept x.noticed)

    second_at : (k : ℕ) → (k < n) ⊎ (n ≤ k) → k < n + 1 → IsNoticed p q rs (g k)
    second_at k (inl m) l = still p q (g k) ps rs (λ a c. y.kept a (x.kept a c)) (h.second k m)
    second_at k (inr m) l = let same : n ≡ k = omega (arith, l, m) in subst (λ j. IsNoticed p q rs (g j)) same y.noticed

-- ---- all parts: those past the lines have never changed
module _ (p : Stamped) (q : Sparse) (ps rs : List Part) (sq : IsSparse q) (size : IsAsLong p q) (rows : NoticesBelow p q part.Row part.Sides q.matrix.rows [] ps) (columns : NoticesBelow p q part.Col part.Bounds q.matrix.columns ps rs) where
  row_past : (s : Sparse) (i : ℕ) → length s.matrix.rows ≤ i → changes_of s (part.Row i) ≡ 0
  row_past s i l = ap (λ (x : Line). x.changes) (get_or_past s.matrix.rows i no_line l)

  sides_past : (s : Sparse) (i : ℕ) → length s.sides ≤ i → changes_of s (part.Sides i) ≡ 0
  sides_past s i l = ap (λ (x : Sides). x.changes) (get_or_past s.sides i no_sides l)

  column_past : (s : Sparse) (j : ℕ) → length s.matrix.columns ≤ j → changes_of s (part.Col j) ≡ 0
  column_past s j l = ap (λ (x : Line). x.changes) (get_or_past s.matrix.columns j no_line l)

  bounds_past : (s : Sparse) (j : ℕ) → length s.bounds ≤ j → changes_of s (part.Bounds j) ≡ 0
  bounds_past s j l = ap (λ (x : Bounds). x.changes) (get_or_past s.bounds j no_bounds l)

  stamp_past : (ns : List ℕ) (k : ℕ) → length ns ≤ k → slice_index_or ns k 0 ≡ 0
  stamp_past ns k l = get_or_past ns k 0 l

  pub noticed_all : NoticesAll p q rs
  noticed_all (part.Row i) = by (cases_lt i (length q.matrix.rows))
    where
      by : (i < length q.matrix.rows) ⊎ (length q.matrix.rows ≤ i) → IsNoticed p q rs (part.Row i)
      by (inl l) = still p q (part.Row i) ps rs columns.kept (rows.first i l)
      by (inr l) = inl (row_past q i l ∙ sym (stamp_past p.rows i (omega (arith, l, size.rows))))
  noticed_all (part.Sides i) = by (cases_lt i (length q.matrix.rows))
    where
      by : (i < length q.matrix.rows) ⊎ (length q.matrix.rows ≤ i) → IsNoticed p q rs (part.Sides i)
      by (inl l) = still p q (part.Sides i) ps rs columns.kept (rows.second i l)
      by (inr l) = inl (sides_past q i (omega (arith, l, sq.sides)) ∙ sym (stamp_past p.sides i (omega (arith, l, size.sides))))
  noticed_all (part.Col j) = by (cases_lt j (length q.matrix.columns))
    where
      by : (j < length q.matrix.columns) ⊎ (length q.matrix.columns ≤ j) → IsNoticed p q rs (part.Col j)
      by (inl l) = columns.first j l
      by (inr l) = inl (column_past q j l ∙ sym (stamp_past p.columns j (omega (arith, l, size.columns))))
  noticed_all (part.Bounds j) = by (cases_lt j (length q.matrix.columns))
    where
      by : (j < length q.matrix.columns) ⊎ (length q.matrix.columns ≤ j) → IsNoticed p q rs (part.Bounds j)
      by (inl l) = columns.second j l
      by (inr l) = inl (bounds_past q j (omega (arith, l, sq.bounds)) ∙ sym (stamp_past p.bounds j (omega (arith, l, size.bounds))))
