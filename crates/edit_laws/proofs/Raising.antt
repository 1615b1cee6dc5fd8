-- Numbers of changes after a commit: they rise by one exactly where a part holds something else.
use Rattle.std.proofs.Common.{◌≡◌, ◌≢◌, ℕ, ◌+◌, ◌<◌, ◌≤◌, ◌^◌, Bool, true, false, List, [], ◌∷◌, length, refl, sym, ap, ◌∙◌, arith, ◌⊎◌, inl, inr}
use Rattle.std.specs.Prelude.{if◌then◌else◌}
use Rattle.std.proofs.lemmas.Bool.{cases_lt}
use Rattle.std.proofs.lemmas.List.{get_or_past}
use Rattle.problem_model.specs.declared.edit.Edit.{Edit}
use Rattle.problem_model.specs.declared.line.Line.{Line}
use Rattle.problem_model.specs.declared.line.Sides.{Sides}
use Rattle.problem_model.specs.declared.line.Bounds.{Bounds}
use Rattle.problem_model.specs.declared.part.Part.{Part}
use Rattle.problem_model.specs.declared.part.Part.TheVariants as part
use Rattle.problem_model.specs.declared.part.Contents.TheVariants as holds
use Rattle.problem_model.specs.Allowed.{AreAllowed}
use Rattle.problem_model.specs.Applied.{applied}
use Rattle.problem_model.specs.Matrices.{no_line}
use Rattle.problem_model.specs.Parts.{contents_of, changes_of, bounds_held}
use Rattle.problem_model.specs.Problems.{no_sides, no_bounds, row_at, column_at, sides_at, bounds_at, cost_at, row_entries, column_entries, IsSparse}
use Rattle.problem_model.specs.Raised.{risen, numbered_line, numbered_sides, numbered_bounds, same_contents, changes_after, raised, committed}
use Rattle.problem_model.specs.Reading.{read_of}
use Rattle.problem_model.specs.Sparse.{Sparse}
use Rattle.problem_model.specs.Touching.{touched_by}
use Rattle.edit_laws.specs.Sizes.{SameSize}
use Rattle.edit_laws.specs.Telling.{IsCounted, IsTold, Rises, all_committed, AllAllowed}
use Rattle.edit_laws.proofs.Lists.{sparse_applied, size_applied, untouched_applied}
use Rattle.problem_laws.proofs.Terms.{not_both}
use Rattle.problem_laws.proofs.Numbering.{length-each_at, numbered_sparse, contents-numbered, changes-row, changes-column, changes-sides, changes-bounds}
use Rattle.edit_laws.proofs.SameContents.{same_contents-is, is-same_contents, other-same_contents}

module _ (p q : Sparse) (s : IsSparse p) (t : IsSparse q) (z : SameSize p q) where
  -- where a part is gone and has never changed, before and after
  nothing : (a : Part) → contents_of p a ≡ holds.Gone → contents_of q a ≡ holds.Gone → changes_of p a ≡ 0 → changes_of (raised p q) a ≡ 0 → changes_of (raised p q) a ≡ changes_after p q a
  nothing a e f g h = h ∙ sym (ap (λ (b : Bool). if b then changes_of p a else risen (changes_of p a)) (is-same_contents (contents_of p a) (contents_of q a) (e ∙ sym f)) ∙ g)

  gone_row : (o : Sparse) (i : ℕ) → length o.matrix.rows ≤ i → (row_at o i).live ≡ false
  gone_row o i g = ap (λ (l : Line). l.live) (get_or_past o.matrix.rows i no_line g)

  gone_column : (o : Sparse) (j : ℕ) → length o.matrix.columns ≤ j → (column_at o j).live ≡ false
  gone_column o j g = ap (λ (l : Line). l.live) (get_or_past o.matrix.columns j no_line g)

  row_number : (i : ℕ) → changes_of (raised p q) (part.Row i) ≡ changes_after p q (part.Row i)
  row_number i = by (cases_lt i (length q.matrix.rows))
    where
      by : (i < length q.matrix.rows) ⊎ (length q.matrix.rows ≤ i) → changes_of (raised p q) (part.Row i) ≡ changes_after p q (part.Row i)
      by (inl l) = changes-row q (changes_after p q) i l
      by (inr g) =
          let f : length p.matrix.rows ≤ i = omega (arith, g, z.rows) in
          let h : length (raised p q).matrix.rows ≤ i = omega (arith, g, length-each_at (numbered_line (λ i. changes_after p q (part.Row i))) 0 q.matrix.rows) in
          nothing (part.Row i) (ap (λ (b : Bool). if b then holds.Entries (row_entries p i) else holds.Gone) (gone_row p i f)) (ap (λ (b : Bool). if b then holds.Entries (row_entries q i) else holds.Gone) (gone_row q i g))
          (ap (λ (l : Line). l.changes) (get_or_past p.matrix.rows i no_line f)) (ap (λ (l : Line). l.changes) (get_or_past (raised p q).matrix.rows i no_line h))

  column_number : (j : ℕ) → changes_of (raised p q) (part.Col j) ≡ changes_after p q (part.Col j)
  column_number j = by (cases_lt j (length q.matrix.columns))
    where
      by : (j < length q.matrix.columns) ⊎ (length q.matrix.columns ≤ j) → changes_of (raised p q) (part.Col j) ≡ changes_after p q (part.Col j)
      by (inl l) = changes-column q (changes_after p q) j l
      by (inr g) =
          let f : length p.matrix.columns ≤ j = omega (arith, g, z.columns) in
          let h : length (raised p q).matrix.columns ≤ j = omega (arith, g, length-each_at (numbered_line (λ j. changes_after p q (part.Col j))) 0 q.matrix.columns) in
          nothing (part.Col j) (ap (λ (b : Bool). if b then holds.Column (column_entries p j) (cost_at p j) else holds.Gone) (gone_column p j f)) (ap (λ (b : Bool). if b then holds.Column (column_entries q j) (cost_at q j) else holds.Gone) (gone_column q j g))
          (ap (λ (l : Line). l.changes) (get_or_past p.matrix.columns j no_line f)) (ap (λ (l : Line). l.changes) (get_or_past (raised p q).matrix.columns j no_line h))

  sides_number : (i : ℕ) → changes_of (raised p q) (part.Sides i) ≡ changes_after p q (part.Sides i)
  sides_number i = by (cases_lt i (length q.sides))
    where
      by : (i < length q.sides) ⊎ (length q.sides ≤ i) → changes_of (raised p q) (part.Sides i) ≡ changes_after p q (part.Sides i)
      by (inl l) = changes-sides q (changes_after p q) i l
      by (inr g) =
          let f : length p.sides ≤ i = omega (arith, g, z.rows, s.sides, t.sides) in
          let h : length (raised p q).sides ≤ i = omega (arith, g, length-each_at (numbered_sides (λ i. changes_after p q (part.Sides i))) 0 q.sides) in
          nothing (part.Sides i) (ap (λ (b : Bool). if b then holds.Sides (sides_at p i).lower (sides_at p i).upper else holds.Gone) (gone_row p i (omega (arith, f, s.sides)))) (ap (λ (b : Bool). if b then holds.Sides (sides_at q i).lower (sides_at q i).upper else holds.Gone) (gone_row q i (omega (arith, g, t.sides))))
          (ap (λ (x : Sides). x.changes) (get_or_past p.sides i no_sides f)) (ap (λ (x : Sides). x.changes) (get_or_past (raised p q).sides i no_sides h))

  bounds_number : (j : ℕ) → changes_of (raised p q) (part.Bounds j) ≡ changes_after p q (part.Bounds j)
  bounds_number j = by (cases_lt j (length q.bounds))
    where
      by : (j < length q.bounds) ⊎ (length q.bounds ≤ j) → changes_of (raised p q) (part.Bounds j) ≡ changes_after p q (part.Bounds j)
      by (inl l) = changes-bounds q (changes_after p q) j l
      by (inr g) =
          let f : length p.bounds ≤ j = omega (arith, g, z.columns, s.bounds, t.bounds) in
          let h : length (raised p q).bounds ≤ j = omega (arith, g, length-each_at (numbered_bounds (λ j. changes_after p q (part.Bounds j))) 0 q.bounds) in
          nothing (part.Bounds j) (ap (λ (b : Bool). if b then bounds_held (bounds_at p j).semi (bounds_at p j).lower (bounds_at p j).upper (bounds_at p j).whole else holds.Gone) (gone_column p j (omega (arith, f, s.bounds)))) (ap (λ (b : Bool). if b then bounds_held (bounds_at q j).semi (bounds_at q j).lower (bounds_at q j).upper (bounds_at q j).whole else holds.Gone) (gone_column q j (omega (arith, g, t.bounds))))
          (ap (λ (x : Bounds). x.changes) (get_or_past p.bounds j no_bounds f)) (ap (λ (x : Bounds). x.changes) (get_or_past (raised p q).bounds j no_bounds h))

  pub changes-raised : (a : Part) → changes_of (raised p q) a ≡ changes_after p q a
  changes-raised (part.Row i) = row_number i
  changes-raised (part.Col j) = column_number j
  changes-raised (part.Sides i) = sides_number i
  changes-raised (part.Bounds j) = bounds_number j

  -- the law of change numbers, both ways
  pub counted_raised : (a : Part) → IsCounted p (raised p q) a
  counted_raised a = record {
    same = λ e. changes-raised a ∙ ap (λ (b : Bool). if b then changes_of p a else risen (changes_of p a)) (is-same_contents (contents_of p a) (contents_of q a) (sym e ∙ contents-numbered q (changes_after p q) a));
    other = λ n. changes-raised a ∙ ap (λ (b : Bool). if b then changes_of p a else risen (changes_of p a))
        (other-same_contents (contents_of p a) (contents_of q a) (λ e. n (contents-numbered q (changes_after p q) a ∙ sym e)));
  }

-- ---- what follows from it, whatever the problems are
same_or_other : (p q : Sparse) (a : Part) → (contents_of q a ≡ contents_of p a) ⊎ (contents_of q a ≢ contents_of p a)
same_or_other p q a = by (same_contents (contents_of q a) (contents_of p a)) refl
  where
    by : (b : Bool) → same_contents (contents_of q a) (contents_of p a) ≡ b → (contents_of q a ≡ contents_of p a) ⊎ (contents_of q a ≢ contents_of p a)
    by true e = inl (same_contents-is (contents_of q a) (contents_of p a) e)
    by false e = inr (λ f. not_both (is-same_contents (contents_of q a) (contents_of p a) f) e)

pub counted_rises : (p q : Sparse) (a : Part) → IsCounted p q a → Rises p q a
counted_rises p q a c l = by (same_or_other p q a)
  where
    by : (contents_of q a ≡ contents_of p a) ⊎ (contents_of q a ≢ contents_of p a) → (changes_of p a ≤ changes_of q a) × (changes_of q a < 2 ^ 64)
    by (inl e) = let f = c.same e in (omega (arith, f), omega (arith, f, l))
    by (inr n) = let f = c.other n in (omega (arith, f, l), omega (arith, f, l))

pub counted_once : (p q : Sparse) (a : Part) → IsCounted p q a → changes_of q a ≤ changes_of p a + 1
counted_once p q a c = by (same_or_other p q a)
  where
    by : (contents_of q a ≡ contents_of p a) ⊎ (contents_of q a ≢ contents_of p a) → changes_of q a ≤ changes_of p a + 1
    by (inl e) = let f = c.same e in omega (arith, f)
    by (inr n) = let f = c.other n in omega (arith, f)

pub counted_told : (p q : Sparse) (a : Part) → IsCounted p q a → IsTold p q a
counted_told p q a c low e = by (same_or_other p q a)
  where
    by : (contents_of q a ≡ contents_of p a) ⊎ (contents_of q a ≢ contents_of p a) → contents_of q a ≡ contents_of p a
    by (inl f) = f
    by (inr n) = absurd (let f = c.other n in omega (arith, f, e, low))

-- ---- a commit of edits
module _ (p : Sparse) (es : List Edit) (s : IsSparse p) (h : AreAllowed p es) where
  pub committed_sparse : IsSparse (committed p es)
  committed_sparse = numbered_sparse (applied p es) (changes_after p (applied p es)) (sparse_applied p es s h)

  pub counted_committed : (a : Part) → IsCounted p (committed p es) a
  counted_committed = counted_raised p (applied p es) s (sparse_applied p es s h) (size_applied p es)

  -- what no edit touches stands as it did, under the same number
  pub untouched_committed : (a : Part) → touched_by p es a ≡ false → read_of (committed p es) a ≡ read_of p a
  untouched_committed a n =
      let e : contents_of (committed p es) a ≡ contents_of p a = contents-numbered (applied p es) (changes_after p (applied p es)) a ∙ untouched_applied p es a s h n in
      λ t. record { part = a; changes = (counted_committed a).same e t; contents = e t }

-- ---- commits, one after the other
pub all_committed_sparse : (p : Sparse) (cs : List (List Edit)) → IsSparse p → AllAllowed p cs → IsSparse (all_committed p cs)
all_committed_sparse p [] s h = s
all_committed_sparse p (es ∷ cs) s h = all_committed_sparse (committed p es) cs (committed_sparse p es s h.0) h.1

pub all_rise : (p : Sparse) (cs : List (List Edit)) (a : Part) → IsSparse p → AllAllowed p cs → Rises p (all_committed p cs) a
all_rise p [] a s h l = (omega arith, l)
all_rise p (es ∷ cs) a s h l =
    let f = counted_rises p (committed p es) a (counted_committed p es s h.0 a) l in
    let g = all_rise (committed p es) cs a (committed_sparse p es s h.0) h.1 f.1 in
    (omega (arith, f.0, g.0), g.1)

pub all_counted : (p : Sparse) (cs : List (List Edit)) (a : Part) → IsSparse p → AllAllowed p cs → changes_of (all_committed p cs) a ≤ changes_of p a + length cs
all_counted p [] a s h = omega arith
all_counted p (es ∷ cs) a s h =
    let f = counted_once p (committed p es) a (counted_committed p es s h.0 a) in
    let g = all_counted (committed p es) cs a (committed_sparse p es s h.0) h.1 in
    omega (arith, f, g)

between : (a b c : ℕ) → a ≤ b → b ≤ c → c ≡ a → b ≡ a
between a b c l m e = omega (arith, l, m, e)

pub all_told : (p : Sparse) (cs : List (List Edit)) (a : Part) → IsSparse p → AllAllowed p cs → IsTold p (all_committed p cs) a
all_told p [] a s h low e = refl
all_told p (es ∷ cs) a s h low same =
    let c = counted_committed p es s h.0 a in
    let next = committed_sparse p es s h.0 in
    let f = counted_rises p (committed p es) a c (omega (arith, low)) in
    let g = all_rise (committed p es) cs a next h.1 f.1 in
    let here : changes_of (committed p es) a ≡ changes_of p a = between (changes_of p a) (changes_of (committed p es) a) (changes_of (all_committed (committed p es) cs) a) f.0 g.0 same in
    all_told (committed p es) cs a next h.1 (omega (arith, here, low)) (same ∙ sym here) ∙ counted_told p (committed p es) a c low here
