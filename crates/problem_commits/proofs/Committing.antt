-- Numbers that are raised by notes are those of the commit.
use Rattle.std.proofs.Common.{◌≡◌, ◌≢◌, ℕ, Bool, true, false, not, ◌||◌, ◌&&◌, List, [], ◌∷◌, refl, sym, ap, ◌∙◌, arith, ◌⊎◌, inl, inr}
use Rattle.std.specs.Prelude.{if◌then◌else◌}
use Rattle.std.specs.List.{All}
use Rattle.std.proofs.lemmas.List.Elements.{All-head, All-tail}
use Rattle.problem_model.specs.declared.edit.Edit.{Edit}
use Rattle.problem_model.specs.declared.line.Line.{Line}
use Rattle.problem_model.specs.declared.line.Sides.{Sides}
use Rattle.problem_model.specs.declared.line.Bounds.{Bounds}
use Rattle.problem_model.specs.declared.part.Part.{Part}
use Rattle.problem_model.specs.declared.part.Part.TheVariants as part
use Rattle.problem_model.specs.Allowed.{AreAllowed}
use Rattle.problem_model.specs.Applied.{applied}
use Rattle.problem_model.specs.Parts.{contents_of, changes_of}
use Rattle.problem_model.specs.Problems.{IsSparse}
use Rattle.problem_model.specs.Raised.{risen, same_contents, changes_after, numbered_line, numbered_sides, numbered_bounds, numbered, raised, committed}
use Rattle.problem_model.specs.Sparse.{Sparse}
use Rattle.edit_laws.proofs.Lists.{sparse_applied, size_applied}
use Rattle.problem_laws.proofs.Numbering.{contents-numbered, changes-row, changes-column, changes-sides, changes-bounds, each_at-ext, each_at-twice}
use Rattle.edit_laws.proofs.NumbersStay.{changes_applied}
use Rattle.edit_laws.proofs.SameContents.{is-same_contents, other-same_contents}
use Rattle.problem_laws.proofs.Terms.{not_both}
use Rattle.problem_data.specs.Renumbered.{same_part, number_put, changes_put, IsThere}
use Rattle.problem_data.proofs.Renumbering.{numbered_self}
use Rattle.problem_commits.specs.declared.notes.Note.{Note}
use Rattle.problem_commits.specs.Noting.{asked, certain, all_noted, is_other, has_changed, raised_note, all_raised}
use Rattle.problem_commits.proofs.Noted.{IsCostNote, IsTrueNote, notes_true, other_cost, same_part-is, told, untold_same}

-- ---- numbers matter where there are parts
numbered_ext : (q : Sparse) (f g : Part → ℕ) → ((a : Part) → IsThere q a → f a ≡ g a) → numbered q f ≡ numbered q g
numbered_ext q f g h t = record q {
  matrix = record {
    rows = each_at-ext (numbered_line (λ i. f (part.Row i))) (numbered_line (λ i. g (part.Row i))) q.matrix.rows (λ m l (x : Line). ap (λ (n : ℕ). record x { changes = n }) (h (part.Row m) l)) t;
    columns = each_at-ext (numbered_line (λ j. f (part.Col j))) (numbered_line (λ j. g (part.Col j))) q.matrix.columns (λ m l (x : Line). ap (λ (n : ℕ). record x { changes = n }) (h (part.Col m) l)) t;
  };
  sides = each_at-ext (numbered_sides (λ i. f (part.Sides i))) (numbered_sides (λ i. g (part.Sides i))) q.sides (λ m l (x : Sides). ap (λ (n : ℕ). record x { changes = n }) (h (part.Sides m) l)) t;
  bounds = each_at-ext (numbered_bounds (λ j. f (part.Bounds j))) (numbered_bounds (λ j. g (part.Bounds j))) q.bounds (λ m l (x : Bounds). ap (λ (n : ℕ). record x { changes = n }) (h (part.Bounds m) l)) t;
}

numbered_twice : (q : Sparse) (f g : Part → ℕ) → numbered (numbered q f) g ≡ numbered q g
numbered_twice q f g t = record q {
  matrix = record {
    rows = each_at-twice (numbered_line (λ i. f (part.Row i))) (numbered_line (λ i. g (part.Row i))) (λ k x. refl) 0 q.matrix.rows t;
    columns = each_at-twice (numbered_line (λ j. f (part.Col j))) (numbered_line (λ j. g (part.Col j))) (λ k x. refl) 0 q.matrix.columns t;
  };
  sides = each_at-twice (numbered_sides (λ i. f (part.Sides i))) (numbered_sides (λ i. g (part.Sides i))) (λ k x. refl) 0 q.sides t;
  bounds = each_at-twice (numbered_bounds (λ j. f (part.Bounds j))) (numbered_bounds (λ j. g (part.Bounds j))) (λ k x. refl) 0 q.bounds t;
}

changes_there : (q : Sparse) (f : Part → ℕ) (a : Part) → IsThere q a → changes_of (numbered q f) a ≡ f a
changes_there q f (part.Row i) l = changes-row q f i l
changes_there q f (part.Sides i) l = changes-sides q f i l
changes_there q f (part.Col j) l = changes-column q f j l
changes_there q f (part.Bounds j) l = changes-bounds q f j l

-- ---- one number put
abbrev put_part : (Part → ℕ) → Part → ℕ → Part → ℕ
put_part f b n a = if same_part b a then n else f a

put_numbered : (q : Sparse) (f : Part → ℕ) (b : Part) (n : ℕ) → changes_put (numbered q f) b n ≡ numbered q (put_part f b n)
put_numbered q f b n = numbered_twice q f (number_put (numbered q f) b n)
    ∙ numbered_ext q (number_put (numbered q f) b n) (put_part f b n) (λ a l. ap (λ (m : ℕ). if same_part b a then n else m) (changes_there q f a l))

turned : (b : Bool) → not b ≡ true → b ≡ false
turned true h = absurd (not_both h refl)
turned false h = refl

module _ (p q : Sparse) where
  -- a true note that says so is one of a part that holds something else, and keeps its number
  note_other : (n : Note) → IsTrueNote p q n → has_changed q n ≡ true → same_contents (contents_of p n.part) (contents_of q n.part) ≡ false
  note_other n t h = by t.note
    where
      by : (n ≡ asked p n.part) ⊎ (((n ≡ certain p n.part) × (contents_of q n.part ≢ contents_of p n.part)) ⊎ IsCostNote p n) → same_contents (contents_of p n.part) (contents_of q n.part) ≡ false
      by (inl e) = turned _ (ap (λ (m : Note). is_other m.held (contents_of q n.part)) (sym e) ∙ h)
      by (inr (inl e)) = other-same_contents (contents_of p n.part) (contents_of q n.part) (λ f. e.1 (sym f))
      by (inr (inr c)) = other_cost p q n c h

  note_number : (n : Note) → IsTrueNote p q n → n.changes ≡ changes_of p n.part
  note_number n t = by t.note
    where
      by : (n ≡ asked p n.part) ⊎ (((n ≡ certain p n.part) × (contents_of q n.part ≢ contents_of p n.part)) ⊎ IsCostNote p n) → n.changes ≡ changes_of p n.part
      by (inl e) = ap (λ (m : Note). m.changes) e
      by (inr (inl e)) = ap (λ (m : Note). m.changes) e.0
      by (inr (inr c)) = ap (λ (m : Note). m.changes) c.is ∙ ap (λ (m : Note). changes_of p m.part) (sym c.is)

  -- a number is as it comes out, or as it was with a note to come that raises it
  abbrev IsSettled : (Part → ℕ) → List Note → Part → Type 0
  IsSettled f ns a = (f a ≡ changes_after p q a) ⊎ ((told p q ns a ≡ true) × (f a ≡ changes_of p a))

  abbrev next : (Part → ℕ) → Note → Part → ℕ
  next f n = if has_changed q n then put_part f n.part (risen n.changes) else f

  raised_next : (f : Part → ℕ) (n : Note) → raised_note (numbered q f) n ≡ numbered q (next f n)
  raised_next f n = ap (λ (b : Bool). if b then changes_put (numbered q f) n.part (risen n.changes) else numbered q f) (ap (is_other n.held) (contents-numbered q f n.part)) ∙ by (has_changed q n)
    where
      by : (b : Bool) → (if b then changes_put (numbered q f) n.part (risen n.changes) else numbered q f) ≡ numbered q (if b then put_part f n.part (risen n.changes) else f)
      by true = put_numbered q f n.part (risen n.changes)
      by false = refl

  -- a note that says so raises the number of its part, and one that does not leaves it
  settled_here : (f : Part → ℕ) (n : Note) (ns : List Note) (a : Part) → IsTrueNote p q n → same_part n.part a ≡ true → a ≡ n.part → IsSettled f (n ∷ ns) a → IsSettled (next f n) ns a
  settled_here f n ns a t same e h = by (has_changed q n) refl h
    where
      number : has_changed q n ≡ true → risen n.changes ≡ changes_after p q a
      number on = ap risen (note_number n t) ∙ ap (λ (c : Bool). if c then changes_of p n.part else risen (changes_of p n.part)) (sym (note_other n t on)) ∙ ap (changes_after p q) (sym e)

      by : (b : Bool) → has_changed q n ≡ b → (f a ≡ changes_after p q a) ⊎ ((((same_part n.part a && b) || told p q ns a) ≡ true) × (f a ≡ changes_of p a)) → IsSettled (if b then put_part f n.part (risen n.changes) else f) ns a
      by true on k = inl (ap (λ (c : Bool). if c then risen n.changes else f a) same ∙ number on)
      by false off (inl k) = inl k
      by false off (inr k) = inr (ap (λ (c : Bool). (c && false) || told p q ns a) (sym same) ∙ k.0, k.1)

  settled_there : (f : Part → ℕ) (n : Note) (ns : List Note) (a : Part) → same_part n.part a ≡ false → IsSettled f (n ∷ ns) a → IsSettled (next f n) ns a
  settled_there f n ns a other h = by h
    where
      stays : (b : Bool) → (if b then put_part f n.part (risen n.changes) else f) a ≡ f a
      stays true = ap (λ (c : Bool). if c then risen n.changes else f a) other
      stays false = refl

      by : (f a ≡ changes_after p q a) ⊎ ((told p q (n ∷ ns) a ≡ true) × (f a ≡ changes_of p a)) → IsSettled (next f n) ns a
      by (inl e) = inl (stays (has_changed q n) ∙ e)
      by (inr e) = inr (ap (λ (c : Bool). (c && has_changed q n) || told p q ns a) (sym other) ∙ e.0, stays (has_changed q n) ∙ e.1)

  settled_next : (f : Part → ℕ) (n : Note) (ns : List Note) → IsTrueNote p q n → ((a : Part) → IsSettled f (n ∷ ns) a) → (a : Part) → IsSettled (next f n) ns a
  settled_next f n ns t h a = by (same_part n.part a) refl
    where
      by : (b : Bool) → same_part n.part a ≡ b → IsSettled (next f n) ns a
      by true e = settled_here f n ns a t e (same_part-is n.part a e) (h a)
      by false e = settled_there f n ns a e (h a)

  raised_is : (ns : List Note) (f : Part → ℕ) → All (IsTrueNote p q) ns → ((a : Part) → IsSettled f ns a) → all_raised (numbered q f) ns ≡ raised p q
  raised_is [] f t h = numbered_ext q f (changes_after p q) (λ a l. by a (h a))
    where
      by : (a : Part) → IsSettled f [] a → f a ≡ changes_after p q a
      by a (inl e) = e
      by a (inr e) = absurd (not_both e.0 refl)
  raised_is (n ∷ ns) f t h = ap (λ (r : Sparse). all_raised r ns) (raised_next f n)
      ∙ raised_is ns (next f n) (All-tail (IsTrueNote p q) n ns t) (settled_next f n ns (All-head (IsTrueNote p q) n ns t) h)

-- ---- a commit
module _ (p : Sparse) (es : List Edit) (s : IsSparse p) (h : AreAllowed p es) where
  started : (a : Part) → IsSettled p (applied p es) (changes_of (applied p es)) (all_noted p es) a
  started a = by (told p (applied p es) (all_noted p es) a) refl
    where
      by : (b : Bool) → told p (applied p es) (all_noted p es) a ≡ b → IsSettled p (applied p es) (changes_of (applied p es)) (all_noted p es) a
      by true e = inr (e, changes_applied p es s h a)
      by false e = inl (changes_applied p es s h a
          ∙ sym (ap (λ (b : Bool). if b then changes_of p a else risen (changes_of p a)) (is-same_contents (contents_of p a) (contents_of (applied p es) a) (sym (untold_same p es a s h e)))))

  pub committed_is : all_raised (applied p es) (all_noted p es) ≡ committed p es
  committed_is = ap (λ (q : Sparse). all_raised q (all_noted p es)) (sym (numbered_self (applied p es))) ∙ raised_is p (applied p es) (all_noted p es) (changes_of (applied p es)) (notes_true p es s h) started

  there_applied : (a : Part) → IsThere p a → IsThere (applied p es) a
  there_applied (part.Row i) l = let z = size_applied p es in omega (arith, l, z.rows)
  there_applied (part.Sides i) l = let z = size_applied p es in let t = sparse_applied p es s h in omega (arith, l, z.rows, s.sides, t.sides)
  there_applied (part.Col j) l = let z = size_applied p es in omega (arith, l, z.columns)
  there_applied (part.Bounds j) l = let z = size_applied p es in let t = sparse_applied p es s h in omega (arith, l, z.columns, s.bounds, t.bounds)

  pub notes_there : All (λ (n : Note). IsThere (applied p es) n.part) (all_noted p es)
  notes_there = λ i d l. there_applied _ ((notes_true p es s h i d l).there)
