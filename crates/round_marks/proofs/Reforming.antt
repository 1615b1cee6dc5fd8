-- Forms of a problem, and forms that are put right where something has changed.
use Rattle.std.proofs.Common.{◌≡◌, ◌≢◌, ◌⊎◌, inl, inr, ℕ, zero, suc, ◌+◌, ◌<◌, ◌≤◌, Bool, true, false, List, [], ◌∷◌, length, map, slice_set, ◌&&◌, refl, sym, ap, ◌∙◌, subst, arith, true≢false}
use Rattle.std.specs.Prelude.{if◌then◌else◌, slice_index_or}
use Rattle.std.specs.List.{Contains, range_with_len}
use Rattle.std.proofs.lemmas.Bool.{and_parts, cases_eq, cases_lt}
use Rattle.std.proofs.lemmas.List.{get_or_past, get_or-set_other, get_or-set_same, length-map, length-set}
use Rattle.std.proofs.lemmas.List.Elements.{Contains-append_left, Contains-append_right}
use Rattle.std.proofs.lemmas.List.FromFn.{get_or-map-range_with_len, length-range_with_len}
use Rattle.problem_model.specs.declared.line.Line.{Line}
use Rattle.problem_model.specs.declared.part.Part.{Part}
use Rattle.problem_model.specs.declared.part.Part.TheVariants as part
use Rattle.problem_model.specs.declared.part.Contents.TheVariants as holding
use Rattle.problem_model.specs.declared.part.Read.{Read}
use Rattle.problem_model.specs.Matrices.{no_line}
use Rattle.problem_model.specs.Noted.{AreNoted}
use Rattle.problem_model.specs.Parts.{bounds_held, contents_of}
use Rattle.problem_model.specs.Problems.{bounds_at, column_at, column_entries, cost_at, row_at, row_entries, sides_at}
use Rattle.problem_model.specs.Reading.{read_of}
use Rattle.problem_model.specs.Sparse.{Sparse}
use Rattle.edit_laws.specs.Sizes.{SameSize}
use Rattle.dual_laws.specs.declared.form.Form.{Form}
use Rattle.dual_laws.specs.declared.form.Form.TheVariants.{NoEnds, Sides, Bounds}
use Rattle.dual_laws.specs.Forms.{form_of, Gives, Lets, LetsByCost, LetsInPairs, line_of, Seen, seen_at}
use Rattle.place_laws.specs.Marks.{LetsNoMore}
use Rattle.round_marks.specs.Forming.{AreFormsOf, form_at, form_on, form_put, Formed, forms_of, FormTest, gives, keeps, lets_by_cost, lets_in_pairs, reformed, same_flag, Stirs, StirsOne}

-- ---- the forms of a problem
-- a part past the lines has no ends
sides_past : (p : Sparse) (i : ℕ) → length p.matrix.rows ≤ i → form_on p (part.Sides i) ≡ NoEnds
sides_past p i l = ap (λ (x : Line). form_of (if x.live then holding.Sides (sides_at p i).lower (sides_at p i).upper else holding.Gone)) (get_or_past p.matrix.rows i no_line l)

bounds_past : (p : Sparse) (j : ℕ) → length p.matrix.columns ≤ j → form_on p (part.Bounds j) ≡ NoEnds
bounds_past p j l = ap (λ (x : Line). form_of (if x.live then bounds_held (bounds_at p j).semi (bounds_at p j).lower (bounds_at p j).upper (bounds_at p j).whole else holding.Gone)) (get_or_past p.matrix.columns j no_line l)

-- what holds entries has no ends
rows_none : (p : Sparse) (i : ℕ) → NoEnds ≡ form_on p (part.Row i)
rows_none p i = by (row_at p i).live
  where
    by : (b : Bool) → NoEnds ≡ form_of (if b then holding.Entries (row_entries p i) else holding.Gone)
    by true = refl
    by false = refl

columns_none : (p : Sparse) (j : ℕ) → NoEnds ≡ form_on p (part.Col j)
columns_none p j = by (column_at p j).live
  where
    by : (b : Bool) → NoEnds ≡ form_of (if b then holding.Column (column_entries p j) (cost_at p j) else holding.Gone)
    by true = refl
    by false = refl

-- what a function gives of the ids below n
each_below : (g : ℕ → Form) (n i : ℕ) → (n ≤ i → g i ≡ NoEnds) → slice_index_or (map g (range_with_len 0 n)) i NoEnds ≡ g i
each_below g n i past = by (cases_lt i n)
  where
    long : length (map g (range_with_len 0 n)) ≡ n
    long = length-map (range_with_len 0 n) g ∙ length-range_with_len 0 n

    by : (i < n) ⊎ (n ≤ i) → slice_index_or (map g (range_with_len 0 n)) i NoEnds ≡ g i
    by (inl l) = get_or-map-range_with_len g 0 n i i NoEnds l (let e : 0 + i ≡ i = omega arith in e)
    by (inr l) = get_or_past (map g (range_with_len 0 n)) i NoEnds (omega (arith, l, long)) ∙ sym (past l)

pub formed : (p : Sparse) → AreFormsOf (forms_of p) p
formed p = record {
  tell = tells;
  sides = length-map (range_with_len 0 (length p.matrix.rows)) _ ∙ length-range_with_len 0 (length p.matrix.rows);
  bounds = length-map (range_with_len 0 (length p.matrix.columns)) _ ∙ length-range_with_len 0 (length p.matrix.columns);
}
  where
    tells : (a : Part) → form_at (forms_of p) a ≡ form_on p a
    tells (part.Row i) = rows_none p i
    tells (part.Sides i) = each_below (λ i. form_on p (part.Sides i)) (length p.matrix.rows) i (sides_past p i)
    tells (part.Col j) = columns_none p j
    tells (part.Bounds j) = each_below (λ j. form_on p (part.Bounds j)) (length p.matrix.columns) j (bounds_past p j)

-- ---- a form that is put
put_here : (s : List Form) (k : ℕ) (x : Form) → (length s ≤ k → x ≡ NoEnds) → slice_index_or (slice_set s k x) k NoEnds ≡ x
put_here s k x past = by (cases_lt k (length s))
  where
    by : (k < length s) ⊎ (length s ≤ k) → slice_index_or (slice_set s k x) k NoEnds ≡ x
    by (inl l) = get_or-set_same s k x NoEnds l
    by (inr g) = get_or_past (slice_set s k x) k NoEnds (subst (λ (n : ℕ). n ≤ k) (sym (length-set s k x)) g) ∙ sym (past g)

pub record IsAsLong (f : Formed) (q : Sparse) : Type 0 where
  pub sides : length f.sides ≡ length q.matrix.rows
  pub bounds : length f.bounds ≡ length q.matrix.columns

-- at another part stands what stood there
pub put_elsewhere : (f : Formed) (b a : Part) (x : Form) → (b ≡ a) ⊎ (form_at (form_put f b x) a ≡ form_at f a)
put_elsewhere f (part.Sides k) (part.Sides i) x = by (cases_eq k i)
  where
    by : (k ≡ i) ⊎ (k ≢ i) → (part.Sides k ≡ part.Sides i) ⊎ (slice_index_or (slice_set f.sides k x) i NoEnds ≡ slice_index_or f.sides i NoEnds)
    by (inl e) = inl (ap part.Sides e)
    by (inr n) = inr (get_or-set_other f.sides k i x NoEnds (λ e. n (sym e)))
put_elsewhere f (part.Bounds k) (part.Bounds j) x = by (cases_eq k j)
  where
    by : (k ≡ j) ⊎ (k ≢ j) → (part.Bounds k ≡ part.Bounds j) ⊎ (slice_index_or (slice_set f.bounds k x) j NoEnds ≡ slice_index_or f.bounds j NoEnds)
    by (inl e) = inl (ap part.Bounds e)
    by (inr n) = inr (get_or-set_other f.bounds k j x NoEnds (λ e. n (sym e)))
put_elsewhere f (part.Row k) a x = inr refl
put_elsewhere f (part.Col k) a x = inr refl
put_elsewhere f (part.Sides k) (part.Row i) x = inr refl
put_elsewhere f (part.Sides k) (part.Col i) x = inr refl
put_elsewhere f (part.Sides k) (part.Bounds i) x = inr refl
put_elsewhere f (part.Bounds k) (part.Row i) x = inr refl
put_elsewhere f (part.Bounds k) (part.Col i) x = inr refl
put_elsewhere f (part.Bounds k) (part.Sides i) x = inr refl

module _ (q : Sparse) where
  long_put : (f : Formed) (b : Part) (x : Form) → IsAsLong f q → IsAsLong (form_put f b x) q
  long_put f (part.Row i) x h = h
  long_put f (part.Sides i) x h = record { sides = length-set f.sides i x ∙ h.sides; bounds = h.bounds }
  long_put f (part.Col j) x h = h
  long_put f (part.Bounds j) x h = record { sides = h.sides; bounds = length-set f.bounds j x ∙ h.bounds }

  long_reformed : (f : Formed) (ps : List Part) → IsAsLong f q → IsAsLong (reformed f q ps) q
  long_reformed f [] h = h
  long_reformed f (a ∷ ps) h = long_reformed (form_put f a (form_on q a)) ps (long_put f a (form_on q a) h)

  right_here : (f : Formed) (b : Part) → IsAsLong f q → form_at (form_put f b (form_on q b)) b ≡ form_on q b
  right_here f (part.Row i) h = rows_none q i
  right_here f (part.Sides i) h = put_here f.sides i (form_on q (part.Sides i)) (λ l. sides_past q i (let e = h.sides in omega (arith, l, e)))
  right_here f (part.Col j) h = columns_none q j
  right_here f (part.Bounds j) h = put_here f.bounds j (form_on q (part.Bounds j)) (λ l. bounds_past q j (let e = h.bounds in omega (arith, l, e)))

  right_kept : (f : Formed) (b a : Part) → IsAsLong f q → form_at f a ≡ form_on q a → form_at (form_put f b (form_on q b)) a ≡ form_on q a
  right_kept f b a h e = by (put_elsewhere f b a (form_on q b))
    where
      by : (b ≡ a) ⊎ (form_at (form_put f b (form_on q b)) a ≡ form_at f a) → form_at (form_put f b (form_on q b)) a ≡ form_on q a
      by (inl same) = subst (λ (x : Part). form_at (form_put f b (form_on q b)) x ≡ form_on q x) same (right_here f b h)
      by (inr stands) = stands ∙ e

  -- forms that are right but at these parts are right once they are put right there
  right_after : (f : Formed) (ps : List Part) → IsAsLong f q → (a : Part) → Contains ps a ⊎ (form_at f a ≡ form_on q a) → form_at (reformed f q ps) a ≡ form_on q a
  right_after f [] h a (inl c) = absurd (omega (arith, c.1))
  right_after f [] h a (inr e) = e
  right_after f (b ∷ ps) h a (inl (zero, l, e)) = right_after (form_put f b (form_on q b)) ps (long_put f b (form_on q b) h) a
      (inr (subst (λ (x : Part). form_at (form_put f b (form_on q b)) x ≡ form_on q x) e (right_here f b h)))
  right_after f (b ∷ ps) h a (inl (suc k, l, e)) = right_after (form_put f b (form_on q b)) ps (long_put f b (form_on q b) h) a (inl (k, omega (arith, l), e))
  right_after f (b ∷ ps) h a (inr e) = right_after (form_put f b (form_on q b)) ps (long_put f b (form_on q b) h) a (inr (right_kept f b a h e))

-- ---- after a commit
module _ (p q : Sparse) (f : Formed) (ps : List Part) (h : AreFormsOf f p) (size : SameSize p q) (noted : AreNoted p q [] ps) where
  long : IsAsLong f q
  long = record { sides = h.sides ∙ sym size.rows; bounds = h.bounds ∙ sym size.columns }

  pub reformed_right : AreFormsOf (reformed f q ps) q
  reformed_right =
      let after : IsAsLong (reformed f q ps) q = long_reformed q f ps long in
      record { tell = λ a. right_after q f ps long a (known a (noted.changed a)); sides = after.sides; bounds = after.bounds }
    where
      known : (a : Part) → (read_of q a ≡ read_of p a) ⊎ Contains ps a → Contains ps a ⊎ (form_at f a ≡ form_on q a)
      known a (inl e) = inr (h.tell a ∙ sym (ap (λ (r : Read). form_of r.contents) e))
      known a (inr c) = inl c

-- ---- what is stirred
stirred_more : (test : FormTest) (q : Sparse) (f : Formed) (a : Part) (n m : List Part) → StirsOne test f q a n m → (x : Part) → Contains n x → Contains m x
stirred_more test q f a n m (inl (k, e)) x c = subst (λ (xs : List Part). Contains xs x) (sym e) c
stirred_more test q f a n m (inr (k, e)) x c = subst (λ (xs : List Part). Contains xs x) (sym e) (Contains-append_left n (a ∷ []) x c)

pub all_stirred_more : (test : FormTest) (q : Sparse) (f : Formed) (ps n m : List Part) → Stirs test f q ps n m → (x : Part) → Contains n x → Contains m x
all_stirred_more test q f [] n m e x c = subst (λ (xs : List Part). Contains xs x) (sym e) c
all_stirred_more test q f (a ∷ ps) n m (k, one, rest) x c = all_stirred_more test q (form_put f a (form_on q a)) ps k m rest x (stirred_more test q f a n k one x c)

-- the lines of sides and bounds are none
sides_line : (p : Sparse) (i : ℕ) → line_of (contents_of p (part.Sides i)) ≡ holding.Gone
sides_line p i = by (row_at p i).live
  where
    by : (b : Bool) → line_of (if b then holding.Sides (sides_at p i).lower (sides_at p i).upper else holding.Gone) ≡ holding.Gone
    by true = refl
    by false = refl

bounds_line : (p : Sparse) (j : ℕ) → line_of (contents_of p (part.Bounds j)) ≡ holding.Gone
bounds_line p j = by (column_at p j).live (bounds_at p j).semi
  where
    by : (b s : Bool) → line_of (if b then bounds_held s (bounds_at p j).lower (bounds_at p j).upper (bounds_at p j).whole else holding.Gone) ≡ holding.Gone
    by true true = refl
    by true false = refl
    by false s = refl

-- ---- what the tests say
given : (a b : Bool) → gives a b ≡ true → Gives a b
given true b h e = h
given false b h e = absurd (true≢false (sym e))

flags_are : (a b : Bool) → same_flag a b ≡ true → a ≡ b
flags_are true true h = refl
flags_are true false h = sym h
flags_are false false h = refl
flags_are false true h = h

three_given : (a b c d e f : Bool) → gives a d && (gives b e && gives c f) ≡ true → Gives a d × Gives b e × Gives c f
three_given a b c d e f h = let u = and_parts (gives a d) (gives b e && gives c f) h in let v = and_parts (gives b e) (gives c f) u.1 in (given a d u.0, given b e v.0, given c f v.1)

pub cost_sound : (f g : Form) → lets_by_cost f g ≡ true → LetsByCost f g
cost_sound NoEnds NoEnds h = tt
cost_sound (Sides a b c) (Sides d e f) h = three_given a b c d e f h
cost_sound (Bounds a b c d e f g) (Bounds h i j k l m n) s =
    let p = and_parts (gives a h) _ s in
    let q = and_parts (gives b i) _ p.1 in
    let r = and_parts (gives c j) _ q.1 in
    let t = three_given d e f k l m r.1 in
    (given a h p.0, given b i q.0, given c j r.0, t.0, t.1, t.2)
cost_sound f g h = absurd (true≢false (sym h))

pub cost_refl : (f : Form) → LetsByCost f f
cost_refl NoEnds = tt
cost_refl (Sides a b c) = (λ h. h, λ h. h, λ h. h)
cost_refl (Bounds a b c d e f g) = (λ h. h, λ h. h, λ h. h, λ h. h, λ h. h, λ h. h)

pub pairs_sound : (f g : Form) → lets_in_pairs f g ≡ true → LetsInPairs f g
pairs_sound NoEnds NoEnds h = tt
pairs_sound (Sides a b c) (Sides d e f) h = three_given a b c d e f h
pairs_sound (Bounds a b c d e f g) (Bounds h i j k l m n) s =
    let p = and_parts (gives b i) _ s in
    let q = and_parts (gives d k) _ p.1 in
    let r = and_parts (gives e l) (same_flag g n) q.1 in
    (given b i p.0, given d k q.0, given e l r.0, flags_are g n r.1)
pairs_sound f g h = absurd (true≢false (sym h))

pub pairs_refl : (f : Form) → LetsInPairs f f
pairs_refl NoEnds = tt
pairs_refl (Sides a b c) = (λ h. h, λ h. h, λ h. h)
pairs_refl (Bounds a b c d e f g) = (λ h. h, λ h. h, λ h. h, refl)

-- ---- by a test that is sound
module _ (R : Form → Form → Type 0) (test : FormTest) (sound : (f g : Form) → test f g ≡ true → R f g) (alike : (f : Form) → R f f) where
  -- what keeps its form lets no more than it did
  kept_lets : (p q : Sparse) (f : Formed) (a : Part) → keeps test f q a ≡ true → form_at f a ≡ form_on p a → Lets R (seen_at q a) (seen_at p a)
  kept_lets p q f (part.Row i) k e = absurd (true≢false (sym k))
  kept_lets p q f (part.Sides i) k e = (sides_line q i ∙ sym (sides_line p i), subst (λ (x : Form). R (form_on q (part.Sides i)) x) e (sound (form_on q (part.Sides i)) (form_at f (part.Sides i)) k))
  kept_lets p q f (part.Col j) k e = absurd (true≢false (sym k))
  kept_lets p q f (part.Bounds j) k e = (bounds_line q j ∙ sym (bounds_line p j), subst (λ (x : Form). R (form_on q (part.Bounds j)) x) e (sound (form_on q (part.Bounds j)) (form_at f (part.Bounds j)) k))

  module _ (p q : Sparse) where
    abbrev IsTold : List Part → Part → Type 0
    IsTold n a = Lets R (seen_at q a) (seen_at p a) ⊎ Contains n a

    -- the form of a part is that of p, or it is put right, and the part told
    abbrev AreKnown : Formed → List Part → Type 0
    AreKnown f n = (a : Part) → (form_at f a ≡ form_on p a) ⊎ ((form_at f a ≡ form_on q a) × IsTold n a)

    told_more : (n m : List Part) → ((x : Part) → Contains n x → Contains m x) → (a : Part) → IsTold n a → IsTold m a
    told_more n m h a (inl e) = inl e
    told_more n m h a (inr c) = inr (h a c)

    module _ (f : Formed) (b : Part) (n k : List Part) (long : IsAsLong f q) (one : StirsOne test f q b n k) (known : AreKnown f n) where
      told_here : IsTold k b
      told_here = by one (known b)
        where
          by : StirsOne test f q b n k → (form_at f b ≡ form_on p b) ⊎ ((form_at f b ≡ form_on q b) × IsTold n b) → IsTold k b
          by (inr (off, e)) x = inr (subst (λ (xs : List Part). Contains xs b) (sym e) (Contains-append_right n (b ∷ []) b (0, omega arith, refl)))
          by (inl (same, e)) (inl x) = inl (kept_lets p q f b same x)
          by (inl (same, e)) (inr (x, told)) = told_more n k (stirred_more test q f b n k one) b told

      known_next : AreKnown (form_put f b (form_on q b)) k
      known_next a = by (put_elsewhere f b a (form_on q b)) (known a)
        where
          by : (b ≡ a) ⊎ (form_at (form_put f b (form_on q b)) a ≡ form_at f a) → (form_at f a ≡ form_on p a) ⊎ ((form_at f a ≡ form_on q a) × IsTold n a)
              → (form_at (form_put f b (form_on q b)) a ≡ form_on p a) ⊎ ((form_at (form_put f b (form_on q b)) a ≡ form_on q a) × IsTold k a)
          by (inl same) x = inr (subst (λ (y : Part). (form_at (form_put f b (form_on q b)) y ≡ form_on q y) × IsTold k y) same (right_here q f b long, told_here))
          by (inr stands) (inl x) = inl (stands ∙ x)
          by (inr stands) (inr (x, told)) = inr (stands ∙ x, told_more n k (stirred_more test q f b n k one) a told)

    all_told : (f : Formed) (ps n m : List Part) → IsAsLong f q → Stirs test f q ps n m → AreKnown f n → (a : Part) → Contains ps a → IsTold m a
    all_told f [] n m long e known a c = absurd (omega (arith, c.1))
    all_told f (b ∷ ps) n m long (k, one, rest) known a (zero, l, e) =
        told_more k m (all_stirred_more test q (form_put f b (form_on q b)) ps k m rest) a (subst (IsTold k) e (told_here f b n k long one known))
    all_told f (b ∷ ps) n m long (k, one, rest) known a (suc i, l, e) =
        all_told (form_put f b (form_on q b)) ps k m (long_put q f b (form_on q b) long) rest (known_next f b n k long one known) a (i, omega (arith, l), e)

  pub stirred_right : (p q : Sparse) (f : Formed) (ps n m : List Part) → AreFormsOf f p → SameSize p q → AreNoted p q [] ps → Stirs test f q ps n m → LetsNoMore R p q n m
  stirred_right p q f ps n m h size noted stirs = record { kept = all_stirred_more test q f ps n m stirs; changed = λ a. by a (noted.changed a) }
    where
      by : (a : Part) → (read_of q a ≡ read_of p a) ⊎ Contains ps a → Lets R (seen_at q a) (seen_at p a) ⊎ Contains m a
      by a (inl e) = let same : seen_at q a ≡ seen_at p a = ap (λ (r : Read). let s : Seen = (line_of r.contents, form_of r.contents) in s) e in
          inl (subst (λ (s : Seen). Lets R (seen_at q a) s) same (refl, alike (form_on q a)))
      by a (inr c) = all_told p q f ps n m (record { sides = h.sides ∙ sym size.rows; bounds = h.bounds ∙ sym size.columns }) stirs (λ x. inl (h.tell x)) a c
