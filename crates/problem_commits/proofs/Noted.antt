-- The notes of edits name each part that the edits change, and say of none that it changed for certain that did not. Of a column of which
-- the cost alone is noted the entries stay.
use Rattle.std.proofs.Common.{Option, ◌≡◌, ◌≢◌, ℕ, nat_eq, Bool, true, false, not, ◌||◌, ◌&&◌, get_or, List, [], ◌∷◌, ◌++◌, refl, sym, ap, ap₂, ◌∙◌, subst, ◌⊎◌, inl, inr}
use Rattle.std.specs.Prelude.{if◌then◌else◌, ⊤}
use Rattle.std.proofs.lemmas.Bool.{eq-eqb, ne_eqb, cases_eq}
use Rattle.std.specs.List.{All}
use Rattle.std.proofs.lemmas.List.Elements.{All-nil, All-cons, All-head, All-tail, All-map, All-append}
use Rattle.fractions.specs.Number.{Number, zero_ℚ}
use Rattle.fractions.specs.Comparisons.{eq_ℚ-is}
use Rattle.lp_model.specs.declared.terms.Term.{Term}
use Rattle.lp_model.specs.Sparse.{has, dense}
use Rattle.problem_model.specs.declared.edit.Edit.{Edit}
use Rattle.problem_model.specs.declared.edit.Edit.TheVariants.{DeleteRow, DeleteColumn, SetSides, SetBounds, AddOffset, SetCost, SetEntry}
use Rattle.problem_model.specs.declared.part.Part.{Part}
use Rattle.problem_model.specs.declared.part.Part.TheVariants as part
use Rattle.problem_model.specs.declared.part.Contents.{Contents}
use Rattle.problem_model.specs.declared.part.Contents.TheVariants as holds
use Rattle.problem_model.specs.Allowed.{IsAllowed, AreAllowed}
use Rattle.problem_model.specs.Applied.{edited, applied}
use Rattle.problem_model.specs.Edits.{row_deleted, column_deleted}
use Rattle.problem_model.specs.Parts.{bounds_held, contents_of}
use Rattle.problem_model.specs.Problems.{row_at, column_at, sides_at, bounds_at, row_entries, column_entries, cost_at, IsSparse}
use Rattle.problem_model.specs.Raised.{same_contents}
use Rattle.problem_model.specs.Sparse.{Sparse}
use Rattle.problem_model.specs.Touching.{is_sides_of, is_bounds_of, is_column}
use Rattle.problem_laws.proofs.AtIds.{row_inside, column_inside, sides_inside, bounds_inside, losing-live, without-dead}
use Rattle.problem_laws.proofs.Entries.{has-live_only, live_entries_name, row_entries-live, row_entries-tell, row_entries-none_zero, column_entries-live, column_entries-tell, column_entries-none_zero, row_deleted-column_entries, column_deleted-row_entries}
use Rattle.edit_laws.proofs.SameContents.{same_contents-is}
use Rattle.edit_laws.proofs.NumbersStay.{Lives, lives_self, lives_more, lives_edited, lives_applied}
use Rattle.problem_laws.proofs.Terms.{not_both, without-absent, has-cons_other, named_by}
use Rattle.problem_laws.proofs.Single.{sparse_edited}
use Rattle.edit_laws.proofs.Untouched.{rows_hold, columns_hold, stays_edited}
use Rattle.problem_data.specs.Renumbered.{same_part, IsThere}
use Rattle.problem_commits.specs.declared.notes.Held.{Held}
use Rattle.problem_commits.specs.declared.notes.Held.TheVariants as held
use Rattle.problem_commits.specs.declared.notes.Note.{Note}
use Rattle.problem_commits.specs.Noting.{asked, certain, costed, columns_noted, rows_noted, cost_noted, goes_on, column_noted, costs, is_other, has_changed, noted, all_noted}

unturned : (b : Bool) → not b ≡ false → b ≡ true
unturned true h = refl
unturned false h = absurd (not_both refl h)

either : (a b : Bool) → (a || b) ≡ false → (a ≡ false) × (b ≡ false)
either false b h = (refl, h)
either true b h = absurd (not_both refl h)

id_is : (k i : ℕ) → nat_eq k i ≡ true → k ≡ i
id_is k i h = by (cases_eq k i)
  where
    by : (k ≡ i) ⊎ (k ≢ i) → k ≡ i
    by (inl e) = e
    by (inr n) = absurd (not_both h (ne_eqb k i n))

pub same_part-is : (a b : Part) → same_part a b ≡ true → b ≡ a
same_part-is (part.Row i) (part.Row k) h = ap part.Row (id_is k i h)
same_part-is (part.Row i) (part.Sides k) h = absurd (not_both h refl)
same_part-is (part.Row i) (part.Col j) h = absurd (not_both h refl)
same_part-is (part.Row i) (part.Bounds j) h = absurd (not_both h refl)
same_part-is (part.Sides i) (part.Sides k) h = ap part.Sides (id_is k i h)
same_part-is (part.Sides i) (part.Row k) h = absurd (not_both h refl)
same_part-is (part.Sides i) (part.Col j) h = absurd (not_both h refl)
same_part-is (part.Sides i) (part.Bounds j) h = absurd (not_both h refl)
same_part-is (part.Col j) (part.Col k) h = ap part.Col (id_is k j h)
same_part-is (part.Col j) (part.Row i) h = absurd (not_both h refl)
same_part-is (part.Col j) (part.Sides i) h = absurd (not_both h refl)
same_part-is (part.Col j) (part.Bounds k) h = absurd (not_both h refl)
same_part-is (part.Bounds j) (part.Bounds k) h = ap part.Bounds (id_is k j h)
same_part-is (part.Bounds j) (part.Row i) h = absurd (not_both h refl)
same_part-is (part.Bounds j) (part.Sides i) h = absurd (not_both h refl)
same_part-is (part.Bounds j) (part.Col k) h = absurd (not_both h refl)

-- whether a note keeps more than a cost
abbrev pub is_whole : Held → Bool
is_whole held.Certain = true
is_whole (held.Whole c) = true
is_whole (held.Cost c) = false

-- a note that counts, where those of costs do, or do not
abbrev pub counts : Bool → Note → Bool
counts b n = is_whole n.held || b

-- whether a part is among those noted, costs alone counting, or not
abbrev pub names : Bool → List Note → Part → Bool
names b [] a = false
names b (n ∷ ns) a = (counts b n && same_part n.part a) || names b ns a

names_append : (b : Bool) (ns ms : List Note) (a : Part) → names b (ns ++ ms) a ≡ false → (names b ns a ≡ false) × (names b ms a ≡ false)
names_append b [] ms a h = (refl, h)
names_append b (n ∷ ns) ms a h = by (counts b n && same_part n.part a) h (λ g. names_append b ns ms a g)
  where
    by : (c : Bool) → (c || names b (ns ++ ms) a) ≡ false → (names b (ns ++ ms) a ≡ false → (names b ns a ≡ false) × (names b ms a ≡ false)) → ((c || names b ns a) ≡ false) × (names b ms a ≡ false)
    by true h ih = absurd (not_both refl h)
    by false h ih = ih h

column_named : (b : Bool) (p : Sparse) (ts : List Term) (j : ℕ) → names b (columns_noted p ts) (part.Col j) ≡ false → has j ts ≡ false
column_named b p [] j h = refl
column_named b p (t ∷ ts) j h = by (cases_eq t.id j) (λ g. column_named b p ts j g)
  where
    by : (t.id ≡ j) ⊎ (t.id ≢ j) → (names b (columns_noted p ts) (part.Col j) ≡ false → has j ts ≡ false) → has j (t ∷ ts) ≡ false
    by (inl e) ih = absurd (not_both (eq-eqb j t.id (sym e)) (either (nat_eq j t.id) (names b (columns_noted p ts) (part.Col j)) h).0)
    by (inr n) ih = has-cons_other j t ts n ∙ ih (either (nat_eq j t.id) (names b (columns_noted p ts) (part.Col j)) h).1

row_named : (b : Bool) (p : Sparse) (ts : List Term) (i : ℕ) → names b (rows_noted p ts) (part.Row i) ≡ false → has i ts ≡ false
row_named b p [] i h = refl
row_named b p (t ∷ ts) i h = by (cases_eq t.id i) (λ g. row_named b p ts i g)
  where
    by : (t.id ≡ i) ⊎ (t.id ≢ i) → (names b (rows_noted p ts) (part.Row i) ≡ false → has i ts ≡ false) → has i (t ∷ ts) ≡ false
    by (inl e) ih = absurd (not_both (eq-eqb i t.id (sym e)) (either (nat_eq i t.id) (names b (rows_noted p ts) (part.Row i)) h).0)
    by (inr n) ih = has-cons_other i t ts n ∙ ih (either (nat_eq i t.id) (names b (rows_noted p ts) (part.Row i)) h).1

-- the entries that a part holds
abbrev pub terms_in : Contents → List Term
terms_in (holds.Entries ts) = ts
terms_in (holds.Column ts c) = ts
terms_in holds.Gone = []
terms_in (holds.Sides l u) = []
terms_in (holds.Bounds l u w) = []
terms_in (holds.Semi l u w) = []

pub row_held : (p : Sparse) (i : ℕ) → (row_at p i).live ≡ true → terms_in (contents_of p (part.Row i)) ≡ row_entries p i
row_held p i h = ap (λ (b : Bool). terms_in (if b then holds.Entries (row_entries p i) else holds.Gone)) h

pub column_held : (p : Sparse) (j : ℕ) → (column_at p j).live ≡ true → terms_in (contents_of p (part.Col j)) ≡ column_entries p j
column_held p j h = ap (λ (b : Bool). terms_in (if b then holds.Column (column_entries p j) (cost_at p j) else holds.Gone)) h

-- what is seen of a part where notes of costs count; where they do not, its cost is not looked at
abbrev pub seen : Bool → Contents → Contents
seen true c = c
seen false (holds.Column ts c) = holds.Entries ts
seen false holds.Gone = holds.Gone
seen false (holds.Entries ts) = holds.Entries ts
seen false (holds.Sides l u) = holds.Sides l u
seen false (holds.Bounds l u w) = holds.Bounds l u w
seen false (holds.Semi l u w) = holds.Semi l u w

seen_terms : (b : Bool) (c : Contents) → terms_in (seen b c) ≡ terms_in c
seen_terms true c = refl
seen_terms false (holds.Column ts c) = refl
seen_terms false holds.Gone = refl
seen_terms false (holds.Entries ts) = refl
seen_terms false (holds.Sides l u) = refl
seen_terms false (holds.Bounds l u w) = refl
seen_terms false (holds.Semi l u w) = refl

same_terms_seen : (b : Bool) (c d : Contents) → seen b c ≡ seen b d → terms_in c ≡ terms_in d
same_terms_seen b c d e = sym (seen_terms b c) ∙ ap terms_in e ∙ seen_terms b d

-- an edit that sets no cost
abbrev IsOther : Edit → Type 0
IsOther (DeleteRow i) = ⊤
IsOther (DeleteColumn j) = ⊤
IsOther (SetSides i l u) = ⊤
IsOther (SetBounds j l u) = ⊤
IsOther (AddOffset k) = ⊤
IsOther (SetCost j c) = ⊥
IsOther (SetEntry i j w) = ⊤

-- ---- what is not noted of the problem before is not changed where an edit's turn comes
module _ (b : Bool) (p r : Sparse) (s : IsSparse p) (v : IsSparse r) (lives : Lives p r) where
  column_apart : (i j : ℕ) → (row_at r i).live ≡ true → names b (columns_noted p (row_entries p i)) (part.Col j) ≡ false → terms_in (contents_of r (part.Col j)) ≡ terms_in (contents_of p (part.Col j))
      → contents_of (row_deleted r i) (part.Col j) ≡ contents_of r (part.Col j)
  column_apart i j row h e = by (column_at r j).live refl
    where
      by : (b : Bool) → (column_at r j).live ≡ b → contents_of (row_deleted r i) (part.Col j) ≡ contents_of r (part.Col j)
      by false on = ap (λ (b : Bool). if b then holds.Column (column_entries (row_deleted r i) j) (cost_at r j) else holds.Gone) (losing-live (row_deleted r i).matrix.rows r.matrix.columns i j ∙ on)
          ∙ sym (ap (λ (b : Bool). if b then holds.Column (column_entries r j) (cost_at r j) else holds.Gone) on)
      by true on =
          let before : (column_at p j).live ≡ true = lives.columns j on in
          let same : column_entries r j ≡ column_entries p j = sym (column_held r j on) ∙ e ∙ column_held p j before in
          let none : has i (column_entries p j) ≡ false = sym (live_entries_name p i j s (lives.rows i row) before) ∙ column_named b p (row_entries p i) j h in
          columns_hold r (row_deleted r i) j (losing-live (row_deleted r i).matrix.rows r.matrix.columns i j) (row_deleted-column_entries r i (row_inside r i row) j ∙ without-absent i (column_entries r j) (ap (has i) same ∙ none)) refl

  row_apart : (j i : ℕ) → (column_at r j).live ≡ true → names b (rows_noted p (column_entries p j)) (part.Row i) ≡ false → terms_in (contents_of r (part.Row i)) ≡ terms_in (contents_of p (part.Row i))
      → contents_of (column_deleted r j) (part.Row i) ≡ contents_of r (part.Row i)
  row_apart j i column h e = by (row_at r i).live refl
    where
      by : (b : Bool) → (row_at r i).live ≡ b → contents_of (column_deleted r j) (part.Row i) ≡ contents_of r (part.Row i)
      by false on = ap (λ (b : Bool). if b then holds.Entries (row_entries (column_deleted r j) i) else holds.Gone) (losing-live (column_deleted r j).matrix.columns r.matrix.rows j i ∙ on)
          ∙ sym (ap (λ (b : Bool). if b then holds.Entries (row_entries r i) else holds.Gone) on)
      by true on =
          let before : (row_at p i).live ≡ true = lives.rows i on in
          let same : row_entries r i ≡ row_entries p i = sym (row_held r i on) ∙ e ∙ row_held p i before in
          let none : has j (row_entries p i) ≡ false = live_entries_name p i j s before (lives.columns j column) ∙ row_named b p (column_entries p j) i h in
          rows_hold r (column_deleted r j) i (losing-live (column_deleted r j).matrix.columns r.matrix.rows j i) (column_deleted-row_entries r j (column_inside r j column) i ∙ without-absent j (row_entries r i) (ap (has j) same ∙ none))

  cost_apart : (j : ℕ) (c : Number) (a : Part) → IsAllowed r (SetCost j c) → names b (cost_noted p j) a ≡ false → seen b (contents_of (edited r (SetCost j c)) a) ≡ seen b (contents_of r a)
  cost_apart j c a h n = by b a (ap (λ (l : Bool). names b (if l then costed p j ∷ [] else []) a) (sym (lives.columns j h)) ∙ n)
    where
      stays : (a : Part) → is_column j a ≡ false → contents_of (edited r (SetCost j c)) a ≡ contents_of r a
      stays a o = stays_edited r (SetCost j c) a v h o

      entries_stay : (k : ℕ) (l : Bool) (d : Number) → seen false (if l then holds.Column (column_entries r k) d else holds.Gone) ≡ seen false (if l then holds.Column (column_entries r k) (cost_at r k) else holds.Gone)
      entries_stay k true d = refl
      entries_stay k false d = refl

      by : (b : Bool) (a : Part) → names b (costed p j ∷ []) a ≡ false → seen b (contents_of (edited r (SetCost j c)) a) ≡ seen b (contents_of r a)
      by true a o = stays a (either (is_column j a) false o).0
      by false (part.Row i) o = ap (seen false) (stays (part.Row i) refl)
      by false (part.Sides i) o = ap (seen false) (stays (part.Sides i) refl)
      by false (part.Col k) o = entries_stay k (column_at r k).live (cost_at (edited r (SetCost j c)) k)
      by false (part.Bounds k) o = ap (seen false) (stays (part.Bounds k) refl)

  other_apart : (e : Edit) (a : Part) → IsAllowed r e → names b (noted p e []) a ≡ false → terms_in (contents_of r a) ≡ terms_in (contents_of p a) → IsOther e → contents_of (edited r e) a ≡ contents_of r a
  other_apart (DeleteRow i) (part.Row k) h n e o = stays_edited r (DeleteRow i) (part.Row k) v h (either (nat_eq k i) _ n).0
  other_apart (DeleteRow i) (part.Sides k) h n e o = stays_edited r (DeleteRow i) (part.Sides k) v h (either (nat_eq k i) _ n).0
  other_apart (DeleteRow i) (part.Col j) h n e o = column_apart i j h n e
  other_apart (DeleteRow i) (part.Bounds j) h n e o = stays_edited r (DeleteRow i) (part.Bounds j) v h refl
  other_apart (DeleteColumn j) (part.Row i) h n e o = row_apart j i h n e
  other_apart (DeleteColumn j) (part.Sides i) h n e o = stays_edited r (DeleteColumn j) (part.Sides i) v h refl
  other_apart (DeleteColumn j) (part.Col k) h n e o = stays_edited r (DeleteColumn j) (part.Col k) v h (either (nat_eq k j) _ n).0
  other_apart (DeleteColumn j) (part.Bounds k) h n e o = stays_edited r (DeleteColumn j) (part.Bounds k) v h (either (nat_eq k j) _ n).0
  other_apart (SetSides i l u) a h n e o = stays_edited r (SetSides i l u) a v h (either (is_sides_of i a) false n).0
  other_apart (SetBounds j l u) a h n e o = stays_edited r (SetBounds j l u) a v h (either (is_bounds_of j a) false n).0
  other_apart (AddOffset k) a h n e o = stays_edited r (AddOffset k) a v h refl
  other_apart (SetCost j c) a h n e o = absurd o
  other_apart (SetEntry i j w) (part.Row k) h n e o = stays_edited r (SetEntry i j w) (part.Row k) v h (either (nat_eq k i) false n).0
  other_apart (SetEntry i j w) (part.Sides k) h n e o = stays_edited r (SetEntry i j w) (part.Sides k) v h refl
  other_apart (SetEntry i j w) (part.Col k) h n e o = stays_edited r (SetEntry i j w) (part.Col k) v h (either (nat_eq k j) false n).0
  other_apart (SetEntry i j w) (part.Bounds k) h n e o = stays_edited r (SetEntry i j w) (part.Bounds k) v h refl

  unnoted : (e : Edit) (a : Part) → IsAllowed r e → names b (noted p e []) a ≡ false → seen b (contents_of r a) ≡ seen b (contents_of p a) → seen b (contents_of (edited r e) a) ≡ seen b (contents_of r a)
  unnoted (SetCost j c) a h n e = cost_apart j c a h n
  unnoted (DeleteRow i) a h n e = ap (seen b) (other_apart (DeleteRow i) a h n (same_terms_seen b (contents_of r a) (contents_of p a) e) tt)
  unnoted (DeleteColumn j) a h n e = ap (seen b) (other_apart (DeleteColumn j) a h n (same_terms_seen b (contents_of r a) (contents_of p a) e) tt)
  unnoted (SetSides i l u) a h n e = ap (seen b) (other_apart (SetSides i l u) a h n (same_terms_seen b (contents_of r a) (contents_of p a) e) tt)
  unnoted (SetBounds j l u) a h n e = ap (seen b) (other_apart (SetBounds j l u) a h n (same_terms_seen b (contents_of r a) (contents_of p a) e) tt)
  unnoted (AddOffset k) a h n e = ap (seen b) (other_apart (AddOffset k) a h n (same_terms_seen b (contents_of r a) (contents_of p a) e) tt)
  unnoted (SetEntry i j w) a h n e = ap (seen b) (other_apart (SetEntry i j w) a h n (same_terms_seen b (contents_of r a) (contents_of p a) e) tt)

-- a column that is noted later is named there
goes_named : (b : Bool) (p : Sparse) (j : ℕ) (es : List Edit) → goes_on j es ≡ true → names b (all_noted p es) (part.Col j) ≡ true
goes_named b p j [] h = absurd (not_both h refl)
goes_named b p j (DeleteRow i ∷ es) h = absurd (not_both h refl)
goes_named b p j (DeleteColumn k ∷ es) h = absurd (not_both h refl)
goes_named b p j (SetSides i l u ∷ es) h = absurd (not_both h refl)
goes_named b p j (SetBounds k l u ∷ es) h = absurd (not_both h refl)
goes_named b p j (AddOffset k ∷ es) h = absurd (not_both h refl)
goes_named b p j (SetCost k c ∷ es) h = absurd (not_both h refl)
goes_named b p j (SetEntry i k a ∷ es) h = by (cases_eq k j) (λ g. goes_named b p j es g)
  where
    by : (k ≡ j) ⊎ (k ≢ j) → (goes_on j es ≡ true → names b (all_noted p es) (part.Col j) ≡ true) → names b (column_noted p k es ++ all_noted p es) (part.Col j) ≡ true
    by (inr n) ih = absurd (not_both h (ne_eqb k j n))
    by (inl e) ih = later (goes_on k es) (λ g. ih (ap (λ (m : ℕ). goes_on m es) (sym e) ∙ g)) refl
      where
        later : (c : Bool) → (goes_on k es ≡ true → names b (all_noted p es) (part.Col j) ≡ true) → goes_on k es ≡ c → names b ((if c then [] else asked p (part.Col k) ∷ []) ++ all_noted p es) (part.Col j) ≡ true
        later true ih g = ih g
        later false ih g = ap (λ (c : Bool). c || names b (all_noted p es) (part.Col j)) (eq-eqb j k (sym e))

-- what no note of edits names, no note of the first names, nor of the others
entry_names : (b : Bool) (p : Sparse) (i j : ℕ) (es : List Edit) (a : Part) → names b (asked p (part.Row i) ∷ column_noted p j es ++ all_noted p es) a ≡ false
    → (names b (asked p (part.Row i) ∷ asked p (part.Col j) ∷ []) a ≡ false) × (names b (all_noted p es) a ≡ false)
entry_names b p i j es a n =
    let m = either (same_part (part.Row i) a) (names b (column_noted p j es ++ all_noted p es) a) n in
    let rest = names_append b (column_noted p j es) (all_noted p es) a m.1 in (
      neither (same_part (part.Row i) a) (same_part (part.Col j) a) m.0 (by (same_part (part.Col j) a) refl (goes_on j es) refl rest.0 rest.1),
      rest.1,
    )
  where
    neither : (c d : Bool) → c ≡ false → d ≡ false → (c || (d || false)) ≡ false
    neither true c e f = absurd (not_both refl e)
    neither false true e f = absurd (not_both refl f)
    neither false false e f = refl

    by : (d : Bool) → same_part (part.Col j) a ≡ d → (c : Bool) → goes_on j es ≡ c → names b (if c then [] else asked p (part.Col j) ∷ []) a ≡ false → names b (all_noted p es) a ≡ false → d ≡ false
    by false e c g k l = refl
    by true e true g k l = absurd (not_both (ap (names b (all_noted p es)) (same_part-is (part.Col j) a e) ∙ goes_named b p j es g) l)
    by true e false g k l = absurd (not_both e (either (same_part (part.Col j) a) false k).0)

none_names : (b : Bool) (p : Sparse) (e : Edit) (es : List Edit) (a : Part) → names b (all_noted p (e ∷ es)) a ≡ false → (names b (noted p e []) a ≡ false) × (names b (all_noted p es) a ≡ false)
none_names b p (DeleteRow i) es a n = names_append b (noted p (DeleteRow i) []) (all_noted p es) a n
none_names b p (DeleteColumn j) es a n = names_append b (noted p (DeleteColumn j) []) (all_noted p es) a n
none_names b p (SetSides i l u) es a n = names_append b (noted p (SetSides i l u) []) (all_noted p es) a n
none_names b p (SetBounds j l u) es a n = names_append b (noted p (SetBounds j l u) []) (all_noted p es) a n
none_names b p (AddOffset k) es a n = names_append b (noted p (AddOffset k) []) (all_noted p es) a n
none_names b p (SetCost j c) es a n = names_append b (noted p (SetCost j c) []) (all_noted p es) a n
none_names b p (SetEntry i j w) es a n = entry_names b p i j es a n

-- and by all of them
all_unnoted : (b : Bool) (p r : Sparse) (es : List Edit) (a : Part) → IsSparse p → IsSparse r → Lives p r → AreAllowed r es → names b (all_noted p es) a ≡ false → seen b (contents_of r a) ≡ seen b (contents_of p a)
    → seen b (contents_of (applied r es) a) ≡ seen b (contents_of p a)
all_unnoted b p r [] a s v lives h n e = e
all_unnoted b p r (d ∷ es) a s v lives h n e =
    let m = none_names b p d es a n in
    all_unnoted b p (edited r d) es a s (sparse_edited r d v h.0) (lives_more p r (edited r d) lives (lives_edited r d h.0)) h.1 m.1 (unnoted b p r s v lives d a h.0 m.0 e ∙ e)

unnoted_stay : (b : Bool) (p : Sparse) (es : List Edit) (a : Part) → IsSparse p → AreAllowed p es → names b (all_noted p es) a ≡ false → seen b (contents_of (applied p es) a) ≡ seen b (contents_of p a)
unnoted_stay b p es a s h n = all_unnoted b p p es a s s (lives_self p) h n refl

-- ---- what is said of noted parts
-- it is the cost of a column that was there
pub record IsCostNote (p : Sparse) (n : Note) : Type 0 where
  pub column : ℕ
  pub is : n ≡ costed p column
  pub live : (column_at p column).live ≡ true

pub record IsTrueNote (p q : Sparse) (n : Note) : Type 0 where
  pub there : IsThere p n.part
  pub note : (n ≡ asked p n.part) ⊎ (((n ≡ certain p n.part) × (contents_of q n.part ≢ contents_of p n.part)) ⊎ IsCostNote p n)

asked_true : (p q : Sparse) (a : Part) → IsThere p a → IsTrueNote p q (asked p a)
asked_true p q a l = record { there = l; note = inl refl }

certain_true : (p q : Sparse) (a : Part) → IsThere p a → contents_of q a ≢ contents_of p a → IsTrueNote p q (certain p a)
certain_true p q a l n = record { there = l; note = inr (inl (refl, n)) }

cost_true : (p q : Sparse) (j : ℕ) → (column_at p j).live ≡ true → IsTrueNote p q (costed p j)
cost_true p q j l = record { there = column_inside p j l; note = inr (inr (record { column = j; is = refl; live = l })) }

costs_true : (p q : Sparse) (j : ℕ) → All (IsTrueNote p q) (cost_noted p j)
costs_true p q j = by (column_at p j).live refl
  where
    by : (b : Bool) → (column_at p j).live ≡ b → All (IsTrueNote p q) (if b then costed p j ∷ [] else [])
    by true l = All-cons (IsTrueNote p q) (costed p j) [] (cost_true p q j l) (All-nil (IsTrueNote p q))
    by false l = All-nil (IsTrueNote p q)

abbrev here : Contents → Bool
here holds.Gone = false
here (holds.Entries ts) = true
here (holds.Sides l u) = true
here (holds.Column ts c) = true
here (holds.Bounds l u w) = true
here (holds.Semi l u w) = true

bounds_here : (on semi : Bool) (l u : Option Number) (w : Bool) → on ≡ true → here (if on then bounds_held semi l u w else holds.Gone) ≡ true
bounds_here true true l u w e = refl
bounds_here true false l u w e = refl
bounds_here false semi l u w e = absurd (not_both refl (sym e))

bounds_gone : (on semi : Bool) (l u : Option Number) (w : Bool) → on ≡ false → here (if on then bounds_held semi l u w else holds.Gone) ≡ false
bounds_gone true semi l u w e = absurd (not_both refl e)
bounds_gone false semi l u w e = refl

gone_other : (c d : Contents) → here c ≡ false → here d ≡ true → c ≢ d
gone_other c d e f g = not_both (ap here g ∙ f) e

dead : (b c : Bool) → (b ≡ true → c ≡ true) → c ≡ false → b ≡ false
dead true c h e = absurd (not_both (h refl) e)
dead false c h e = refl

named_self : (ts : List Term) → All (λ t. dense ts t.id ≡ t.value) ts → All (λ t. t.value ≢ zero_ℚ) ts → All (λ t. has t.id ts ≡ true) ts
named_self ts tell some = λ i d l. named_by (get_or ts i d).id ts (λ e. some i d l (sym (tell i d l) ∙ e))

module _ (p q : Sparse) (s : IsSparse p) where
  row_gone : (i : ℕ) → (row_at p i).live ≡ true → (row_at q i).live ≡ false → All (IsTrueNote p q) (certain p (part.Row i) ∷ certain p (part.Sides i) ∷ columns_noted p (row_entries p i))
  row_gone i on off = All-cons (IsTrueNote p q) (certain p (part.Row i)) (certain p (part.Sides i) ∷ columns_noted p (row_entries p i)) (certain_true p q (part.Row i) (row_inside p i on) (gone_other _ _ (ap (λ (b : Bool). here (if b then holds.Entries (row_entries q i) else holds.Gone)) off) (ap (λ (b : Bool). here (if b then holds.Entries (row_entries p i) else holds.Gone)) on)))
      (All-cons (IsTrueNote p q) (certain p (part.Sides i)) (columns_noted p (row_entries p i)) (certain_true p q (part.Sides i) (sides_inside p i s on) (gone_other _ _ (ap (λ (b : Bool). here (if b then holds.Sides (sides_at q i).lower (sides_at q i).upper else holds.Gone)) off) (ap (λ (b : Bool). here (if b then holds.Sides (sides_at p i).lower (sides_at p i).upper else holds.Gone)) on)))
      (All-map (IsTrueNote p q) (λ t. certain p (part.Col t.id)) (row_entries p i) columns))
    where
      lost : (j : ℕ) → (column_at p j).live ≡ true → has j (row_entries p i) ≡ true → contents_of q (part.Col j) ≢ contents_of p (part.Col j)
      lost j live h e =
          let before : has i (terms_in (contents_of p (part.Col j))) ≡ true = ap (has i) (column_held p j live) ∙ sym (live_entries_name p i j s on live) ∙ h in
          by (column_at q j).live refl (ap (λ (c : Contents). has i (terms_in c)) e ∙ before)
        where
          by : (b : Bool) → (column_at q j).live ≡ b → has i (terms_in (contents_of q (part.Col j))) ≡ true → ⊥
          by false dies g = not_both g (ap (λ (b : Bool). has i (terms_in (if b then holds.Column (column_entries q j) (cost_at q j) else holds.Gone))) dies)
          by true stays g = not_both g (ap (has i) (column_held q j stays) ∙ has-live_only q.matrix.rows i (column_at q j).entries ∙ ap (λ (b : Bool). b && has i (column_at q j).entries) off)

      columns : All (λ t. IsTrueNote p q (certain p (part.Col t.id))) (row_entries p i)
      columns = λ k d l. let live = row_entries-live p i k d l in certain_true p q (part.Col (get_or (row_entries p i) k d).id) (column_inside p _ live) (lost _ live (named_self (row_entries p i) (row_entries-tell p i s) (row_entries-none_zero p i s) k d l))

  column_gone : (j : ℕ) → (column_at p j).live ≡ true → (column_at q j).live ≡ false → All (IsTrueNote p q) (certain p (part.Col j) ∷ certain p (part.Bounds j) ∷ rows_noted p (column_entries p j))
  column_gone j on off = All-cons (IsTrueNote p q) (certain p (part.Col j)) (certain p (part.Bounds j) ∷ rows_noted p (column_entries p j)) (certain_true p q (part.Col j) (column_inside p j on) (gone_other _ _ (ap (λ (b : Bool). here (if b then holds.Column (column_entries q j) (cost_at q j) else holds.Gone)) off) (ap (λ (b : Bool). here (if b then holds.Column (column_entries p j) (cost_at p j) else holds.Gone)) on)))
      (All-cons (IsTrueNote p q) (certain p (part.Bounds j)) (rows_noted p (column_entries p j)) (certain_true p q (part.Bounds j) (bounds_inside p j s on) (gone_other _ _ (bounds_gone (column_at q j).live (bounds_at q j).semi (bounds_at q j).lower (bounds_at q j).upper (bounds_at q j).whole off) (bounds_here (column_at p j).live (bounds_at p j).semi (bounds_at p j).lower (bounds_at p j).upper (bounds_at p j).whole on)))
      (All-map (IsTrueNote p q) (λ t. certain p (part.Row t.id)) (column_entries p j) rows))
    where
      lost : (i : ℕ) → (row_at p i).live ≡ true → has i (column_entries p j) ≡ true → contents_of q (part.Row i) ≢ contents_of p (part.Row i)
      lost i live h e =
          let before : has j (terms_in (contents_of p (part.Row i))) ≡ true = ap (has j) (row_held p i live) ∙ live_entries_name p i j s live on ∙ h in
          by (row_at q i).live refl (ap (λ (c : Contents). has j (terms_in c)) e ∙ before)
        where
          by : (b : Bool) → (row_at q i).live ≡ b → has j (terms_in (contents_of q (part.Row i))) ≡ true → ⊥
          by false dies g = not_both g (ap (λ (b : Bool). has j (terms_in (if b then holds.Entries (row_entries q i) else holds.Gone))) dies)
          by true stays g = not_both g (ap (has j) (row_held q i stays) ∙ has-live_only q.matrix.columns j (row_at q i).entries ∙ ap (λ (b : Bool). b && has j (row_at q i).entries) off)

      rows : All (λ t. IsTrueNote p q (certain p (part.Row t.id))) (column_entries p j)
      rows = λ k d l. let live = column_entries-live p j k d l in certain_true p q (part.Row (get_or (column_entries p j) k d).id) (row_inside p _ live) (lost _ live (named_self (column_entries p j) (column_entries-tell p j s) (column_entries-none_zero p j s) k d l))

-- the notes of an edit that is made on r, of which q comes in the end
one_true : (p r q : Sparse) (e : Edit) (es : List Edit) → IsSparse p → Lives p r → Lives (edited r e) q → IsAllowed r e → All (IsTrueNote p q) (noted p e es)
one_true p r q (DeleteRow i) es s lives after h = row_gone p q s i (lives.rows i h) (dead (row_at q i).live (row_at (row_deleted r i) i).live (after.rows i) (without-dead r.matrix.rows i (row_inside r i h)))
one_true p r q (DeleteColumn j) es s lives after h = column_gone p q s j (lives.columns j h) (dead (column_at q j).live (column_at (column_deleted r j) j).live (after.columns j) (without-dead r.matrix.columns j (column_inside r j h)))
one_true p r q (SetSides i l u) es s lives after h = All-cons (IsTrueNote p q) (asked p (part.Sides i)) [] (asked_true p q (part.Sides i) (sides_inside p i s (lives.rows i h))) (All-nil (IsTrueNote p q))
one_true p r q (SetBounds j l u) es s lives after h = All-cons (IsTrueNote p q) (asked p (part.Bounds j)) [] (asked_true p q (part.Bounds j) (bounds_inside p j s (lives.columns j h.0))) (All-nil (IsTrueNote p q))
one_true p r q (AddOffset k) es s lives after h = All-nil (IsTrueNote p q)
one_true p r q (SetCost j c) es s lives after h = costs_true p q j
one_true p r q (SetEntry i j w) es s lives after h = All-cons (IsTrueNote p q) (asked p (part.Row i)) (column_noted p j es) (asked_true p q (part.Row i) (row_inside p i (lives.rows i h.0))) (by (goes_on j es))
  where
    by : (b : Bool) → All (IsTrueNote p q) (if b then [] else asked p (part.Col j) ∷ [])
    by true = All-nil (IsTrueNote p q)
    by false = All-cons (IsTrueNote p q) (asked p (part.Col j)) [] (asked_true p q (part.Col j) (column_inside p j (lives.columns j h.1))) (All-nil (IsTrueNote p q))

all_true : (p r : Sparse) (es : List Edit) → IsSparse p → IsSparse r → Lives p r → AreAllowed r es → All (IsTrueNote p (applied r es)) (all_noted p es)
all_true p r [] s v lives h = All-nil (IsTrueNote p r)
all_true p r (e ∷ es) s v lives h =
    let next = sparse_edited r e v h.0 in
    All-append (IsTrueNote p (applied (edited r e) es)) (noted p e es) (all_noted p es) (one_true p r (applied (edited r e) es) e es s lives (lives_applied (edited r e) es next h.1) h.0)
    (all_true p (edited r e) es s next (lives_more p r (edited r e) lives (lives_edited r e h.0)) h.1)

pub notes_true : (p : Sparse) (es : List Edit) → IsSparse p → AreAllowed p es → All (IsTrueNote p (applied p es)) (all_noted p es)
notes_true p es s h = all_true p p es s s (lives_self p) h

-- ---- a part of which each note says that it holds the same does hold the same
module _ (p q : Sparse) where
  -- a note of a part says that it holds something else
  abbrev pub told : List Note → Part → Bool
  told [] a = false
  told (n ∷ ns) a = (same_part n.part a && has_changed q n) || told ns a

  -- a note that keeps all is believed
  whole_same : (n : Note) → IsTrueNote p q n → is_whole n.held ≡ true → has_changed q n ≡ false → contents_of q n.part ≡ contents_of p n.part
  whole_same n t w h = by t.note
    where
      by : (n ≡ asked p n.part) ⊎ (((n ≡ certain p n.part) × (contents_of q n.part ≢ contents_of p n.part)) ⊎ IsCostNote p n) → contents_of q n.part ≡ contents_of p n.part
      by (inl e) = sym (same_contents-is (contents_of p n.part) (contents_of q n.part) (unturned _ (ap (λ (m : Note). is_other m.held (contents_of q n.part)) (sym e) ∙ h)))
      by (inr (inl e)) = absurd (not_both (ap (λ (m : Note). is_other m.held (contents_of q n.part)) e.0) h)
      by (inr (inr c)) = absurd (not_both w (ap (λ (m : Note). is_whole m.held) c.is))

  -- one of a cost that says so is one of another cost
  pub other_cost : (n : Note) → IsCostNote p n → has_changed q n ≡ true → same_contents (contents_of p n.part) (contents_of q n.part) ≡ false
  other_cost n c h = by (same_contents (contents_of p n.part) (contents_of q n.part)) refl
    where
      held_cost : contents_of p (part.Col c.column) ≡ holds.Column (column_entries p c.column) (cost_at p c.column)
      held_cost = ap (λ (b : Bool). if b then holds.Column (column_entries p c.column) (cost_at p c.column) else holds.Gone) c.live

      here : Part → Type 0
      here a = contents_of q a ≡ contents_of p a

      costing : contents_of q n.part ≡ contents_of p n.part → costs (cost_at p c.column) (contents_of q (part.Col c.column)) ≡ true
      costing e = ap (costs (cost_at p c.column)) (subst here (ap (λ (m : Note). m.part) c.is) e ∙ held_cost) ∙ (eq_ℚ-is (cost_at p c.column) (cost_at p c.column)).1 refl

      by : (b : Bool) → same_contents (contents_of p n.part) (contents_of q n.part) ≡ b → b ≡ false
      by false e = refl
      by true e = absurd (not_both (ap (has_changed q) (sym c.is) ∙ h) (ap not (costing (sym (same_contents-is (contents_of p n.part) (contents_of q n.part) e)))))

  -- one of a cost says that this is the cost
  record IsCosting (a : Part) : Type 0 where
    column : ℕ
    is : a ≡ part.Col column
    live : (column_at p column).live ≡ true
    costing : costs (cost_at p column) (contents_of q (part.Col column)) ≡ true

  cost_same : (n : Note) → IsTrueNote p q n → is_whole n.held ≡ false → has_changed q n ≡ false → IsCosting n.part
  cost_same n t w h = by t.note
    where
      by : (n ≡ asked p n.part) ⊎ (((n ≡ certain p n.part) × (contents_of q n.part ≢ contents_of p n.part)) ⊎ IsCostNote p n) → IsCosting n.part
      by (inl e) = absurd (not_both (ap (λ (m : Note). is_whole m.held) e) w)
      by (inr (inl e)) = absurd (not_both (ap (λ (m : Note). is_whole m.held) e.0) w)
      by (inr (inr c)) = record { column = c.column; is = ap (λ (m : Note). m.part) c.is; live = c.live; costing = unturned _ (ap (has_changed q) (sym c.is) ∙ h) }

  whole_told : (ns : List Note) (a : Part) → All (IsTrueNote p q) ns → names false ns a ≡ true → told ns a ≡ false → contents_of q a ≡ contents_of p a
  whole_told [] a t n h = absurd (not_both n refl)
  whole_told (m ∷ ns) a t n h = by (same_part m.part a) refl (is_whole m.held) refl n h (λ g k. whole_told ns a (All-tail (IsTrueNote p q) m ns t) g k)
    where
      here : a ≡ m.part → is_whole m.held ≡ true → has_changed q m ≡ false → contents_of q a ≡ contents_of p a
      here e w k = subst (λ (x : Part). contents_of q x ≡ contents_of p x) (sym e) (whole_same m (All-head (IsTrueNote p q) m ns t) w k)

      by : (c : Bool) → same_part m.part a ≡ c → (d : Bool) → is_whole m.held ≡ d → (((d || false) && c) || names false ns a) ≡ true → ((c && has_changed q m) || told ns a) ≡ false
          → (names false ns a ≡ true → told ns a ≡ false → contents_of q a ≡ contents_of p a) → contents_of q a ≡ contents_of p a
      by true e true w n h ih = here (same_part-is m.part a e) w (either (has_changed q m) (told ns a) h).0
      by true e false w n h ih = ih n (either (has_changed q m) (told ns a) h).1
      by false e true w n h ih = ih n h
      by false e false w n h ih = ih n h

  cost_told : (ns : List Note) (a : Part) → All (IsTrueNote p q) ns → names false ns a ≡ false → names true ns a ≡ true → told ns a ≡ false → IsCosting a
  cost_told [] a t f n h = absurd (not_both n refl)
  cost_told (m ∷ ns) a t f n h = by (same_part m.part a) refl (is_whole m.held) refl f n h (λ g k l. cost_told ns a (All-tail (IsTrueNote p q) m ns t) g k l)
    where
      here : a ≡ m.part → is_whole m.held ≡ false → has_changed q m ≡ false → IsCosting a
      here e w k = subst IsCosting (sym e) (cost_same m (All-head (IsTrueNote p q) m ns t) w k)

      by : (c : Bool) → same_part m.part a ≡ c → (d : Bool) → is_whole m.held ≡ d → (((d || false) && c) || names false ns a) ≡ false → (((d || true) && c) || names true ns a) ≡ true → ((c && has_changed q m) || told ns a) ≡ false
          → (names false ns a ≡ false → names true ns a ≡ true → told ns a ≡ false → IsCosting a) → IsCosting a
      by true e true w f n h ih = absurd (not_both refl f)
      by true e false w f n h ih = here (same_part-is m.part a e) w (either (has_changed q m) (told ns a) h).0
      by false e true w f n h ih = ih f n h
      by false e false w f n h ih = ih f n h

  -- the same entries and the same cost
  costing_same : (a : Part) → IsCosting a → seen false (contents_of q a) ≡ seen false (contents_of p a) → contents_of q a ≡ contents_of p a
  costing_same a c e = subst (λ (x : Part). contents_of q x ≡ contents_of p x) (sym c.is)
      (column_same (contents_of q (part.Col c.column)) (contents_of p (part.Col c.column)) (cost_at p c.column) (column_entries p c.column) (ap (λ (b : Bool). if b then holds.Column (column_entries p c.column) (cost_at p c.column) else holds.Gone) c.live)
      c.costing (subst (λ (x : Part). seen false (contents_of q x) ≡ seen false (contents_of p x)) c.is e))
    where
      column_same : (c d : Contents) (k : Number) (ts : List Term) → d ≡ holds.Column ts k → costs k c ≡ true → seen false c ≡ seen false d → c ≡ d
      column_same holds.Gone d k ts is h e = absurd (not_both h refl)
      column_same (holds.Entries us) d k ts is h e = absurd (not_both h refl)
      column_same (holds.Sides l u) d k ts is h e = absurd (not_both h refl)
      column_same (holds.Column us m) d k ts is h e = ap₂ holds.Column (ap terms_in (e ∙ ap (seen false) is)) (sym ((eq_ℚ-is k m).0 h)) ∙ sym is
      column_same (holds.Bounds l u w) d k ts is h e = absurd (not_both h refl)
      column_same (holds.Semi l u w) d k ts is h e = absurd (not_both h refl)

pub untold_same : (p : Sparse) (es : List Edit) (a : Part) → IsSparse p → AreAllowed p es → told p (applied p es) (all_noted p es) a ≡ false → contents_of (applied p es) a ≡ contents_of p a
untold_same p es a s h t = by (names false (all_noted p es) a) refl (names true (all_noted p es) a) refl
  where
    by : (b : Bool) → names false (all_noted p es) a ≡ b → (c : Bool) → names true (all_noted p es) a ≡ c → contents_of (applied p es) a ≡ contents_of p a
    by true f c g = whole_told p (applied p es) (all_noted p es) a (notes_true p es s h) f t
    by false f true g = costing_same p (applied p es) a (cost_told p (applied p es) (all_noted p es) a (notes_true p es s h) f g t) (unnoted_stay false p es a s h f)
    by false f false g = unnoted_stay true p es a s h g
