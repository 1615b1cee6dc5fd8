-- The parts that edits touch are those of the list.
use Rattle.std.proofs.Common.{◌≡◌, ◌≢◌, ◌⊎◌, inl, inr, ℕ, suc, nat_eq, Bool, true, false, ◌||◌, List, [], ◌∷◌, map, refl, sym, ap, ◌∙◌, arith}
use Rattle.std.specs.List.{Contains}
use Rattle.std.proofs.lemmas.Bool.{cases_eq, ne_eqb}
use Rattle.std.proofs.lemmas.List.Elements.{Contains-append_left, Contains-append_right}
use Rattle.lp_model.specs.declared.terms.Term.{Term}
use Rattle.lp_model.specs.Sparse.{has}
use Rattle.problem_model.specs.declared.part.Part.{Part}
use Rattle.problem_model.specs.declared.part.Part.TheVariants as part
use Rattle.problem_model.specs.Problems.{row_at, column_at, IsSparse}
use Rattle.problem_model.specs.Sparse.{Sparse}
use Rattle.problem_laws.proofs.Terms.{has-cons_other, not_both}
use Rattle.problem_laws.proofs.Entries.{entries_name, has_of_live}
use Rattle.problem_model.specs.Allowed.{IsAllowed, AreAllowed}
use Rattle.problem_model.specs.Applied.{edited}
use Rattle.problem_model.specs.Touching.{touches, touched_by, parts_touched, all_touched}
use Rattle.problem_model.specs.declared.edit.Edit.{Edit}
use Rattle.problem_model.specs.declared.edit.Edit.TheVariants.{DeleteRow, DeleteColumn, SetSides, SetBounds, AddOffset, SetCost, SetEntry}
use Rattle.problem_laws.proofs.Single.{sparse_edited}

contains_more : {X : Type 0} (y : X) (xs : List X) (x : X) → Contains xs x → Contains (y ∷ xs) x
contains_more y xs x c = (suc c.0, omega (arith, c.1), c.2)

first : {X : Type 0} (y : X) (xs : List X) (x : X) → y ≡ x → Contains (y ∷ xs) x
first y xs x e = (0, omega arith, e)

same_id : (k i : ℕ) → nat_eq k i ≡ true → i ≡ k
same_id k i h = by (cases_eq k i)
  where
    by : (k ≡ i) ⊎ (k ≢ i) → i ≡ k
    by (inl e) = sym e
    by (inr n) = absurd (not_both h (ne_eqb k i n))

named : (make : ℕ → Part) (ts : List Term) (k : ℕ) → has k ts ≡ true → Contains (map (λ (t : Term). make t.id) ts) (make k)
named make [] k h = absurd (let f = h in cc)
named make (t ∷ ts) k h = by (cases_eq t.id k) (named make ts k)
  where
    by : (t.id ≡ k) ⊎ (t.id ≢ k) → (has k ts ≡ true → Contains (map (λ (t : Term). make t.id) ts) (make k)) → Contains (map (λ (t : Term). make t.id) (t ∷ ts)) (make k)
    by (inl e) ih = first (make t.id) (map (λ (t : Term). make t.id) ts) (make k) (ap make e)
    by (inr n) ih = contains_more (make t.id) (map (λ (t : Term). make t.id) ts) (make k) (ih (sym (has-cons_other k t ts n) ∙ h))

one_touched : (p : Sparse) (e : Edit) (a : Part) → IsSparse p → IsAllowed p e → touches p e a ≡ true → Contains (parts_touched p e) a
one_touched p (DeleteRow i) (part.Row k) s on h = first (part.Row i) (part.Sides i ∷ map (λ (t : Term). part.Col t.id) (row_at p i).entries) (part.Row k) (ap part.Row (same_id k i h))
one_touched p (DeleteRow i) (part.Sides k) s on h = contains_more (part.Row i) (part.Sides i ∷ map (λ (t : Term). part.Col t.id) (row_at p i).entries) (part.Sides k) (first (part.Sides i) (map (λ (t : Term). part.Col t.id) (row_at p i).entries) (part.Sides k) (ap part.Sides (same_id k i h)))
one_touched p (DeleteRow i) (part.Col j) s on h = let cols : List Part = map (λ (t : Term). part.Col t.id) (row_at p i).entries in
    contains_more (part.Row i) (part.Sides i ∷ cols) (part.Col j) (contains_more (part.Sides i) cols (part.Col j) (named part.Col (row_at p i).entries j (entries_name p i j s on (has_of_live p.matrix.columns p.matrix.rows j i s.matrix.columns h) ∙ h)))
one_touched p (DeleteRow i) (part.Bounds j) s on h = absurd (let f = h in cc)
one_touched p (DeleteColumn j) (part.Row i) s on h = let rows : List Part = map (λ (t : Term). part.Row t.id) (column_at p j).entries in
    contains_more (part.Col j) (part.Bounds j ∷ rows) (part.Row i) (contains_more (part.Bounds j) rows (part.Row i) (named part.Row (column_at p j).entries i (sym (entries_name p i j s (has_of_live p.matrix.rows p.matrix.columns i j s.matrix.rows h) on) ∙ h)))
one_touched p (DeleteColumn j) (part.Sides i) s on h = absurd (let f = h in cc)
one_touched p (DeleteColumn j) (part.Col k) s on h = first (part.Col j) (part.Bounds j ∷ map (λ (t : Term). part.Row t.id) (column_at p j).entries) (part.Col k) (ap part.Col (same_id k j h))
one_touched p (DeleteColumn j) (part.Bounds k) s on h = contains_more (part.Col j) (part.Bounds j ∷ map (λ (t : Term). part.Row t.id) (column_at p j).entries) (part.Bounds k) (first (part.Bounds j) (map (λ (t : Term). part.Row t.id) (column_at p j).entries) (part.Bounds k) (ap part.Bounds (same_id k j h)))
one_touched p (SetSides i l u) (part.Row k) s on h = absurd (let f = h in cc)
one_touched p (SetSides i l u) (part.Sides k) s on h = first (part.Sides i) [] (part.Sides k) (ap part.Sides (same_id k i h))
one_touched p (SetSides i l u) (part.Col j) s on h = absurd (let f = h in cc)
one_touched p (SetSides i l u) (part.Bounds j) s on h = absurd (let f = h in cc)
one_touched p (SetBounds j l u) (part.Row i) s on h = absurd (let f = h in cc)
one_touched p (SetBounds j l u) (part.Sides i) s on h = absurd (let f = h in cc)
one_touched p (SetBounds j l u) (part.Col k) s on h = absurd (let f = h in cc)
one_touched p (SetBounds j l u) (part.Bounds k) s on h = first (part.Bounds j) [] (part.Bounds k) (ap part.Bounds (same_id k j h))
one_touched p (AddOffset k) a s on h = absurd (let f = h in cc)
one_touched p (SetCost j c) (part.Row i) s on h = absurd (let f = h in cc)
one_touched p (SetCost j c) (part.Sides i) s on h = absurd (let f = h in cc)
one_touched p (SetCost j c) (part.Col k) s on h = first (part.Col j) [] (part.Col k) (ap part.Col (same_id k j h))
one_touched p (SetCost j c) (part.Bounds k) s on h = absurd (let f = h in cc)
one_touched p (SetEntry i j v) (part.Row k) s on h = first (part.Row i) (part.Col j ∷ []) (part.Row k) (ap part.Row (same_id k i h))
one_touched p (SetEntry i j v) (part.Sides k) s on h = absurd (let f = h in cc)
one_touched p (SetEntry i j v) (part.Col k) s on h = contains_more (part.Row i) (part.Col j ∷ []) (part.Col k) (first (part.Col j) [] (part.Col k) (ap part.Col (same_id k j h)))
one_touched p (SetEntry i j v) (part.Bounds k) s on h = absurd (let f = h in cc)

pub touched_listed : (p : Sparse) (es : List Edit) (a : Part) → IsSparse p → AreAllowed p es → touched_by p es a ≡ true → Contains (all_touched p es) a
touched_listed p [] a s h t = absurd (let f = t in cc)
touched_listed p (e ∷ es) a s h t = by (touches p e a) refl t (λ u. touched_listed (edited p e) es a (sparse_edited p e s h.0) h.1 u)
  where
    by : (b : Bool) → touches p e a ≡ b → (b || touched_by (edited p e) es a) ≡ true → (touched_by (edited p e) es a ≡ true → Contains (all_touched (edited p e) es) a) → Contains (all_touched p (e ∷ es)) a
    by true g t ih = Contains-append_left (parts_touched p e) (all_touched (edited p e) es) a (one_touched p e a s h.0 g)
    by false g t ih = Contains-append_right (parts_touched p e) (all_touched (edited p e) es) a (ih t)
