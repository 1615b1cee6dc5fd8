-- The one entry of a column, and the other entries of its row.
use Rattle.std.proofs.Common.{◌≡◌, ◌≢◌, ℕ, ◌+◌, ◌<◌, Bool, true, false, not, ◌&&◌, ◌||◌, cond, nat_eq, List, [], ◌∷◌, ◌++◌, length, take, get_or, refl, sym, ap, ◌∙◌, subst, arith}
use Rattle.std.specs.List.{All}
use Rattle.std.proofs.lemmas.Bool.{and_parts, eq-eqb, ne_eqb}
use Rattle.std.proofs.lemmas.List.Elements.{All-filter, filter_more}
use Rattle.fractions.specs.Number.{zero_ℚ}
use Rattle.lp_model.specs.declared.terms.Term.{Term}
use Rattle.lp_model.specs.Sparse.{dense, has, without}
use Rattle.problem_model.specs.Problems.{IsSparse, column_at, column_entries, first_of, row_at, row_entries}
use Rattle.problem_model.specs.Sparse.{Sparse}
use Rattle.problem_laws.proofs.Entries.{column_entries-dense, live_entries_name, live_entries_tell, row_entries-live}
use Rattle.activities.proofs.RowLooks.{entry_in}
use Rattle.column_laws.specs.SoleEntry.{entry_of, is_sole_at, others_of}
use Rattle.column_laws.proofs.SoleEntry.{IsSole}

-- a column has one entry, and that is in row i
and_none : (b : Bool) → (b && false) ≡ false
and_none true = refl
and_none false = refl

one_there : (b : Bool) → (b && true) ≡ (b || false)
one_there true = refl
one_there false = refl

pub sole_is : (i : ℕ) (es : List Term) → is_sole_at i es ≡ (nat_eq (length es) 1 && has i es)
sole_is i [] = refl
sole_is i (e ∷ []) = one_there (nat_eq e.id i)
sole_is i (e ∷ f ∷ es) = and_none (nat_eq e.id i) ∙ sym (ap (λ (b : Bool). b && has i (e ∷ f ∷ es)) (ne_eqb (length (e ∷ f ∷ es)) 1 (λ z. omega (arith, z))))

pub sole_has : (i : ℕ) (es : List Term) → is_sole_at i es ≡ true → has i es ≡ true
sole_has i es e = (and_parts (nat_eq (length es) 1) (has i es) (sym (sole_is i es) ∙ e)).1

-- the row has an entry in the column then, and that isn't 0
pub row_has : (p : Sparse) (j i : ℕ) → IsSparse p → (row_at p i).live ≡ true → (column_at p j).live ≡ true → is_sole_at i (column_entries p j) ≡ true → has j (row_entries p i) ≡ true
row_has p j i s row column e = live_entries_name p i j s row column ∙ sole_has i (column_entries p j) e

pub entry_some : (p : Sparse) (j i : ℕ) → IsSparse p → (row_at p i).live ≡ true → (column_at p j).live ≡ true → is_sole_at i (column_entries p j) ≡ true → entry_of p j i ≢ zero_ℚ
entry_some p j i s row column e = entry_in p i j s (row_has p j i s row column e)

-- the column tells it too
pub value_told : (p : Sparse) (j i : ℕ) → IsSparse p → (row_at p i).live ≡ true → (column_at p j).live ≡ true → dense (column_at p j).entries i ≡ entry_of p j i
value_told p j i s row column = sym (column_entries-dense p j i row) ∙ sym (live_entries_tell p i j s row column)

-- one term more
pub without_more : (j : ℕ) (ts : List Term) (n : ℕ) (t : Term) (xs ys : List Term) → n < length ts → t ≡ get_or ts n t → xs ≡ without j (take n ts)
    → ys ≡ xs ++ cond (not (nat_eq t.id j)) (t ∷ []) [] → ys ≡ without j (take (n + 1) ts)
without_more j ts n t xs ys l e x y =
    let p : Term → Bool = λ u. not (nat_eq u.id j) in
    let f = filter_more p ts n t l in
    let g = ap (λ (u : Term). without j (take n ts) ++ cond (p u) (u ∷ []) []) (sym e) in
    y ∙ ap (λ (us : List Term). us ++ cond (p t) (t ∷ []) []) x ∙ sym (f ∙ g)

-- the columns of the other entries are live
pub others_live : (p : Sparse) (j i : ℕ) (ts : List Term) → ts ≡ others_of p j i → All (λ (t : Term). (column_at p t.id).live ≡ true) ts
others_live p j i ts e = subst (All (λ (t : Term). (column_at p t.id).live ≡ true)) (sym e)
    (All-filter (λ (t : Term). not (nat_eq t.id j)) (λ (t : Term). (column_at p t.id).live ≡ true) (row_entries p i) (row_entries-live p i))

-- what a condition says of the one entry, as a test
pub sole_of : (i : ℕ) (es : List Term) → IsSole i es → is_sole_at i es ≡ true
sole_of i es h = ap (is_sole_at i) h.one ∙ ap (λ (b : Bool). b && true) (eq-eqb (first_of es).id i h.at)
