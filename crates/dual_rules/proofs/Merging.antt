-- Two columns' entries, walked together.
use Rattle.std.proofs.Common.{◌≡◌, ◌≢◌, ◌⊎◌, inl, inr, ℕ, suc, ◌+◌, ◌<◌, ◌≤◌, Bool, true, false, not, ◌&&◌, ◌||◌, cond, nat_eq, nat_le, List, [], ◌∷◌, ◌++◌, length, map, Some, refl, sym, ap, ap₂, ◌∙◌, subst, arith}
use Rattle.std.specs.Prelude.{if◌then◌else◌}
use Rattle.std.specs.List.{filter}
use Rattle.std.proofs.lemmas.Bool.{and_from, and_parts, cases_eq, eq-eqb, leb-true, leb-false, ne_eqb}
use Rattle.fractions.specs.Number.{Number, zero_ℚ}
use Rattle.lp_model.specs.declared.terms.Term.{Term}
use Rattle.lp_model.specs.Sparse.{Ascends, dense, has}
use Rattle.lp_model.specs.Vectors.{Vector}
use Rattle.undo_records.specs.Ids.{ids_of}
use Rattle.problem_model.specs.declared.part.Contents.{Contents}
use Rattle.problem_model.specs.declared.part.Part.TheVariants as part
use Rattle.problem_model.specs.Matrices.{live_only}
use Rattle.problem_model.specs.Parts.{contents_of}
use Rattle.problem_model.specs.Problems.{row_at}
use Rattle.problem_model.specs.Sparse.{Sparse}
use Rattle.problem_laws.proofs.Entries.{dense-live, has-live_only}
use Rattle.problem_laws.proofs.Terms.{ascends-wider, dense-absent, dense-cons_other, dense-cons_same, has-below, has-cons_other, has-cons_same, not_both}
use Rattle.dual_laws.specs.DominatedColumn.{all_take_over, takes_over}
use Rattle.dual_laws.specs.Locks.{are_uncrossed, is_uncrossed}
use Rattle.dual_rules.specs.Merging.{admits, all_admit, first_row, passes, past, starts, value_there}

-- ---- one step
pub past_same : (k : ℕ) (t : Term) (ts : List Term) → t.id ≡ k → past k (t ∷ ts) ≡ ts
past_same k t ts e = rw (eq-eqb t.id k e) refl

pub past_other : (k : ℕ) (t : Term) (ts : List Term) → t.id ≢ k → past k (t ∷ ts) ≡ t ∷ ts
past_other k t ts n = rw (ne_eqb t.id k n) refl

value_same : (k : ℕ) (t : Term) (ts : List Term) → t.id ≡ k → value_there k (t ∷ ts) ≡ t.value
value_same k t ts e = rw (eq-eqb t.id k e) refl

value_other : (k : ℕ) (t : Term) (ts : List Term) → t.id ≢ k → value_there k (t ∷ ts) ≡ zero_ℚ
value_other k t ts n = rw (ne_eqb t.id k n) refl

-- the other ids stay
pub has_past : (i k : ℕ) (ts : List Term) → i ≢ k → has i (past k ts) ≡ has i ts
has_past i k [] n = refl
has_past i k (t ∷ ts) n = by (cases_eq t.id k)
  where
    by : (t.id ≡ k) ⊎ (t.id ≢ k) → has i (past k (t ∷ ts)) ≡ has i (t ∷ ts)
    by (inl e) = ap (has i) (past_same k t ts e) ∙ sym (has-cons_other i t ts (λ f. n (sym f ∙ e)))
    by (inr d) = ap (has i) (past_other k t ts d)

dense_past : (i k : ℕ) (ts : List Term) → i ≢ k → dense (past k ts) i ≡ dense ts i
dense_past i k [] n = refl
dense_past i k (t ∷ ts) n = by (cases_eq t.id k)
  where
    by : (t.id ≡ k) ⊎ (t.id ≢ k) → dense (past k (t ∷ ts)) i ≡ dense (t ∷ ts) i
    by (inl e) = ap (λ (us : List Term). dense us i) (past_same k t ts e) ∙ sym (dense-cons_other t ts i (λ f. n (sym f ∙ e)))
    by (inr d) = ap (λ (us : List Term). dense us i) (past_other k t ts d)

-- in ascending terms from k on
pub gone_past : (k n : ℕ) (ts : List Term) → Ascends k n ts → has k (past k ts) ≡ false
gone_past k n [] a = refl
gone_past k n (t ∷ ts) a = by (cases_eq t.id k)
  where
    by : (t.id ≡ k) ⊎ (t.id ≢ k) → has k (past k (t ∷ ts)) ≡ false
    by (inl e) = ap (has k) (past_same k t ts e) ∙ has-below ts (suc t.id) n k a.3 (omega (arith, e))
    by (inr d) = ap (has k) (past_other k t ts d) ∙ has-cons_other k t ts d ∙ has-below ts (suc t.id) n k a.3 (omega (arith, a.0))

dense_there : (k n : ℕ) (ts : List Term) → Ascends k n ts → dense ts k ≡ value_there k ts
dense_there k n [] a = refl
dense_there k n (t ∷ ts) a = by (cases_eq t.id k)
  where
    by : (t.id ≡ k) ⊎ (t.id ≢ k) → dense (t ∷ ts) k ≡ value_there k (t ∷ ts)
    by (inl e) = dense-cons_same t ts k e ∙ sym (value_same k t ts e)
    by (inr d) = dense-cons_other t ts k d ∙ dense-absent k ts (has-below ts (suc t.id) n k a.3 (omega (arith, a.0))) ∙ sym (value_other k t ts d)

pub has_there : (k n : ℕ) (ts : List Term) → Ascends k n ts → has k ts ≡ starts k ts
has_there k n [] a = refl
has_there k n (t ∷ ts) a = by (cases_eq t.id k)
  where
    by : (t.id ≡ k) ⊎ (t.id ≢ k) → has k (t ∷ ts) ≡ nat_eq t.id k
    by (inl e) = has-cons_same k t ts e ∙ sym (eq-eqb t.id k e)
    by (inr d) = has-cons_other k t ts d ∙ has-below ts (suc t.id) n k a.3 (omega (arith, a.0)) ∙ sym (ne_eqb t.id k d)

pub ascends_past : (k m n : ℕ) (ts : List Term) → Ascends m n ts → Ascends m n (past k ts)
ascends_past k m n [] a = tt
ascends_past k m n (t ∷ ts) a = by (cases_eq t.id k)
  where
    by : (t.id ≡ k) ⊎ (t.id ≢ k) → Ascends m n (past k (t ∷ ts))
    by (inl e) = subst (Ascends m n) (sym (past_same k t ts e)) (ascends-wider ts (suc t.id) m n (omega (arith, a.0)) a.3)
    by (inr d) = subst (Ascends m n) (sym (past_other k t ts d)) a

-- ---- the first row of either
-- what is known of it
pub record IsFirst (n r : ℕ) (ts us : List Term) : Type 0 where
  pub first : Ascends r n ts
  pub second : Ascends r n us
  pub some : (has r ts || has r us) ≡ true
  pub fewer : length (past r ts) + length (past r us) < length ts + length us

from_below : (m n r : ℕ) (t : Term) (ts : List Term) → r ≤ t.id → Ascends m n (t ∷ ts) → Ascends r n (t ∷ ts)
from_below m n r t ts l a = (l, a.1, a.2, a.3)

past_less : (k : ℕ) (ts : List Term) → length (past k ts) ≤ length ts
past_less k [] = omega arith
past_less k (t ∷ ts) = by (cases_eq t.id k)
  where
    by : (t.id ≡ k) ⊎ (t.id ≢ k) → length (past k (t ∷ ts)) ≤ length (t ∷ ts)
    by (inl e) = let h = ap length (past_same k t ts e) in omega (arith, h)
    by (inr d) = let h = ap length (past_other k t ts d) in omega (arith, h)

past_short : (k : ℕ) (t : Term) (ts : List Term) → t.id ≡ k → length (past k (t ∷ ts)) < length (t ∷ ts)
past_short k t ts e = let h = ap length (past_same k t ts e) in omega (arith, h)

or_first : (a b : Bool) → a ≡ true → (a || b) ≡ true
or_first a b e = ap (λ (c : Bool). c || b) e

or_second : (a b : Bool) → b ≡ true → (a || b) ≡ true
or_second true b e = refl
or_second false b e = e

by_first : (n r : ℕ) (t : Term) (ts us : List Term) → t.id ≡ r → Ascends 0 n (t ∷ ts) → Ascends r n us → IsFirst n r (t ∷ ts) us
by_first n r t ts us e a b = record {
  first = from_below 0 n r t ts (omega (arith, e)) a;
  second = b;
  some = or_first (has r (t ∷ ts)) (has r us) (has-cons_same r t ts e);
  fewer = omega (arith, past_short r t ts e, past_less r us);
}

by_second : (n r : ℕ) (u : Term) (ts us : List Term) → u.id ≡ r → Ascends r n ts → Ascends 0 n (u ∷ us) → IsFirst n r ts (u ∷ us)
by_second n r u ts us e a b = record {
  first = a;
  second = from_below 0 n r u us (omega (arith, e)) b;
  some = or_second (has r ts) (has r (u ∷ us)) (has-cons_same r u us e);
  fewer = omega (arith, past_less r ts, past_short r u us e);
}

some_is : {a b : ℕ} → Some a ≡ Some b → a ≡ b
some_is e = cc

pub first_is : (n r : ℕ) (ts us : List Term) → Ascends 0 n ts → Ascends 0 n us → first_row ts us ≡ Some r → IsFirst n r ts us
first_is n r [] [] a b e = cc
first_is n r [] (u ∷ us) a b e = by_second n r u [] us (some_is e) tt b
first_is n r (t ∷ ts) [] a b e = by_first n r t ts [] (some_is e) a tt
first_is n r (t ∷ ts) (u ∷ us) a b e = by (nat_le t.id u.id) refl (some_is e)
  where
    by : (q : Bool) → nat_le t.id u.id ≡ q → (if q then t.id else u.id) ≡ r → IsFirst n r (t ∷ ts) (u ∷ us)
    by true h f = by_first n r t ts (u ∷ us) f a (from_below 0 n r u us (let l = leb-true t.id u.id h in omega (arith, f, l)) b)
    by false h f = by_second n r u (t ∷ ts) us f (from_below 0 n r t ts (let l = leb-false t.id u.id h in omega (arith, f, l)) a) b

-- ---- the ids of both
has_append : (i : ℕ) (ts us : List Term) → has i (ts ++ us) ≡ (has i ts || has i us)
has_append i [] us = refl
has_append i (t ∷ ts) us = by (nat_eq t.id i) (has_append i ts us)
  where
    by : (q : Bool) → has i (ts ++ us) ≡ (has i ts || has i us) → (q || has i (ts ++ us)) ≡ ((q || has i ts) || has i us)
    by true ih = refl
    by false ih = ih

and_false : (b : Bool) → (b && false) ≡ false
and_false true = refl
and_false false = refl

pub has_filter : (q : ℕ → Bool) (i : ℕ) (ts : List Term) → has i (filter (λ t. q t.id) ts) ≡ (q i && has i ts)
has_filter q i [] = sym (and_false (q i))
has_filter q i (t ∷ ts) = by (cases_eq t.id i) (has_filter q i ts)
  where
    here : t.id ≡ i → (b : Bool) → q i ≡ b → has i (filter (λ t. q t.id) ts) ≡ (q i && has i ts)
        → has i (cond b (t ∷ filter (λ t. q t.id) ts) (filter (λ t. q t.id) ts)) ≡ (b && has i (t ∷ ts))
    here e true h ih = has-cons_same i t (filter (λ t. q t.id) ts) e ∙ sym (has-cons_same i t ts e)
    here e false h ih = ih ∙ ap (λ (c : Bool). c && has i ts) h

    off : t.id ≢ i → (b : Bool) → has i (cond b (t ∷ filter (λ t. q t.id) ts) (filter (λ t. q t.id) ts)) ≡ has i (filter (λ t. q t.id) ts)
    off n true = has-cons_other i t (filter (λ t. q t.id) ts) n
    off n false = refl

    by : (t.id ≡ i) ⊎ (t.id ≢ i) → has i (filter (λ t. q t.id) ts) ≡ (q i && has i ts)
        → has i (cond (q t.id) (t ∷ filter (λ t. q t.id) ts) (filter (λ t. q t.id) ts)) ≡ (q i && has i (t ∷ ts))
    by (inl e) ih = ap (λ (m : ℕ). has i (cond (q m) (t ∷ filter (λ t. q t.id) ts) (filter (λ t. q t.id) ts))) e ∙ here e (q i) refl ih
    by (inr n) ih = off n (q t.id) ∙ ih ∙ ap (λ (c : Bool). q i && c) (sym (has-cons_other i t ts n))

abbrev both : List Term → List Term → List Term
both ts us = ts ++ filter (λ u. not (has u.id ts)) us

has_both : (i : ℕ) (ts us : List Term) → has i (both ts us) ≡ (has i ts || has i us)
has_both i ts us = has_append i ts (filter (λ u. not (has u.id ts)) us) ∙ ap (λ (b : Bool). has i ts || b) (has_filter (λ m. not (has m ts)) i us) ∙ by (has i ts)
  where
    by : (b : Bool) → (b || (not b && has i us)) ≡ (b || has i us)
    by true = refl
    by false = refl

-- ---- what is asked of all rows is asked of each
abbrev sides_at_ids : Sparse → List Term → List Contents
sides_at_ids p ts = map (contents_of p) (map part.Sides (ids_of ts))

module _ (p : Sparse) (a b : Vector) where
  abbrev At : ℕ → Type 0
  At i = admits (a i) (b i) (contents_of p (part.Sides i)) ≡ true

  abbrev one : ℕ → Contents
  one i = contents_of p (part.Sides i)

  each : (ts : List Term) → are_uncrossed (sides_at_ids p ts) ≡ true → all_take_over a b (ids_of ts) (sides_at_ids p ts) ≡ true → (i : ℕ) → has i ts ≡ true → At i
  each [] h g i e = absurd (not_both e refl)
  each (t ∷ ts) h g i e =
      let k = and_parts (is_uncrossed (one t.id)) (are_uncrossed (sides_at_ids p ts)) h in
      let l = and_parts (takes_over (a t.id) (b t.id) (one t.id)) (all_take_over a b (ids_of ts) (sides_at_ids p ts)) g in
      by (cases_eq t.id i) (and_from (is_uncrossed (one t.id)) (takes_over (a t.id) (b t.id) (one t.id)) k.0 l.0) (each ts k.1 l.1 i)
    where
      by : (t.id ≡ i) ⊎ (t.id ≢ i) → At t.id → (has i ts ≡ true → At i) → At i
      by (inl f) m ih = subst At f m
      by (inr n) m ih = ih (sym (has-cons_other i t ts n) ∙ e)

  -- and the other way round
  from_each : (ts : List Term) → ((i : ℕ) → has i ts ≡ true → At i) → (are_uncrossed (sides_at_ids p ts) && all_take_over a b (ids_of ts) (sides_at_ids p ts)) ≡ true
  from_each [] h = refl
  from_each (t ∷ ts) h =
      let m = and_parts (is_uncrossed (one t.id)) (takes_over (a t.id) (b t.id) (one t.id)) (h t.id (has-cons_same t.id t ts refl)) in
      let r = and_parts (are_uncrossed (sides_at_ids p ts)) (all_take_over a b (ids_of ts) (sides_at_ids p ts)) (from_each ts (λ i e. h i (more i e))) in
      and_from (is_uncrossed (one t.id) && are_uncrossed (sides_at_ids p ts)) (takes_over (a t.id) (b t.id) (one t.id) && all_take_over a b (ids_of ts) (sides_at_ids p ts))
      (and_from (is_uncrossed (one t.id)) (are_uncrossed (sides_at_ids p ts)) m.0 r.0)
      (and_from (takes_over (a t.id) (b t.id) (one t.id)) (all_take_over a b (ids_of ts) (sides_at_ids p ts)) m.1 r.1)
    where
      more : (i : ℕ) → has i ts ≡ true → has i (t ∷ ts) ≡ true
      more i e = or_second (nat_eq t.id i) (has i ts) e

-- so it is asked of each row of the first
pub admits_at : (p : Sparse) (ts us : List Term) (i : ℕ) → all_admit p ts us ≡ true → has i ts ≡ true → admits (dense ts i) (dense us i) (contents_of p (part.Sides i)) ≡ true
admits_at p ts us i h e = let g = and_parts (are_uncrossed (sides_at_ids p (both ts us))) (all_take_over (dense ts) (dense us) (ids_of (both ts us)) (sides_at_ids p (both ts us))) h in
    each p (dense ts) (dense us) (both ts us) g.0 g.1 i (has_both i ts us ∙ or_first (has i ts) (has i us) e)

-- and of the second
pub admits_at_second : (p : Sparse) (ts us : List Term) (i : ℕ) → all_admit p ts us ≡ true → has i us ≡ true → admits (dense ts i) (dense us i) (contents_of p (part.Sides i)) ≡ true
admits_at_second p ts us i h e = let g = and_parts (are_uncrossed (sides_at_ids p (both ts us))) (all_take_over (dense ts) (dense us) (ids_of (both ts us)) (sides_at_ids p (both ts us))) h in
    each p (dense ts) (dense us) (both ts us) g.0 g.1 i (has_both i ts us ∙ or_second (has i ts) (has i us) e)

abbrev live_of : Sparse → List Term → List Term
live_of p ts = live_only p.matrix.rows ts

-- each live row of either column admits the first for the second
Admitted : Sparse → List Term → List Term → Type 0
Admitted p ts us = (i : ℕ) → (row_at p i).live ≡ true → (has i ts || has i us) ≡ true → admits (dense ts i) (dense us i) (contents_of p (part.Sides i)) ≡ true

has_live_both : (p : Sparse) (i : ℕ) (ts us : List Term) → has i (both (live_of p ts) (live_of p us)) ≡ ((row_at p i).live && (has i ts || has i us))
has_live_both p i ts us = has_both i (live_of p ts) (live_of p us) ∙ ap₂ (λ (x y : Bool). x || y) (has-live_only p.matrix.rows i ts) (has-live_only p.matrix.rows i us) ∙ by (row_at p i).live
  where
    by : (b : Bool) → ((b && has i ts) || (b && has i us)) ≡ (b && (has i ts || has i us))
    by true = refl
    by false = refl

told : (p : Sparse) (ts us : List Term) → all_admit p (live_of p ts) (live_of p us) ≡ true → Admitted p ts us
unfolding Admitted
told p ts us h = λ i l e.
    let g = and_parts (are_uncrossed (sides_at_ids p (both (live_of p ts) (live_of p us)))) (all_take_over (dense (live_of p ts)) (dense (live_of p us)) (ids_of (both (live_of p ts) (live_of p us))) (sides_at_ids p (both (live_of p ts) (live_of p us)))) h in
    subst (λ (x : Number). admits x (dense us i) (contents_of p (part.Sides i)) ≡ true) (dense-live p.matrix.rows i ts l)
    (subst (λ (x : Number). admits (dense (live_of p ts) i) x (contents_of p (part.Sides i)) ≡ true) (dense-live p.matrix.rows i us l)
    (each p (dense (live_of p ts)) (dense (live_of p us)) (both (live_of p ts) (live_of p us)) g.0 g.1 i (has_live_both p i ts us ∙ and_from (row_at p i).live (has i ts || has i us) l e)))

retold : (p : Sparse) (ts us : List Term) → Admitted p ts us → all_admit p (live_of p ts) (live_of p us) ≡ true
unfolding Admitted
retold p ts us h = from_each p (dense (live_of p ts)) (dense (live_of p us)) (both (live_of p ts) (live_of p us))
    (λ i e. let g = and_parts (row_at p i).live (has i ts || has i us) (sym (has_live_both p i ts us) ∙ e) in
    subst (λ (x : Number). admits x (dense (live_of p us) i) (contents_of p (part.Sides i)) ≡ true) (sym (dense-live p.matrix.rows i ts g.0))
    (subst (λ (x : Number). admits (dense ts i) x (contents_of p (part.Sides i)) ≡ true) (sym (dense-live p.matrix.rows i us g.0)) (h i g.0 g.1)))

-- ---- the first row, and then the others
same_test : (a b : Bool) → (a ≡ true → b ≡ true) → (b ≡ true → a ≡ true) → a ≡ b
same_test true b f g = sym (f refl)
same_test false true f g = g refl
same_test false false f g = refl

or_not : (a b : Bool) → (not a || b) ≡ true → a ≡ true → b ≡ true
or_not true b h e = h
or_not false b h e = absurd (not_both e refl)

to_or_not : (a b : Bool) → (a ≡ true → b ≡ true) → (not a || b) ≡ true
to_or_not true b h = h refl
to_or_not false b h = refl

module _ (p : Sparse) (n r : ℕ) (ts us : List Term) (f : IsFirst n r ts us) where
  abbrev here : Bool
  here = passes p r (value_there r ts) (value_there r us)

  -- at the first row
  at_first : admits (dense ts r) (dense us r) (contents_of p (part.Sides r)) ≡ admits (value_there r ts) (value_there r us) (contents_of p (part.Sides r))
  at_first = ap₂ (λ (x y : Number). admits x y (contents_of p (part.Sides r))) (dense_there r n ts f.first) (dense_there r n us f.second)

  first_of_all : Admitted p ts us → here ≡ true
  unfolding Admitted
  first_of_all h = to_or_not (row_at p r).live (admits (value_there r ts) (value_there r us) (contents_of p (part.Sides r))) (λ l. sym at_first ∙ h r l f.some)

  -- at another
  at_other : (i : ℕ) → i ≢ r → admits (dense (past r ts) i) (dense (past r us) i) (contents_of p (part.Sides i)) ≡ admits (dense ts i) (dense us i) (contents_of p (part.Sides i))
  at_other i d = ap₂ (λ (x y : Number). admits x y (contents_of p (part.Sides i))) (dense_past i r ts d) (dense_past i r us d)

  has_other : (i : ℕ) → i ≢ r → (has i (past r ts) || has i (past r us)) ≡ (has i ts || has i us)
  has_other i d = ap₂ (λ (x y : Bool). x || y) (has_past i r ts d) (has_past i r us d)

  none_past : (has r (past r ts) || has r (past r us)) ≡ false
  none_past = ap₂ (λ (x y : Bool). x || y) (gone_past r n ts f.first) (gone_past r n us f.second)

  others_of_all : Admitted p ts us → Admitted p (past r ts) (past r us)
  unfolding Admitted
  others_of_all h = λ i l e. by i l e (cases_eq i r)
    where
      by : (i : ℕ) → (row_at p i).live ≡ true → (has i (past r ts) || has i (past r us)) ≡ true → (i ≡ r) ⊎ (i ≢ r) → admits (dense (past r ts) i) (dense (past r us) i) (contents_of p (part.Sides i)) ≡ true
      by i l e (inl g) = absurd (not_both e (ap (λ (m : ℕ). has m (past r ts) || has m (past r us)) g ∙ none_past))
      by i l e (inr d) = at_other i d ∙ h i l (sym (has_other i d) ∙ e)

  all_of_these : here ≡ true → Admitted p (past r ts) (past r us) → Admitted p ts us
  unfolding Admitted
  all_of_these g h = λ i l e. by i l e (cases_eq i r)
    where
      by : (i : ℕ) → (row_at p i).live ≡ true → (has i ts || has i us) ≡ true → (i ≡ r) ⊎ (i ≢ r) → admits (dense ts i) (dense us i) (contents_of p (part.Sides i)) ≡ true
      by i l e (inl q) = subst (λ (m : ℕ). admits (dense ts m) (dense us m) (contents_of p (part.Sides m)) ≡ true) (sym q)
          (at_first ∙ or_not (row_at p r).live (admits (value_there r ts) (value_there r us) (contents_of p (part.Sides r))) g (ap (λ (m : ℕ). (row_at p m).live) (sym q) ∙ l))
      by i l e (inr d) = sym (at_other i d) ∙ h i l (has_other i d ∙ e)

  pub merge_step : all_admit p (live_of p ts) (live_of p us) ≡ (here && all_admit p (live_of p (past r ts)) (live_of p (past r us)))
  merge_step = same_test (all_admit p (live_of p ts) (live_of p us)) (here && all_admit p (live_of p (past r ts)) (live_of p (past r us)))
      (λ h. let g = told p ts us h in and_from here (all_admit p (live_of p (past r ts)) (live_of p (past r us))) (first_of_all g) (retold p (past r ts) (past r us) (others_of_all g)))
      (λ h. let g = and_parts here (all_admit p (live_of p (past r ts)) (live_of p (past r us))) h in retold p ts us (all_of_these g.0 (told p (past r ts) (past r us) g.1)))

-- ---- the loop
module _ (p : Sparse) (n r : ℕ) (ts us : List Term) (x y : Number) (b whole : Bool) (f : IsFirst n r ts us) (g : x ≡ value_there r ts) (h : y ≡ value_there r us) (k : b ≡ passes p r x y) (same : all_admit p (live_of p ts) (live_of p us) ≡ whole) where
  tested : (b && all_admit p (live_of p (past r ts)) (live_of p (past r us))) ≡ whole
  tested = ap (λ (c : Bool). c && all_admit p (live_of p (past r ts)) (live_of p (past r us))) (k ∙ ap₂ (λ (v w : Number). passes p r v w) g h) ∙ sym (merge_step p n r ts us f) ∙ same

  pub goes_on : (vs ws : List Term) → vs ≡ past r ts → ws ≡ past r us → b ≡ true → all_admit p (live_of p vs) (live_of p ws) ≡ whole
  goes_on vs ws e d t = ap₂ (λ (l m : List Term). all_admit p (live_of p l) (live_of p m)) e d ∙ sym (ap (λ (c : Bool). c && all_admit p (live_of p (past r ts)) (live_of p (past r us))) t) ∙ tested

  pub refused : b ≡ false → false ≡ whole
  refused t = sym (ap (λ (c : Bool). c && all_admit p (live_of p (past r ts)) (live_of p (past r us))) t) ∙ tested
