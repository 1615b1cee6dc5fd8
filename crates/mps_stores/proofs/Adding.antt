-- What the entries of a row say when one is added.
use Rattle.std.proofs.Common.{◌≡◌, ◌∙◌, ◌<◌, ◌≤◌, ℕ, zero, suc, Bool, true, false, cond, nat_eq, eq-eqb, set, get_or, length, ◌⊎◌, inl, inr, ◌≢◌, List, [], ◌∷◌, ◌++◌, refl, sym, ap, arith}
use Rattle.std.specs.Prelude.{◌==◌, ◌&&◌, ◌||◌, Option, Some, None, is_some, if◌then◌else◌, slice_index_or}
use Rattle.std.specs.List.{list_any}
use Rattle.std.proofs.lemmas.Bool.{ne_eqb, cases_eq, eqb-true}
use Rattle.std.proofs.lemmas.List.{get_or-set_same, get_or-set_other, get_or_read}
use Rattle.fractions.specs.Number.{Number}
use Rattle.mps_stores.specs.declared.single_row.Entry.{Entry}
use Rattle.mps_stores.specs.Entries.{value_in, IsOnce, IsUpTo}

-- whether an entry has a column is whether there is a number
one_named : (b : Bool) (v : Number) (a : Bool) (x : Option Number) → a ≡ is_some x → (b || a) ≡ is_some (cond b (Some v) x)
one_named true v a x h = refl
one_named false v a x h = h

pub any_named : (es : List Entry) (j : ℕ) → list_any (λ (e : Entry). nat_eq e.column j) es ≡ is_some (value_in es j)
any_named [] j = refl
any_named (e ∷ es) j = one_named (nat_eq e.column j) e.value (list_any (λ (e : Entry). nat_eq e.column j) es) (value_in es j) (any_named es j)

-- the first of two
abbrev pub or_later : Option Number → Option Number → Option Number
or_later None later = later
or_later (Some value) later = Some value

later_cond : (b : Bool) (v : Number) (x y : Option Number) → cond b (Some v) (or_later x y) ≡ or_later (cond b (Some v) x) y
later_cond true v x y = refl
later_cond false v x y = refl

pub value_more : (es : List Entry) (e : Entry) (j : ℕ) → value_in (es ++ e ∷ []) j ≡ or_later (value_in es j) (value_in (e ∷ []) j)
value_more [] e j = refl
value_more (x ∷ es) e j = ap (cond (nat_eq x.column j) (Some x.value)) (value_more es e j) ∙ later_cond (nat_eq x.column j) x.value (value_in es j) (value_in (e ∷ []) j)

-- an entry for a column that has none gives its number there, and leaves the others
earlier_none : (x : Option Number) (b : Bool) (v : Number) → (b ≡ true → x ≡ None) → or_later x (cond b (Some v) None) ≡ cond b (Some v) x
earlier_none None b v h = refl
earlier_none (Some w) true v h = let n = h refl in cc
earlier_none (Some w) false v h = refl

pub value_push : (es : List Entry) (e : Entry) (j : ℕ) → value_in es e.column ≡ None → value_in (es ++ e ∷ []) j ≡ (if e.column == j then Some e.value else value_in es j)
value_push es e j h = value_more es e j ∙ earlier_none (value_in es j) (nat_eq e.column j) e.value (λ same. ap (value_in es) (sym (eqb-true e.column j same)) ∙ h)

pub up_to_push : (es : List Entry) (e : Entry) (low high : ℕ) → IsUpTo low es → low ≤ high → e.column ≤ high → IsUpTo high (es ++ e ∷ [])
up_to_push es e low high h l c j above =
    value_more es e j ∙ ap (λ x. or_later x (value_in (e ∷ []) j)) (h j (omega arith)) ∙ ap (λ b. cond b (Some e.value) None) (ne_eqb e.column j (λ same. omega arith))

missed : (b : Bool) (v : Number) (x : Option Number) → cond b (Some v) x ≡ None → (b ≡ false) × (x ≡ None)
missed true v x h = cc
missed false v x h = (refl, h)

pub once_push : (es : List Entry) (e : Entry) → IsOnce es → value_in es e.column ≡ None → IsOnce (es ++ e ∷ [])
once_push [] e h n = (refl, tt)
once_push (x ∷ es) e h n =
    let m = missed (nat_eq x.column e.column) x.value (value_in es e.column) n in
    let other : nat_eq e.column x.column ≡ false = ne_eqb e.column x.column (λ same. cc (m.0, eq-eqb x.column e.column (sym same))) in
    let here : value_in (es ++ e ∷ []) x.column ≡ None = value_more es e x.column ∙ ap (λ y. or_later y (value_in (e ∷ []) x.column)) h.0 ∙ ap (λ b. cond b (Some e.value) None) other in
    (here, once_push es e h.1 m.1)

-- a row without entries after the rows changes none
pub blank_row : (rows : List (List Entry)) (i : ℕ) → slice_index_or (rows ++ [] ∷ []) i [] ≡ slice_index_or rows i []
blank_row [] zero = refl
blank_row [] (suc i) = refl
blank_row (row ∷ rows) zero = refl
blank_row (row ∷ rows) (suc i) = blank_row rows i

-- a number put at a row and a column
pub put_at : (old mid : List (List Entry)) (row column : ℕ) (v : Number) (es new : List Entry) → ((i : ℕ) → get_or mid i [] ≡ get_or old i []) → row < length mid → es ≡ get_or mid row es
    → new ≡ es ++ (record { column = column; value = v } ∷ []) → value_in (get_or old row []) column ≡ None
    → (i j : ℕ) → value_in (get_or (set mid row new) i []) j ≡ (if row == i && column == j then Some v else value_in (get_or old i []) j)
put_at old mid row column v es new same within is made none i j = by (cases_eq i row)
  where
    entry : Entry
    entry = record { column = column; value = v }

    was : es ≡ get_or old row []
    was = get_or_read mid row es within is [] ∙ same row

    chosen : Bool → Option Number
    chosen b = cond (b && nat_eq column j) (Some v) (value_in (get_or old i []) j)

    by : (i ≡ row) ⊎ (i ≢ row) → value_in (get_or (set mid row new) i []) j ≡ chosen (nat_eq row i)
    by (inl g) =
        let here : get_or (set mid row new) i [] ≡ es ++ entry ∷ [] = ap (λ (k : ℕ). get_or (set mid row new) k []) g ∙ get_or-set_same mid row new [] within ∙ made in
        let before : value_in es j ≡ value_in (get_or old i []) j = ap (λ (ys : List Entry). value_in ys j) (was ∙ ap (λ (k : ℕ). get_or old k []) (sym g)) in
        ap (λ (ys : List Entry). value_in ys j) here ∙ value_push es entry j (ap (λ (ys : List Entry). value_in ys column) was ∙ none)
        ∙ ap (cond (nat_eq column j) (Some v)) before ∙ ap chosen (sym (eq-eqb row i (sym g)))
    by (inr g) =
        ap (λ (ys : List Entry). value_in ys j) (get_or-set_other mid row i new [] g ∙ same i) ∙ ap chosen (sym (ne_eqb row i (λ h. g (sym h))))
