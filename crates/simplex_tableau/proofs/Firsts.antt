-- The first tableau as data.
use Rattle.std.proofs.Common.{◌≡◌, ◌↔◌, ℕ, ◌+◌, ◌-◌, ◌<◌, ◌≤◌, ◌⊎◌, inl, inr, true, false, List, [], ◌∷◌, ◌++◌, length, get_or, sym, refl, ap, ◌∙◌, arith, subst, true≢false, Result, Ok, Err, IfOk}
use Rattle.std.proofs.lemmas.Bool.{cases_lt, le-ltb}
use Rattle.std.proofs.lemmas.List.{get_or_past, get_or_push, get_or_append_left, length-append}
use Rattle.fractions.specs.Number.{Number, zero_ℚ}
use Rattle.lp_model.specs.declared.program.Sense.{Sense}
use Rattle.lp_model.specs.declared.program.Sense.TheVariants.{Min, Max}
use Rattle.lp_model.specs.Vectors.{Vector, vector_of}
use Rattle.lp_model.specs.LinearProgram.{LinearProgram, value_at}
use Rattle.lp_model.specs.ProgramData.{ProgramData}
use Rattle.lp_model.specs.Meaning.{meaning}
use Rattle.lp_model.specs.Turning.{minimizing, signed}
use Rattle.tableau_laws.specs.Variables.{joined, variables}
use Rattle.tableau_laws.specs.Tableaus.{Tableau, start, start_point}
use Rattle.tableau_laws.specs.Keeping.{IsSplit}
use Rattle.tableau_laws.specs.Room.{StartFits}
use Rattle.tableau_laws.proofs.Joins.{joined-left, at_or_from}
use Rattle.tableau_laws.proofs.Starts.{start_is_tableau, row_basic, column_other, column_row, row_row}
use Rattle.tableau_rows.specs.Places.{row_of}
use Rattle.simplex_tableau.specs.Data.{TableauData, shown, IsShaped}
use Rattle.simplex_tableau.specs.Programs.{minimized}
use Rattle.simplex_tableau.specs.Starting.{Lists, IsFirstRow, first_prices, FirstFits}

-- ---- lists that are made place by place
pub lists_none : {A : Type 0} (d : A) (P : ℕ → A → Type 0) (xs : List A) → xs ≡ [] → Lists d P 0 xs
lists_none d P xs e = record { long = ap length e; each = λ k l. absurd (omega arith) }

pub lists_more : {A : Type 0} (d x : A) (P : ℕ → A → Type 0) (n : ℕ) (xs ys : List A) → ys ≡ xs ++ x ∷ [] → P n x → Lists d P n xs → Lists d P (n + 1) ys
lists_more d x P n xs ys e p h = rw e (record {
  long = length-append xs (x ∷ []) ∙ ap (λ m. m + 1) h.long;
  each = λ k l. by k l (cases_lt k n);
})
  where
    by : (k : ℕ) → k < n + 1 → (k < n) ⊎ (n ≤ k) → P k (get_or (xs ++ x ∷ []) k d)
    by k l (inl m) = subst (λ y. P k y) (sym (get_or_append_left xs (x ∷ []) d k (omega (arith, m, h.long)))) (h.each k m)
    by k l (inr m) = let t : n ≡ k = omega (arith, l, m) in
        subst (λ y. P k y) (sym (get_or_push xs x d k (h.long ∙ t))) (subst (λ i. P i x) t p)

-- at all ids, also past the last
pub all_same : {A : Type 0} (d : A) (f : ℕ → A) (n : ℕ) (xs : List A) → Lists d (λ k x. x ≡ f k) n xs → ((k : ℕ) → n ≤ k → f k ≡ d) → (k : ℕ) → get_or xs k d ≡ f k
all_same d f n xs h past k = by (cases_lt k n)
  where
    by : (k < n) ⊎ (n ≤ k) → get_or xs k d ≡ f k
    by (inl l) = h.each k l
    by (inr l) = get_or_past xs k d (omega (arith, l, h.long)) ∙ sym (past k l)

-- ---- functions that are joined, past the last id
pub joined-both_past : {A : Type 0} (n m : ℕ) (d : A) (f g : ℕ → A) (k : ℕ) → n + m ≤ k → joined n f (joined m g (λ i. d)) k ≡ d
unfolding joined
joined-both_past n m d f g k l = let a : n ≤ k = omega arith in let b : m ≤ k - n = omega arith in rw (le-ltb k n a, le-ltb (k - n) m b)

pub joined-past : {A : Type 0} (n : ℕ) (d : A) (f : ℕ → A) (k : ℕ) → n ≤ k → joined n f (λ i. d) k ≡ d
unfolding joined
joined-past n d f k l = rw (le-ltb k n l)

pub joined-later : {A : Type 0} (n : ℕ) (f g : ℕ → A) (k : ℕ) → n ≤ k → joined n f g k ≡ g (k - n)
unfolding joined
joined-later n f g k l = rw (le-ltb k n l)

-- ---- the parts of the first tableau
pub if_ok : {A E : Type 0} (r : Result A E) (P Q : A → Type 0) → IfOk r P → ((a : A) → P a → Q a) → IfOk r Q
if_ok (Ok a) P Q h f = f a h
if_ok (Err e) P Q h f = tt

pub first_row_none : (M : LinearProgram) (k : ℕ) (row : List Number) → k < M.columns → row ≡ [] → IsFirstRow M k row
first_row_none M k row l e = record {
  numbers = λ j. ap (λ (r : List Number). vector_of r j) e ∙ ap (λ (r : Vector). r j) (sym (column_row M k l));
  empty = λ m. ap length e;
  long = λ m. absurd (omega (arith, l, m));
}

pub first_row_some : (M : LinearProgram) (k : ℕ) (row : List Number) → M.columns ≤ k → k < variables M
    → Lists zero_ℚ (λ j x. x ≡ joined M.columns (M.coefficient (k - M.columns)) (λ j. zero_ℚ) j) (variables M) row → IsFirstRow M k row
first_row_some M k row l m h = record {
  numbers = λ j. all_same zero_ℚ (joined M.columns (M.coefficient (k - M.columns)) (λ j. zero_ℚ)) (variables M) row h
      (λ j n. joined-past M.columns zero_ℚ (M.coefficient (k - M.columns)) j (omega (arith, n))) j
      ∙ ap (λ (r : Vector). r j) (sym (at_row M k l m));
  empty = λ n. absurd (omega (arith, l, n));
  long = λ n. h.long;
}
  where
    at_row : (M : LinearProgram) (k : ℕ) → M.columns ≤ k → k < variables M → (start M).table k ≡ joined M.columns (M.coefficient (k - M.columns)) (λ j. zero_ℚ)
    at_row M k l m = let e : M.columns + (k - M.columns) ≡ k = omega arith in
        let i : k - M.columns < M.rows = omega arith in
        ap (start M).table (sym e) ∙ row_row M (k - M.columns) i

pub flag_later : (M : LinearProgram) (k : ℕ) → M.columns ≤ k → k < variables M → (start M).basic k ≡ true
flag_later M k l m = let e : M.columns + (k - M.columns) ≡ k = omega arith in
    let i : k - M.columns < M.rows = omega arith in
    ap (start M).basic (sym e) ∙ row_basic M (k - M.columns) i

-- the value of a row's variable
pub value_later : (M : LinearProgram) (k : ℕ) → M.columns ≤ k → k < variables M → value_at M (k - M.columns) (start_point M) ≡ (start M).values k
value_later M k l m = let i : k - M.columns < M.rows = omega arith in
    sym (joined-later M.columns (start_point M) (joined M.rows (λ i. value_at M i (start_point M)) (λ i. zero_ℚ)) k l ∙ joined-left M.rows (λ i. value_at M i (start_point M)) (λ i. zero_ℚ) (k - M.columns) i)

-- ---- the first tableau in a sense
pub start_in : (s : Sense) (M : LinearProgram) → start (minimizing s M) ≡ record (start M) { prices = joined M.columns (λ j. signed s (M.costs j)) (λ i. zero_ℚ) }
start_in Min M = refl
start_in Max M = refl

pub fits_in : (s : Sense) (M : LinearProgram) → StartFits (minimizing s M) ↔ StartFits M
fits_in Min M = ((λ h. h), λ h. h)
fits_in Max M = ((λ h. h), λ h. h)

-- what the data hold
pub record IsFirst (p : ProgramData) (d : TableauData) : Type 0 where
  pub rows : Lists [] (IsFirstRow (meaning p)) (variables (meaning p)) d.rows
  pub basic : Lists false (λ k x. x ≡ (start (meaning p)).basic k) (variables (meaning p)) d.basic
  pub prices : Lists zero_ℚ (λ k x. x ≡ first_prices p k) (variables (meaning p)) d.prices
  pub values : Lists zero_ℚ (λ k x. x ≡ (start (meaning p)).values k) (variables (meaning p)) d.values

no_row_past : (p : ProgramData) (d : TableauData) → IsFirst p d → (m : ℕ) → variables (meaning p) ≤ m → get_or d.rows m [] ≡ []
no_row_past p d h m l = get_or_past d.rows m [] (omega (arith, l, h.rows.long))

pub first_shown : (p : ProgramData) (d : TableauData) → IsFirst p d → shown d ≡ start (minimized p)
first_shown p d h = (λ i. record {
  size = h.values.long i;
  basic = λ k. all_same false (start (meaning p)).basic (variables (meaning p)) d.basic h.basic (λ k l. joined-both_past (length p.columns) (length p.rows) false (λ j. false) (λ i. true) k l) k i;
  table = λ m j. table m j i;
  prices = λ k. all_same zero_ℚ (first_prices p) (variables (meaning p)) d.prices h.prices (λ k l. joined-past (length p.columns) zero_ℚ (λ j. signed p.sense ((meaning p).costs j)) k (omega (arith, l))) k i;
  values = λ k. all_same zero_ℚ (start (meaning p)).values (variables (meaning p)) d.values h.values (λ k l. joined-both_past (length p.columns) (length p.rows) zero_ℚ (start_point (meaning p)) (λ i. value_at (meaning p) i (start_point (meaning p))) k l) k i;
}) ∙ sym (start_in p.sense (meaning p))
  where
    empty : (m j : ℕ) → variables (meaning p) ≤ m → row_of d.rows m j ≡ (start (meaning p)).table m j
    empty m j l = ap (λ (r : List Number). vector_of r j) (no_row_past p d h m l)
        ∙ ap (λ (r : Vector). r j) (sym (joined-both_past (length p.columns) (length p.rows) (λ k. zero_ℚ) (λ j k. zero_ℚ) (λ i. joined (length p.columns) ((meaning p).coefficient i) (λ k. zero_ℚ)) m l))

    by : (m j : ℕ) → (m < variables (meaning p)) ⊎ (variables (meaning p) ≤ m) → row_of d.rows m j ≡ (start (meaning p)).table m j
    by m j (inl l) = (h.rows.each m l).numbers j
    by m j (inr l) = empty m j l

    table : (m j : ℕ) → row_of d.rows m j ≡ (start (meaning p)).table m j
    table m j = by m j (cases_lt m (variables (meaning p)))

pub first_shaped : (p : ProgramData) (d : TableauData) → IsFirst p d → IsShaped d
first_shaped p d h = record {
  rows = h.rows.long ∙ sym h.values.long;
  basic = h.basic.long ∙ sym h.values.long;
  prices = h.prices.long ∙ sym h.values.long;
  long = λ m q. long m q (cases_lt m (variables (meaning p)));
  empty = λ m q. empty m q (cases_lt m (variables (meaning p)));
  split = subst (λ (t : Tableau). IsSplit t) (sym (first_shown p d h)) (start_is_tableau (minimized p)).split;
}
  where
    long : (m : ℕ) → get_or d.basic m false ≡ true → (m < variables (meaning p)) ⊎ (variables (meaning p) ≤ m) → length (get_or d.rows m []) ≡ length d.values
    long m q (inr l) = absurd (true≢false (sym q ∙ get_or_past d.basic m false (omega (arith, l, h.basic.long))))
    long m q (inl l) = at_or_from (λ m. (start (meaning p)).basic m ≡ true → m < variables (meaning p) → length (get_or d.rows m []) ≡ length d.values) (length p.columns) (length p.rows)
        (λ k a b c. absurd (true≢false (sym b ∙ column_other (meaning p) k a)))
        (λ i a b c. (h.rows.each ((length p.columns) + i) c).long (omega arith) ∙ sym h.values.long)
        m l (sym (h.basic.each m l) ∙ q) l

    empty : (m : ℕ) → get_or d.basic m false ≡ false → (m < variables (meaning p)) ⊎ (variables (meaning p) ≤ m) → length (get_or d.rows m []) ≡ 0
    empty m q (inr l) = ap length (no_row_past p d h m l)
    empty m q (inl l) = at_or_from (λ m. (start (meaning p)).basic m ≡ false → m < variables (meaning p) → length (get_or d.rows m []) ≡ 0) (length p.columns) (length p.rows)
        (λ k a b c. (h.rows.each k c).empty a)
        (λ i a b c. absurd (true≢false (sym (row_basic (meaning p) i a) ∙ b)))
        m l (sym (h.basic.each m l) ∙ q) l

-- ---- room
pub room_all : (M : LinearProgram) → ((k : ℕ) → k < variables M → FirstFits M k) → StartFits M
room_all M h i l = h (M.columns + i) (omega arith) i refl

pub room_at : (M : LinearProgram) (k : ℕ) → k < variables M → StartFits M → FirstFits M k
room_at M k l h i e = h i (omega (arith, l, e))
