-- What the sides that were read say of the rows of the linear program that is shown.
use Rattle.std.proofs.Common.{◌≡◌, ◌≢◌, ◌⊎◌, inl, inr, ℕ, Bool, true, false, not, ◌||◌, List, [], ◌∷◌, map, Option, Some, None, is_none, refl, sym, ap, ap₂, ◌∙◌, subst}
use Rattle.std.specs.Prelude.{if◌then◌else◌}
use Rattle.std.proofs.lemmas.Bool.{and_parts, cases_eq}
use Rattle.fractions.specs.Number.{Number, zero_ℚ}
use Rattle.fractions.specs.Order.{◌≤ℚ◌, ◌<ℚ◌, ≤ℚ_refl, <ℚ-not}
use Rattle.fractions.specs.Compare.{lt_ℚ}
use Rattle.fractions.specs.Comparisons.{lt_ℚ-is}
use Rattle.lp_model.specs.declared.terms.Term.{Term}
use Rattle.lp_model.specs.Sparse.{dense, has}
use Rattle.lp_columns.specs.Locks.{HasNoDownLock, HasNoUpLock}
use Rattle.problem_model.specs.declared.part.Contents.{Contents}
use Rattle.problem_model.specs.declared.part.Contents.TheVariants as holding
use Rattle.problem_model.specs.declared.part.Part.TheVariants as part
use Rattle.problem_model.specs.Parts.{contents_of}
use Rattle.problem_model.specs.Problems.{row_at, column_at, sides_at, column_entries, IsSparse}
use Rattle.problem_model.specs.Showing.{coefficient_of, end_if, shown}
use Rattle.problem_model.specs.Sparse.{Sparse}
use Rattle.problem_laws.proofs.Terms.{has-cons_other, dense-cons_same, dense-cons_other, dense-absent}
use Rattle.rule_words.specs.Reading.{sides_of}
use Rattle.rule_words.proofs.Coefficients.{coefficient_in_column}
use Rattle.rule_words.proofs.EndTestsSay.{not_true}
use Rattle.dual_laws.specs.Locks.{all_take, sides_on, takes_down, takes_up}

-- ---- one row
-- an end is none where a test asks for it
none_if : (b : Bool) (o : Option Number) → b ≡ true → (not b || is_none o) ≡ true → o ≡ None
none_if true None e f = refl
none_if true (Some x) e f = absurd (not_true f)
none_if false o e f = absurd (not_true e)

module _ (a : Number) (l u : Option Number) where
  down_low : (on : Bool) → takes_down a (if on then holding.Sides l u else holding.Gone) ≡ true → zero_ℚ <ℚ a → end_if on l ≡ None
  down_low true e h = none_if (lt_ℚ zero_ℚ a) l ((lt_ℚ-is zero_ℚ a).1 h) (and_parts (not (lt_ℚ zero_ℚ a) || is_none l) (not (lt_ℚ a zero_ℚ) || is_none u) e).0
  down_low false e h = refl

  down_high : (on : Bool) → takes_down a (if on then holding.Sides l u else holding.Gone) ≡ true → a <ℚ zero_ℚ → end_if on u ≡ None
  down_high true e h = none_if (lt_ℚ a zero_ℚ) u ((lt_ℚ-is a zero_ℚ).1 h) (and_parts (not (lt_ℚ zero_ℚ a) || is_none l) (not (lt_ℚ a zero_ℚ) || is_none u) e).1
  down_high false e h = refl

  up_high : (on : Bool) → takes_up a (if on then holding.Sides l u else holding.Gone) ≡ true → zero_ℚ <ℚ a → end_if on u ≡ None
  up_high true e h = none_if (lt_ℚ zero_ℚ a) u ((lt_ℚ-is zero_ℚ a).1 h) (and_parts (not (lt_ℚ zero_ℚ a) || is_none u) (not (lt_ℚ a zero_ℚ) || is_none l) e).0
  up_high false e h = refl

  up_low : (on : Bool) → takes_up a (if on then holding.Sides l u else holding.Gone) ≡ true → a <ℚ zero_ℚ → end_if on l ≡ None
  up_low true e h = none_if (lt_ℚ a zero_ℚ) l ((lt_ℚ-is a zero_ℚ).1 h) (and_parts (not (lt_ℚ zero_ℚ a) || is_none u) (not (lt_ℚ a zero_ℚ) || is_none l) e).1
  up_low false e h = refl

-- 0 is neither above nor below 0
not_above : (a : Number) → a ≡ zero_ℚ → zero_ℚ <ℚ a → ⊥
not_above a e h = <ℚ-not h (subst (λ (b : Number). b ≤ℚ zero_ℚ) (sym e) (≤ℚ_refl zero_ℚ))

not_below : (a : Number) → a ≡ zero_ℚ → a <ℚ zero_ℚ → ⊥
not_below a e h = <ℚ-not h (subst (λ (b : Number). zero_ℚ ≤ℚ b) (sym e) (≤ℚ_refl zero_ℚ))

-- ---- all rows of a column
-- what is asked of each term's sides holds at each id that a term has
taken_at : (p : Sparse) (takes : Number → Contents → Bool) (ts : List Term) (i : ℕ) → all_take takes ts (map (contents_of p) (sides_of ts)) ≡ true → has i ts ≡ true → takes (dense ts i) (contents_of p (part.Sides i)) ≡ true
taken_at p takes [] i h e = absurd (not_true e)
taken_at p takes (t ∷ ts) i h e = let b = and_parts (takes t.value (contents_of p (part.Sides t.id))) (all_take takes ts (map (contents_of p) (sides_of ts))) h in by (cases_eq t.id i) b.0 (taken_at p takes ts i b.1)
  where
    by : (t.id ≡ i) ⊎ (t.id ≢ i) → takes t.value (contents_of p (part.Sides t.id)) ≡ true → (has i ts ≡ true → takes (dense ts i) (contents_of p (part.Sides i)) ≡ true) → takes (dense (t ∷ ts) i) (contents_of p (part.Sides i)) ≡ true
    by (inl f) k ih = ap₂ takes (dense-cons_same t ts i f) (ap (λ (m : ℕ). contents_of p (part.Sides m)) (sym f)) ∙ k
    by (inr n) k ih = ap (λ (a : Number). takes a (contents_of p (part.Sides i))) (dense-cons_other t ts i n) ∙ ih (sym (has-cons_other i t ts n) ∙ e)

module _ (p : Sparse) (j : ℕ) (s : IsSparse p) (live : (column_at p j).live ≡ true) where
  pub column_has : (i : ℕ) → coefficient_of p i j ≡ dense (column_entries p j) i
  column_has i = coefficient_in_column p i j s.matrix ∙ ap (λ (on : Bool). if on then dense (column_entries p j) i else zero_ℚ) live

  -- what is asked holds at each row, or the coefficient is 0
  at_row : (takes : Number → Contents → Bool) → all_take takes (column_entries p j) (sides_on p j) ≡ true → (i : ℕ)
      → (takes (coefficient_of p i j) (contents_of p (part.Sides i)) ≡ true) ⊎ (coefficient_of p i j ≡ zero_ℚ)
  at_row takes h i = by (has i (column_entries p j)) refl
    where
      by : (b : Bool) → has i (column_entries p j) ≡ b → (takes (coefficient_of p i j) (contents_of p (part.Sides i)) ≡ true) ⊎ (coefficient_of p i j ≡ zero_ℚ)
      by true e = inl (ap (λ (a : Number). takes a (contents_of p (part.Sides i))) (column_has i) ∙ taken_at p takes (column_entries p j) i h e)
      by false e = inr (column_has i ∙ dense-absent i (column_entries p j) e)

  abbrev a : ℕ → Number
  a i = coefficient_of p i j

  abbrev low : ℕ → Option Number
  low i = end_if (row_at p i).live (sides_at p i).lower

  abbrev high : ℕ → Option Number
  high i = end_if (row_at p i).live (sides_at p i).upper

  -- an end of each row whose coefficient is on a side of 0 is none, where the test says so of one row
  none_at : (takes : Number → Contents → Bool) (end : ℕ → Option Number) (OnSide : Number → Type 0) → ((i : ℕ) → takes (a i) (contents_of p (part.Sides i)) ≡ true → OnSide (a i) → end i ≡ None) → ((x : Number) → x ≡ zero_ℚ → OnSide x → ⊥)
      → all_take takes (column_entries p j) (sides_on p j) ≡ true → (i : ℕ) → OnSide (a i) → end i ≡ None
  none_at takes end OnSide one zero h i k = by (at_row takes h i)
    where
      by : (takes (a i) (contents_of p (part.Sides i)) ≡ true) ⊎ (a i ≡ zero_ℚ) → end i ≡ None
      by (inl e) = one i e k
      by (inr z) = absurd (zero (a i) z k)

  -- no row locks it downwards, where each takes a move down
  pub no_down_lock : all_take takes_down (column_entries p j) (sides_on p j) ≡ true → HasNoDownLock (shown p) j
  no_down_lock h = record {
    positive = λ i l k. none_at takes_down low (λ x. zero_ℚ <ℚ x) (λ i. down_low (a i) (sides_at p i).lower (sides_at p i).upper (row_at p i).live) not_above h i k;
    negative = λ i l k. none_at takes_down high (λ x. x <ℚ zero_ℚ) (λ i. down_high (a i) (sides_at p i).lower (sides_at p i).upper (row_at p i).live) not_below h i k;
  }

  -- none locks it upwards, where each takes a move up
  pub no_up_lock : all_take takes_up (column_entries p j) (sides_on p j) ≡ true → HasNoUpLock (shown p) j
  no_up_lock h = record {
    positive = λ i l k. none_at takes_up high (λ x. zero_ℚ <ℚ x) (λ i. up_high (a i) (sides_at p i).lower (sides_at p i).upper (row_at p i).live) not_above h i k;
    negative = λ i l k. none_at takes_up low (λ x. x <ℚ zero_ℚ) (λ i. up_low (a i) (sides_at p i).lower (sides_at p i).upper (row_at p i).live) not_below h i k;
  }

-- ---- costs
pub cost_live : (on : Bool) (c : Number) → on ≡ true → (if on then c else zero_ℚ) ≡ c
cost_live on c e = ap (λ (b : Bool). if b then c else zero_ℚ) e

-- ---- ends
pub none_is : (o : Option Number) → is_none o ≡ true → o ≡ None
none_is None e = refl
none_is (Some x) e = absurd (not_true e)
