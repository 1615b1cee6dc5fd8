-- What the looks at a row say of the rules.
use Rattle.std.proofs.Common.{◌≡◌, ℕ, Bool, true, false, ◌&&◌, ◌||◌, Option, Some, None, is_none, Result, Ok, Err, true≢false, refl, sym, ◌∙◌}
use Rattle.lp_model.specs.EndTests.{is_crossed, is_in_order}
use Rattle.problem_model.specs.Problems.{row_at, sides_at}
use Rattle.problem_model.specs.Sparse.{Sparse}
use Rattle.row_spans.specs.Spans.{spans_of}
use Rattle.activity_laws.specs.Rows.{RowTest, all_in_order, keeps_lower, on_both, on_row, row_found}
use Rattle.activity_laws.specs.RedundantRow as redundant_row
use Rattle.activity_laws.specs.RedundantSide as redundant_side
use Rattle.activity_laws.specs.ForcingRow as forcing_row
use Rattle.activity_laws.specs.InfeasibleRow as infeasible_row
use Rattle.activities.proofs.RowLooks.{split}
use Rattle.activities.specs.Rows.{is_uncrossed}
use Rattle.activity_rules.specs.Looks.{has_room, on_one}
use Rattle.fractions.specs.declared.Past.{Past}
use Rattle.fractions.specs.Number.{Number}

-- the same with the crossed ends looked at last
later : (a x d : Bool) → ((a && x) && d) ≡ (a && (d && (a && x)))
later false x d = refl
later true false false = refl
later true false true = refl
later true true false = refl
later true true true = refl

pub tested_first : (test : RowTest) (p : Sparse) (i : ℕ) → on_row test (row_found p i) ≡ ((row_at p i).live && (test (sides_at p i).lower (sides_at p i).upper (spans_of p i) && is_uncrossed p i))
tested_first test p i = split test p i
    ∙ later (row_at p i).live (is_in_order (sides_at p i).lower (sides_at p i).upper && all_in_order (spans_of p i)) (test (sides_at p i).lower (sides_at p i).upper (spans_of p i))

pub redundant_row_is : (p : Sparse) (i : ℕ) → redundant_row.enabled p i ≡ ((row_at p i).live && (redundant_row.is_redundant_row (sides_at p i).lower (sides_at p i).upper (spans_of p i) && is_uncrossed p i))
redundant_row_is = tested_first redundant_row.is_redundant_row

pub redundant_side_is : (p : Sparse) (i : ℕ) → redundant_side.enabled p i ≡ ((row_at p i).live && (redundant_side.has_redundant_side (sides_at p i).lower (sides_at p i).upper (spans_of p i) && is_uncrossed p i))
redundant_side_is = tested_first redundant_side.has_redundant_side

pub forcing_row_is : (p : Sparse) (i : ℕ) → forcing_row.enabled p i ≡ ((row_at p i).live && (forcing_row.is_forcing_row (sides_at p i).lower (sides_at p i).upper (spans_of p i) && is_uncrossed p i))
forcing_row_is = tested_first forcing_row.is_forcing_row

pub infeasible_row_is : (p : Sparse) (i : ℕ) → infeasible_row.enabled p i ≡ ((row_at p i).live && (infeasible_row.is_infeasible_row (sides_at p i).lower (sides_at p i).upper (spans_of p i) && is_uncrossed p i))
infeasible_row_is = tested_first infeasible_row.is_infeasible_row

-- ---- one activity looked at before the other
-- a test of the least one or of the greatest
pub either_first : (f g : Option Number → Bool) (a b : Result (Option Number) Past) → on_both (λ x y. f x || g y) a b ≡ ((on_one f a && has_room b) || (on_one g b && has_room a))
either_first f g (Ok x) (Ok y) = by (f x) (g y)
  where
    by : (s t : Bool) → (s || t) ≡ ((s && true) || (t && true))
    by true t = refl
    by false true = refl
    by false false = refl
either_first f g (Ok x) (Err e) = by (f x)
  where
    by : (s : Bool) → false ≡ ((s && false) || false)
    by true = refl
    by false = refl
either_first f g (Err e) (Ok y) = by (g y)
  where
    by : (t : Bool) → false ≡ (false || (t && false))
    by true = refl
    by false = refl
either_first f g (Err e) (Err h) = refl

-- the other way round
pub either_last : (f g : Option Number → Bool) (a b : Result (Option Number) Past) → on_both (λ x y. g y || f x) a b ≡ ((on_one g b && has_room a) || (on_one f a && has_room b))
either_last f g (Ok x) (Ok y) = by (g y) (f x)
  where
    by : (s t : Bool) → (s || t) ≡ ((s && true) || (t && true))
    by true t = refl
    by false true = refl
    by false false = refl
either_last f g (Ok x) (Err e) = by (f x)
  where
    by : (t : Bool) → false ≡ (false || (t && false))
    by true = refl
    by false = refl
either_last f g (Err e) (Ok y) = by (g y)
  where
    by : (s : Bool) → false ≡ ((s && false) || false)
    by true = refl
    by false = refl
either_last f g (Err e) (Err h) = refl

-- a side that is not there is kept by what has room, and reached by nothing
pub none_kept : (l : Option Number) (a : Result (Option Number) Past) → is_none l ≡ true → on_one (λ v. keeps_lower l v) a ≡ has_room a
none_kept None (Ok v) h = refl
none_kept None (Err e) h = refl
none_kept (Some l) a h = absurd (true≢false (sym h))

pub none_reached : (l : Option Number) (a : Result (Option Number) Past) → is_none l ≡ true → on_one (λ v. forcing_row.is_reached l v) a ≡ false
none_reached None (Ok v) h = refl
none_reached None (Err e) h = refl
none_reached (Some l) a h = absurd (true≢false (sym h))

-- of the least one and of the greatest
pub both_first : (f g : Option Number → Bool) (a b : Result (Option Number) Past) → on_both (λ x y. f x && g y) a b ≡ (on_one g b && on_one f a)
both_first f g (Ok x) (Ok y) = by (f x) (g y)
  where
    by : (s t : Bool) → (s && t) ≡ (t && s)
    by true true = refl
    by true false = refl
    by false true = refl
    by false false = refl
both_first f g (Ok x) (Err e) = refl
both_first f g (Err e) (Ok y) = by (g y)
  where
    by : (t : Bool) → false ≡ (t && false)
    by true = refl
    by false = refl
both_first f g (Err e) (Err h) = refl

-- nothing is above no upper side, nor below no lower one
above_none : (v : Option Number) → is_crossed v None ≡ false
above_none None = refl
above_none (Some l) = refl

pub none_above : (u : Option Number) (a : Result (Option Number) Past) → is_none u ≡ true → on_one (λ v. is_crossed v u) a ≡ false
none_above None (Ok v) h = above_none v
none_above None (Err e) h = refl
none_above (Some u) a h = absurd (true≢false (sym h))

pub none_below : (l : Option Number) (a : Result (Option Number) Past) → is_none l ≡ true → on_one (λ v. is_crossed l v) a ≡ false
none_below None (Ok v) h = refl
none_below None (Err e) h = refl
none_below (Some l) a h = absurd (true≢false (sym h))

-- whether columns are semi-continuous is looked at last
pub solid_last : (h s r : Bool) → (h && (s && r)) ≡ (h && (r && s))
solid_last false s r = refl
solid_last true true true = refl
solid_last true true false = refl
solid_last true false true = refl
solid_last true false false = refl
