-- What the tests of ends say.
use Rattle.std.proofs.Common.{◌≡◌, Bool, true, false, not, ◌||◌, IsTrue, Option, Some, None, unwrap_or, is_none, refl, sym, ap, subst, true≢false}
use Rattle.std.proofs.lemmas.Bool.{and_parts}
use Rattle.fractions.specs.Number.{Number, zero_ℚ}
use Rattle.fractions.specs.Order.{◌<ℚ◌}
use Rattle.fractions.specs.Compare.{eq_ℚ}
use Rattle.fractions.specs.Floor.{IsWhole, is_whole}
use Rattle.fractions.specs.Ends.{AtLeast, AtMost, Between}
use Rattle.fractions.specs.Comparisons.{le_ℚ-is, lt_ℚ-is, eq_ℚ-is}
use Rattle.fractions.proofs.Floors.{is_whole-is}
use Rattle.lp_theory.proofs.Pairs.{some_inj}
use Rattle.lp_theory.specs.Crossed.{AreCrossed}
use Rattle.lp_model.specs.EndTests.{is_in_order, is_crossed, is_apart, holds_zero, is_fixed, is_place}

pub not_true : false ≡ true → ⊥
not_true e = true≢false (sym e)

pub crossed_ends : (l u : Option Number) → is_crossed l u ≡ true → AreCrossed l u
crossed_ends None u e = not_true e
crossed_ends (Some l) None e = not_true e
crossed_ends (Some l) (Some u) e = (lt_ℚ-is u l).0 e

pub apart_ends : (l u : Option Number) → is_apart l u ≡ true → (a b : Number) → l ≡ Some a → u ≡ Some b → a <ℚ b
apart_ends None u e a b f g = absurd (true≢false (ap is_none f))
apart_ends (Some l) None e a b f g = absurd (true≢false (ap is_none g))
apart_ends (Some l) (Some u) e a b f g = subst (λ x. x <ℚ b) (some_inj f) (subst (λ y. l <ℚ y) (some_inj g) ((lt_ℚ-is l u).0 e))

at_least : (l : Option Number) (x : Number) → is_in_order l (Some x) ≡ true → AtLeast l x
at_least None x e = tt
at_least (Some l) x e = (le_ℚ-is l x).0 e

at_most : (u : Option Number) (x : Number) → is_in_order (Some x) u ≡ true → AtMost u x
at_most None x e = tt
at_most (Some u) x e = (le_ℚ-is x u).0 e

pub zero_held : (l u : Option Number) → holds_zero l u ≡ true → Between l u zero_ℚ
zero_held l u e = let b = and_parts (is_in_order l (Some zero_ℚ)) (is_in_order (Some zero_ℚ) u) e in record { low = at_least l zero_ℚ b.0; high = at_most u zero_ℚ b.1 }

whole_if : (w : Bool) (v : Number) → (not w || is_whole v) ≡ true → IsTrue w → IsWhole v
whole_if true v e f = (is_whole-is v).0 e
whole_if false v e f = absurd (not_true f)

-- both ends are v, a whole number if it has to be
pub record AreFixed (l u : Option Number) (w : Bool) (v : Number) : Type 0 where
  pub lower : l ≡ Some v
  pub upper : u ≡ Some v
  pub whole : IsTrue w → IsWhole v

pub fixed_ends : (l u : Option Number) (w : Bool) → is_fixed l u w ≡ true → AreFixed l u w (unwrap_or l zero_ℚ)
fixed_ends None u w e = absurd (not_true e)
fixed_ends (Some l) None w e = absurd (not_true e)
fixed_ends (Some l) (Some u) w e = let b = and_parts (eq_ℚ l u) (not w || is_whole l) e in
    record { lower = refl; upper = ap Some (sym ((eq_ℚ-is l u).0 b.0)); whole = whole_if w l b.1 }

-- the end is v, a whole number if it has to be
pub record Finite (o : Option Number) (w : Bool) (v : Number) : Type 0 where
  pub value : o ≡ Some v
  pub whole : IsTrue w → IsWhole v

pub finite_end : (o : Option Number) (w : Bool) → is_place o w ≡ true → Finite o w (unwrap_or o zero_ℚ)
finite_end None w e = absurd (not_true e)
finite_end (Some v) w e = record { value = refl; whole = whole_if w v e }
