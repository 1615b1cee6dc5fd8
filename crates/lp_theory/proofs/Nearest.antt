-- The number nearest to 0 in ranges that meet.
use Rattle.std.proofs.Common.{◌≡◌, ◌≢◌, pos, sym, refl, ap, ◌∙◌, subst, inl, inr, Option, Some, None, Bool, true, false}
use Rattle.std.specs.Prelude.{if◌then◌else◌, IfSome}
use Rattle.fractions.specs.Number.{Number, zero_ℚ, ◌*ℚ◌}
use Rattle.fractions.specs.Order.{◌≤ℚ◌, ◌<ℚ◌, ≤ℚ_refl}
use Rattle.fractions.specs.Compare.{lt_ℚ}
use Rattle.fractions.specs.Floor.{IsWhole}
use Rattle.fractions.specs.Ends.{AtMost, Between, meet_low, meet_high, scaled, over}
use Rattle.fractions.proofs.EndLaws.{meet_low-is, meet_high-is}
use Rattle.fractions.proofs.MinMaxLaws.{max_ℚ_one, min_ℚ_one}
use Rattle.fractions.specs.Signs.{low_pos, high_pos, low_neg, high_neg, over-≤, over-≤_down}
use Rattle.lp_theory.specs.Activities.{least_term, greatest_term}
use Rattle.lp_theory.specs.MetEnds.{lower_over, upper_over}
use Rattle.lp_theory.specs.Nearest.{InOrder, near_below, near}
use Rattle.lp_theory.proofs.ActivityLaws.{lt_true, lt_false}
use Rattle.lp_theory.proofs.MetEndLaws.{lt_is, below_zero, sides_out}

-- ---- the nearest number
near_below-high : (u : Option Number) → AtMost u (near_below u)
near_below-high None = tt
near_below-high (Some b) = by (lt_ℚ b zero_ℚ) refl
  where
    by : (t : Bool) → lt_ℚ b zero_ℚ ≡ t → (if t then b else zero_ℚ) ≤ℚ b
    by true e = ≤ℚ_refl b
    by false e = lt_false b zero_ℚ e

-- what is at most 0 and at most the upper end is at most the nearest number
near_below-low : (u : Option Number) (a : Number) → a ≤ℚ zero_ℚ → AtMost u a → a ≤ℚ near_below u
near_below-low None a h k = h
near_below-low (Some b) a h k = elim (lt_ℚ b zero_ℚ) as (λ t. a ≤ℚ (if t then b else zero_ℚ)) [ true ↦ k | false ↦ h ]

-- between ends that are in order
pub near-between : (l u : Option Number) → InOrder l u → Between l u (near l u)
near-between None u c = record { low = tt; high = near_below-high u }
near-between (Some b) u c = by (lt_ℚ zero_ℚ b) refl
  where
    by : (t : Bool) → lt_ℚ zero_ℚ b ≡ t → Between (Some b) u (if t then b else near_below u)
    by true e = record { low = ≤ℚ_refl b; high = c }
    by false e = record { low = near_below-low u b (lt_false zero_ℚ b e) c; high = near_below-high u }

-- and whole where the ends are
near_below-whole : (u : Option Number) → IsWhole zero_ℚ → IfSome u IsWhole → IsWhole (near_below u)
near_below-whole None z h = z
near_below-whole (Some b) z h = elim (lt_ℚ b zero_ℚ) as (λ t. IsWhole (if t then b else zero_ℚ)) [ true ↦ h | false ↦ z ]

pub near-whole : (l u : Option Number) → IfSome l IsWhole → IfSome u IsWhole → IsWhole (near l u)
near-whole None u h k = near_below-whole u (record { whole = pos 0; same = refl }) k
near-whole (Some b) u h k = elim (lt_ℚ zero_ℚ b) as (λ t. IsWhole (if t then b else near_below u)) [ true ↦ h | false ↦ near_below-whole u (record { whole = pos 0; same = refl }) k ]

-- ---- ranges that meet
-- a range met with another, where neither begins above the end of the other
pub met_in_order : (l u p q : Option Number) → InOrder l u → InOrder p q → InOrder l q → InOrder p u → InOrder (meet_low l p) (meet_high u q)
met_in_order None u None q a b c d = tt
met_in_order None u (Some m) q a b c d = (meet_high-is u q m).1 (d, b)
met_in_order (Some k) u None q a b c d = (meet_high-is u q k).1 (a, c)
met_in_order (Some k) u (Some m) q a b c d = elim (max_ℚ_one k m) [
  | inl e ↦ subst (AtMost (meet_high u q)) (sym e) ((meet_high-is u q k).1 (a, c))
  | inr e ↦ subst (AtMost (meet_high u q)) (sym e) ((meet_high-is u q m).1 (d, b))
]

pub between_met : (l u p q : Option Number) (x : Number) → Between (meet_low l p) (meet_high u q) x → Between l u x × Between p q x
between_met l u p q x b = let low = (meet_low-is l p x).0 b.low in let high = (meet_high-is u q x).0 b.high in
    (record { low = low.0; high = high.0 }, record { low = low.1; high = high.1 })

-- the ends of a range met are ends of one of the two
pub met_low_whole : (p q : Option Number) → IfSome p IsWhole → IfSome q IsWhole → IfSome (meet_low p q) IsWhole
met_low_whole None q h k = k
met_low_whole (Some a) None h k = h
met_low_whole (Some a) (Some b) h k = elim (max_ℚ_one a b) [ inl e ↦ subst IsWhole (sym e) h | inr e ↦ subst IsWhole (sym e) k ]

pub met_high_whole : (p q : Option Number) → IfSome p IsWhole → IfSome q IsWhole → IfSome (meet_high p q) IsWhole
met_high_whole None q h k = k
met_high_whole (Some a) None h k = h
met_high_whole (Some a) (Some b) h k = elim (min_ℚ_one a b) [ inl e ↦ subst IsWhole (sym e) h | inr e ↦ subst IsWhole (sym e) k ]

-- ---- ends over a number

over_up : (a : Number) (l u : Option Number) → zero_ℚ <ℚ a → InOrder l u → InOrder (over l a) (over u a)
over_up a None u p h = tt
over_up a (Some b) None p h = tt
over_up a (Some b) (Some c) p h = over-≤ a p h

over_down : (a : Number) (l u : Option Number) → a <ℚ zero_ℚ → InOrder l u → InOrder (over u a) (over l a)
over_down a l None p h = tt
over_down a None (Some c) p h = tt
over_down a (Some b) (Some c) p h = over-≤_down a p h

pub over_in_order : (a : Number) (l u : Option Number) → a ≢ zero_ℚ → InOrder l u → InOrder (lower_over a l u) (upper_over a l u)
over_in_order a l u n h = by (lt_ℚ zero_ℚ a) refl
  where
    by : (s : Bool) → lt_ℚ zero_ℚ a ≡ s → InOrder (if s then over l a else over u a) (if s then over u a else over l a)
    by true e = over_up a l u (lt_true zero_ℚ a e) h
    by false e = over_down a l u (below_zero a e n) h

-- ---- x between l and u, and a x between p and q
scaled_under : (a : Number) (p u : Option Number) → zero_ℚ <ℚ a → InOrder p (scaled a u) → InOrder (over p a) u
scaled_under a None u h k = tt
scaled_under a (Some b) None h k = tt
scaled_under a (Some b) (Some c) h k = low_pos a c b h k

scaled_above : (a : Number) (l q : Option Number) → zero_ℚ <ℚ a → InOrder (scaled a l) q → InOrder l (over q a)
scaled_above a None q h k = tt
scaled_above a (Some b) None h k = tt
scaled_above a (Some b) (Some c) h k = high_pos a b c h k

scaled_under_down : (a : Number) (q u : Option Number) → a <ℚ zero_ℚ → InOrder (scaled a u) q → InOrder (over q a) u
scaled_under_down a None u h k = tt
scaled_under_down a (Some b) None h k = tt
scaled_under_down a (Some b) (Some c) h k = low_neg a c b h k

scaled_above_down : (a : Number) (l p : Option Number) → a <ℚ zero_ℚ → InOrder p (scaled a l) → InOrder l (over p a)
scaled_above_down a None p h k = tt
scaled_above_down a (Some b) None h k = tt
scaled_above_down a (Some b) (Some c) h k = high_neg a b c h k

least_up : (a : Number) (l u : Option Number) → lt_ℚ zero_ℚ a ≡ true → least_term a l u ≡ scaled a l
unfolding least_term
least_up a l u e = ap (λ (t : Bool). if t then scaled a l else if lt_ℚ a zero_ℚ then scaled a u else Some zero_ℚ) e

least_down : (a : Number) (l u : Option Number) → lt_ℚ zero_ℚ a ≡ false → a <ℚ zero_ℚ → least_term a l u ≡ scaled a u
unfolding least_term
least_down a l u e n = ap (λ (t : Bool). if t then scaled a l else if lt_ℚ a zero_ℚ then scaled a u else Some zero_ℚ) e ∙ ap (λ (t : Bool). if t then scaled a u else Some zero_ℚ) (lt_is a zero_ℚ n)

pub crosses : (a : Number) (l u p q : Option Number) → a ≢ zero_ℚ → InOrder p (greatest_term a l u) → InOrder (least_term a l u) q → InOrder l (upper_over a p q) × InOrder (lower_over a p q) u
crosses a l u p q n g h = by (lt_ℚ zero_ℚ a) refl
  where
    by : (s : Bool) → lt_ℚ zero_ℚ a ≡ s → InOrder l (if s then over q a else over p a) × InOrder (if s then over p a else over q a) u
    by true e = let s = lt_true zero_ℚ a e in (scaled_above a l q s (subst (λ o. InOrder o q) (least_up a l u e) h), scaled_under a p u s (subst (InOrder p) (least_up a u l e) g))
    by false e = let s = below_zero a e n in (scaled_above_down a l p s (subst (InOrder p) (least_down a u l e s) g), scaled_under_down a q u s (subst (λ o. InOrder o q) (least_down a l u e s) h))

-- where a x can be between p and q for some x between l and u, the nearest number to 0 that the two ranges leave is such an x
pub near_in_both : (a : Number) (l u p q : Option Number) → a ≢ zero_ℚ → InOrder l u → InOrder p q → InOrder p (greatest_term a l u) → InOrder (least_term a l u) q
    → Between l u (near (meet_low l (lower_over a p q)) (meet_high u (upper_over a p q))) × Between p q (a *ℚ near (meet_low l (lower_over a p q)) (meet_high u (upper_over a p q)))
near_in_both a l u p q n o r g h =
    let c = crosses a l u p q n g h in
    let low = meet_low l (lower_over a p q) in
    let high = meet_high u (upper_over a p q) in
    let b = between_met l u (lower_over a p q) (upper_over a p q) (near low high) (near-between low high (met_in_order l u (lower_over a p q) (upper_over a p q) o (over_in_order a p q n r) c.0 c.1)) in
    (b.0, sides_out a (near low high) p q n b.1)
