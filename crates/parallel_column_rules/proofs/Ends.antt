-- The end at which a number times a column is least.
use Rattle.std.proofs.Common.{◌≡◌, ◌≢◌, Bool, true, false, Option, Some, sym, refl, ap, ◌∙◌}
use Rattle.std.specs.Prelude.{if◌then◌else◌}
use Rattle.fractions.specs.Number.{Number, zero_ℚ}
use Rattle.fractions.specs.Order.{≤ℚ_antisym}
use Rattle.fractions.specs.Compare.{lt_ℚ}
use Rattle.fractions.specs.Ends.{scaled}
use Rattle.lp_theory.specs.Activities.{least_term}
use Rattle.lp_theory.proofs.ActivityLaws.{lt_false}

-- above 0 it is the first end, else the second
least_there : (s : Number) (l u : Option Number) → s ≢ zero_ℚ → scaled s (if lt_ℚ zero_ℚ s then l else u) ≡ least_term s l u
unfolding least_term
least_there s l u n = by (lt_ℚ zero_ℚ s) (lt_ℚ s zero_ℚ) refl refl
  where
    by : (a b : Bool) → lt_ℚ zero_ℚ s ≡ a → lt_ℚ s zero_ℚ ≡ b → scaled s (if a then l else u) ≡ (if a then scaled s l else if b then scaled s u else Some zero_ℚ)
    by true b e f = refl
    by false true e f = refl
    by false false e f = absurd (n (≤ℚ_antisym (lt_false _ _ e) (lt_false _ _ f)))

pub least_above : (s : Number) (l u : Option Number) (b : Bool) → s ≢ zero_ℚ → b ≡ lt_ℚ zero_ℚ s → b ≡ true → scaled s l ≡ least_term s l u
least_above s l u b n e f = ap (λ (x : Bool). scaled s (if x then l else u)) (sym f ∙ e) ∙ least_there s l u n

pub least_below : (s : Number) (l u : Option Number) (b : Bool) → s ≢ zero_ℚ → b ≡ lt_ℚ zero_ℚ s → b ≡ false → scaled s u ≡ least_term s l u
least_below s l u b n e f = ap (λ (x : Bool). scaled s (if x then l else u)) (sym f ∙ e) ∙ least_there s l u n
