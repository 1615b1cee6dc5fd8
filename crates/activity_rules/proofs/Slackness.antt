-- Where a row keeps its side with a column at its other end, it implies no better bound.
use Rattle.std.proofs.Common.{◌≡◌, ◌≢◌, inl, inr, Bool, true, false, not, [], ◌∷◌, List, Option, Some, None, Result, Ok, refl, sym, ap, ◌∙◌, subst}
use Rattle.std.specs.Prelude.{◌&&◌, if◌then◌else◌}
use Rattle.fractions.specs.Number.{Number, zero_ℚ, ◌+ℚ◌, ◌-ℚ◌, ◌*ℚ◌, neg_ℚ}
use Rattle.fractions.specs.Order.{◌≤ℚ◌, ◌<ℚ◌}
use Rattle.fractions.specs.Linear.{linear, fact}
use Rattle.fractions.specs.Ring.{v, ◌:+◌, ◌:-◌}
use Rattle.fractions.specs.Compare.{lt_ℚ}
use Rattle.fractions.specs.Division.{◌/ℚ◌}
use Rattle.fractions.specs.Ends.{scaled}
use Rattle.fractions.specs.Comparisons.{le_ℚ-is, lt_ℚ-is, lt_ℚ-not}
use Rattle.fractions.specs.Signs.{low_pos, high_pos, low_neg, high_neg}
use Rattle.lp_theory.specs.Activities.{least_term}
use Rattle.lp_theory.proofs.ActivityLaws.{lt_true}
use Rattle.lp_theory.proofs.MetEndLaws.{below_zero}
use Rattle.fractions.specs.declared.Past.{Past}
use Rattle.problem_model.specs.declared.line.Sides.{Sides}
use Rattle.undo_records.specs.declared.side.Side.{Side}
use Rattle.undo_records.specs.declared.side.Side.TheVariants.{Lower, Upper}
use Rattle.row_spans.specs.declared.span.Span.{Span}
use Rattle.row_spans.specs.declared.span.Extreme.{Extreme}
use Rattle.row_spans.specs.declared.span.Extreme.TheVariants.{Least, Greatest}
use Rattle.row_spans.specs.Exact.{fits, sum_fits, if_room}
use Rattle.kept_sums.specs.KeptSides.{EndKept, IsQuiet, Keeps, KeepsTurned, opposite}
use Rattle.row_spans.specs.RowSums.{rest}
use Rattle.row_spans.specs.Spans.{end_at}
use Rattle.activity_laws.specs.BoundTightening.{if_made, implied, is_better, left_over, old_bound, over_entry}
use Rattle.activities.specs.Rows.{source_of}
use Rattle.activity_rules.specs.Tightened.{AreQuiet, is_below, is_tight}
use Rattle.kept_sums.specs.declared.kept_sides.QuietSides.{QuietSides}

none_better : (side : Side) (old : Option Number) → is_better side old None ≡ false
none_better Lower old = refl
none_better Upper old = refl

-- a bound that is made is the quotient
as_made : (side : Side) (old : Option Number) (a b q : Number) → is_better side old (Some ((b -ℚ q) /ℚ a)) ≡ false → is_better side old (left_over a (Some b) (Ok (Some q))) ≡ false
as_made side old a b q h = by (sum_fits b (neg_ℚ q))
  where
    made : (y : Bool) → is_better side old (if_made (if_room y ((b -ℚ q) /ℚ a))) ≡ false
    made true = h
    made false = none_better side old

    by : (x : Bool) → is_better side old (over_entry a (if_room x (b -ℚ q))) ≡ false
    by true = made (fits ((b -ℚ q) /ℚ a))
    by false = none_better side old

not_above : (l w : Number) → w ≤ℚ l → lt_ℚ l w ≡ false
not_above l w h = lt_ℚ-not l w ∙ ap not ((le_ℚ-is w l).1 h)

-- the term of an entry above 0, and of one below
term_pos : (a : Number) (l u : Option Number) → lt_ℚ zero_ℚ a ≡ true → least_term a l u ≡ scaled a l
unfolding least_term
term_pos a l u e = ap (λ (c : Bool). if c then scaled a l else if lt_ℚ a zero_ℚ then scaled a u else Some zero_ℚ) e

term_neg : (a : Number) (l u : Option Number) → lt_ℚ zero_ℚ a ≡ false → a <ℚ zero_ℚ → least_term a l u ≡ scaled a u
unfolding least_term
term_neg a l u e h =
    ap (λ (c : Bool). if c then scaled a l else if lt_ℚ a zero_ℚ then scaled a u else Some zero_ℚ) e
    ∙ ap (λ (c : Bool). if c then scaled a u else Some zero_ℚ) ((lt_ℚ-is a zero_ℚ).1 h)

scaled_is : (a : Number) (o : Option Number) (t : Number) → scaled a o ≡ Some t → (x : Number) × (o ≡ Some x) × (t ≡ a *ℚ x)
scaled_is a None t e = cc
scaled_is a (Some x) t e = (x, refl, by (a *ℚ x) t e)
  where
    by : (m n : Number) → Some m ≡ Some n → n ≡ m
    by m n e = cc

-- what the side leaves of the rest
left_below : (b q t : Number) → b ≤ℚ (q +ℚ t) → (b -ℚ q) ≤ℚ t
left_below b q t k = linear (b ∷ q ∷ t ∷ []) (fact 1 (v 0) (v 1 :+ v 2) ∷ []) 0 (v 0 :- v 1) (v 2) (k, tt) refl

left_above : (b q t : Number) → (q +ℚ t) ≤ℚ b → t ≤ℚ (b -ℚ q)
left_above b q t k = linear (b ∷ q ∷ t ∷ []) (fact 1 (v 1 :+ v 2) (v 0) ∷ []) 0 (v 2) (v 0 :- v 1) (k, tt) refl

module _ (s : Span) (b t q : Number) where
  lower_not : (x : Number) → s.lower ≡ Some x → ((b -ℚ q) /ℚ s.value) ≤ℚ x → is_better Lower s.lower (left_over s.value (Some b) (Ok (Some q))) ≡ false
  lower_not x o h = ap (λ (l : Option Number). is_better Lower l (left_over s.value (Some b) (Ok (Some q)))) o ∙ as_made Lower (Some x) s.value b q (not_above x ((b -ℚ q) /ℚ s.value) h)

  upper_not : (x : Number) → s.upper ≡ Some x → x ≤ℚ ((b -ℚ q) /ℚ s.value) → is_better Upper s.upper (left_over s.value (Some b) (Ok (Some q))) ≡ false
  upper_not x o h = ap (λ (l : Option Number). is_better Upper l (left_over s.value (Some b) (Ok (Some q)))) o ∙ as_made Upper (Some x) s.value b q (not_above ((b -ℚ q) /ℚ s.value) x h)

  by_sign : (side : Side) (c : Bool) → lt_ℚ zero_ℚ s.value ≡ c → s.value ≢ zero_ℚ → end_at (opposite (source_of side c)) s ≡ Some t → Keeps (source_of side c) b (q +ℚ t)
      → is_better side (old_bound side s.lower s.upper) (left_over s.value (Some b) (Ok (Some q))) ≡ false
  by_sign Lower true e n f k =
      let m = scaled_is s.value s.lower t (sym (term_pos s.value s.lower s.upper e) ∙ f) in
      lower_not m.0 m.1 (low_pos s.value m.0 (b -ℚ q) (lt_true _ _ e) (subst (λ z. (b -ℚ q) ≤ℚ z) m.2 (left_below b q t k)))
  by_sign Lower false e n f k =
      let h = below_zero s.value e n in
      let m = scaled_is s.value s.lower t (sym (term_neg s.value s.upper s.lower e h) ∙ f) in
      lower_not m.0 m.1 (low_neg s.value m.0 (b -ℚ q) h (subst (λ z. z ≤ℚ (b -ℚ q)) m.2 (left_above b q t k)))
  by_sign Upper true e n f k =
      let m = scaled_is s.value s.upper t (sym (term_pos s.value s.upper s.lower e) ∙ f) in
      upper_not m.0 m.1 (high_pos s.value m.0 (b -ℚ q) (lt_true _ _ e) (subst (λ z. z ≤ℚ (b -ℚ q)) m.2 (left_above b q t k)))
  by_sign Upper false e n f k =
      let h = below_zero s.value e n in
      let m = scaled_is s.value s.upper t (sym (term_neg s.value s.lower s.upper e h) ∙ f) in
      upper_not m.0 m.1 (high_neg s.value m.0 (b -ℚ q) h (subst (λ z. (b -ℚ q) ≤ℚ z) m.2 (left_below b q t k)))

pub slack_is_not_better : (side : Side) (x : Extreme) (s : Span) (ss : List Span) (b : Number) → s.value ≢ zero_ℚ → x ≡ source_of side (lt_ℚ zero_ℚ s.value) → KeepsTurned x b s (rest x s.id ss)
    → is_better side (old_bound side s.lower s.upper) (left_over s.value (Some b) (rest x s.id ss)) ≡ false
slack_is_not_better side x s ss b n e h =
    let k = h.2 in
    ap (λ (r : Result (Option Number) Past). is_better side (old_bound side s.lower s.upper) (left_over s.value (Some b) r)) k.1
    ∙ by_sign s b h.0 k.0 side (lt_ℚ zero_ℚ s.value) refl n
    (subst (λ (y : Extreme). end_at (opposite y) s ≡ Some h.0) e h.1)
    (subst (λ (y : Extreme). Keeps y b (k.0 +ℚ h.0)) e k.2)

-- ---- both sides, as far as they are finite
end_not_better : (side : Side) (x : Extreme) (s : Span) (ss : List Span) (o : Option Number) → s.value ≢ zero_ℚ → x ≡ source_of side (lt_ℚ zero_ℚ s.value) → EndKept x o s (rest x s.id ss)
    → is_better side (old_bound side s.lower s.upper) (left_over s.value o (rest x s.id ss)) ≡ false
end_not_better side x s ss None n e h = none_better side (old_bound side s.lower s.upper)
end_not_better side x s ss (Some b) n e h = slack_is_not_better side x s ss b n e h

quiet_not_better : (side : Side) (x : Extreme) (s : Span) (ss : List Span) (o : Option Number) → s.value ≢ zero_ℚ → x ≡ source_of side (lt_ℚ zero_ℚ s.value) → IsQuiet x o s (rest x s.id ss)
    → is_better side (old_bound side s.lower s.upper) (left_over s.value o (rest x s.id ss)) ≡ false
quiet_not_better side x s ss o n e (inl h) = end_not_better side x s ss o n e h
quiet_not_better side x s ss o n e (inr h) = ap (λ (r : Result (Option Number) Past). is_better side (old_bound side s.lower s.upper) (left_over s.value o r)) h ∙ none_left o
  where
    none_left : (o : Option Number) → is_better side (old_bound side s.lower s.upper) (left_over s.value o (Ok None)) ≡ false
    none_left None = none_better side (old_bound side s.lower s.upper)
    none_left (Some b) = none_better side (old_bound side s.lower s.upper)

quiet_not_better_side : (sides : Sides) (ss : List Span) (s : Span) (q : QuietSides) → s.value ≢ zero_ℚ → AreQuiet sides ss s q → (side : Side) → (if is_below side (lt_ℚ zero_ℚ s.value) then q.lower else q.upper) ≡ true → is_better side (old_bound side s.lower s.upper) (implied side s.id s.value sides.lower sides.upper ss) ≡ false
quiet_not_better_side sides ss s q n a Lower t = by (lt_ℚ zero_ℚ s.value) refl t
  where
    by : (c : Bool) → lt_ℚ zero_ℚ s.value ≡ c → (if c then q.lower else q.upper) ≡ true → is_better Lower (old_bound Lower s.lower s.upper) (if c then left_over s.value sides.lower (rest Greatest s.id ss) else left_over s.value sides.upper (rest Least s.id ss)) ≡ false
    by true e t = quiet_not_better Lower Greatest s ss sides.lower n (sym (ap (source_of Lower) e)) (a.lower t)
    by false e t = quiet_not_better Lower Least s ss sides.upper n (sym (ap (source_of Lower) e)) (a.upper t)
quiet_not_better_side sides ss s q n a Upper t = by (lt_ℚ zero_ℚ s.value) refl t
  where
    by : (c : Bool) → lt_ℚ zero_ℚ s.value ≡ c → (if not c then q.lower else q.upper) ≡ true → is_better Upper (old_bound Upper s.lower s.upper) (if c then left_over s.value sides.upper (rest Least s.id ss) else left_over s.value sides.lower (rest Greatest s.id ss)) ≡ false
    by true e t = quiet_not_better Upper Least s ss sides.upper n (sym (ap (source_of Upper) e)) (a.upper t)
    by false e t = quiet_not_better Upper Greatest s ss sides.lower n (sym (ap (source_of Upper) e)) (a.lower t)

and_false : (b : Bool) → (b && false) ≡ false
and_false true = refl
and_false false = refl

pub quiet_not_tight : (sides : Sides) (ss : List Span) (s : Span) (q : QuietSides) → s.value ≢ zero_ℚ → AreQuiet sides ss s q → (side : Side) → (if is_below side (lt_ℚ zero_ℚ s.value) then q.lower else q.upper) ≡ true → is_tight sides ss s side ≡ false
quiet_not_tight sides ss s q n a side t = ap (λ (b : Bool). not s.semi && b) (quiet_not_better_side sides ss s q n a side t) ∙ and_false (not s.semi)
