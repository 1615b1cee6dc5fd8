-- Where a coefficient is tightened its row passes its side, by less than the coefficient.
use Rattle.std.proofs.Common.{T, ◌≡◌, ◌≢◌, ◌⊎◌, inl, inr, ℕ, suc, ◌<◌, arith, nat_eq, Bool, true, false, not, ◌&&◌, pos, List, [], ◌∷◌, Option, Some, None, Ok, refl, sym, ap, ap₂, ◌∙◌, subst}
use Rattle.std.specs.Prelude.{if◌then◌else◌}
use Rattle.std.proofs.lemmas.Bool.{cases_eq, eq-eqb, ne_eqb}
use Rattle.fractions.specs.Number.{Number, rational, zero_ℚ, one_ℚ, neg_ℚ, ◌+ℚ◌, ◌-ℚ◌, ◌*ℚ◌}
use Rattle.fractions.specs.Ring.{ring, v, num, inv, ◌:*◌, ◌:+◌, ◌:-◌}
use Rattle.fractions.specs.Order.{◌<ℚ◌, <ℚ-≤ℚ, ≤ℚ_antisym, non_neg_ℚ}
use Rattle.fractions.specs.Signs.{<ℚ-irrefl, <ℚ-≤ℚ_trans, neg_ℚ-<}
use Rattle.fractions.specs.Compare.{lt_ℚ}
use Rattle.fractions.specs.Comparisons.{lt_ℚ-is}
use Rattle.fractions.specs.Ends.{plus, scaled}
use Rattle.fractions.specs.MinMax.{abs_ℚ}
use Rattle.fractions.proofs.MinMaxLaws.{abs_ℚ-is, abs_ℚ-neg}
use Rattle.lp_theory.specs.Activities.{greatest_term, least_term}
use Rattle.lp_theory.proofs.ActivityLaws.{lt_true, lt_false}
use Rattle.undo_records.specs.declared.side.Side.{Side}
use Rattle.undo_records.specs.declared.side.Side.TheVariants.{Lower, Upper}
use Rattle.row_spans.specs.declared.span.Extreme.{Extreme}
use Rattle.row_spans.specs.declared.span.Span.{Span}
use Rattle.row_spans.specs.RowSums.{activity, rest}
use Rattle.row_spans.specs.Spans.{AreSpans, end_at, ends_at, others}
use Rattle.row_spans.proofs.Bridge.{plain_of, plain_sum}
use Rattle.activity_laws.specs.BoundTightening.{entry_at, if_made}
use Rattle.coef_laws.specs.CoefficientTightening.{best_bound, extreme_of, given, if_finite, if_short, slack, tightened_at, tightened_by, tightened_in, turned, whole_bounds}
use Rattle.coef_laws.specs.declared.tightening.Tightening.{Tightening}
use Rattle.coef_laws.proofs.CoefficientTightening.{are_bounds, finite_is, is_given, is_short, slack_is, told}

-- ---- a sum is an entry's end and the sum of the others
plus_left : (a b c : Option Number) → plus a (plus b c) ≡ plus b (plus a c)
plus_left None None c = refl
plus_left None (Some y) None = refl
plus_left None (Some y) (Some z) = refl
plus_left (Some x) None None = refl
plus_left (Some x) None (Some z) = refl
plus_left (Some x) (Some y) None = refl
plus_left (Some x) (Some y) (Some z) = ap Some (ring rational (x ∷ y ∷ z ∷ []) (v 0 :+ (v 1 :+ v 2)) (v 1 :+ (v 0 :+ v 2)) refl)

all_others : (m j : ℕ) (ss : List Span) → AreSpans m ss → j < m → others j ss ≡ ss
all_others m j [] a l = refl
all_others m j (s ∷ ss) a l =
    ap (λ (b : Bool). if not b then s ∷ others j ss else others j ss) (ne_eqb s.id j (omega (arith, l, a.0)))
    ∙ ap (λ (r : List Span). s ∷ r) (all_others (suc s.id) j ss a.2 (omega (arith, l, a.0)))

some_is : (s t : Span) → Some s ≡ Some t → s ≡ t
some_is s t e = cc

record IsPart (x : Extreme) (j : ℕ) (ss : List Span) (s : Span) : Type 0 where
  nonzero : s.value ≢ zero_ℚ
  sum : plain_sum (ends_at x ss) ≡ plus (end_at x s) (plain_sum (ends_at x (others j ss)))

part : (x : Extreme) (m j : ℕ) (ss : List Span) (s : Span) → AreSpans m ss → entry_at j ss ≡ Some s → IsPart x j ss s
part x m j [] s a e = cc
part x m j (t ∷ ss) s a e = by (cases_eq t.id j) (λ k. part x (suc t.id) j ss s a.2 k)
  where
    there : (b : Bool) → nat_eq t.id j ≡ b → (if b then Some t else entry_at j ss) ≡ Some s
    there b g = sym (ap (λ (b : Bool). if b then Some t else entry_at j ss) g) ∙ e

    left : (b : Bool) → nat_eq t.id j ≡ b → others j (t ∷ ss) ≡ (if not b then t ∷ others j ss else others j ss)
    left b g = ap (λ (b : Bool). if not b then t ∷ others j ss else others j ss) g

    by : (t.id ≡ j) ⊎ (t.id ≢ j) → (entry_at j ss ≡ Some s → IsPart x j ss s) → IsPart x j (t ∷ ss) s
    by (inl q) ih =
        let is : t ≡ s = some_is t s (there true (eq-eqb t.id j q)) in
        record {
          nonzero = subst (λ (u : Span). u.value ≢ zero_ℚ) is a.1;
          sum = ap₂ (λ (u : Span) (r : List Span). plus (end_at x u) (plain_sum (ends_at x r))) is
              (sym (left true (eq-eqb t.id j q) ∙ all_others (suc t.id) j ss a.2 (omega (arith, q))));
        }
    by (inr n) ih =
        let h = ih (there false (ne_eqb t.id j n)) in
        record {
          nonzero = h.nonzero;
          sum = ap (plus (end_at x t)) h.sum ∙ plus_left (end_at x t) (end_at x s) (plain_sum (ends_at x (others j ss)))
              ∙ ap (λ (r : List Span). plus (end_at x s) (plain_sum (ends_at x r))) (sym (left false (ne_eqb t.id j n)));
        }

-- ---- signs
strictly : (p q r s : Number) → p -ℚ q ≡ r -ℚ s → p <ℚ q → r <ℚ s
strictly p q r s e h = record { lt = subst (λ x. T (not (non_neg_ℚ x))) e h.lt }

below_zero : (q : Number) → zero_ℚ <ℚ q → neg_ℚ q <ℚ zero_ℚ
below_zero q h = subst (λ z. neg_ℚ q <ℚ z) (ring rational [] (inv (num (pos 0))) (num (pos 0)) refl) (neg_ℚ-< h)

above_zero : (q : Number) → q <ℚ zero_ℚ → zero_ℚ <ℚ neg_ℚ q
above_zero q h = subst (λ z. z <ℚ neg_ℚ q) (ring rational [] (inv (num (pos 0))) (num (pos 0)) refl) (neg_ℚ-< h)

is_below : (p q : Number) → p <ℚ q → lt_ℚ p q ≡ true
is_below p q h = (lt_ℚ-is p q).1 h

not_below : (p q : Number) → q <ℚ p → lt_ℚ p q ≡ false
not_below p q h = by (lt_ℚ p q) refl
  where
    by : (b : Bool) → lt_ℚ p q ≡ b → b ≡ false
    by true e = absurd (<ℚ-irrefl q (<ℚ-≤ℚ_trans h (<ℚ-≤ℚ (lt_true p q e))))
    by false e = refl

negative : (q : Number) → q ≢ zero_ℚ → lt_ℚ zero_ℚ q ≡ false → q <ℚ zero_ℚ
negative q n e = by (lt_ℚ q zero_ℚ) refl
  where
    by : (b : Bool) → lt_ℚ q zero_ℚ ≡ b → q <ℚ zero_ℚ
    by true f = lt_true q zero_ℚ f
    by false f = absurd (n (≤ℚ_antisym (lt_false zero_ℚ q e) (lt_false q zero_ℚ f)))

turned_abs : (f : Side) (q : Number) → q ≢ zero_ℚ → abs_ℚ (turned f q) ≡ abs_ℚ q
turned_abs Upper q n = refl
turned_abs Lower q n = by (lt_ℚ zero_ℚ q) refl
  where
    by : (b : Bool) → lt_ℚ zero_ℚ q ≡ b → abs_ℚ (neg_ℚ q) ≡ abs_ℚ q
    by true e = let h = lt_true zero_ℚ q e in
        abs_ℚ-neg (neg_ℚ q) (<ℚ-≤ℚ (below_zero q h)) ∙ ring rational (q ∷ []) (inv (inv (v 0))) (v 0) refl ∙ sym (abs_ℚ-is q (<ℚ-≤ℚ h))
    by false e = let h = negative q n e in
        abs_ℚ-is (neg_ℚ q) (<ℚ-≤ℚ (above_zero q h)) ∙ sym (abs_ℚ-neg q (<ℚ-≤ℚ h))

-- ---- the end of an entry with finite bounds
record IsEnd (f : Side) (a l u : Number) (e : Option Number) : Type 0 where
  end : Number
  finite : e ≡ Some end
  is : turned f end ≡ turned f a *ℚ best_bound (turned f a) l u

term_up : (a l u : Number) → zero_ℚ <ℚ a → least_term a (Some l) (Some u) ≡ Some (a *ℚ l)
unfolding least_term
term_up a l u h = ap (λ (b : Bool). if b then Some (a *ℚ l) else if lt_ℚ a zero_ℚ then Some (a *ℚ u) else Some zero_ℚ) (is_below zero_ℚ a h)

term_down : (a l u : Number) → a <ℚ zero_ℚ → least_term a (Some l) (Some u) ≡ Some (a *ℚ u)
unfolding least_term
term_down a l u h = ap₂ (λ (b c : Bool). if b then Some (a *ℚ l) else if c then Some (a *ℚ u) else Some zero_ℚ) (not_below zero_ℚ a h) (is_below a zero_ℚ h)

best_up : (a l u : Number) → zero_ℚ <ℚ a → best_bound a l u ≡ u
best_up a l u h = ap (λ (b : Bool). if b then u else l) (is_below zero_ℚ a h)

best_down : (a l u : Number) → a <ℚ zero_ℚ → best_bound a l u ≡ l
best_down a l u h = ap (λ (b : Bool). if b then u else l) (not_below zero_ℚ a h)

end_of : (f : Side) (s : Span) (l u : Number) → s.value ≢ zero_ℚ → s.lower ≡ Some l → s.upper ≡ Some u → IsEnd f s.value l u (end_at (extreme_of f) s)
end_of f s l u n p q = by f (lt_ℚ zero_ℚ s.value) refl
  where
    a : Number
    a = s.value

    by : (f : Side) (b : Bool) → lt_ℚ zero_ℚ a ≡ b → IsEnd f a l u (end_at (extreme_of f) s)
    by Upper true e = let h = lt_true zero_ℚ a e in record {
      end = a *ℚ u;
      finite = ap₂ (greatest_term a) p q ∙ term_up a u l h;
      is = ap (λ x. a *ℚ x) (sym (best_up a l u h));
    }
    by Upper false e = let h = negative a n e in record {
      end = a *ℚ l;
      finite = ap₂ (greatest_term a) p q ∙ term_down a u l h;
      is = ap (λ x. a *ℚ x) (sym (best_down a l u h));
    }
    by Lower true e = let h = lt_true zero_ℚ a e in record {
      end = a *ℚ l;
      finite = ap₂ (least_term a) p q ∙ term_up a l u h;
      is = ring rational (a ∷ l ∷ []) (inv (v 0 :* v 1)) (inv (v 0) :* v 1) refl ∙ ap (λ x. neg_ℚ a *ℚ x) (sym (best_down (neg_ℚ a) l u (below_zero a h)));
    }
    by Lower false e = let h = negative a n e in record {
      end = a *ℚ u;
      finite = ap₂ (least_term a) p q ∙ term_down a l u h;
      is = ring rational (a ∷ u ∷ []) (inv (v 0 :* v 1)) (inv (v 0) :* v 1) refl ∙ ap (λ x. neg_ℚ a *ℚ x) (sym (best_up (neg_ℚ a) l u (above_zero a h)));
    }

-- ---- what a row with a coefficient that is tightened passes its side by
turned_sum : (f : Side) (x y : Number) → turned f (x +ℚ y) ≡ turned f x +ℚ turned f y
turned_sum Lower x y = ring rational (x ∷ y ∷ []) (inv (v 0 :+ v 1)) (inv (v 0) :+ inv (v 1)) refl
turned_sum Upper x y = refl

-- the excess and the slack come to the coefficient
both_come : (a b h l u d : Number) → (if lt_ℚ zero_ℚ a then b -ℚ h -ℚ a *ℚ (u -ℚ one_ℚ) else b -ℚ h -ℚ a *ℚ (l +ℚ one_ℚ)) ≡ d → a *ℚ best_bound a l u +ℚ h -ℚ b ≡ abs_ℚ a -ℚ d
both_come a b h l u d e = by (lt_ℚ zero_ℚ a) refl e
  where
    up : abs_ℚ a ≡ a → b -ℚ h -ℚ a *ℚ (u -ℚ one_ℚ) ≡ d → a *ℚ u +ℚ h -ℚ b ≡ abs_ℚ a -ℚ d
    up g k = ring rational (a ∷ b ∷ h ∷ u ∷ []) (v 0 :* v 3 :+ v 2 :- v 1) (v 0 :- (v 1 :- v 2 :- v 0 :* (v 3 :- num (pos 1)))) refl ∙ ap₂ (λ x y. x -ℚ y) (sym g) k

    down : abs_ℚ a ≡ neg_ℚ a → b -ℚ h -ℚ a *ℚ (l +ℚ one_ℚ) ≡ d → a *ℚ l +ℚ h -ℚ b ≡ abs_ℚ a -ℚ d
    down g k = ring rational (a ∷ b ∷ h ∷ l ∷ []) (v 0 :* v 3 :+ v 2 :- v 1) (inv (v 0) :- (v 1 :- v 2 :- v 0 :* (v 3 :+ num (pos 1)))) refl ∙ ap₂ (λ x y. x -ℚ y) (sym g) k

    by : (c : Bool) → lt_ℚ zero_ℚ a ≡ c → (if c then b -ℚ h -ℚ a *ℚ (u -ℚ one_ℚ) else b -ℚ h -ℚ a *ℚ (l +ℚ one_ℚ)) ≡ d → a *ℚ (if c then u else l) +ℚ h -ℚ b ≡ abs_ℚ a -ℚ d
    by true f k = up (abs_ℚ-is a (<ℚ-≤ℚ (lt_true zero_ℚ a f))) k
    by false f k = down (abs_ℚ-neg a (lt_false zero_ℚ a f)) k

pub record IsWithin (f : Side) (b : Number) (j : ℕ) (ss : List Span) (e : Option Number) : Type 0 where
  pub most : Number
  pub finite : e ≡ Some most
  pub span : Span
  pub entry : entry_at j ss ≡ Some span
  pub positive : zero_ℚ <ℚ (turned f most -ℚ turned f b)
  pub below : (turned f most -ℚ turned f b) <ℚ abs_ℚ span.value

pub within : (f : Side) (b : Number) (j : ℕ) (ss : List Span) (t : Tightening) (e : Option Number) → AreSpans 0 ss → tightened_in f b j ss ≡ Some t → activity (extreme_of f) ss ≡ Ok e → IsWithin f b j ss e
within f b j ss t e a g k =
    let c = is_given Span Tightening (entry_at j ss) (λ s. tightened_at f b s (rest (extreme_of f) j ss)) t g in
    let s : Span = c.value in
    let m = is_given (Number × Number) Tightening (whole_bounds s.lower s.upper (not s.semi && s.whole)) (λ bounds. given (if_finite (rest (extreme_of f) j ss)) (λ h. tightened_by f (turned f s.value) (turned f b) (turned f h) bounds.0 bounds.1)) t c.after in
    let l : Number = m.value.0 in
    let u : Number = m.value.1 in
    let n = is_given Number Tightening (if_finite (rest (extreme_of f) j ss)) (λ h. tightened_by f (turned f s.value) (turned f b) (turned f h) l u) t m.after in
    let h : Number = n.value in
    let r = is_given Number Tightening (if_made (slack (turned f s.value) (turned f b) (turned f h) l u)) (λ d. if_short (told f s.value b l u h d)) t n.after in
    let d : Number = r.value in
    let short = is_short (told f s.value b l u h d) t r.after in
    let bounds = are_bounds s.lower s.upper (not s.semi && s.whole) m.value m.there in
    let there = part (extreme_of f) 0 j ss s a c.there in
    let ended = end_of f s l u there.nonzero bounds.lower bounds.upper in
    let left : Some h ≡ plain_sum (ends_at (extreme_of f) (others j ss)) = plain_of (ends_at (extreme_of f) (others j ss)) (Some h) (finite_is (rest (extreme_of f) j ss) h n.there) in
    let excess : turned f (ended.end +ℚ h) -ℚ turned f b ≡ abs_ℚ (turned f s.value) -ℚ d =
    ap (λ x. x -ℚ turned f b) (turned_sum f ended.end h ∙ ap (λ x. x +ℚ turned f h) ended.is) ∙ both_come (turned f s.value) (turned f b) (turned f h) l u d (slack_is (turned f s.value) (turned f b) (turned f h) l u d r.there) in
    record {
      most = ended.end +ℚ h;
      finite = plain_of (ends_at (extreme_of f) ss) e k ∙ there.sum ∙ ap₂ plus ended.finite (sym left);
      span = s;
      entry = c.there;
      positive = subst (λ x. zero_ℚ <ℚ x) (sym excess) (less d (abs_ℚ (turned f s.value)) short.below);
      below = subst (λ x. x <ℚ abs_ℚ s.value) (sym excess) (subst (λ x. (abs_ℚ (turned f s.value) -ℚ d) <ℚ x) (turned_abs f s.value there.nonzero) (lessened d (abs_ℚ (turned f s.value)) short.positive));
    }
  where
    less : (d x : Number) → d <ℚ x → zero_ℚ <ℚ (x -ℚ d)
    less d x h = strictly d x zero_ℚ (x -ℚ d) (ring rational (d ∷ x ∷ []) (v 0 :- v 1) (num (pos 0) :- (v 1 :- v 0)) refl) h

    lessened : (d x : Number) → zero_ℚ <ℚ d → (x -ℚ d) <ℚ x
    lessened d x h = strictly zero_ℚ d (x -ℚ d) x (ring rational (d ∷ x ∷ []) (num (pos 0) :- v 0) ((v 1 :- v 0) :- v 1) refl) h
