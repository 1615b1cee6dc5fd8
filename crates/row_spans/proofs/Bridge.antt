-- Sums over a row's terms are the activities of linear programs.
use Rattle.std.proofs.Common.{◌≡◌, ◌≢◌, ℕ, zero, suc, ◌<◌, ◌≤◌, length, pos, Bool, true, false, not, cond, nat_eq, ◌&&◌, List, [], ◌∷◌, map, Option, Some, None, sym, refl, ap, ap₂, ◌∙◌, arith, ◌⊎◌, inl, inr, Result, Ok, Err}
use Rattle.std.specs.Prelude.{if◌then◌else◌}
use Rattle.std.specs.List.{All}
use Rattle.std.proofs.lemmas.Bool.{eq-eqb, ne_eqb, cases_eq, true≢false}
use Rattle.std.proofs.lemmas.List.Elements.{All-head, All-tail, All-nil, All-cons, All-filter}
use Rattle.fractions.specs.Ring.{ring, v, num, ◌:+◌}
use Rattle.fractions.specs.Number.{Number, rational, ◌+ℚ◌, zero_ℚ}
use Rattle.fractions.specs.Ends.{plus, scaled}
use Rattle.fractions.specs.Compare.{lt_ℚ}
use Rattle.fractions.specs.Signs.{<ℚ-irrefl}
use Rattle.fractions.specs.Comparisons.{lt_ℚ-is}
use Rattle.fractions.specs.Total.{put}
use Rattle.fractions.proofs.Totals.{put-same, put-other, at_or_off}
use Rattle.fractions.specs.declared.Past.{Past}
use Rattle.lp_model.specs.declared.terms.Term.{Term}
use Rattle.lp_model.specs.Sparse.{Ascends, dense}
use Rattle.lp_model.specs.LinearProgram.{LinearProgram}
use Rattle.lp_theory.specs.Activities.{total_ends, least_term, greatest_term}
use Rattle.problem_model.specs.Problems.{row_at, column_at, bounds_at, row_entries, IsSparse}
use Rattle.problem_model.specs.Showing.{end_if, shown, reach_low, reach_high}
use Rattle.problem_model.specs.Sparse.{Sparse}
use Rattle.problem_laws.proofs.Entries.{dense-live_only, row_entries-live, row_entries-ascend}
use Rattle.row_spans.specs.declared.span.Span.{Span}
use Rattle.row_spans.specs.declared.span.Extreme.{Extreme}
use Rattle.row_spans.specs.declared.span.Extreme.TheVariants.{Least, Greatest}
use Rattle.row_spans.specs.Exact.{fits, sum_fits, if_room, exact_sum, as_end, past}
use Rattle.row_spans.specs.Spans.{span_of, spans_of, end_at, ends_at, others, AreSpans}
use Rattle.row_spans.specs.RowSums.{all_finite, continued, sum_from, row_sum, activity, rest}
use Rattle.row_spans.proofs.Reading.{spans_of-are}

-- ---- sums of ends, without room
abbrev pub plain_sum : List (Option Number) → Option Number
plain_sum [] = Some zero_ℚ
plain_sum (e ∷ es) = plus e (plain_sum es)

plain_infinite : (es : List (Option Number)) → all_finite es ≡ false → plain_sum es ≡ None
plain_infinite [] f = absurd (true≢false f)
plain_infinite (None ∷ es) f = refl
plain_infinite (Some q ∷ es) f = ap (plus (Some q)) (plain_infinite es f)

ok_is : {A : Type 0} (x y : A) → ◌≡◌ {A = Result A Past} (Ok x) (Ok y) → x ≡ y
ok_is x y e = cc

err_not : {A B : Type 0} (y : A) (e : Past) → ◌≡◌ {A = Result A Past} (Err e) (Ok y) → B
err_not y e h = absurd (cc)

plain_from : (s t : Number) (es : List (Option Number)) → all_finite es ≡ true → sum_from s es ≡ Ok t → Some t ≡ plus (Some s) (plain_sum es)
plain_from s t [] f h = ap Some (sym (ok_is s t h) ∙ ring rational (s ∷ []) (v 0) (v 0 :+ num (pos 0)) refl)
plain_from s t (None ∷ es) f h = absurd (true≢false (sym f))
plain_from s t (Some q ∷ es) f h = by (fits q) h (λ r. plain_from (s +ℚ q) t es f r)
  where
    again : (o : Option Number) → plus (Some (s +ℚ q)) o ≡ plus (Some s) (plus (Some q) o)
    again None = refl
    again (Some r) = ap Some (ring rational (s ∷ q ∷ r ∷ []) ((v 0 :+ v 1) :+ v 2) (v 0 :+ (v 1 :+ v 2)) refl)

    sum : (b : Bool) → continued (if_room b (s +ℚ q)) (λ r. sum_from r es) ≡ Ok t → (sum_from (s +ℚ q) es ≡ Ok t → Some t ≡ plus (Some (s +ℚ q)) (plain_sum es)) → Some t ≡ plus (Some s) (plus (Some q) (plain_sum es))
    sum true h ih = ih h ∙ again (plain_sum es)
    sum false h ih = err_not t past h

    by : (a : Bool) → continued (continued (if_room a q) (exact_sum s)) (λ r. sum_from r es) ≡ Ok t → (sum_from (s +ℚ q) es ≡ Ok t → Some t ≡ plus (Some (s +ℚ q)) (plain_sum es)) → Some t ≡ plus (Some s) (plus (Some q) (plain_sum es))
    by true h ih = sum (sum_fits s q) h ih
    by false h ih = err_not t past h

pub plain_of : (es : List (Option Number)) (e : Option Number) → row_sum es ≡ Ok e → e ≡ plain_sum es
plain_of es e h = by (all_finite es) refl h
  where
    zero_plus : (o : Option Number) → plus (Some zero_ℚ) o ≡ o
    zero_plus None = refl
    zero_plus (Some r) = ap Some (ring rational (r ∷ []) (num (pos 0) :+ v 0) (v 0) refl)

    known : (r : Result Number Past) → sum_from zero_ℚ es ≡ r → all_finite es ≡ true → as_end r ≡ Ok e → e ≡ plain_sum es
    known (Ok t) g f h = sym (ok_is (Some t) e h) ∙ plain_from zero_ℚ t es f g ∙ zero_plus (plain_sum es)
    known (Err x) g f h = err_not e x h

    by : (b : Bool) → all_finite es ≡ b → (if b then as_end (sum_from zero_ℚ es) else Ok None) ≡ Ok e → e ≡ plain_sum es
    by true f h = known (sum_from zero_ℚ es) refl f h
    by false f h = sym (ok_is None e h) ∙ sym (plain_infinite es f)

-- ---- over all columns
plus_swap : (a b c : Option Number) → plus (plus a b) c ≡ plus b (plus a c)
plus_swap None None c = refl
plus_swap None (Some y) c = refl
plus_swap (Some x) None c = refl
plus_swap (Some x) (Some y) None = refl
plus_swap (Some x) (Some y) (Some z) = ap Some (ring rational (x ∷ y ∷ z ∷ []) ((v 0 :+ v 1) :+ v 2) (v 1 :+ (v 0 :+ v 2)) refl)

plus_end_comm : (a b : Option Number) → plus a b ≡ plus b a
plus_end_comm None None = refl
plus_end_comm None (Some y) = refl
plus_end_comm (Some x) None = refl
plus_end_comm (Some x) (Some y) = ap Some (ring rational (x ∷ y ∷ []) (v 0 :+ v 1) (v 1 :+ v 0) refl)

plus_zero : (a : Option Number) → plus a (Some zero_ℚ) ≡ a
plus_zero None = refl
plus_zero (Some x) = ap Some (ring rational (x ∷ []) (v 0 :+ num (pos 0)) (v 0) refl)

plus_assoc : (a b c : Option Number) → plus (plus a b) c ≡ plus a (plus b c)
plus_assoc a b c = ap (λ x. plus x c) (plus_end_comm a b) ∙ plus_swap b a c

pub total_ends_same : (n : ℕ) (f g : ℕ → Option Number) → ((k : ℕ) → k < n → f k ≡ g k) → total_ends n f ≡ total_ends n g
unfolding total_ends
total_ends_same zero f g h = refl
total_ends_same (suc n) f g h = ap₂ plus (total_ends_same n f g (λ k l. h k (omega arith))) (h n (omega arith))

total_ends_zero : (n : ℕ) → total_ends n (λ k. Some zero_ℚ) ≡ Some zero_ℚ
unfolding total_ends
total_ends_zero zero = refl
total_ends_zero (suc n) = ap (λ e. plus e (Some zero_ℚ)) (total_ends_zero n) ∙ plus_zero (Some zero_ℚ)

total_ends-put : (n : ℕ) (f : ℕ → Option Number) (j : ℕ) (e : Option Number) → j < n → f j ≡ Some zero_ℚ → total_ends n (put f j e) ≡ plus e (total_ends n f)
unfolding total_ends
total_ends-put zero f j e l z = absurd (omega arith)
total_ends-put (suc n) f j e l z = by (cases_eq n j) (λ m. total_ends-put n f j e m z)
  where
    by : (n ≡ j) ⊎ (n ≢ j) → (j < n → total_ends n (put f j e) ≡ plus e (total_ends n f)) → plus (total_ends n (put f j e)) (put f j e n) ≡ plus e (plus (total_ends n f) (f n))
    by (inl q) ih =
        ap₂ plus (total_ends_same n (put f j e) f (λ k m. put-other f j e k (omega arith))) (ap (put f j e) q ∙ put-same f j e)
        ∙ plus_end_comm (total_ends n f) e
        ∙ ap (plus e) (sym (ap (plus (total_ends n f)) (ap f q ∙ z) ∙ plus_zero (total_ends n f)))
    by (inr m) ih = ap₂ plus (ih (omega arith)) (put-other f j e n m) ∙ plus_assoc e (total_ends n f) (f n)

-- the end that each column gives
abbrev pub ends_dense : Extreme → List Span → ℕ → Option Number
ends_dense x [] = λ k. Some zero_ℚ
ends_dense x (s ∷ ss) = put (ends_dense x ss) s.id (end_at x s)

dense_below : (x : Extreme) (ss : List Span) (m k : ℕ) → AreSpans m ss → k < m → ends_dense x ss k ≡ Some zero_ℚ
dense_below x [] m k a l = refl
dense_below x (s ∷ ss) m k a l = let n : k ≢ s.id = omega (arith, a.0) in put-other (ends_dense x ss) s.id (end_at x s) k n ∙ dense_below x ss (suc s.id) k a.2 (omega (arith, a.0))

total_dense : (x : Extreme) (ss : List Span) (m n : ℕ) → AreSpans m ss → All (λ s. s.id < n) ss → total_ends n (ends_dense x ss) ≡ plain_sum (ends_at x ss)
total_dense x [] m n a b = total_ends_zero n
total_dense x (s ∷ ss) m n a b =
    total_ends-put n (ends_dense x ss) s.id (end_at x s) (All-head (λ s. s.id < n) s ss b) (dense_below x ss (suc s.id) s.id a.2 (omega arith))
    ∙ ap (plus (end_at x s)) (total_dense x ss (suc s.id) n a.2 (All-tail (λ s. s.id < n) s ss b))

-- one column left out
others_dense : (x : Extreme) (j : ℕ) (ss : List Span) (k : ℕ) → ends_dense x (others j ss) k ≡ put (ends_dense x ss) j (Some zero_ℚ) k
others_dense x j [] k = by (cases_eq k j)
  where
    by : (k ≡ j) ⊎ (k ≢ j) → Some zero_ℚ ≡ put (λ k. Some zero_ℚ) j (Some zero_ℚ) k
    by (inl e) = sym (ap (put (λ k. Some zero_ℚ) j (Some zero_ℚ)) e ∙ put-same (λ k. Some zero_ℚ) j (Some zero_ℚ))
    by (inr n) = sym (put-other (λ k. Some zero_ℚ) j (Some zero_ℚ) k n)
others_dense x j (s ∷ ss) k = by (cases_eq s.id j) (cases_eq k j) (cases_eq k s.id) (others_dense x j ss k)
  where
    out : (b : Bool) → nat_eq s.id j ≡ b → others j (s ∷ ss) ≡ (if not b then s ∷ others j ss else others j ss)
    out b e = ap (λ (b : Bool). if not b then s ∷ others j ss else others j ss) e

    all : ℕ → Option Number
    all = put (ends_dense x ss) s.id (end_at x s)

    left : s.id ≡ j → others j (s ∷ ss) ≡ others j ss
    left e = out true (eq-eqb s.id j e)

    kept : s.id ≢ j → others j (s ∷ ss) ≡ s ∷ others j ss
    kept n = out false (ne_eqb s.id j n)

    by : (s.id ≡ j) ⊎ (s.id ≢ j) → (k ≡ j) ⊎ (k ≢ j) → (k ≡ s.id) ⊎ (k ≢ s.id) → ends_dense x (others j ss) k ≡ put (ends_dense x ss) j (Some zero_ℚ) k
        → ends_dense x (others j (s ∷ ss)) k ≡ put (put (ends_dense x ss) s.id (end_at x s)) j (Some zero_ℚ) k
    by (inl e) (inl f) o ih =
        ap (λ (ts : List Span). ends_dense x ts k) (left e) ∙ ih
        ∙ ap (put (ends_dense x ss) j (Some zero_ℚ)) f ∙ put-same (ends_dense x ss) j (Some zero_ℚ)
        ∙ sym (ap (put all j (Some zero_ℚ)) f ∙ put-same all j (Some zero_ℚ))
    by (inl e) (inr n) o ih =
        ap (λ (ts : List Span). ends_dense x ts k) (left e) ∙ ih
        ∙ put-other (ends_dense x ss) j (Some zero_ℚ) k n
        ∙ sym (put-other all j (Some zero_ℚ) k n ∙ put-other (ends_dense x ss) s.id (end_at x s) k (λ f. n (f ∙ e)))
    by (inr m) (inl f) o ih =
        ap (λ (ts : List Span). ends_dense x ts k) (kept m)
        ∙ put-other (ends_dense x (others j ss)) s.id (end_at x s) k (λ g. m (sym g ∙ f)) ∙ ih
        ∙ ap (put (ends_dense x ss) j (Some zero_ℚ)) f ∙ put-same (ends_dense x ss) j (Some zero_ℚ)
        ∙ sym (ap (put all j (Some zero_ℚ)) f ∙ put-same all j (Some zero_ℚ))
    by (inr m) (inr n) (inl g) ih =
        ap (λ (ts : List Span). ends_dense x ts k) (kept m)
        ∙ ap (put (ends_dense x (others j ss)) s.id (end_at x s)) g ∙ put-same (ends_dense x (others j ss)) s.id (end_at x s)
        ∙ sym (put-other all j (Some zero_ℚ) k n ∙ ap all g ∙ put-same (ends_dense x ss) s.id (end_at x s))
    by (inr m) (inr n) (inr o) ih =
        ap (λ (ts : List Span). ends_dense x ts k) (kept m)
        ∙ put-other (ends_dense x (others j ss)) s.id (end_at x s) k o ∙ ih
        ∙ put-other (ends_dense x ss) j (Some zero_ℚ) k n
        ∙ sym (put-other all j (Some zero_ℚ) k n ∙ put-other (ends_dense x ss) s.id (end_at x s) k o)

-- ---- of a problem
abbrev pub end_of : Extreme → Number → Option Number → Option Number → Option Number
end_of Least a l u = least_term a l u
end_of Greatest a l u = greatest_term a l u

abbrev pub end_terms : Extreme → LinearProgram → ℕ → ℕ → Option Number
end_terms x M i k = end_of x (M.coefficient i k) (M.lower_bound k) (M.upper_bound k)

zero_term : (l u : Option Number) → least_term zero_ℚ l u ≡ Some zero_ℚ
unfolding least_term
zero_term l u = ap (λ (b : Bool). if b then scaled zero_ℚ l else if b then scaled zero_ℚ u else Some zero_ℚ) (none (lt_ℚ zero_ℚ zero_ℚ) refl)
  where
    none : (b : Bool) → lt_ℚ zero_ℚ zero_ℚ ≡ b → b ≡ false
    none true e = absurd (<ℚ-irrefl zero_ℚ ((lt_ℚ-is zero_ℚ zero_ℚ).0 e))
    none false e = refl

zero_end : (x : Extreme) (l u : Option Number) → end_of x zero_ℚ l u ≡ Some zero_ℚ
zero_end Least l u = zero_term l u
zero_end Greatest l u = zero_term u l

live_ends : (p : Sparse) (x : Extreme) (ts : List Term) → All (λ t. (column_at p t.id).live ≡ true) ts → (k : ℕ)
    → ends_dense x (map (span_of p) ts) k ≡ end_of x (dense ts k) (end_if (column_at p k).live (reach_low (bounds_at p k))) (end_if (column_at p k).live (reach_high (bounds_at p k)))
live_ends p x [] h k = sym (zero_end x _ _)
live_ends p x (t ∷ ts) h k = by (cases_eq k t.id) (live_ends p x ts (All-tail (λ t. (column_at p t.id).live ≡ true) t ts h) k)
  where
    lower : ℕ → Option Number
    lower m = end_if (column_at p m).live (reach_low (bounds_at p m))

    upper : ℕ → Option Number
    upper m = end_if (column_at p m).live (reach_high (bounds_at p m))

    here : (x : Extreme) (b : Bool) → b ≡ true → end_at x (span_of p t) ≡ end_of x t.value (end_if b (reach_low (bounds_at p t.id))) (end_if b (reach_high (bounds_at p t.id)))
    here Least true e = refl
    here Greatest true e = refl
    here x false e = absurd (true≢false (sym e))

    by : (k ≡ t.id) ⊎ (k ≢ t.id) → ends_dense x (map (span_of p) ts) k ≡ end_of x (dense ts k) (lower k) (upper k)
        → put (ends_dense x (map (span_of p) ts)) t.id (end_at x (span_of p t)) k ≡ end_of x (put (dense ts) t.id t.value k) (lower k) (upper k)
    by (inl e) ih =
        ap (put (ends_dense x (map (span_of p) ts)) t.id (end_at x (span_of p t))) e ∙ put-same (ends_dense x (map (span_of p) ts)) t.id (end_at x (span_of p t))
        ∙ here x (column_at p t.id).live (All-head (λ t. (column_at p t.id).live ≡ true) t ts h)
        ∙ sym (ap (λ m. end_of x (put (dense ts) t.id t.value m) (lower m) (upper m)) e ∙ ap (λ a. end_of x a (lower t.id) (upper t.id)) (put-same (dense ts) t.id t.value))
    by (inr n) ih =
        put-other (ends_dense x (map (span_of p) ts)) t.id (end_at x (span_of p t)) k n ∙ ih
        ∙ ap (λ a. end_of x a (lower k) (upper k)) (sym (put-other (dense ts) t.id t.value k n))

-- the terms of a live row
pub shown_terms : (p : Sparse) (i : ℕ) (x : Extreme) → (row_at p i).live ≡ true → (k : ℕ) → ends_dense x (spans_of p i) k ≡ end_terms x (shown p) i k
shown_terms p i x live k =
    live_ends p x (row_entries p i) (row_entries-live p i) k
    ∙ ap (λ a. end_of x a ((shown p).lower_bound k) ((shown p).upper_bound k)) (dense-live_only p.matrix.columns k (row_at p i).entries ∙ ap (λ (b : Bool). if b && (column_at p k).live then dense (row_at p i).entries k else zero_ℚ) (sym live))

spans_below : (p : Sparse) (ts : List Term) (m n : ℕ) → Ascends m n ts → All (λ s. s.id < n) (map (span_of p) ts)
spans_below p [] m n a = All-nil (λ s. s.id < n)
spans_below p (t ∷ ts) m n a = All-cons (λ s. s.id < n) (span_of p t) (map (span_of p) ts) a.1 (spans_below p ts (suc t.id) n a.3)

pub activity-is : (p : Sparse) (i : ℕ) (x : Extreme) (e : Option Number) → IsSparse p → (row_at p i).live ≡ true → activity x (spans_of p i) ≡ Ok e → e ≡ total_ends (length p.matrix.columns) (end_terms x (shown p) i)
activity-is p i x e s live h =
    plain_of (ends_at x (spans_of p i)) e h
    ∙ sym (total_dense x (spans_of p i) 0 (length p.matrix.columns) (spans_of-are p i s) (spans_below p (row_entries p i) 0 (length p.matrix.columns) (row_entries-ascend p i s)))
    ∙ total_ends_same (length p.matrix.columns) (ends_dense x (spans_of p i)) (end_terms x (shown p) i) (λ k l. shown_terms p i x live k)

others-are : (j m : ℕ) (ss : List Span) → AreSpans m ss → AreSpans m (others j ss)
others-are j m [] a = tt
others-are j m (s ∷ ss) a = by (nat_eq s.id j) (others-are j (suc s.id) ss a.2)
  where
    wider : (m n : ℕ) (us : List Span) → m ≤ n → AreSpans n us → AreSpans m us
    wider m n [] l b = tt
    wider m n (u ∷ us) l b = (omega (arith, b.0), b.1, b.2)

    by : (b : Bool) → AreSpans (suc s.id) (others j ss) → AreSpans m (cond (not b) (s ∷ others j ss) (others j ss))
    by true ih = wider m (suc s.id) (others j ss) (omega (arith, a.0)) ih
    by false ih = (a.0, a.1, ih)

pub rest-is : (p : Sparse) (i j : ℕ) (x : Extreme) (e : Option Number) → IsSparse p → (row_at p i).live ≡ true → rest x j (spans_of p i) ≡ Ok e
    → e ≡ total_ends (length p.matrix.columns) (put (end_terms x (shown p) i) j (Some zero_ℚ))
rest-is p i j x e s live h =
    let n : ℕ = length p.matrix.columns in
    plain_of (ends_at x (others j (spans_of p i))) e h
    ∙ sym (total_dense x (others j (spans_of p i)) 0 n (others-are j 0 (spans_of p i) (spans_of-are p i s))
    (All-filter (λ s. not (nat_eq s.id j)) (λ s. s.id < n) (spans_of p i) (spans_below p (row_entries p i) 0 n (row_entries-ascend p i s))))
    ∙ total_ends_same n (ends_dense x (others j (spans_of p i))) (put (end_terms x (shown p) i) j (Some zero_ℚ)) (λ k l. others_dense x j (spans_of p i) k
    ∙ at_or_off (λ m. put (ends_dense x (spans_of p i)) j (Some zero_ℚ) m ≡ put (end_terms x (shown p) i) j (Some zero_ℚ) m) j
    (put-same (ends_dense x (spans_of p i)) j (Some zero_ℚ) ∙ sym (put-same (end_terms x (shown p) i) j (Some zero_ℚ)))
    (λ m f. put-other (ends_dense x (spans_of p i)) j (Some zero_ℚ) m f ∙ shown_terms p i x live m ∙ sym (put-other (end_terms x (shown p) i) j (Some zero_ℚ) m f)) k)
