-- What is kept of rows, from one problem to the next.
use Rattle.std.proofs.Common.{◌≡◌, ◌≢◌, ℕ, zero, suc, ◌<◌, ◌≤◌, Bool, true, false, List, [], ◌∷◌, ◌++◌, map, length, Option, Some, None, IfSome, slice_set, refl, sym, ap, ◌∙◌, ◌⊎◌, inl, inr, subst, arith, get_or, take, drop, ◌-◌}
use Rattle.std.specs.Prelude.{if◌then◌else◌}
use Rattle.std.specs.List.{All}
use Rattle.std.proofs.lemmas.Bool.{cases_lt}
use Rattle.std.proofs.lemmas.List.{get_or-set_same, get_or-set_other, get_or_default, get_or_past, length-set}
use Rattle.std.proofs.lemmas.List.Elements.{All-head, All-tail, filter-append}
use Rattle.std.proofs.Math.Seq.{take-length}
use Rattle.fractions.specs.Number.{Number, zero_ℚ}
use Rattle.fractions.proofs.Totals.{at_or_off}
use Rattle.lp_model.specs.declared.terms.Term.{Term}
use Rattle.lp_model.specs.Sparse.{Ascends, dense, has}
use Rattle.problem_model.specs.Edits.{bounds_set, column_deleted, row_deleted}
use Rattle.problem_model.specs.declared.line.Line.{Line}
use Rattle.problem_model.specs.Matrices.{line_at, live_only, no_line}
use Rattle.problem_model.specs.Problems.{IsSparse, bounds_at, column_at, row_at}
use Rattle.problem_model.specs.Sparse.{Sparse}
use Rattle.row_spans.specs.declared.span.Span.{Span}
use Rattle.row_spans.specs.Spans.{span_of, spans_among, spans_of}
use Rattle.kept_sums.specs.KeptSums.{AreSumsOf, HaveRoom}
use Rattle.kept_sums.specs.declared.kept.KeptSums.{KeptSums}
use Rattle.problem_laws.proofs.AtIds.{column_inside}
use Rattle.problem_laws.proofs.Terms.{has-cons_same, has-cons_other, has-below, terms_tell}
use Rattle.sparse_problem.specs.KeptRows.{AreBetween, AreKept, AreKeptBut, kept_at, span_within, spans_between}
use Rattle.sparse_problem.proofs.Splitting.{map-++}
use Rattle.sparse_problem.proofs.Rows.{entry_split, moved_unnamed, moved_before, moved_after, deleted_unnamed, deleted_after, row_deleted_other}

-- ---- sums of terms
pub room_of : (ss : List Span) (k : KeptSums) → AreSumsOf ss k → HaveRoom k
room_of ss k h = record { least = record { positive = h.least.positive; short = h.least.short }; greatest = record { positive = h.greatest.positive; short = h.greatest.short } }

pub spans_more : (p : Sparse) (ts us : List Term) → spans_among p (ts ++ us) ≡ spans_among p ts ++ spans_among p us
spans_more p ts us = ap (map (span_of p)) (filter-append (λ t. (line_at p.matrix.columns t.id).live) ts us) ∙ map-++ (span_of p) (live_only p.matrix.columns ts) (live_only p.matrix.columns us)

pub spans_more_live : (p : Sparse) (ts : List Term) (t : Term) → (column_at p t.id).live ≡ true → spans_among p (ts ++ t ∷ []) ≡ spans_among p ts ++ span_of p t ∷ []
spans_more_live p ts t h = spans_more p ts (t ∷ []) ∙ ap (λ (b : Bool). spans_among p ts ++ map (span_of p) (if b then t ∷ [] else [])) h

nothing_more : (ss : List Span) → ss ++ [] ≡ ss
nothing_more [] = refl
nothing_more (s ∷ ss) = ap (λ (x : List Span). s ∷ x) (nothing_more ss)

pub spans_more_gone : (p : Sparse) (ts : List Term) (t : Term) → (column_at p t.id).live ≡ false → spans_among p (ts ++ t ∷ []) ≡ spans_among p ts
spans_more_gone p ts t h = spans_more p ts (t ∷ []) ∙ ap (λ (b : Bool). spans_among p ts ++ map (span_of p) (if b then t ∷ [] else [])) h ∙ nothing_more (spans_among p ts)

pub sums_more : (p : Sparse) (ts : List Term) (t : Term) (j k : KeptSums) → (column_at p t.id).live ≡ true
    → ((a b : List Span) → AreSumsOf (a ++ b) j → AreSumsOf (a ++ span_of p t ∷ b) k) → AreSumsOf (spans_among p ts) j → AreSumsOf (spans_among p (ts ++ t ∷ [])) k
sums_more p ts t j k live f h = subst (λ (ss : List Span). AreSumsOf ss k) (sym (spans_more_live p ts t live))
    (f (spans_among p ts) [] (subst (λ (ss : List Span). AreSumsOf ss j) (sym (nothing_more (spans_among p ts))) h))

pub sums_no_more : (p : Sparse) (ts : List Term) (t : Term) (k : KeptSums) → (column_at p t.id).live ≡ false → AreSumsOf (spans_among p ts) k → AreSumsOf (spans_among p (ts ++ t ∷ [])) k
sums_no_more p ts t k gone h = subst (λ (ss : List Span). AreSumsOf ss k) (sym (spans_more_gone p ts t gone)) h

-- ---- one of the places is written anew
put_kept : (P : ℕ → KeptSums → Type 0) (ks : List (Option KeptSums)) (i : ℕ) (s : Option KeptSums) → IfSome s (P i) → ((m : ℕ) → m ≢ i → IfSome (kept_at ks m) (P m))
    → (m : ℕ) → IfSome (kept_at (slice_set ks i s) m) (P m)
put_kept P ks i s here off = at_or_off (λ m. IfSome (kept_at (slice_set ks i s) m) (P m)) i (by (cases_lt i (length ks)))
    (λ m n. subst (λ o. IfSome o (P m)) (sym (get_or-set_other ks i m s None n)) (off m n))
  where
    by : (i < length ks) ⊎ (length ks ≤ i) → IfSome (kept_at (slice_set ks i s) i) (P i)
    by (inl l) = subst (λ o. IfSome o (P i)) (sym (get_or-set_same ks i s None l)) here
    by (inr g) = subst (λ o. IfSome o (P i)) (sym (get_or_past (slice_set ks i s) i None (subst (λ (n : ℕ). n ≤ i) (sym (length-set ks i s)) g))) tt

-- ---- nothing is kept
pub none_pushed : (ks : List (Option KeptSums)) → ((i : ℕ) → kept_at ks i ≡ None) → (i : ℕ) → kept_at (ks ++ None ∷ []) i ≡ None
none_pushed [] h zero = refl
none_pushed [] h (suc i) = refl
none_pushed (k ∷ ks) h zero = h zero
none_pushed (k ∷ ks) h (suc i) = none_pushed ks (λ m. h (suc m)) i

pub none_kept : (p : Sparse) (ks : List (Option KeptSums)) → ((i : ℕ) → kept_at ks i ≡ None) → AreKept p ks
unfolding AreKept
none_kept p ks h i = subst (λ o. IfSome o (AreSumsOf (spans_of p i))) (sym (h i)) tt

-- ---- nothing is kept of a row
pub forgotten : (q : Sparse) (t : Term) (ts : List Term) (ks : List (Option KeptSums)) → AreKeptBut q (t ∷ ts) ks → AreKeptBut q ts (slice_set ks t.id None)
unfolding AreKeptBut
forgotten q t ts ks h m e = at_end (kept_at (slice_set ks t.id None) m) (put_kept (λ m k. has m ts ≡ false → AreSumsOf (spans_of q m) k) ks t.id None tt (λ m n. each (kept_at ks m) m n (h m)) m)
  where
    each : (o : Option KeptSums) (m : ℕ) → m ≢ t.id → (has m (t ∷ ts) ≡ false → IfSome o (AreSumsOf (spans_of q m))) → IfSome o (λ k. has m ts ≡ false → AreSumsOf (spans_of q m) k)
    each None m n f = tt
    each (Some k) m n f = λ e. f (has-cons_other m t ts (λ d. n (sym d)) ∙ e)

    at_end : (o : Option KeptSums) → IfSome o (λ k. has m ts ≡ false → AreSumsOf (spans_of q m) k) → IfSome o (AreSumsOf (spans_of q m))
    at_end None f = tt
    at_end (Some k) f = f e

pub all_forgotten : (q : Sparse) (ks : List (Option KeptSums)) → AreKeptBut q [] ks → AreKept q ks
unfolding AreKeptBut AreKept
all_forgotten q ks h i = h i refl

-- rows that are as they were
pub kept_same : (p q : Sparse) (ks : List (Option KeptSums)) → ((i : ℕ) → spans_of q i ≡ spans_of p i) → AreKept p ks → AreKept q ks
unfolding AreKept
kept_same p q ks e h i = subst (λ (ss : List Span). IfSome (kept_at ks i) (AreSumsOf ss)) (sym (e i)) (h i)

pub kept_but : (p q : Sparse) (ts : List Term) (ks : List (Option KeptSums)) → ((i : ℕ) → has i ts ≡ false → spans_of q i ≡ spans_of p i) → AreKept p ks → AreKeptBut q ts ks
unfolding AreKept AreKeptBut
kept_but p q ts ks e h i f = subst (λ (ss : List Span). IfSome (kept_at ks i) (AreSumsOf ss)) (sym (e i f)) (h i)

pub kept_at_row : (p : Sparse) (ks : List (Option KeptSums)) (i : ℕ) → AreKept p ks → IfSome (kept_at ks i) (AreSumsOf (spans_of p i))
unfolding AreKept
kept_at_row p ks i h = h i

-- a row of which other sums are kept
pub kept_put : (p : Sparse) (ks : List (Option KeptSums)) (i : ℕ) (s : Option KeptSums) → AreKept p ks → IfSome s (AreSumsOf (spans_of p i)) → AreKept p (slice_set ks i s)
unfolding AreKept
kept_put p ks i s h f = put_kept (λ m k. AreSumsOf (spans_of p m) k) ks i s f (λ m n. h m)

pub row_gone_kept : (p : Sparse) (i : ℕ) (ks : List (Option KeptSums)) → AreKept p ks → AreKept (row_deleted p i) (slice_set ks i None)
unfolding AreKept
row_gone_kept p i ks h = put_kept (λ m k. AreSumsOf (spans_of (row_deleted p i) m) k) ks i None tt
    (λ m n. subst (λ (ss : List Span). IfSome (kept_at ks m) (AreSumsOf ss)) (sym (row_deleted_other p i m n)) (h m))

-- ---- the first of terms, and those after it
pub after_is : (t : Term) (rs : List Term) → 1 ≤ length rs → t ≡ get_or rs 0 t → t ∷ take (length rs - 1) (drop 1 rs) ≡ rs
after_is t [] l e = absurd (omega (arith, l))
after_is t (u ∷ rs) l e = let n : length rs ≡ length (u ∷ rs) - 1 = omega arith in sym (ap (λ v. v ∷ rs) (sym e) ∙ ap (λ vs. t ∷ vs) (sym (take-length rs)) ∙ ap (λ m. t ∷ take m rs) n)

pub none_left : (rs : List Term) → length rs < 1 → rs ≡ []
none_left [] l = refl
none_left (r ∷ rs) l = absurd (omega (arith, l))

-- ---- on the way
between_ready : (p q : Sparse) (ts : List Term) (ks : List (Option KeptSums)) → ((i : ℕ) → has i ts ≡ false → spans_of q i ≡ spans_of p i) → AreKept p ks → AreBetween p q ts ks
unfolding AreKept AreBetween
between_ready p q ts ks e h i = by (has i ts) refl
  where
    by : (b : Bool) → has i ts ≡ b → IfSome (kept_at ks i) (AreSumsOf (if b then spans_of p i else spans_of q i))
    by true f = h i
    by false f = subst (λ (ss : List Span). IfSome (kept_at ks i) (AreSumsOf ss)) (sym (e i f)) (h i)

pub between_done : (p q : Sparse) (ks : List (Option KeptSums)) → AreBetween p q [] ks → AreKept q ks
unfolding AreKept AreBetween
between_done p q ks h = h

pub between_room : (p q : Sparse) (ts : List Term) (ks : List (Option KeptSums)) (i : ℕ) → AreBetween p q ts ks → IfSome (kept_at ks i) (λ k. HaveRoom k)
unfolding AreBetween
between_room p q ts ks i h = by (kept_at ks i) (h i)
  where
    by : (o : Option KeptSums) → IfSome o (AreSumsOf (spans_between p q ts i)) → IfSome o (λ k. HaveRoom k)
    by None f = tt
    by (Some k) f = room_of (spans_between p q ts i) k f

-- the row of the first term is mended
between_step : (p q : Sparse) (t : Term) (ts : List Term) (ks : List (Option KeptSums)) (s : Option KeptSums) → has t.id ts ≡ false
    → (IfSome (kept_at ks t.id) (AreSumsOf (spans_of p t.id)) → IfSome s (AreSumsOf (spans_of q t.id))) → AreBetween p q (t ∷ ts) ks → AreBetween p q ts (slice_set ks t.id s)
unfolding AreBetween
between_step p q t ts ks s none f h = put_kept (λ m k. AreSumsOf (spans_between p q ts m) k) ks t.id s
    (subst (λ (b : Bool). IfSome s (AreSumsOf (if b then spans_of p t.id else spans_of q t.id))) (sym none)
    (f (subst (λ (b : Bool). IfSome (kept_at ks t.id) (AreSumsOf (if b then spans_of p t.id else spans_of q t.id))) (has-cons_same t.id t ts refl) (h t.id))))
    (λ m n. subst (λ (b : Bool). IfSome (kept_at ks m) (AreSumsOf (if b then spans_of p m else spans_of q m))) (has-cons_other m t ts (λ d. n (sym d))) (h m))

-- how the terms of column j that are left stand to it
pub record AreLeft (p : Sparse) (j : ℕ) (ts : List Term) : Type 0 where
  pub least : ℕ
  pub most : ℕ
  pub ascends : Ascends least most ts
  pub told : All (λ (t : Term). dense (column_at p j).entries t.id ≡ t.value) ts

pub left_first : (p : Sparse) (j : ℕ) → IsSparse p → AreLeft p j (column_at p j).entries
left_first p j s = record { least = 0; most = length p.matrix.rows; ascends = s.matrix.columns.ascends j; told = terms_tell (column_at p j).entries 0 (length p.matrix.rows) (s.matrix.columns.ascends j) }

pub left_told : (p : Sparse) (j : ℕ) (t : Term) (ts : List Term) → AreLeft p j (t ∷ ts) → dense (column_at p j).entries t.id ≡ t.value
left_told p j t ts h = All-head (λ (t : Term). dense (column_at p j).entries t.id ≡ t.value) t ts h.told

pub left_some : (p : Sparse) (j : ℕ) (t : Term) (ts : List Term) → AreLeft p j (t ∷ ts) → t.value ≢ zero_ℚ
left_some p j t ts h = h.ascends.2

pub left_once : (p : Sparse) (j : ℕ) (t : Term) (ts : List Term) → AreLeft p j (t ∷ ts) → has t.id ts ≡ false
left_once p j t ts h = has-below ts (suc t.id) h.most t.id h.ascends.3 (next t.id)
  where
    next : (n : ℕ) → n < suc n
    next n = omega arith

pub left_next : (p : Sparse) (j : ℕ) (t : Term) (ts : List Term) → AreLeft p j (t ∷ ts) → AreLeft p j ts
left_next p j t ts h = record { least = suc t.id; most = h.most; ascends = h.ascends.3; told = All-tail (λ (t : Term). dense (column_at p j).entries t.id ≡ t.value) t ts h.told }

-- ---- a column gets other bounds
module _ (p : Sparse) (j : ℕ) (s : IsSparse p) (column : (column_at p j).live ≡ true) (l u : Option Number) where
  pub moving_first : (ks : List (Option KeptSums)) → AreKept p ks → AreBetween p (bounds_set p j l u) (column_at p j).entries ks
  moving_first ks h = between_ready p (bounds_set p j l u) (column_at p j).entries ks (moved_unnamed p j s column l u) h

  pub moving_step : (t : Term) (ts : List Term) (ks : List (Option KeptSums)) (k : Option KeptSums) → dense (column_at p j).entries t.id ≡ t.value → t.value ≢ zero_ℚ → (row_at p t.id).live ≡ true
      → ((a b : List Span) → IfSome (kept_at ks t.id) (AreSumsOf (a ++ span_within p j t.value (bounds_at p j).lower (bounds_at p j).upper ∷ b)) → IfSome k (AreSumsOf (a ++ span_within p j t.value l u ∷ b)))
      → has t.id ts ≡ false → AreBetween p (bounds_set p j l u) (t ∷ ts) ks → AreBetween p (bounds_set p j l u) ts (slice_set ks t.id k)
  moving_step t ts ks k told some row f none h =
      let d = entry_split p j s column t.id t.value row told some in
      between_step p (bounds_set p j l u) t ts ks k none
      (λ g. subst (λ (ss : List Span). IfSome k (AreSumsOf ss)) (sym (moved_after p j s column l u t.id t.value d.before d.after d.split))
      (f (map (span_of p) d.before) (map (span_of p) d.after)
      (subst (λ (ss : List Span). IfSome (kept_at ks t.id) (AreSumsOf ss)) (moved_before p j s column l u t.id t.value d.before d.after d.split) g))) h

  pub moving_gone : (t : Term) (ts : List Term) (ks : List (Option KeptSums)) → has t.id ts ≡ false → AreBetween p (bounds_set p j l u) (t ∷ ts) ks → AreBetween p (bounds_set p j l u) ts (slice_set ks t.id None)
  moving_gone t ts ks none h = between_step p (bounds_set p j l u) t ts ks None none (λ g. tt) h

-- ---- a column is deleted
module _ (p : Sparse) (j : ℕ) (s : IsSparse p) (column : (column_at p j).live ≡ true) where
  pub losing_first : (ks : List (Option KeptSums)) → AreKept p ks → AreBetween p (column_deleted p j) (column_at p j).entries ks
  losing_first ks h = between_ready p (column_deleted p j) (column_at p j).entries ks (deleted_unnamed p j s column) h

  pub losing_step : (t : Term) (ts : List Term) (ks : List (Option KeptSums)) (k : Option KeptSums) → dense (column_at p j).entries t.id ≡ t.value → t.value ≢ zero_ℚ → (row_at p t.id).live ≡ true
      → ((a b : List Span) → IfSome (kept_at ks t.id) (AreSumsOf (a ++ span_within p j t.value (bounds_at p j).lower (bounds_at p j).upper ∷ b)) → IfSome k (AreSumsOf (a ++ b)))
      → has t.id ts ≡ false → AreBetween p (column_deleted p j) (t ∷ ts) ks → AreBetween p (column_deleted p j) ts (slice_set ks t.id k)
  losing_step t ts ks k told some row f none h =
      let d = entry_split p j s column t.id t.value row told some in
      between_step p (column_deleted p j) t ts ks k none
      (λ g. subst (λ (ss : List Span). IfSome k (AreSumsOf ss)) (sym (deleted_after p j s column t.id t.value d.before d.after d.split))
      (f (map (span_of p) d.before) (map (span_of p) d.after)
      (subst (λ (ss : List Span). IfSome (kept_at ks t.id) (AreSumsOf ss)) (moved_before p j s column (bounds_at p j).lower (bounds_at p j).upper t.id t.value d.before d.after d.split) g))) h

  pub losing_gone : (t : Term) (ts : List Term) (ks : List (Option KeptSums)) → has t.id ts ≡ false → AreBetween p (column_deleted p j) (t ∷ ts) ks → AreBetween p (column_deleted p j) ts (slice_set ks t.id None)
  losing_gone t ts ks none h = between_step p (column_deleted p j) t ts ks None none (λ g. tt) h

-- ---- the entries of a column as they are read
pub column_read : (p : Sparse) (j : ℕ) (lines : List Line) (d : Line) (ts : List Term) → (column_at p j).live ≡ true → lines ≡ p.matrix.columns → ts ≡ (get_or lines j d).entries → ts ≡ (column_at p j).entries
column_read p j lines d ts live e f =
    f ∙ ap (λ (ls : List Line). (get_or ls j d).entries) e ∙ ap (λ (y : Line). y.entries) (get_or_default p.matrix.columns j d no_line (column_inside p j live))
