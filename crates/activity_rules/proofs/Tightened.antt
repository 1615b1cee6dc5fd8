-- K8: what is looked at, and the bounds that are found.
use Rattle.std.proofs.Common.{◌≡◌, ◌≢◌, ◌⊎◌, inl, inr, ℕ, zero, suc, ◌<◌, Bool, true, false, not, ◌&&◌, ◌||◌, cond, nat_eq, List, [], ◌∷◌, ◌++◌, length, map, get_or, append-nil, Option, Some, refl, sym, ap, ap₂, ◌∙◌, arith}
use Rattle.std.specs.Prelude.{if◌then◌else◌, nat_lt, IsTrue, ◌↔◌}
use Rattle.std.specs.List.{All, filter}
use Rattle.std.proofs.lemmas.Bool.{and_parts, cases_eq, eq-eqb, lt-ltb, ne_eqb}
use Rattle.std.proofs.lemmas.List.Elements.{All-head, All-tail, filter-append}
use Rattle.fractions.specs.Number.{Number, zero_ℚ}
use Rattle.lp_model.specs.declared.terms.Term.{Term}
use Rattle.lp_model.specs.Sparse.{dense, has}
use Rattle.undo_records.specs.declared.side.Side.{Side}
use Rattle.undo_records.specs.declared.side.Side.TheVariants.{Lower, Upper}
use Rattle.problem_model.specs.declared.line.Sides.{Sides}
use Rattle.problem_model.specs.Problems.{bounds_at, column_at, row_at, row_entries, sides_at, IsSparse}
use Rattle.problem_model.specs.Sparse.{Sparse}
use Rattle.problem_model.specs.Showing.{reach_high, reach_low}
use Rattle.problem_laws.proofs.Entries.{has-live_only, row_entries-tell}
use Rattle.problem_laws.proofs.Terms.{dense-absent, dense-cons_other, dense-cons_same, has-cons_other, has-cons_same, not_both}
use Rattle.lp_model.specs.EndTests.{is_in_order}
use Rattle.row_spans.specs.declared.span.Span.{Span}
use Rattle.row_spans.specs.Spans.{AreSpans, span_at, span_of, spans_of}
use Rattle.activity_laws.specs.Rows.{all_in_order}
use Rattle.activity_laws.specs.BoundTightening.{bounds_of, enabled, entry_at, has_two, implied, is_better, is_tightened_at, is_bound_tightening, old_bound}
use Rattle.activity_laws.proofs.Rows.{tested}
use Rattle.activities.proofs.RowLooks.{entry_in}
use Rattle.activity_rules.specs.Tightened.{bound_if, found_among, found_at, gets_better, is_looked_at, is_tight}

-- ---- two entries or more
two_of : (p : Sparse) (ts : List Term) → has_two (map (span_of p) ts) ≡ nat_lt 1 (length ts)
two_of p [] = refl
two_of p (t ∷ []) = refl
two_of p (t ∷ u ∷ ts) = sym (lt-ltb 1 (length (t ∷ u ∷ ts)) (omega arith))

pub has_two_is : (p : Sparse) (i : ℕ) → has_two (spans_of p i) ≡ nat_lt 1 (length (row_entries p i))
has_two_is p i = two_of p (row_entries p i)

-- ---- the entry of a column
at_entry : (p : Sparse) (j : ℕ) (side : Side) (l u : Option Number) (ss : List Span) (ts : List Term)
    → is_tightened_at side j l u ss (entry_at j (map (span_of p) ts)) ≡ (has j ts && (not (bounds_at p j).semi && is_better side (old_bound side (reach_low (bounds_at p j)) (reach_high (bounds_at p j))) (implied side j (dense ts j) l u ss)))
at_entry p j side l u ss [] = refl
at_entry p j side l u ss (t ∷ ts) = by (cases_eq t.id j) (at_entry p j side l u ss ts)
  where
    asked : ℕ → Number → Bool
    asked k a = not (bounds_at p k).semi && is_better side (old_bound side (reach_low (bounds_at p k)) (reach_high (bounds_at p k))) (implied side j a l u ss)

    there : Bool → Bool
    there b = is_tightened_at side j l u ss (if b then Some (span_of p t) else entry_at j (map (span_of p) ts))

    by : (t.id ≡ j) ⊎ (t.id ≢ j) → is_tightened_at side j l u ss (entry_at j (map (span_of p) ts)) ≡ (has j ts && asked j (dense ts j))
        → is_tightened_at side j l u ss (entry_at j (map (span_of p) (t ∷ ts))) ≡ (has j (t ∷ ts) && asked j (dense (t ∷ ts) j))
    by (inl f) ih = ap there (eq-eqb t.id j f) ∙ ap₂ asked f (sym (dense-cons_same t ts j f)) ∙ sym (ap (λ (b : Bool). b && asked j (dense (t ∷ ts) j)) (has-cons_same j t ts f))
    by (inr d) ih = ap there (ne_eqb t.id j d) ∙ ih ∙ sym (ap₂ (λ (b : Bool) (a : Number). b && asked j a) (has-cons_other j t ts d) (dense-cons_other t ts j d))

-- a column in which a row has an entry is live
pub column_on : (p : Sparse) (i j : ℕ) → has j (row_entries p i) ≡ true → (column_at p j).live ≡ true
column_on p i j e = (and_parts (column_at p j).live (has j (row_at p i).entries) (sym (has-live_only p.matrix.columns j (row_at p i).entries) ∙ e)).0

pub named_where : (p : Sparse) (i j : ℕ) (z : Bool) (a : Number) → IsSparse p → a ≡ dense (row_entries p i) j → IsTrue z ↔ (a ≡ zero_ℚ) → not z ≡ has j (row_entries p i)
named_where p i j z a s f t = by z (has j (row_entries p i)) refl t
  where
    by : (x h : Bool) → has j (row_entries p i) ≡ h → IsTrue x ↔ (a ≡ zero_ℚ) → not x ≡ h
    by true true e q = absurd (entry_in p i j s e (sym f ∙ q.0 refl))
    by true false e q = refl
    by false true e q = refl
    by false false e q = absurd (not_both (q.1 (f ∙ dense-absent j (row_entries p i) e)) refl)

-- the tests in another order
regroup : (a b c d e : Bool) → (a && (b && (c && (d && e)))) ≡ (((a && (b && c)) && d) && e)
regroup false b c d e = refl
regroup true false c d e = refl
regroup true true false d e = refl
regroup true true true d e = refl

pub bound_tightening_is : (p : Sparse) (i j : ℕ) (side : Side) → enabled p i j side ≡ (is_looked_at p i && (has j (row_entries p i) && gets_better p i j side))
bound_tightening_is p i j side =
    let l : Option Number = (sides_at p i).lower in
    let u : Option Number = (sides_at p i).upper in
    let ss : List Span = spans_of p i in
    tested (is_bound_tightening j side) p i
    ∙ regroup (row_at p i).live (is_in_order l u) (all_in_order ss) (has_two ss) (is_tightened_at side j l u ss (entry_at j ss))
    ∙ ap (λ (b : Bool). is_looked_at p i && b) (at_entry p j side l u ss (row_entries p i))

-- ---- lists of bounds
abbrev Bound : Type 0
Bound = ℕ × Side

none_kept : (P : Bound → Bool) (xs : List Bound) → ((x : Bound) → P x ≡ false) → filter P xs ≡ []
none_kept P [] h = refl
none_kept P (x ∷ xs) h = ap (λ (b : Bool). cond b (x ∷ filter P xs) (filter P xs)) (h x) ∙ none_kept P xs h

pub none_at : (p : Sparse) (i : ℕ) (x : List Bound) → is_looked_at p i ≡ false → x ≡ x ++ filter (λ y. enabled p i y.0 y.1) (bounds_of (row_entries p i))
none_at p i x e = sym (ap (λ (l : List Bound). x ++ l) (none_kept (λ y. enabled p i y.0 y.1) (bounds_of (row_entries p i)) (λ y. bound_tightening_is p i y.0 y.1 ∙ ap (λ (b : Bool). b && (has y.0 (row_entries p i) && gets_better p i y.0 y.1)) e)) ∙ append-nil x)

-- no entry is 0
pub none_zero : (m : ℕ) (ss : List Span) (k : ℕ) (s : Span) → AreSpans m ss → k < length ss → s ≡ get_or ss k s → s.value ≢ zero_ℚ
none_zero m [] k s a l e = absurd (omega (arith, l))
none_zero m (t ∷ ss) zero s a l e = λ z. a.1 (sym (ap (λ (x : Span). x.value) e) ∙ z)
none_zero m (t ∷ ss) (suc k) s a l e = none_zero (suc t.id) ss k s a.2 (omega (arith, l)) e

pub none_zero_at : (m : ℕ) (ss : List Span) (k : ℕ) → AreSpans m ss → k < length ss → (span_at ss k).value ≢ zero_ℚ
none_zero_at m [] k a l = absurd (omega (arith, l))
none_zero_at m (t ∷ ss) zero a l = a.1
none_zero_at m (t ∷ ss) (suc k) a l = none_zero_at (suc t.id) ss k a.2 (omega (arith, l))

-- ---- the bounds of a row that is looked at
two_kept : (j : ℕ) (a b : Bool) → cond a ((j, Lower) ∷ cond b ((j, Upper) ∷ []) []) (cond b ((j, Upper) ∷ []) []) ≡ bound_if a j Lower ++ bound_if b j Upper
two_kept j true true = refl
two_kept j true false = refl
two_kept j false true = refl
two_kept j false false = refl

module _ (p : Sparse) (i : ℕ) (looked : is_looked_at p i ≡ true) where
  abbrev terms : List Term
  terms = row_entries p i

  abbrev spans : List Span
  spans = spans_of p i

  abbrev ends : Sides
  ends = sides_at p i

  -- terms of the row
  InRow : Term → Type 0
  InRow t = (has t.id terms ≡ true) × (dense terms t.id ≡ t.value)

  bound_is : (t : Term) (side : Side) → InRow t → enabled p i t.id side ≡ is_tight ends spans (span_of p t) side
  unfolding InRow
  bound_is t side h = bound_tightening_is p i t.id side
      ∙ ap₂ (λ (x y : Bool). x && (y && gets_better p i t.id side)) looked h.0
      ∙ ap (λ (a : Number). not (bounds_at p t.id).semi && is_better side (old_bound side (reach_low (bounds_at p t.id)) (reach_high (bounds_at p t.id))) (implied side t.id a ends.lower ends.upper spans)) h.1

  both_are : (t : Term) → InRow t → filter (λ x. enabled p i x.0 x.1) ((t.id, Lower) ∷ (t.id, Upper) ∷ []) ≡ found_at ends spans (span_of p t)
  both_are t h = ap₂ (λ (x y : Bool). cond x ((t.id, Lower) ∷ cond y ((t.id, Upper) ∷ []) []) (cond y ((t.id, Upper) ∷ []) [])) (bound_is t Lower h) (bound_is t Upper h)
      ∙ two_kept t.id (is_tight ends spans (span_of p t) Lower) (is_tight ends spans (span_of p t) Upper)

  all_are : (us : List Term) → All InRow us → filter (λ x. enabled p i x.0 x.1) (bounds_of us) ≡ found_among ends spans (map (span_of p) us)
  all_are [] h = refl
  all_are (t ∷ us) h = filter-append (λ (x : Bound). enabled p i x.0 x.1) ((t.id, Lower) ∷ (t.id, Upper) ∷ []) (bounds_of us)
      ∙ ap₂ (λ (x y : List Bound). x ++ y) (both_are t (All-head InRow t us h)) (all_are us (All-tail InRow t us h))

more : (k : ℕ) (t : Term) (ts : List Term) → has k ts ≡ true → has k (t ∷ ts) ≡ true
more k t ts e = by (nat_eq t.id k)
  where
    by : (b : Bool) → (b || has k ts) ≡ true
    by true = refl
    by false = e

named : (us : List Term) (n : ℕ) (d : Term) → n < length us → has (get_or us n d).id us ≡ true
named [] n d l = absurd (omega (arith, l))
named (u ∷ us) zero d l = has-cons_same u.id u us refl
named (u ∷ us) (suc n) d l = more (get_or us n d).id u us (named us n d (omega (arith, l)))

all_in_row : (p : Sparse) (i : ℕ) (e : is_looked_at p i ≡ true) → IsSparse p → All (InRow p i e) (row_entries p i)
unfolding InRow
all_in_row p i e s = λ n d l. (named (row_entries p i) n d l, row_entries-tell p i s n d l)

pub all_found : (p : Sparse) (i : ℕ) (ss : List Span) (b : Sides) (x y : List Bound) → is_looked_at p i ≡ true → IsSparse p → ss ≡ spans_of p i → b ≡ sides_at p i → y ≡ x ++ found_among b ss ss
    → y ≡ x ++ filter (λ z. enabled p i z.0 z.1) (bounds_of (row_entries p i))
all_found p i ss b x y e s f g h = h ∙ ap₂ (λ (r : List Span) (c : Sides). x ++ found_among c r r) f g ∙ ap (λ (l : List Bound). x ++ l) (sym (all_are p i e (row_entries p i) (all_in_row p i e s)))
