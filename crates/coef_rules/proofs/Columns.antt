-- Columns of a row at which its coefficient is tightened.
use Rattle.std.proofs.Common.{◌≡◌, ◌≢◌, ℕ, zero, suc, ◌<◌, ◌≤◌, nat_eq, arith, Bool, true, false, true≢false, not, ◌&&◌, ◌||◌, Result, cond, List, [], ◌∷◌, ◌++◌, length, map, append-nil, Option, Some, None, is_some, refl, sym, ap, ◌∙◌}
use Rattle.std.specs.Prelude.{if◌then◌else◌}
use Rattle.std.specs.List.{filter}
use Rattle.std.proofs.lemmas.Bool.{eq-eqb, ne_eqb}
use Rattle.fractions.specs.Number.{Number}
use Rattle.lp_model.specs.declared.terms.Term.{Term}
use Rattle.undo_records.specs.declared.side.Side.{Side}
use Rattle.fractions.specs.declared.Past.{Past}
use Rattle.problem_model.specs.Matrices.{live_only}
use Rattle.problem_model.specs.Problems.{bounds_at, column_at, row_at, row_entries, sides_at}
use Rattle.problem_model.specs.Sparse.{Sparse}
use Rattle.row_spans.specs.declared.span.Span.{Span}
use Rattle.row_spans.specs.RowSums.{rest}
use Rattle.row_spans.specs.Spans.{AreSpans, span_at, span_of, spans_of}
use Rattle.activity_laws.specs.BoundTightening.{entry_at}
use Rattle.activities.specs.Rows.{is_uncrossed}
use Rattle.coef_laws.specs.CoefficientTightening.{enabled, extreme_of, given, if_finite, one_side, tightened_at, tightened_by, tightened_in, tightening_of, turned, whole_bounds}
use Rattle.coef_laws.specs.declared.tightening.Tightening.{Tightening}
use Rattle.coef_rules.specs.Columns.{any_whole, ids_among, is_whole_column, NoneTightened}
use Rattle.coef_rules.proofs.Looks.{enabled_is}

-- ---- the entry at a place
id_from : (m : ℕ) (ss : List Span) (k : ℕ) → AreSpans m ss → k < length ss → m ≤ (span_at ss k).id
id_from m [] k a l = absurd (omega (arith, l))
id_from m (s ∷ ss) zero a l = a.0
id_from m (s ∷ ss) (suc k) a l = let h = id_from (suc s.id) ss k a.2 (omega (arith, l)) in omega (arith, h, a.0)

entry_from : (m : ℕ) (ss : List Span) (k : ℕ) → AreSpans m ss → k < length ss → entry_at (span_at ss k).id ss ≡ Some (span_at ss k)
entry_from m [] k a l = absurd (omega (arith, l))
entry_from m (s ∷ ss) zero a l = ap (λ (b : Bool). if b then Some s else entry_at s.id ss) (eq-eqb s.id s.id refl)
entry_from m (s ∷ ss) (suc k) a l =
    let h = id_from (suc s.id) ss k a.2 (omega (arith, l)) in
    let n : s.id ≢ (span_at ss k).id = omega (arith, h) in
    ap (λ (b : Bool). if b then Some s else entry_at (span_at ss k).id ss) (ne_eqb s.id (span_at ss k).id n) ∙ entry_from (suc s.id) ss k a.2 (omega (arith, l))

pub tightened_here : (f : Side) (b : Number) (ss : List Span) (k : ℕ) → AreSpans 0 ss → k < length ss → tightened_in f b (span_at ss k).id ss ≡ tightened_at f b (span_at ss k) (rest (extreme_of f) (span_at ss k).id ss)
tightened_here f b ss k a l = ap (λ (o : Option Span). given o (λ s. tightened_at f b s (rest (extreme_of f) (span_at ss k).id ss))) (entry_from 0 ss k a l)

-- ---- the columns of a row
none_kept : (f : ℕ → Bool) (xs : List ℕ) → ((j : ℕ) → f j ≡ false) → filter f xs ≡ []
none_kept f [] h = refl
none_kept f (x ∷ xs) h = ap (λ (b : Bool). cond b (x ∷ filter f xs) (filter f xs)) (h x) ∙ none_kept f xs h

none_more : (f : ℕ → Bool) (x xs : List ℕ) → ((j : ℕ) → f j ≡ false) → x ≡ x ++ filter f xs
none_more f x xs h = sym (ap (λ (w : List ℕ). x ++ w) (none_kept f xs h) ∙ append-nil x)

and_none : (b : Bool) → (b && false) ≡ false
and_none true = refl
and_none false = refl

-- a column that isn't whole has no whole bounds
no_bounds : (l u : Option Number) (w : Bool) → w ≡ false → whole_bounds l u w ≡ None
no_bounds l u true e = absurd (true≢false e)
no_bounds None u false e = refl
no_bounds (Some l) None false e = refl
no_bounds (Some l) (Some u) false e = refl

both_parts : (a b : Bool) → (a || b) ≡ false → (a ≡ false) × (b ≡ false)
both_parts true b e = absurd (true≢false e)
both_parts false b e = (refl, e)

-- where no column is whole no coefficient is tightened
module _ (p : Sparse) (f : Side) (b : Number) (j : ℕ) (r : Result (Option Number) Past) where
  not_here : (s : Span) → (not s.semi && s.whole) ≡ false → tightened_at f b s r ≡ None
  not_here s e = ap (λ (o : Option (Number × Number)). given o (λ bounds. given (if_finite r) (λ h. tightened_by f (turned f s.value) (turned f b) (turned f h) bounds.0 bounds.1))) (no_bounds s.lower s.upper (not s.semi && s.whole) e)

  none_tightened : (ts : List Term) → any_whole p ts ≡ false → given (entry_at j (map (span_of p) (live_only p.matrix.columns ts))) (λ s. tightened_at f b s r) ≡ None
  none_tightened [] e = refl
  none_tightened (t ∷ ts) e = by (column_at p t.id).live (both_parts (is_whole_column p t.id) (any_whole p ts) e).0 (none_tightened ts (both_parts (is_whole_column p t.id) (any_whole p ts) e).1)
    where
      by : (l : Bool) → (l && (not (bounds_at p t.id).semi && (bounds_at p t.id).whole)) ≡ false → given (entry_at j (map (span_of p) (live_only p.matrix.columns ts))) (λ s. tightened_at f b s r) ≡ None
          → given (entry_at j (map (span_of p) (cond l (t ∷ live_only p.matrix.columns ts) (live_only p.matrix.columns ts)))) (λ s. tightened_at f b s r) ≡ None
      by false w ih = ih
      by true w ih = here (nat_eq t.id j) w ih
        where
          here : (c : Bool) → (not (bounds_at p t.id).semi && (bounds_at p t.id).whole) ≡ false → given (entry_at j (map (span_of p) (live_only p.matrix.columns ts))) (λ s. tightened_at f b s r) ≡ None
              → given (if c then Some (span_of p t) else entry_at j (map (span_of p) (live_only p.matrix.columns ts))) (λ s. tightened_at f b s r) ≡ None
          here true w ih = not_here (span_of p t) w
          here false w ih = ih

module _ (p : Sparse) (i : ℕ) where
  abbrev ids : List ℕ
  ids = map (λ t. t.id) (row_entries p i)

  pub none_where_crossed : (x : List ℕ) → is_uncrossed p i ≡ false → x ≡ x ++ filter (λ j. enabled p i j) ids
  none_where_crossed x e = none_more (λ j. enabled p i j) x ids (λ j. enabled_is p i j ∙ ap (λ (b : Bool). b && is_some (tightening_of p i j)) e)

  pub none_without_side : (x : List ℕ) → one_side (sides_at p i).lower (sides_at p i).upper ≡ None → x ≡ x ++ filter (λ j. enabled p i j) ids
  none_without_side x e = none_more (λ j. enabled p i j) x ids
      (λ j. enabled_is p i j ∙ ap (λ (o : Option (Side × Number)). is_uncrossed p i && is_some (given o (λ side. tightened_in side.0 side.1 j (spans_of p i)))) e ∙ and_none (is_uncrossed p i))

  pub none_without_whole : (x : List ℕ) → any_whole p (row_at p i).entries ≡ false → x ≡ x ++ filter (λ j. enabled p i j) ids
  none_without_whole x e = none_more (λ j. enabled p i j) x ids
      (λ j. enabled_is p i j ∙ ap (λ (o : Option Tightening). is_uncrossed p i && is_some o) (not_by_side j (one_side (sides_at p i).lower (sides_at p i).upper)) ∙ and_none (is_uncrossed p i))
    where
      not_by_side : (j : ℕ) (o : Option (Side × Number)) → given o (λ side. tightened_in side.0 side.1 j (spans_of p i)) ≡ None
      not_by_side j None = refl
      not_by_side j (Some side) = none_tightened p side.0 side.1 j (rest (extreme_of side.0) j (spans_of p i)) (row_at p i).entries e

  pub none_short : (x : List ℕ) (f : Side) (b : Number) → one_side (sides_at p i).lower (sides_at p i).upper ≡ Some (f, b) → NoneTightened f b (spans_of p i) → x ≡ x ++ filter (λ j. enabled p i j) ids
  none_short x f b e h = none_more (λ j. enabled p i j) x ids
      (λ j. enabled_is p i j ∙ ap (λ (o : Option (Side × Number)). is_uncrossed p i && is_some (given o (λ side. tightened_in side.0 side.1 j (spans_of p i)))) e
      ∙ ap (λ (o : Option Tightening). is_uncrossed p i && is_some o) (h j) ∙ and_none (is_uncrossed p i))

  -- an entry and its span are in one column
  same_ids : (ts : List Term) → map (λ (s : Span). s.id) (map (span_of p) ts) ≡ map (λ (t : Term). t.id) ts
  same_ids [] = refl
  same_ids (t ∷ ts) = ap (λ (w : List ℕ). t.id ∷ w) (same_ids ts)

  pub all_found : (f : Side) (b : Number) (ss : List Span) (x y : List ℕ) → is_uncrossed p i ≡ true → one_side (sides_at p i).lower (sides_at p i).upper ≡ Some (f, b) → ss ≡ spans_of p i → y ≡ x ++ ids_among f b ss ss
      → y ≡ x ++ filter (λ j. enabled p i j) ids
  all_found f b ss x y e g h k = k ∙ ap (λ (rs : List Span). x ++ ids_among f b rs rs) h
      ∙ ap (λ (js : List ℕ). x ++ filter (λ j. is_some (tightened_in f b j (spans_of p i))) js) (same_ids (row_entries p i))
      ∙ ap (λ (test : ℕ → Bool). x ++ filter test ids) (λ t j. there j t)
    where
      there : (j : ℕ) → is_some (tightened_in f b j (spans_of p i)) ≡ enabled p i j
      there j = sym (enabled_is p i j ∙ ap (λ (c : Bool). c && is_some (tightening_of p i j)) e ∙ ap (λ (o : Option (Side × Number)). is_some (given o (λ side. tightened_in side.0 side.1 j (spans_of p i)))) g)
