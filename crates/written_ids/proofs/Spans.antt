-- The entries of a row with the bounds of their columns, at other ids: activities are the same, and so are tests that look at no id.
use Rattle.std.proofs.Common.{◌≡◌, ℕ, Bool, true, false, not, ◌&&◌, nat_eq, List, [], ◌∷◌, map, Option, Some, None, option_map, refl, ap, ap₂, ◌∙◌}
use Rattle.std.specs.Prelude.{if◌then◌else◌}
use Rattle.std.specs.List.{All}
use Rattle.std.proofs.lemmas.List.Elements.{All-head, All-tail}
use Rattle.fractions.specs.Number.{Number}
use Rattle.lp_model.specs.declared.terms.Term.{Term}
use Rattle.lp_model.specs.EndTests.{is_in_order}
use Rattle.lp_model.specs.Gaps.{hull_lower, hull_upper, reach_lower, reach_upper}
use Rattle.problem_model.specs.declared.part.Contents.{Contents}
use Rattle.problem_model.specs.declared.part.Contents.TheVariants as holding
use Rattle.problem_model.specs.Problems.{column_at, row_at, row_entries}
use Rattle.problem_model.specs.Sparse.{Sparse}
use Rattle.problem_laws.proofs.Entries.{row_entries-live}
use Rattle.row_spans.specs.declared.span.Extreme.{Extreme}
use Rattle.row_spans.specs.declared.span.Extreme.TheVariants.{Least, Greatest}
use Rattle.row_spans.specs.declared.span.Span.{Span}
use Rattle.row_spans.specs.RowSums.{activity, rest, row_sum}
use Rattle.row_spans.specs.Spans.{end_at, ends_at, joined, others, span_of, spans_from, spans_of}
use Rattle.activity_laws.specs.ForcingRow.{all_solid}
use Rattle.activity_laws.specs.Rows.{RowTest, all_in_order, has_some, on_activities, on_both, on_parts, on_row, on_spans}
use Rattle.written_ids.specs.NewIds.{Ids, term_at, terms_at}
use Rattle.written_ids.specs.Standing.{LinesStand}
use Rattle.written_ids.proofs.NewIds.{contents_at}

-- an entry with its column's bounds, at another id
abbrev pub span_by : (ℕ → ℕ) → Span → Span
span_by f s = record { id = f s.id; value = s.value; lower = s.lower; upper = s.upper; whole = s.whole; semi = s.semi }

abbrev pub spans_by : (ℕ → ℕ) → List Span → List Span
spans_by f ss = map (span_by f) ss

module _ (f : ℕ → ℕ) where
  -- ---- what looks at no id
  end_by : (extreme : Extreme) (s : Span) → end_at extreme (span_by f s) ≡ end_at extreme s
  end_by Least s = refl
  end_by Greatest s = refl

  ends_by : (extreme : Extreme) (ss : List Span) → ends_at extreme (spans_by f ss) ≡ ends_at extreme ss
  ends_by extreme [] = refl
  ends_by extreme (s ∷ ss) = ap₂ ◌∷◌ (end_by extreme s) (ends_by extreme ss)

  pub activity_by : (extreme : Extreme) (ss : List Span) → activity extreme (spans_by f ss) ≡ activity extreme ss
  activity_by extreme ss = ap row_sum (ends_by extreme ss)

  pub on_activities_by : (test : Option Number → Option Number → Bool) (ss : List Span) → on_activities test (spans_by f ss) ≡ on_activities test ss
  on_activities_by test ss = ap₂ (on_both test) (activity_by Least ss) (activity_by Greatest ss)

  pub has_some_by : (ss : List Span) → has_some (spans_by f ss) ≡ has_some ss
  has_some_by [] = refl
  has_some_by (s ∷ ss) = refl

  in_order_by : (ss : List Span) → all_in_order (spans_by f ss) ≡ all_in_order ss
  in_order_by [] = refl
  in_order_by (s ∷ ss) = ap (λ (b : Bool). is_in_order s.lower s.upper && b) (in_order_by ss)

  pub solid_by : (ss : List Span) → all_solid (spans_by f ss) ≡ all_solid ss
  solid_by [] = refl
  solid_by (s ∷ ss) = ap (λ (b : Bool). not s.semi && b) (solid_by ss)

  -- ---- the others than one column, where each other column has another id
  -- a span is of the column with the new id of j exactly where it is of j
  abbrev pub NamesAlike : ℕ → Span → Type 0
  NamesAlike j s = nat_eq (f s.id) (f j) ≡ nat_eq s.id j

  pub others_by : (j : ℕ) (ss : List Span) → All (NamesAlike j) ss → others (f j) (spans_by f ss) ≡ spans_by f (others j ss)
  others_by j [] h = refl
  others_by j (s ∷ ss) h =
      ap₂ (λ (b : Bool) (xs : List Span). if not b then span_by f s ∷ xs else xs) (All-head (NamesAlike j) s ss h) (others_by j ss (All-tail (NamesAlike j) s ss h))
      ∙ step (nat_eq s.id j)
    where
      step : (b : Bool) → (if not b then span_by f s ∷ spans_by f (others j ss) else spans_by f (others j ss)) ≡ spans_by f (if not b then s ∷ others j ss else others j ss)
      step true = refl
      step false = refl

  pub rest_by : (extreme : Extreme) (j : ℕ) (ss : List Span) → All (NamesAlike j) ss → rest extreme (f j) (spans_by f ss) ≡ rest extreme j ss
  rest_by extreme j ss h = ap (activity extreme) (others_by j ss h) ∙ activity_by extreme (others j ss)

-- ---- tests of what was read of a row
-- a test at other ids
abbrev pub test_by : (ℕ → ℕ) → RowTest → RowTest
test_by f test l u ss = test l u (spans_by f ss)

module _ (n : Ids) where
  joined_by : (s : Span) (o : Option (List Span)) → joined (span_by n.column s) (option_map (spans_by n.column) o) ≡ option_map (spans_by n.column) (joined s o)
  joined_by s None = refl
  joined_by s (Some ss) = refl

  spans_from_at : (ts : List Term) (cs : List Contents) → spans_from (terms_at n.column ts) (map (contents_at n) cs) ≡ option_map (spans_by n.column) (spans_from ts cs)
  spans_from_at [] [] = refl
  spans_from_at [] (c ∷ cs) = refl
  spans_from_at (t ∷ ts) [] = refl
  spans_from_at (t ∷ ts) (holding.Bounds l u w ∷ cs) = let s : Span = record { id = t.id; value = t.value; lower = l; upper = u; whole = w; semi = false } in
      ap (joined (span_by n.column s)) (spans_from_at ts cs) ∙ joined_by s (spans_from ts cs)
  spans_from_at (t ∷ ts) (holding.Semi l u w ∷ cs) = let s : Span = record { id = t.id; value = t.value; lower = hull_lower l u; upper = hull_upper l u; whole = w; semi = true } in
      ap (joined (span_by n.column s)) (spans_from_at ts cs) ∙ joined_by s (spans_from ts cs)
  spans_from_at (t ∷ ts) (holding.Gone ∷ cs) = refl
  spans_from_at (t ∷ ts) (holding.Entries es ∷ cs) = refl
  spans_from_at (t ∷ ts) (holding.Sides l u ∷ cs) = refl
  spans_from_at (t ∷ ts) (holding.Column es c ∷ cs) = refl

  on_spans_at : (test : RowTest) (l u : Option Number) (o : Option (List Span)) → on_spans test l u (option_map (spans_by n.column) o) ≡ on_spans (test_by n.column test) l u o
  on_spans_at test l u None = refl
  on_spans_at test l u (Some ss) = ap (λ (b : Bool). is_in_order l u && (b && test l u (spans_by n.column ss))) (in_order_by n.column ss)

  on_parts_at : (test : RowTest) (a b : Contents) (cs : List Contents) → on_parts test (contents_at n a) (contents_at n b) (map (contents_at n) cs) ≡ on_parts (test_by n.column test) a b cs
  on_parts_at test (holding.Entries ts) (holding.Sides l u) cs = ap (on_spans test l u) (spans_from_at ts cs) ∙ on_spans_at test l u (spans_from ts cs)
  on_parts_at test a b cs = refl

  -- at new ids a test is asked what it is asked at other ids
  pub on_row_at : (test : RowTest) (cs : List Contents) → on_row test (map (contents_at n) cs) ≡ on_row (test_by n.column test) cs
  on_row_at test [] = refl
  on_row_at test (a ∷ []) = refl
  on_row_at test (a ∷ b ∷ cs) = on_parts_at test a b cs

  -- the test looks at no id
  abbrev pub LooksAtNoId : RowTest → Type 0
  LooksAtNoId test = (l u : Option Number) (ss : List Span) → test l u (spans_by n.column ss) ≡ test l u ss

  pub on_row_alike : (test : RowTest) → LooksAtNoId test → (cs : List Contents) → on_row test (map (contents_at n) cs) ≡ on_row test cs
  on_row_alike test e cs = on_row_at test cs ∙ ap (λ (x : RowTest). on_row x cs) (λ t l u ss. e l u ss t)

-- ---- the spans of a row that stands at its new id
module _ (n : Ids) (p q : Sparse) (s : LinesStand n p q) where
  span_stands : (t : Term) → (column_at p t.id).live ≡ true → span_of q (term_at n.column t) ≡ span_by n.column (span_of p t)
  span_stands t h = let c = s.column t.id h in λ i. record { id = n.column t.id; value = t.value; lower = reach_lower (c.semi i) (c.lower i) (c.upper i); upper = reach_upper (c.semi i) (c.lower i) (c.upper i); whole = c.whole i; semi = c.semi i }

  all_spans_stand : (ts : List Term) → All (λ t. (column_at p t.id).live ≡ true) ts → map (span_of q) (terms_at n.column ts) ≡ spans_by n.column (map (span_of p) ts)
  all_spans_stand [] h = refl
  all_spans_stand (t ∷ ts) h = ap₂ ◌∷◌ (span_stands t (All-head (λ t. (column_at p t.id).live ≡ true) t ts h)) (all_spans_stand ts (All-tail (λ t. (column_at p t.id).live ≡ true) t ts h))

  pub spans_stand : (i : ℕ) → (row_at p i).live ≡ true → spans_of q (n.row i) ≡ spans_by n.column (spans_of p i)
  spans_stand i on = ap (map (span_of q)) (s.row i on).entries ∙ all_spans_stand (row_entries p i) (row_entries-live p i)
