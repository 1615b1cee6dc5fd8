-- K13 and K14 at new ids: a column with one entry, and the other columns of its row, whose costs they change.
use Rattle.std.proofs.Common.{◌≡◌, ◌↔◌, ℕ, Bool, true, false, not, ◌&&◌, nat_eq, List, [], ◌∷◌, ◌++◌, get_or, map, Option, Some, None, unwrap_or, option_map, refl, sym, ap, ◌∙◌, subst}
use Rattle.std.specs.List.{All}
use Rattle.std.proofs.lemmas.List.{map-append}
use Rattle.std.proofs.lemmas.List.Elements.{All-append, All-filter, All-head}
use Rattle.fractions.specs.Number.{Number, zero_ℚ, neg_ℚ, ◌-ℚ◌, ◌*ℚ◌}
use Rattle.fractions.specs.Division.{◌/ℚ◌}
use Rattle.fractions.specs.Ends.{minus_ends, scaled}
use Rattle.fractions.specs.Lowest.{Fits}
use Rattle.fractions.specs.FracWords.{SumFits}
use Rattle.lp_model.specs.declared.terms.Term.{Term}
use Rattle.lp_model.specs.EndTests.{is_in_order}
use Rattle.lp_model.specs.Sparse.{dense, without}
use Rattle.lp_substitutions.specs.SlackColumnSingleton.{equation_offset}
use Rattle.undo_records.specs.declared.side.Side.TheVariants.{Lower, Upper}
use Rattle.problem_model.specs.declared.edit.Edit.{Edit}
use Rattle.problem_model.specs.declared.edit.Edit.TheVariants.{AddOffset, DeleteColumn, DeleteRow, SetCost}
use Rattle.problem_model.specs.declared.line.Line.{Line}
use Rattle.problem_model.specs.declared.part.Contents.{Contents}
use Rattle.problem_model.specs.declared.part.Contents.TheVariants as holding
use Rattle.problem_model.specs.declared.part.Part.{Part}
use Rattle.problem_model.specs.declared.part.Part.TheVariants.{Row, Sides, Col, Bounds}
use Rattle.problem_model.specs.Parts.{bounds_held, contents_of}
use Rattle.problem_model.specs.Problems.{bounds_at, column_at, column_entries, cost_at, row_at, row_entries, sides_at}
use Rattle.problem_model.specs.Sparse.{Sparse}
use Rattle.problem_laws.proofs.Entries.{column_entries-live, row_entries-live}
use Rattle.rule_words.specs.Reading.{bounds_named, bounds_of, found_on, no_more, terms_in}
use Rattle.row_spans.specs.declared.span.Span.{Span}
use Rattle.row_spans.specs.Spans.{spans_of}
use Rattle.activity_laws.specs.Rows.{RowTest, all_in_order, keeps_lower, keeps_upper, row_found}
use Rattle.activity_laws.specs.BoundTightening.{entry_at}
use Rattle.activity_laws.proofs.Rows.{tested}
use Rattle.column_laws.specs.SoleEntry.{CostComputes, CostsCompute, cost_less, costs_less, entry_of, is_sole_at, others_of, price_of}
use Rattle.column_laws.specs.FreeColumnSingleton as free
use Rattle.column_laws.specs.SlackColumnSingleton as slack
use Rattle.written_ids.specs.NewIds.{Ids, term_at, terms_at}
use Rattle.written_ids.specs.Standing.{AreOneToOne, IsLive, IsOneToOne, LinesStand}
use Rattle.written_ids.proofs.Lists.{all_both, all_one, all_two, both_by, both_then, map_where}
use Rattle.written_ids.proofs.NewIds.{contents_at, edit_at, none_at}
use Rattle.written_ids.proofs.OneToOne.{NamesLive, dense_at, equal_at, without_at}
use Rattle.written_ids.proofs.Standing.{AreThere, IsThere, all_stand, contents_stand, held}
use Rattle.written_ids.proofs.Spans.{NamesAlike, on_row_at, span_by, spans_by, test_by}
use Rattle.written_rules.proofs.Activities.{bounds_read_at, bounds_read_there, entry_by, implied_by, row_read, spans_alike}

-- ---- the one entry
module _ (f : ℕ → ℕ) (lines : List Line) (o : IsOneToOne f lines) (i : ℕ) (on : IsLive lines i) where
  sole_by : (es : List Term) → All (NamesLive lines) es → is_sole_at (f i) (terms_at f es) ≡ is_sole_at i es
  sole_by [] h = refl
  sole_by (e ∷ es) h = let a = equal_at f lines o e.id i (All-head (NamesLive lines) e es h) on in let b = none_at f es in λ t. a t && b t

-- ---- K13: bounds that a row implies
module _ (f : ℕ → ℕ) (j : ℕ) (ss : List Span) (h : All (NamesAlike f j) ss) where
  implied_at_by : (s : Span) (v : Option Number) → free.is_implied_at (f j) (spans_by f ss) (span_by f s) v ≡ free.is_implied_at j ss s v
  implied_at_by s None = refl
  implied_at_by s (Some v) =
      let a = implied_by f j ss h Lower s.value (Some v) (Some v) in
      let b = implied_by f j ss h Upper s.value (Some v) (Some v) in
      λ t. keeps_lower s.lower (a t) && keeps_upper s.upper (b t)

  free_at_by : (c : Number) (l u : Option Number) (x : Option Span) → free.is_free (f j) c l u (spans_by f ss) (option_map (span_by f) x) ≡ free.is_free j c l u ss x
  free_at_by c l u None = refl
  free_at_by c l u (Some s) = ap (λ (b : Bool). not s.whole && (not s.semi && b)) (implied_at_by s (free.side_for c s.value l u))

  free_by : (c : Number) (l u : Option Number) → free.is_free (f j) c l u (spans_by f ss) (entry_at (f j) (spans_by f ss)) ≡ free.is_free j c l u ss (entry_at j ss)
  free_by c l u = ap (free.is_free (f j) c l u (spans_by f ss)) (entry_by f j ss h ss h) ∙ free_at_by c l u (entry_at j ss)

module _ (n : Ids) (p : Sparse) (o : AreOneToOne n p) (j i : ℕ) (on : (row_at p i).live ≡ true) (live : (column_at p j).live ≡ true) where
  abbrev es : List Term
  es = column_entries p j

  sole_at_new : is_sole_at (n.row i) (terms_at n.row es) ≡ is_sole_at i es
  sole_at_new = sole_by n.row p.matrix.rows o.row i on es (column_entries-live p j)

  -- ---- K13's condition
  -- what it reads of the column, where that is live or not
  abbrev column_found : Bool → Contents
  column_found b = held b (holding.Column es (cost_at p j))

  free_column_singleton_by : (l u : Option Number) → free.is_free_column_singleton (n.column j) (n.row i) (contents_at n (contents_of p (Col j))) l u (spans_by n.column (spans_of p i))
      ≡ free.is_free_column_singleton j i (contents_of p (Col j)) l u (spans_of p i)
  free_column_singleton_by l u =
      let ss : List Span = spans_of p i in
      let same = free_by n.column j ss (spans_alike n p o i j live) (cost_at p j) l u in
      (λ t. free.is_free_column_singleton (n.column j) (n.row i) (contents_at n (column_found (live t))) l u (spans_by n.column ss))
      ∙ (λ t. sole_at_new t && same t)
      ∙ sym (λ t. free.is_free_column_singleton j i (column_found (live t)) l u ss)

  pub free_column_singleton_alike : free.holds (n.column j) (n.row i) (map (contents_at n) (found_on (free.heads j i) bounds_named p)) ≡ free.holds j i (found_on (free.heads j i) bounds_named p)
  free_column_singleton_alike =
      let new : RowTest = free.is_free_column_singleton (n.column j) (n.row i) (contents_at n (contents_of p (Col j))) in
      let old : RowTest = free.is_free_column_singleton j i (contents_of p (Col j)) in
      let l : Option Number = (sides_at p i).lower in
      let u : Option Number = (sides_at p i).upper in
      let ss : List Span = spans_of p i in
      on_row_at n new (row_found p i)
      ∙ tested (test_by n.column new) p i
      ∙ ap (λ (b : Bool). (row_at p i).live && (is_in_order l u && (all_in_order ss && b))) (free_column_singleton_by l u)
      ∙ sym (tested old p i)

  -- ---- K14's condition
  -- what it reads, where the row and the column are live or not
  abbrev slack_found : Bool → Bool → List Contents
  slack_found r b =
      held r (holding.Entries (row_entries p i))
      ∷ held r (holding.Sides (sides_at p i).lower (sides_at p i).upper)
      ∷ column_found b
      ∷ held b (bounds_held (bounds_at p j).semi (bounds_at p j).lower (bounds_at p j).upper (bounds_at p j).whole) ∷ []

  -- and what, where both are live and the bounds are of either kind
  abbrev kind_found : Bool → List Contents
  kind_found semi =
      holding.Entries (row_entries p i)
      ∷ holding.Sides (sides_at p i).lower (sides_at p i).upper
      ∷ holding.Column es (cost_at p j)
      ∷ bounds_held semi (bounds_at p j).lower (bounds_at p j).upper (bounds_at p j).whole ∷ []

  slack_kind : (semi : Bool) → slack.holds (n.row i) (map (contents_at n) (kind_found semi)) ≡ slack.holds i (kind_found semi)
  slack_kind true = refl
  slack_kind false =
      let l : Option Number = (sides_at p i).lower in
      let u : Option Number = (sides_at p i).upper in
      let x = bounds_at p j in
      λ t. is_in_order l u && (is_in_order x.lower x.upper && (not x.whole && (sole_at_new t && slack.is_equation_or_free l u (cost_at p j))))

  slack_live : slack.holds (n.row i) (map (contents_at n) (slack_found true true)) ≡ slack.holds i (slack_found true true)
  slack_live = slack_kind (bounds_at p j).semi

  pub slack_column_singleton_alike : slack.holds (n.row i) (map (contents_at n) (found_on (slack.heads j i) no_more p)) ≡ slack.holds i (found_on (slack.heads j i) no_more p)
  slack_column_singleton_alike =
      (λ t. slack.holds (n.row i) (map (contents_at n) (slack_found (on t) (live t))))
      ∙ slack_live
      ∙ sym (λ t. slack.holds i (slack_found (on t) (live t)))

-- ---- where the row and the column are live, so is what they read first
pub free_there : (p : Sparse) (j i : ℕ) → (row_at p i).live ≡ true → (column_at p j).live ≡ true → AreThere p (free.heads j i)
free_there p j i h g = All-append (IsThere p) (Row i ∷ Sides i ∷ []) (Col j ∷ []) (all_two (IsThere p) (Row i) (Sides i) h h) (all_one (IsThere p) (Col j) g)

pub slack_there : (p : Sparse) (j i : ℕ) → (row_at p i).live ≡ true → (column_at p j).live ≡ true → AreThere p (slack.heads j i)
slack_there p j i h g = All-append (IsThere p) (Row i ∷ Sides i ∷ []) (Col j ∷ Bounds j ∷ []) (all_two (IsThere p) (Row i) (Sides i) h h) (all_two (IsThere p) (Col j) (Bounds j) g g)

-- ---- their edits, and the numbers that they compute
module _ (n : Ids) (p q : Sparse) (s : LinesStand n p q) (j i : ℕ) (on : (row_at p i).live ≡ true) (live : (column_at p j).live ≡ true) where
  abbrev row : ℕ
  row = n.row i

  abbrev column : ℕ
  column = n.column j

  -- ---- what both have: the entry, the price, and the costs of the other columns
  entry_same : entry_of q column row ≡ entry_of p j i
  entry_same = ap (λ us. dense us column) (s.row i on).entries ∙ dense_at n.column p.matrix.columns s.apart.column j (row_entries p i) live (row_entries-live p i)

  price_same : price_of q column row ≡ price_of p j i
  price_same = let c = (s.column j live).cost in λ t. c t /ℚ entry_same t

  others_same : others_of q column row ≡ terms_at n.column (others_of p j i)
  others_same = ap (without column) (s.row i on).entries ∙ without_at n.column p.matrix.columns s.apart.column j (row_entries p i) live (row_entries-live p i)

  others_live : All (λ t. (column_at p t.id).live ≡ true) (others_of p j i)
  others_live = All-filter (λ t. not (nat_eq t.id j)) (λ t. (column_at p t.id).live ≡ true) (row_entries p i) (row_entries-live p i)

  cost_less_same : (t : Number) (e : Term) → (column_at p e.id).live ≡ true → cost_less q t (term_at n.column e) ≡ edit_at n (cost_less p t e)
  cost_less_same t e h = let c = (s.column e.id h).cost in λ x. SetCost (n.column e.id) (c x -ℚ t *ℚ e.value)

  costs_less_same : costs_less q column row ≡ map (edit_at n) (costs_less p j i)
  costs_less_same =
      let t : Number = price_of p j i in
      let ts : List Term = others_of p j i in
      (λ x. map (cost_less q (price_same x)) (others_same x))
      ∙ map_where (term_at n.column) (cost_less p t) (edit_at n) (cost_less q t) ts (λ a d l. cost_less_same t (get_or ts a d) (others_live a d l))

  cost_computes : (t : Number) (e : Term) → (column_at p e.id).live ≡ true → CostComputes p t e ↔ CostComputes q t (term_at n.column e)
  cost_computes t e h =
      let c = (s.column e.id h).cost in
      let fits = λ (x : Number). SumFits x (neg_ℚ (t *ℚ e.value)) in (
        λ x. record { product = x.product; difference = subst fits (sym c) x.difference },
        λ x. record { product = x.product; difference = subst fits c x.difference },
      )

  costs_compute : CostsCompute p j i ↔ CostsCompute q column row
  costs_compute =
      let t : Number = price_of p j i in
      let ts : List Term = others_of p j i in
      let each = all_both (CostComputes p t) (CostComputes q t) (term_at n.column) ts (λ a d l. cost_computes t (get_or ts a d) (others_live a d l)) in
      both_then (λ h. (h.0, each.0 h.1), λ h. (h.0, each.1 h.1))
      (both_by (λ (x : Number × List Term). Fits x.0 × All (CostComputes q x.0) x.1) (t, terms_at n.column ts) (price_of q column row, others_of q column row) (sym (λ x. (price_same x, others_same x))))

  -- ---- K13
  value_same : free.value_of q column row ≡ free.value_of p j i
  value_same = let r = s.row i on in let c = (s.column j live).cost in λ t. unwrap_or (free.side_for (c t) (entry_same t) (r.lower t) (r.upper t)) zero_ℚ

  free_gain_same : free.gain_of q column row ≡ free.gain_of p j i
  free_gain_same = λ t. price_same t *ℚ value_same t

  pub free_column_singleton_edits : free.edits q column row ≡ map (edit_at n) (free.edits p j i)
  free_column_singleton_edits =
      (λ t. costs_less_same t ++ AddOffset (free_gain_same t) ∷ DeleteColumn column ∷ DeleteRow row ∷ [])
      ∙ sym (map-append (edit_at n) (costs_less p j i) (AddOffset (free.gain_of p j i) ∷ DeleteColumn j ∷ DeleteRow i ∷ []))

  pub free_column_singleton_computes : free.Computes p j i ↔ free.Computes q column row
  free_column_singleton_computes = (λ h. (costs_compute.0 h.0, subst Fits (sym free_gain_same) h.1), λ h. (costs_compute.1 h.0, subst Fits free_gain_same h.1))

  -- ---- K14
  most_same : slack.most_at (entry_of q column row) (bounds_at q column).lower (bounds_at q column).upper ≡ slack.most_at (entry_of p j i) (bounds_at p j).lower (bounds_at p j).upper
  most_same = let c = s.column j live in λ t. slack.most_at (entry_same t) (c.lower t) (c.upper t)

  least_same : slack.least_at (entry_of q column row) (bounds_at q column).lower (bounds_at q column).upper ≡ slack.least_at (entry_of p j i) (bounds_at p j).lower (bounds_at p j).upper
  least_same = let c = s.column j live in λ t. slack.least_at (entry_same t) (c.lower t) (c.upper t)

  new_lower_same : slack.new_lower q column row ≡ slack.new_lower p j i
  new_lower_same = let r = (s.row i on).lower in λ t. minus_ends (r t) (scaled (entry_same t) (most_same t))

  new_upper_same : slack.new_upper q column row ≡ slack.new_upper p j i
  new_upper_same = let r = (s.row i on).upper in λ t. minus_ends (r t) (scaled (entry_same t) (least_same t))

  slack_gain_same : slack.gain_of q column row ≡ slack.gain_of p j i
  slack_gain_same = let r = s.row i on in λ t. equation_offset (price_same t) (r.lower t) (r.upper t)

  out_at : (l u : Option Number) → slack.column_out column row l u ≡ map (edit_at n) (slack.column_out j i l u)
  out_at None None = refl
  out_at None (Some u) = refl
  out_at (Some l) u = refl

  pub slack_column_singleton_edits : slack.edits q column row ≡ map (edit_at n) (slack.edits p j i)
  slack_column_singleton_edits =
      let l : Option Number = slack.new_lower p j i in
      let u : Option Number = slack.new_upper p j i in
      (λ t. costs_less_same t ++ AddOffset (slack_gain_same t) ∷ slack.column_out column row (new_lower_same t) (new_upper_same t))
      ∙ ap (λ (es : List Edit). map (edit_at n) (costs_less p j i) ++ AddOffset (slack.gain_of p j i) ∷ es) (out_at l u)
      ∙ sym (map-append (edit_at n) (costs_less p j i) (AddOffset (slack.gain_of p j i) ∷ slack.column_out j i l u))

  side_computes : (b e c d : Option Number) → d ≡ b → c ≡ e → slack.SideComputes (entry_of p j i) b e ↔ slack.SideComputes (entry_of q column row) d c
  side_computes b e c d f g = both_by (λ (x : Number × Option Number × Option Number). slack.SideComputes x.0 x.1 x.2) (entry_of p j i, b, e) (entry_of q column row, d, c) (sym (λ t. (entry_same t, f t, g t)))

  pub slack_column_singleton_computes : slack.Computes p j i ↔ slack.Computes q column row
  slack_column_singleton_computes =
      let r = s.row i on in
      let lower = side_computes (sides_at p i).lower _ _ (sides_at q row).lower r.lower most_same in
      let upper = side_computes (sides_at p i).upper _ _ (sides_at q row).upper r.upper least_same in (
        λ h. record { costs = costs_compute.0 h.costs; gain = subst Fits (sym slack_gain_same) h.gain; lower = lower.0 h.lower; upper = upper.0 h.upper },
        λ h. record { costs = costs_compute.1 h.costs; gain = subst Fits slack_gain_same h.gain; lower = lower.1 h.lower; upper = upper.1 h.upper },
      )

  -- ---- they are enabled at both or at neither
  free_found : found_on (free.heads column row) bounds_named q ≡ map (contents_at n) (found_on (free.heads j i) bounds_named p)
  free_found =
      let read = contents_stand n p q s (Row i) on in
      let named : List Part = bounds_of (row_read p i) in
      (λ t. map (contents_of q) (free.heads column row ++ bounds_of (terms_in (read t))))
      ∙ ap (λ (ps : List Part). map (contents_of q) (free.heads column row ++ ps)) (bounds_read_at n p i)
      ∙ all_stand n p q s (free.heads j i ++ named) (All-append (IsThere p) (free.heads j i) named (free_there p j i on live) (bounds_read_there p i))

  pub free_column_singleton_enabled : free.enabled q column row ≡ free.enabled p j i
  free_column_singleton_enabled = ap (free.holds column row) free_found ∙ free_column_singleton_alike n p s.apart j i on live

  pub slack_column_singleton_enabled : slack.enabled q column row ≡ slack.enabled p j i
  slack_column_singleton_enabled = ap (slack.holds row) (all_stand n p q s (slack.heads j i) (slack_there p j i on live)) ∙ slack_column_singleton_alike n p s.apart j i on live
