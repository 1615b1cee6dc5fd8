-- K15 and K16 at new ids: two lines that are multiples of one another, and what one of them gets.
use Rattle.std.proofs.Common.{◌≡◌, ◌↔◌, ℕ, Bool, true, false, not, ◌&&◌, List, [], ◌∷◌, map, Option, refl, sym, ap, ◌∙◌}
use Rattle.std.specs.List.{All}
use Rattle.std.proofs.lemmas.List.Elements.{All-append, All-head, All-tail}
use Rattle.fractions.specs.Number.{Number, ◌*ℚ◌}
use Rattle.fractions.specs.Compare.{eq_ℚ}
use Rattle.fractions.specs.Division.{◌/ℚ◌}
use Rattle.fractions.specs.Ends.{meet_high, meet_low, plus}
use Rattle.lp_model.specs.declared.terms.Term.{Term}
use Rattle.lp_theory.specs.Activities.{greatest_term, least_term}
use Rattle.lp_theory.specs.MetEnds.{lower_over, upper_over}
use Rattle.problem_model.specs.declared.edit.Edit.TheVariants.{DeleteColumn, DeleteRow, SetBounds, SetSides}
use Rattle.problem_model.specs.declared.line.Line.{Line}
use Rattle.problem_model.specs.declared.part.Contents.{Contents}
use Rattle.problem_model.specs.declared.part.Contents.TheVariants as holding
use Rattle.problem_model.specs.declared.part.Part.TheVariants.{Row, Col, Bounds}
use Rattle.problem_model.specs.Parts.{bounds_held}
use Rattle.problem_model.specs.Problems.{bounds_at, column_at, column_entries, cost_at, first_of, row_at, row_entries, sides_at}
use Rattle.problem_model.specs.Sparse.{Sparse}
use Rattle.problem_laws.proofs.Entries.{column_entries-live, row_entries-live}
use Rattle.row_spans.specs.Exact.{fits}
use Rattle.rule_words.specs.Reading.{found_on, no_more}
use Rattle.parallel_laws.specs.ParallelColumns as columns
use Rattle.rule_words.specs.Multiples.{are_times, factor_of}
use Rattle.parallel_laws.specs.ParallelColumns.{are_in_order, are_of_a_kind}
use Rattle.parallel_laws.specs.ParallelRows as rows
use Rattle.written_ids.specs.NewIds.{Ids, terms_at}
use Rattle.written_ids.specs.Standing.{AreOneToOne, IsOneToOne, LinesStand}
use Rattle.written_ids.proofs.Lists.{all_two, both_by}
use Rattle.written_ids.proofs.NewIds.{contents_at, edit_at, none_at}
use Rattle.written_ids.proofs.OneToOne.{NamesLive, equal_at}
use Rattle.written_ids.proofs.Standing.{AreThere, IsThere, all_stand, held}

-- ---- the number by which the first one is the other, and whether it is
first_at : (f : ℕ → ℕ) (ts : List Term) → (first_of (terms_at f ts)).value ≡ (first_of ts).value
first_at f [] = refl
first_at f (t ∷ ts) = refl

factor_at : (f : ℕ → ℕ) (ts us : List Term) → factor_of (terms_at f ts) (terms_at f us) ≡ factor_of ts us
factor_at f ts us = let a = first_at f ts in let b = first_at f us in λ x. a x /ℚ b x

module _ (f : ℕ → ℕ) (lines : List Line) (o : IsOneToOne f lines) where
  times_by : (s : Number) (ts us : List Term) → All (NamesLive lines) ts → All (NamesLive lines) us → are_times s (terms_at f ts) (terms_at f us) ≡ are_times s ts us
  times_by s [] [] h g = refl
  times_by s [] (u ∷ us) h g = refl
  times_by s (t ∷ ts) [] h g = refl
  times_by s (t ∷ ts) (u ∷ us) h g =
      let same = equal_at f lines o t.id u.id (All-head (NamesLive lines) t ts h) (All-head (NamesLive lines) u us g) in
      let rest = times_by s ts us (All-tail (NamesLive lines) t ts h) (All-tail (NamesLive lines) u us g) in
      λ x. same x && (eq_ℚ t.value (s *ℚ u.value) && rest x)

  times_at : (ts us : List Term) → All (NamesLive lines) ts → All (NamesLive lines) us
      → are_times (factor_of (terms_at f ts) (terms_at f us)) (terms_at f ts) (terms_at f us) ≡ are_times (factor_of ts us) ts us
  times_at ts us h g = ap (λ (s : Number). are_times s (terms_at f ts) (terms_at f us)) (factor_at f ts us) ∙ times_by (factor_of ts us) ts us h g

-- ---- K15's condition
module _ (n : Ids) (p : Sparse) (o : AreOneToOne n p) (i k : ℕ) (first : (row_at p i).live ≡ true) (second : (row_at p k).live ≡ true) where
  -- what it reads, where the rows are live or not; and the condition, where both are
  abbrev rows_found : Bool → Bool → List Contents
  rows_found a b = held a (holding.Entries (row_entries p i)) ∷ held b (holding.Entries (row_entries p k)) ∷ []

  rows_live : rows.holds (n.row i) (n.row k) (map (contents_at n) (rows_found true true)) ≡ rows.holds i k (rows_found true true)
  rows_live =
      let ts : List Term = row_entries p i in
      let us : List Term = row_entries p k in
      let same = equal_at n.row p.matrix.rows o.row i k first second in
      let none = none_at n.column ts in
      let s = factor_at n.column ts us in
      let times = times_at n.column p.matrix.columns o.column ts us (row_entries-live p i) (row_entries-live p k) in
      λ x. not (same x) && (not (none x) && (fits (s x) && times x))

  pub parallel_rows_alike : rows.holds (n.row i) (n.row k) (map (contents_at n) (found_on (rows.heads i k) no_more p)) ≡ rows.holds i k (found_on (rows.heads i k) no_more p)
  parallel_rows_alike =
      (λ x. rows.holds (n.row i) (n.row k) (map (contents_at n) (rows_found (first x) (second x))))
      ∙ rows_live
      ∙ sym (λ x. rows.holds i k (rows_found (first x) (second x)))

-- ---- K16's condition
module _ (n : Ids) (p : Sparse) (o : AreOneToOne n p) (j k : ℕ) (first : (column_at p j).live ≡ true) (second : (column_at p k).live ≡ true) where
  abbrev columns_found : Bool → Bool → List Contents
  columns_found a b =
      held a (holding.Column (column_entries p j) (cost_at p j))
      ∷ held b (holding.Column (column_entries p k) (cost_at p k))
      ∷ held a (bounds_held (bounds_at p j).semi (bounds_at p j).lower (bounds_at p j).upper (bounds_at p j).whole)
      ∷ held b (bounds_held (bounds_at p k).semi (bounds_at p k).lower (bounds_at p k).upper (bounds_at p k).whole) ∷ []

  -- and what, where both are live and the bounds are of either kind
  abbrev kind_found : Bool → Bool → List Contents
  kind_found a b =
      holding.Column (column_entries p j) (cost_at p j)
      ∷ holding.Column (column_entries p k) (cost_at p k)
      ∷ bounds_held a (bounds_at p j).lower (bounds_at p j).upper (bounds_at p j).whole
      ∷ bounds_held b (bounds_at p k).lower (bounds_at p k).upper (bounds_at p k).whole ∷ []

  columns_kind : (semi other : Bool) → columns.holds (n.column j) (n.column k) (map (contents_at n) (kind_found semi other)) ≡ columns.holds j k (kind_found semi other)
  columns_kind true other = ap (λ (y : Bool). not y && false) (equal_at n.column p.matrix.columns o.column j k first second)
  columns_kind false true = ap (λ (y : Bool). not y && false) (equal_at n.column p.matrix.columns o.column j k first second)
  columns_kind false false =
      let ts : List Term = column_entries p j in
      let us : List Term = column_entries p k in
      let a : Contents = holding.Bounds (bounds_at p j).lower (bounds_at p j).upper (bounds_at p j).whole in
      let b : Contents = holding.Bounds (bounds_at p k).lower (bounds_at p k).upper (bounds_at p k).whole in
      let same = equal_at n.column p.matrix.columns o.column j k first second in
      let none = none_at n.row ts in
      let s = factor_at n.row ts us in
      let times = times_at n.row p.matrix.rows o.row ts us (column_entries-live p j) (column_entries-live p k) in
      λ x. not (same x) && (are_in_order a b && (are_of_a_kind (s x) a b && (not (none x) && (fits (s x) && (eq_ℚ (cost_at p j) (s x *ℚ cost_at p k) && times x)))))

  columns_live : columns.holds (n.column j) (n.column k) (map (contents_at n) (columns_found true true)) ≡ columns.holds j k (columns_found true true)
  columns_live = columns_kind (bounds_at p j).semi (bounds_at p k).semi

  pub parallel_columns_alike : columns.holds (n.column j) (n.column k) (map (contents_at n) (found_on (columns.heads j k) no_more p)) ≡ columns.holds j k (found_on (columns.heads j k) no_more p)
  parallel_columns_alike =
      (λ x. columns.holds (n.column j) (n.column k) (map (contents_at n) (columns_found (first x) (second x))))
      ∙ columns_live
      ∙ sym (λ x. columns.holds j k (columns_found (first x) (second x)))

-- ---- where both lines are live, so is what they read
pub rows_there : (p : Sparse) (i k : ℕ) → (row_at p i).live ≡ true → (row_at p k).live ≡ true → AreThere p (rows.heads i k)
rows_there p i k h g = all_two (IsThere p) (Row i) (Row k) h g

pub columns_there : (p : Sparse) (j k : ℕ) → (column_at p j).live ≡ true → (column_at p k).live ≡ true → AreThere p (columns.heads j k)
columns_there p j k h g =
    All-append (IsThere p) (Col j ∷ Col k ∷ []) (Bounds j ∷ Bounds k ∷ []) (all_two (IsThere p) (Col j) (Col k) h g) (all_two (IsThere p) (Bounds j) (Bounds k) h g)

-- ---- K15's edits, and the numbers that it computes
module _ (n : Ids) (p q : Sparse) (s : LinesStand n p q) (i k : ℕ) (first : (row_at p i).live ≡ true) (second : (row_at p k).live ≡ true) where
  abbrev gone_row : ℕ
  gone_row = n.row i

  abbrev kept_row : ℕ
  kept_row = n.row k

  row_factor_same : rows.factor q gone_row kept_row ≡ rows.factor p i k
  row_factor_same =
      let a = (s.row i first).entries in
      let b = (s.row k second).entries in
      (λ x. factor_of (a x) (b x)) ∙ factor_at n.column (row_entries p i) (row_entries p k)

  pub parallel_rows_edits : rows.edits q gone_row kept_row ≡ map (edit_at n) (rows.edits p i k)
  parallel_rows_edits =
      let a = s.row i first in
      let b = s.row k second in
      let f = row_factor_same in
      λ x. SetSides kept_row (meet_low (b.lower x) (lower_over (f x) (a.lower x) (a.upper x))) (meet_high (b.upper x) (upper_over (f x) (a.lower x) (a.upper x))) ∷ DeleteRow gone_row ∷ []

  side_computes : (o d : Option Number) → d ≡ o → rows.SideComputes (rows.factor p i k) o ↔ rows.SideComputes (rows.factor q gone_row kept_row) d
  side_computes o d e = let f = row_factor_same in
      both_by (λ (x : Number × Option Number). rows.SideComputes x.0 x.1) (rows.factor p i k, o) (rows.factor q gone_row kept_row, d) (sym (λ x. (f x, e x)))

  pub parallel_rows_computes : rows.Computes p i k ↔ rows.Computes q gone_row kept_row
  parallel_rows_computes =
      let a = s.row i first in
      let lower = side_computes (sides_at p i).lower (sides_at q gone_row).lower a.lower in
      let upper = side_computes (sides_at p i).upper (sides_at q gone_row).upper a.upper in (
        λ h. record { lower = lower.0 h.lower; upper = upper.0 h.upper },
        λ h. record { lower = lower.1 h.lower; upper = upper.1 h.upper },
      )

  pub parallel_rows_enabled : rows.enabled q gone_row kept_row ≡ rows.enabled p i k
  parallel_rows_enabled = ap (rows.holds gone_row kept_row) (all_stand n p q s (rows.heads i k) (rows_there p i k first second)) ∙ parallel_rows_alike n p s.apart i k first second

-- ---- K16's edits, and the numbers that it computes
module _ (n : Ids) (p q : Sparse) (s : LinesStand n p q) (j k : ℕ) (first : (column_at p j).live ≡ true) (second : (column_at p k).live ≡ true) where
  abbrev gone : ℕ
  gone = n.column j

  abbrev kept : ℕ
  kept = n.column k

  column_factor_same : columns.factor q gone kept ≡ columns.factor p j k
  column_factor_same =
      let a = (s.column j first).entries in
      let b = (s.column k second).entries in
      (λ x. factor_of (a x) (b x)) ∙ factor_at n.row (column_entries p j) (column_entries p k)

  least_same : columns.least_part q gone kept ≡ columns.least_part p j k
  least_same = let a = s.column j first in let f = column_factor_same in λ x. least_term (f x) (a.lower x) (a.upper x)

  greatest_same : columns.greatest_part q gone kept ≡ columns.greatest_part p j k
  greatest_same = let a = s.column j first in let f = column_factor_same in λ x. greatest_term (f x) (a.lower x) (a.upper x)

  pub parallel_columns_edits : columns.edits q gone kept ≡ map (edit_at n) (columns.edits p j k)
  parallel_columns_edits = let b = s.column k second in λ x. SetBounds kept (plus (b.lower x) (least_same x)) (plus (b.upper x) (greatest_same x)) ∷ DeleteColumn gone ∷ []

  end_computes : (o d c e : Option Number) → c ≡ o → e ≡ d → columns.EndComputes o d ↔ columns.EndComputes c e
  end_computes o d c e f g = both_by (λ (x : Option Number × Option Number). columns.EndComputes x.0 x.1) (o, d) (c, e) (sym (λ x. (f x, g x)))

  pub parallel_columns_computes : columns.Computes p j k ↔ columns.Computes q gone kept
  parallel_columns_computes =
      let b = s.column k second in
      let lower = end_computes (bounds_at p k).lower _ (bounds_at q kept).lower _ b.lower least_same in
      let upper = end_computes (bounds_at p k).upper _ (bounds_at q kept).upper _ b.upper greatest_same in (
        λ h. record { lower = lower.0 h.lower; upper = upper.0 h.upper },
        λ h. record { lower = lower.1 h.lower; upper = upper.1 h.upper },
      )

  pub parallel_columns_enabled : columns.enabled q gone kept ≡ columns.enabled p j k
  parallel_columns_enabled = ap (columns.holds gone kept) (all_stand n p q s (columns.heads j k) (columns_there p j k first second)) ∙ parallel_columns_alike n p s.apart j k first second
