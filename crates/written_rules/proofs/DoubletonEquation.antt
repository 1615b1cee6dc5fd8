-- K12 at new ids: its condition looks at two ids, those of its columns, and it edits the rows of the column that goes.
use Rattle.std.proofs.Common.{◌≡◌, ◌↔◌, ℕ, Bool, true, false, ◌&&◌, ◌||◌, not, nat_eq, List, [], ◌∷◌, ◌++◌, get_or, map, Option, unwrap_or, refl, sym, ap, ap₂, ◌∙◌, subst}
use Rattle.std.specs.List.{All}
use Rattle.std.proofs.lemmas.List.{map-append}
use Rattle.std.proofs.lemmas.List.Elements.{All-append, All-filter, All-head, All-tail}
use Rattle.fractions.specs.Number.{Number, zero_ℚ, ◌-ℚ◌, ◌*ℚ◌}
use Rattle.fractions.specs.Division.{◌/ℚ◌}
use Rattle.fractions.specs.Ends.{less, meet_low, meet_high}
use Rattle.fractions.specs.Lowest.{Fits}
use Rattle.fractions.specs.EndWords.{LessFits}
use Rattle.lp_model.specs.declared.terms.Term.{Term}
use Rattle.lp_model.specs.EndTests.{is_fixed, is_in_order}
use Rattle.lp_model.specs.Sparse.{dense, without}
use Rattle.lp_substitutions.specs.DoubletonEquation.{image_lower, image_upper}
use Rattle.undo_records.specs.Fitting.{LessProductFits}
use Rattle.problem_model.specs.declared.edit.Edit.{Edit}
use Rattle.problem_model.specs.declared.edit.Edit.TheVariants.{SetEntry, SetSides}
use Rattle.problem_model.specs.declared.line.Line.{Line}
use Rattle.problem_model.specs.declared.part.Contents.{Contents}
use Rattle.problem_model.specs.declared.part.Contents.TheVariants as holding
use Rattle.problem_model.specs.declared.part.Part.TheVariants.{Row, Sides, Bounds}
use Rattle.problem_model.specs.Parts.{bounds_held}
use Rattle.problem_model.specs.Problems.{bounds_at, column_at, column_entries, cost_at, row_at, row_entries, sides_at}
use Rattle.problem_model.specs.Sparse.{Sparse}
use Rattle.problem_laws.proofs.Entries.{column_entries-live, row_entries-live}
use Rattle.rule_words.specs.Reading.{found_on, no_more}
use Rattle.aggregation_laws.specs.DoubletonEquation.{Computes, ImageFits, TermComputes, are_at, column_joined, edits, enabled, entry_at, entry_less, equal_of, factor, heads, holds, joined_cost, joined_lower, joined_upper, others, shift, stays_whole}
use Rattle.rule_words.specs.MovedSides.{sides_less}
use Rattle.written_ids.specs.NewIds.{Ids, term_at, terms_at}
use Rattle.written_ids.specs.Standing.{AreOneToOne, IsLive, IsOneToOne, LinesStand}
use Rattle.written_ids.proofs.Lists.{all_both, all_two, both_by, both_then, map_where}
use Rattle.written_ids.proofs.NewIds.{contents_at, edit_at}
use Rattle.written_ids.proofs.OneToOne.{NamesLive, dense_at, equal_at, without_at}
use Rattle.written_ids.proofs.Standing.{AreThere, IsThere, all_stand, held}

-- ---- its condition
module _ (f : ℕ → ℕ) (lines : List Line) (o : IsOneToOne f lines) (j k : ℕ) (first : IsLive lines j) (second : IsLive lines k) where
  are_at_by : (ts : List Term) → All (NamesLive lines) ts → are_at (f j) (f k) (terms_at f ts) ≡ are_at j k ts
  are_at_by [] h = refl
  are_at_by (t ∷ []) h = refl
  are_at_by (t ∷ u ∷ []) h =
      let a = All-head (NamesLive lines) t (u ∷ []) h in
      let b = All-head (NamesLive lines) u [] (All-tail (NamesLive lines) t (u ∷ []) h) in
      let tj = equal_at f lines o t.id j a first in
      let tk = equal_at f lines o t.id k a second in
      let uj = equal_at f lines o u.id j b first in
      let uk = equal_at f lines o u.id k b second in
      λ x. (tj x && uk x) || (tk x && uj x)
  are_at_by (t ∷ u ∷ v ∷ ts) h = refl

module _ (n : Ids) (p : Sparse) (o : AreOneToOne n p) (i j k : ℕ) (first : (column_at p j).live ≡ true) (second : (column_at p k).live ≡ true) where
  abbrev ts : List Term
  ts = row_entries p i

  -- what it reads, where the row and the columns are live or not; and the condition, where all are
  abbrev found : Bool → Bool → Bool → List Contents
  found r a b =
      held r (holding.Entries ts)
      ∷ held r (holding.Sides (sides_at p i).lower (sides_at p i).upper)
      ∷ held a (bounds_held (bounds_at p j).semi (bounds_at p j).lower (bounds_at p j).upper (bounds_at p j).whole)
      ∷ held b (bounds_held (bounds_at p k).semi (bounds_at p k).lower (bounds_at p k).upper (bounds_at p k).whole) ∷ []

  -- and what, where all are live and the bounds are of either kind
  abbrev kind_found : Bool → Bool → List Contents
  kind_found a b =
      holding.Entries ts
      ∷ holding.Sides (sides_at p i).lower (sides_at p i).upper
      ∷ bounds_held a (bounds_at p j).lower (bounds_at p j).upper (bounds_at p j).whole
      ∷ bounds_held b (bounds_at p k).lower (bounds_at p k).upper (bounds_at p k).whole ∷ []

  all_kind : (semi other : Bool) → holds (n.column j) (n.column k) (map (contents_at n) (kind_found semi other)) ≡ holds j k (kind_found semi other)
  all_kind true true = refl
  all_kind true false = refl
  all_kind false true = refl
  all_kind false false =
      let l : Option Number = (sides_at p i).lower in
      let u : Option Number = (sides_at p i).upper in
      let x = bounds_at p j in
      let y = bounds_at p k in
      let same = are_at_by n.column p.matrix.columns o.column j k first second ts (row_entries-live p i) in
      let a = dense_at n.column p.matrix.columns o.column j ts first (row_entries-live p i) in
      let b = dense_at n.column p.matrix.columns o.column k ts second (row_entries-live p i) in
      λ t. same t && (is_fixed l u false && (is_in_order x.lower x.upper && (is_in_order y.lower y.upper && stays_whole x.whole y.whole (a t) (b t) (unwrap_or l zero_ℚ))))

  all_live : holds (n.column j) (n.column k) (map (contents_at n) (found true true true)) ≡ holds j k (found true true true)
  all_live = all_kind (bounds_at p j).semi (bounds_at p k).semi

  pub doubleton_equation_alike : (row_at p i).live ≡ true → holds (n.column j) (n.column k) (map (contents_at n) (found_on (heads i j k) no_more p)) ≡ holds j k (found_on (heads i j k) no_more p)
  doubleton_equation_alike h =
      (λ t. holds (n.column j) (n.column k) (map (contents_at n) (found (h t) (first t) (second t))))
      ∙ all_live
      ∙ sym (λ t. holds j k (found (h t) (first t) (second t)))

pub pair_there : (p : Sparse) (i j k : ℕ) → (row_at p i).live ≡ true → (column_at p j).live ≡ true → (column_at p k).live ≡ true → AreThere p (heads i j k)
pair_there p i j k h f g =
    All-append (IsThere p) (Row i ∷ Sides i ∷ []) (Bounds j ∷ Bounds k ∷ []) (all_two (IsThere p) (Row i) (Sides i) h h) (all_two (IsThere p) (Bounds j) (Bounds k) f g)

-- ---- its edits, and the numbers that it computes
module _ (n : Ids) (p q : Sparse) (s : LinesStand n p q) (i j k : ℕ) (on : (row_at p i).live ≡ true) (first : (column_at p j).live ≡ true) (second : (column_at p k).live ≡ true) where
  abbrev row : ℕ
  row = n.row i

  abbrev gone : ℕ
  gone = n.column j

  abbrev kept : ℕ
  kept = n.column k

  entry_same : (c : ℕ) → (column_at p c).live ≡ true → entry_at q row (n.column c) ≡ entry_at p i c
  entry_same c live = ap (λ us. dense us (n.column c)) (s.row i on).entries ∙ dense_at n.column p.matrix.columns s.apart.column c (row_entries p i) live (row_entries-live p i)

  equal_same : equal_of q row ≡ equal_of p i
  equal_same = ap (λ (o : Option Number). unwrap_or o zero_ℚ) (s.row i on).lower

  factor_same : factor q row gone kept ≡ factor p i j k
  factor_same = let a = entry_same j first in let b = entry_same k second in λ t. b t /ℚ a t

  shift_same : shift q row gone ≡ shift p i j
  shift_same = let a = entry_same j first in λ t. equal_same t /ℚ a t

  others_same : others q row gone ≡ terms_at n.row (others p i j)
  others_same = ap (without row) (s.column j first).entries ∙ without_at n.row p.matrix.rows s.apart.row i (column_entries p j) on (column_entries-live p j)

  others_live : All (λ t. (row_at p t.id).live ≡ true) (others p i j)
  others_live = All-filter (λ t. not (nat_eq t.id i)) (λ t. (row_at p t.id).live ≡ true) (column_entries p j) (column_entries-live p j)

  -- the numbers
  cost_same : joined_cost q row gone kept ≡ joined_cost p i j k
  cost_same = let x = (s.column j first).cost in let y = (s.column k second).cost in λ t. y t -ℚ x t *ℚ factor_same t

  lower_same : joined_lower q row gone kept ≡ joined_lower p i j k
  lower_same =
      let x = s.column j first in
      let y = s.column k second in
      let a = entry_same j first in
      let b = entry_same k second in
      λ t. meet_low (y.lower t) (image_lower (a t) (b t) (equal_same t) (x.lower t) (x.upper t))

  upper_same : joined_upper q row gone kept ≡ joined_upper p i j k
  upper_same =
      let x = s.column j first in
      let y = s.column k second in
      let a = entry_same j first in
      let b = entry_same k second in
      λ t. meet_high (y.upper t) (image_upper (a t) (b t) (equal_same t) (x.lower t) (x.upper t))

  amount_same : (cost_at q gone *ℚ shift q row gone) ≡ (cost_at p j *ℚ shift p i j)
  amount_same = let x = (s.column j first).cost in λ t. x t *ℚ shift_same t

  -- one term
  other_entry_same : (t : Term) → (row_at p t.id).live ≡ true → dense (column_entries q kept) (n.row t.id) ≡ dense (column_entries p k) t.id
  other_entry_same t h = ap (λ us. dense us (n.row t.id)) (s.column k second).entries ∙ dense_at n.row p.matrix.rows s.apart.row t.id (column_entries p k) h (column_entries-live p k)

  entry_less_same : (f : Number) (t : Term) → (row_at p t.id).live ≡ true → entry_less q kept f (term_at n.row t) ≡ edit_at n (entry_less p k f t)
  entry_less_same f t h = let e = other_entry_same t h in λ x. SetEntry (n.row t.id) kept (e x -ℚ t.value *ℚ f)

  sides_less_same : (w : Number) (t : Term) → (row_at p t.id).live ≡ true → sides_less q w (term_at n.row t) ≡ edit_at n (sides_less p w t)
  sides_less_same w t h = let r = s.row t.id h in λ x. SetSides (n.row t.id) (less (r.lower x) (t.value *ℚ w)) (less (r.upper x) (t.value *ℚ w))

  term_computes : (f w : Number) (t : Term) → (row_at p t.id).live ≡ true → TermComputes p k f w t ↔ TermComputes q kept f w (term_at n.row t)
  term_computes f w t h =
      let r = s.row t.id h in
      let e = other_entry_same t h in
      let fits = λ (o : Option Number). LessFits o (t.value *ℚ w) in
      let less_fits = λ (x : Number). LessProductFits x t.value f in (
        λ c. record { entry = subst less_fits (sym e) c.entry; sides = record { product = c.sides.product; lower = subst fits (sym r.lower) c.sides.lower; upper = subst fits (sym r.upper) c.sides.upper } },
        λ c. record { entry = subst less_fits e c.entry; sides = record { product = c.sides.product; lower = subst fits r.lower c.sides.lower; upper = subst fits r.upper c.sides.upper } },
      )

  -- all
  pub doubleton_equation_edits : edits q row gone kept ≡ map (edit_at n) (edits p i j k)
  doubleton_equation_edits =
      let f : Number = factor p i j k in
      let w : Number = shift p i j in
      let ts : List Term = others p i j in
      let last : List Edit = column_joined i j k (joined_cost p i j k) (joined_lower p i j k) (joined_upper p i j k) (cost_at p j *ℚ w) in
      (λ t. map (entry_less q kept (factor_same t)) (others_same t)
      ++ (map (sides_less q (shift_same t)) (others_same t) ++ column_joined row gone kept (cost_same t) (lower_same t) (upper_same t) (amount_same t)))
      ∙ ap₂ (λ (xs ys : List Edit). xs ++ (ys ++ map (edit_at n) last))
      (map_where (term_at n.row) (entry_less p k f) (edit_at n) (entry_less q kept f) ts (λ a d l. entry_less_same f (get_or ts a d) (others_live a d l)))
      (map_where (term_at n.row) (sides_less p w) (edit_at n) (sides_less q w) ts (λ a d l. sides_less_same w (get_or ts a d) (others_live a d l)))
      ∙ sym (ap (λ (xs : List Edit). map (edit_at n) (map (entry_less p k f) ts) ++ xs) (map-append (edit_at n) (map (sides_less p w) ts) last))
      ∙ sym (map-append (edit_at n) (map (entry_less p k f) ts) (map (sides_less p w) ts ++ last))

  terms_compute : All (TermComputes p k (factor p i j k) (shift p i j)) (others p i j) ↔ All (TermComputes q kept (factor q row gone kept) (shift q row gone)) (others q row gone)
  terms_compute =
      let f : Number = factor p i j k in
      let w : Number = shift p i j in
      let ts : List Term = others p i j in
      both_then (all_both (TermComputes p k f w) (TermComputes q kept f w) (term_at n.row) ts (λ a d l. term_computes f w (get_or ts a d) (others_live a d l)))
      (both_by (λ (x : Number × Number × List Term). All (TermComputes q kept x.0 x.1) x.2) (f, w, terms_at n.row ts)
      (factor q row gone kept, shift q row gone, others q row gone) (sym (λ t. (factor_same t, shift_same t, others_same t))))

  image_fits : (v : Option Number) (x : Option Number) → x ≡ v → ImageFits (entry_at p i j) (entry_at p i k) (equal_of p i) v ↔ ImageFits (entry_at q row gone) (entry_at q row kept) (equal_of q row) x
  image_fits v x e =
      let a = entry_same j first in
      let b = entry_same k second in
      both_by (λ (y : Number × Number × Number × Option Number). ImageFits y.0 y.1 y.2 y.3) (entry_at p i j, entry_at p i k, equal_of p i, v)
      (entry_at q row gone, entry_at q row kept, equal_of q row, x) (sym (λ t. (a t, b t, equal_same t, e t)))

  cost_fits : LessProductFits (cost_at p k) (cost_at p j) (factor p i j k) ↔ LessProductFits (cost_at q kept) (cost_at q gone) (factor q row gone kept)
  cost_fits =
      let x = (s.column j first).cost in
      let y = (s.column k second).cost in
      both_by (λ (z : Number × Number × Number). LessProductFits z.0 z.1 z.2) (cost_at p k, cost_at p j, factor p i j k)
      (cost_at q kept, cost_at q gone, factor q row gone kept) (sym (λ t. (y t, x t, factor_same t)))

  pub doubleton_equation_computes : Computes p i j k ↔ Computes q row gone kept
  doubleton_equation_computes =
      let c = s.column j first in
      let lower = image_fits (bounds_at p j).lower (bounds_at q gone).lower c.lower in
      let upper = image_fits (bounds_at p j).upper (bounds_at q gone).upper c.upper in (
        λ h. record {
          entries_quotient = subst Fits (sym factor_same) h.entries_quotient;
          sides_quotient = subst Fits (sym shift_same) h.sides_quotient;
          terms = terms_compute.0 h.terms;
          cost = cost_fits.0 h.cost;
          amount = subst Fits (sym amount_same) h.amount;
          lower = lower.0 h.lower;
          upper = upper.0 h.upper;
        },
        λ h. record {
          entries_quotient = subst Fits factor_same h.entries_quotient;
          sides_quotient = subst Fits shift_same h.sides_quotient;
          terms = terms_compute.1 h.terms;
          cost = cost_fits.1 h.cost;
          amount = subst Fits amount_same h.amount;
          lower = lower.1 h.lower;
          upper = upper.1 h.upper;
        },
      )

  -- ---- it is enabled at both or at neither
  pub doubleton_equation_enabled : enabled q row gone kept ≡ enabled p i j k
  doubleton_equation_enabled = ap (holds gone kept) (all_stand n p q s (heads i j k) (pair_there p i j k on first second)) ∙ doubleton_equation_alike n p s.apart i j k first second on
