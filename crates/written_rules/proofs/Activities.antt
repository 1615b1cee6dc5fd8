-- K5, K6, K7, K8 and V2 at new ids: what they read, their conditions and their edits.
use Rattle.std.proofs.Common.{◌≡◌, ℕ, Bool, true, false, not, ◌&&◌, ◌||◌, nat_eq, List, [], ◌∷◌, ◌++◌, get_or, map, Option, Some, None, is_none, option_map, refl, sym, ap, ap₂, ◌∙◌}
use Rattle.std.specs.Prelude.{if◌then◌else◌}
use Rattle.std.specs.List.{All}
use Rattle.std.proofs.lemmas.Bool.{and_parts}
use Rattle.std.proofs.lemmas.List.{map-append}
use Rattle.std.proofs.lemmas.List.Elements.{All-append, All-head, All-map, All-nil, All-tail}
use Rattle.fractions.specs.Number.{Number, zero_ℚ}
use Rattle.fractions.specs.Compare.{lt_ℚ}
use Rattle.lp_model.specs.declared.terms.Term.{Term}
use Rattle.lp_model.specs.EndTests.{is_crossed, is_in_order}
use Rattle.lp_model.specs.Sparse.{dense, has}
use Rattle.undo_records.specs.declared.side.Side.{Side}
use Rattle.undo_records.specs.declared.side.Side.TheVariants.{Lower, Upper}
use Rattle.problem_model.specs.declared.edit.Edit.{Edit}
use Rattle.problem_model.specs.declared.edit.Edit.TheVariants.{DeleteRow, SetBounds}
use Rattle.problem_model.specs.declared.line.Bounds as lines
use Rattle.problem_model.specs.declared.part.Contents.{Contents}
use Rattle.problem_model.specs.declared.part.Contents.TheVariants as holding
use Rattle.problem_model.specs.declared.part.Part.TheVariants.{Row, Sides, Bounds}
use Rattle.problem_model.specs.Parts.{contents_of}
use Rattle.problem_model.specs.Problems.{bounds_at, column_at, row_at, row_entries, sides_at}
use Rattle.problem_model.specs.Sparse.{Sparse}
use Rattle.problem_laws.proofs.Entries.{has-live_only, row_entries-live}
use Rattle.rule_words.specs.Reading.{bounds_of, terms_in}
use Rattle.row_spans.specs.declared.span.Extreme.{Extreme}
use Rattle.row_spans.specs.declared.span.Extreme.TheVariants.{Least, Greatest}
use Rattle.row_spans.specs.declared.span.Span.{Span}
use Rattle.row_spans.specs.Spans.{span_of, spans_of}
use Rattle.activity_laws.specs.Rows.{RowTest, all_in_order, has_some, heads, keeps_lower, keeps_upper, on_activities, on_row, row_found}
use Rattle.activity_laws.specs.RedundantRow as redundant_row
use Rattle.activity_laws.specs.RedundantSide as redundant_side
use Rattle.activity_laws.specs.ForcingRow as forcing_row
use Rattle.activity_laws.specs.InfeasibleRow as infeasible_row
use Rattle.activity_laws.specs.BoundTightening as tightened
use Rattle.activity_laws.proofs.Rows.{said, tested}
use Rattle.activity_laws.proofs.BoundTightening.{said_at}
use Rattle.written_ids.specs.NewIds.{Ids, term_at, terms_at}
use Rattle.written_ids.specs.Standing.{AreOneToOne, LinesStand}
use Rattle.written_ids.proofs.Lists.{all_one, all_two, map_across}
use Rattle.written_ids.proofs.NewIds.{contents_at, edit_at, part_at}
use Rattle.written_ids.proofs.OneToOne.{dense_at, equal_at, NamesLive}
use Rattle.written_ids.proofs.Standing.{AreThere, IsThere, held}
use Rattle.written_ids.proofs.Spans.{NamesAlike, has_some_by, on_activities_by, on_row_alike, on_row_at, rest_by, solid_by, span_by, spans_by, spans_stand, test_by}

-- ---- what is read: the bounds of the columns that a row names when it is read, live or not
abbrev pub row_read : Sparse → ℕ → List Term
row_read p i = terms_in (contents_of p (Row i))

row_read_live : (p : Sparse) (i : ℕ) → All (NamesLive p.matrix.columns) (row_read p i)
row_read_live p i = by (row_at p i).live
  where
    by : (on : Bool) → All (NamesLive p.matrix.columns) (terms_in (held on (holding.Entries (row_entries p i))))
    by true = row_entries-live p i
    by false = All-nil (NamesLive p.matrix.columns)

row_read_at : (n : Ids) (p : Sparse) (i : ℕ) → terms_in (contents_at n (contents_of p (Row i))) ≡ terms_at n.column (row_read p i)
row_read_at n p i = by (row_at p i).live
  where
    by : (on : Bool) → terms_in (contents_at n (held on (holding.Entries (row_entries p i)))) ≡ terms_at n.column (terms_in (held on (holding.Entries (row_entries p i))))
    by true = refl
    by false = refl

pub bounds_read_at : (n : Ids) (p : Sparse) (i : ℕ) → bounds_of (terms_in (contents_at n (contents_of p (Row i)))) ≡ map (part_at n) (bounds_of (row_read p i))
bounds_read_at n p i = ap bounds_of (row_read_at n p i) ∙ map_across (term_at n.column) (λ t. Bounds t.id) (part_at n) (λ t. Bounds t.id) (λ t. refl) (row_read p i)

pub bounds_read_there : (p : Sparse) (i : ℕ) → AreThere p (bounds_of (row_read p i))
bounds_read_there p i = All-map (IsThere p) (λ t. Bounds t.id) (row_read p i) (row_read_live p i)

-- where a test of a row holds, the row is live
pub row_there : (test : RowTest) (p : Sparse) (i : ℕ) → on_row test (row_found p i) ≡ true → AreThere p (heads i)
row_there test p i e = let on = (said test p i e).live in all_two (IsThere p) (Row i) (Sides i) on on

-- ---- the conditions of K5, K6, K7 and V2 look at no id
module _ (n : Ids) where
  some_and : (test : Option Number → Option Number → Bool) (ss : List Span)
      → (has_some (spans_by n.column ss) && on_activities test (spans_by n.column ss)) ≡ (has_some ss && on_activities test ss)
  some_and test ss = ap₂ (λ (a b : Bool). a && b) (has_some_by n.column ss) (on_activities_by n.column test ss)

  pub redundant_row_alike : (cs : List Contents) → redundant_row.holds (map (contents_at n) cs) ≡ redundant_row.holds cs
  redundant_row_alike cs = on_row_alike n redundant_row.is_redundant_row (λ l u ss. some_and (λ least greatest. keeps_lower l least && keeps_upper u greatest) ss) cs

  pub redundant_side_alike : (cs : List Contents) → redundant_side.holds (map (contents_at n) cs) ≡ redundant_side.holds cs
  redundant_side_alike cs = on_row_alike n redundant_side.has_redundant_side (λ l u ss.
      ap₂ (λ (a b : Bool). a && (not (is_none l) && (not (is_none u) && b))) (has_some_by n.column ss)
      (on_activities_by n.column (λ least greatest. redundant_side.differ (keeps_lower l least) (keeps_upper u greatest)) ss)) cs

  pub forcing_row_alike : (cs : List Contents) → forcing_row.holds (map (contents_at n) cs) ≡ forcing_row.holds cs
  forcing_row_alike cs = on_row_alike n forcing_row.is_forcing_row (λ l u ss.
      let a = has_some_by n.column ss in
      let b = solid_by n.column ss in
      let c = on_activities_by n.column (λ least greatest. forcing_row.is_reached l greatest || forcing_row.is_reached u least) ss in
      λ t. a t && (b t && c t)) cs

  pub infeasible_row_alike : (cs : List Contents) → infeasible_row.holds (map (contents_at n) cs) ≡ infeasible_row.holds cs
  infeasible_row_alike cs = on_row_alike n infeasible_row.is_infeasible_row (λ l u ss. on_activities_by n.column (λ least greatest. is_crossed least u || is_crossed l greatest) ss) cs

-- ---- the condition of K8 looks at one id: that of its column
module _ (f : ℕ → ℕ) (j : ℕ) (ss : List Span) (h : All (NamesAlike f j) ss) where
  has_two_by : tightened.has_two (spans_by f ss) ≡ tightened.has_two ss
  has_two_by = by ss
    where
      by : (xs : List Span) → tightened.has_two (spans_by f xs) ≡ tightened.has_two xs
      by [] = refl
      by (x ∷ xs) = has_some_by f xs

  pub implied_by : (side : Side) (a : Number) (l u : Option Number) → tightened.implied side (f j) a l u (spans_by f ss) ≡ tightened.implied side j a l u ss
  implied_by Lower a l u = let x = rest_by f Greatest j ss h in let y = rest_by f Least j ss h in λ t. if lt_ℚ zero_ℚ a then tightened.left_over a l (x t) else tightened.left_over a u (y t)
  implied_by Upper a l u = let x = rest_by f Greatest j ss h in let y = rest_by f Least j ss h in λ t. if lt_ℚ zero_ℚ a then tightened.left_over a u (y t) else tightened.left_over a l (x t)

  pub entry_by : (xs : List Span) → All (NamesAlike f j) xs → tightened.entry_at (f j) (spans_by f xs) ≡ option_map (span_by f) (tightened.entry_at j xs)
  entry_by [] g = refl
  entry_by (x ∷ xs) g =
      ap₂ (λ (b : Bool) (o : Option Span). if b then Some (span_by f x) else o) (All-head (NamesAlike f j) x xs g) (entry_by xs (All-tail (NamesAlike f j) x xs g))
      ∙ step (nat_eq x.id j)
    where
      step : (b : Bool) → (if b then Some (span_by f x) else option_map (span_by f) (tightened.entry_at j xs)) ≡ option_map (span_by f) (if b then Some x else tightened.entry_at j xs)
      step true = refl
      step false = refl

  tightened_at_by : (side : Side) (l u : Option Number) (o : Option Span)
      → tightened.is_tightened_at side (f j) l u (spans_by f ss) (option_map (span_by f) o) ≡ tightened.is_tightened_at side j l u ss o
  tightened_at_by side l u None = refl
  tightened_at_by side l u (Some s) = ap (λ (b : Option Number). not s.semi && tightened.is_better side (tightened.old_bound side s.lower s.upper) b) (implied_by side s.value l u)

  tightened_by : (side : Side) (l u : Option Number) → tightened.is_bound_tightening (f j) side l u (spans_by f ss) ≡ tightened.is_bound_tightening j side l u ss
  tightened_by side l u =
      ap₂ (λ (a b : Bool). a && b) has_two_by
      (ap (tightened.is_tightened_at side (f j) l u (spans_by f ss)) (entry_by ss h) ∙ tightened_at_by side l u (tightened.entry_at j ss))

-- the spans of a row are at live columns, and so is column j
pub spans_alike : (n : Ids) (p : Sparse) → AreOneToOne n p → (i j : ℕ) → (column_at p j).live ≡ true → All (NamesAlike n.column j) (spans_of p i)
spans_alike n p o i j on = let ts : List Term = row_entries p i in
    All-map (NamesAlike n.column j) (span_of p) ts (λ k d m. equal_at n.column p.matrix.columns o.column (get_or ts k d).id j (row_entries-live p i k d m) on)

pub tightened_alike : (n : Ids) (p : Sparse) → AreOneToOne n p → (i j : ℕ) (side : Side) → (column_at p j).live ≡ true
    → tightened.holds (n.column j) side (map (contents_at n) (row_found p i)) ≡ tightened.holds j side (row_found p i)
tightened_alike n p o i j side on =
    let new : RowTest = tightened.is_bound_tightening (n.column j) side in
    let old : RowTest = tightened.is_bound_tightening j side in
    let l : Option Number = (sides_at p i).lower in
    let u : Option Number = (sides_at p i).upper in
    let ss : List Span = spans_of p i in
    on_row_at n new (row_found p i)
    ∙ tested (test_by n.column new) p i
    ∙ ap (λ (b : Bool). (row_at p i).live && (is_in_order l u && (all_in_order ss && b))) (tightened_by n.column j ss (spans_alike n p o i j on) side l u)
    ∙ sym (tested old p i)

-- the column of a bound that is tightened is live
pub tightened_live : (p : Sparse) (i j : ℕ) (side : Side) → tightened.enabled p i j side ≡ true → (column_at p j).live ≡ true
tightened_live p i j side e = (and_parts (column_at p j).live (has j (row_at p i).entries) (sym (has-live_only p.matrix.columns j (row_at p i).entries) ∙ (said_at p i j side e).named)).0

-- where a bound can be tightened, the row is live, and so is the column
pub bound_there : (p : Sparse) (i j : ℕ) → (row_at p i).live ≡ true → (column_at p j).live ≡ true → AreThere p (heads i ++ Bounds j ∷ [])
bound_there p i j h g = All-append (IsThere p) (heads i) (Bounds j ∷ []) (all_two (IsThere p) (Row i) (Sides i) h h) (all_one (IsThere p) (Bounds j) g)

pub tightened_there : (p : Sparse) (i j : ℕ) (side : Side) → tightened.enabled p i j side ≡ true → AreThere p (heads i ++ Bounds j ∷ [])
tightened_there p i j side e = bound_there p i j (said (tightened.is_bound_tightening j side) p i e).live (tightened_live p i j side e)

-- ---- the edits
module _ (n : Ids) (p q : Sparse) (s : LinesStand n p q) (i : ℕ) where
  pub redundant_row_edits : redundant_row.edits q (n.row i) ≡ map (edit_at n) (redundant_row.edits p i)
  redundant_row_edits = refl

  module _ (on : (row_at p i).live ≡ true) where
    -- a test of the row's activities with one of its sides
    on_same : (test : Option Number → Option Number → Bool) → on_activities test (spans_of q (n.row i)) ≡ on_activities test (spans_of p i)
    on_same test = ap (on_activities test) (spans_stand n p q s i on) ∙ on_activities_by n.column test (spans_of p i)

    dropped_at : (b : Bool) (l u : Option Number) → redundant_side.side_dropped b (n.row i) l u ≡ edit_at n (redundant_side.side_dropped b i l u)
    dropped_at true l u = refl
    dropped_at false l u = refl

    pub redundant_side_edits : redundant_side.edits q (n.row i) ≡ map (edit_at n) (redundant_side.edits p i)
    redundant_side_edits =
        let r = s.row i on in
        let l : Option Number = (sides_at p i).lower in
        let kept = on_same (λ least greatest. keeps_lower l least) in
        (λ t. redundant_side.side_dropped (redundant_side.lower_is_kept (r.lower t) (spans_of q (n.row i))) (n.row i) (r.lower t) (r.upper t) ∷ [])
        ∙ (λ t. redundant_side.side_dropped (kept t) (n.row i) l (sides_at p i).upper ∷ [])
        ∙ ap (λ (e : Edit). e ∷ []) (dropped_at (redundant_side.lower_is_kept l (spans_of p i)) l (sides_at p i).upper)

    fixed_at : (extreme : Extreme) (x : Span) → forcing_row.fixed_at_end extreme (span_by n.column x) ≡ edit_at n (forcing_row.fixed_at_end extreme x)
    fixed_at Least x = refl
    fixed_at Greatest x = refl

    forcing_by : (extreme : Extreme) → forcing_row.edits_by extreme q (n.row i) ≡ map (edit_at n) (forcing_row.edits_by extreme p i)
    forcing_by extreme =
        ap (λ (ss : List Span). map (forcing_row.fixed_at_end extreme) ss ++ DeleteRow (n.row i) ∷ []) (spans_stand n p q s i on)
        ∙ ap (λ (es : List Edit). es ++ DeleteRow (n.row i) ∷ []) (map_across (span_by n.column) (forcing_row.fixed_at_end extreme) (edit_at n) (forcing_row.fixed_at_end extreme) (fixed_at extreme) (spans_of p i))
        ∙ sym (map-append (edit_at n) (map (forcing_row.fixed_at_end extreme) (spans_of p i)) (DeleteRow i ∷ []))

    at_lower_same : forcing_row.at_lower q (n.row i) ≡ forcing_row.at_lower p i
    at_lower_same =
        let r = s.row i on in
        (λ t. forcing_row.reaches_lower (r.lower t) (spans_of q (n.row i)))
        ∙ on_same (λ least greatest. forcing_row.is_reached (sides_at p i).lower greatest)

    pub forcing_row_edits : forcing_row.edits q (n.row i) ≡ map (edit_at n) (forcing_row.edits p i)
    forcing_row_edits =
        ap (λ (b : Bool). forcing_row.edits_by (if b then Greatest else Least) q (n.row i)) at_lower_same
        ∙ forcing_by (if forcing_row.at_lower p i then Greatest else Least)

    module _ (j : ℕ) (side : Side) (named : (column_at p j).live ≡ true) where
      new_bound_same : tightened.new_bound q (n.row i) (n.column j) side ≡ tightened.new_bound p i j side
      new_bound_same =
          let r = s.row i on in
          let ts : List Term = row_entries p i in
          let a = ap (λ (us : List Term). dense us (n.column j)) r.entries ∙ dense_at n.column p.matrix.columns s.apart.column j ts named (row_entries-live p i) in
          let spans = spans_stand n p q s i on in
          (λ t. tightened.implied side (n.column j) (a t) (r.lower t) (r.upper t) (spans t))
          ∙ implied_by n.column j (spans_of p i) (spans_alike n p s.apart i j named) side (dense ts j) (sides_at p i).lower (sides_at p i).upper

      set_at : (x : Side) (old new : lines.Bounds) (b : Option Number) → new.lower ≡ old.lower → new.upper ≡ old.upper
          → tightened.bound_set x (n.column j) new b ≡ edit_at n (tightened.bound_set x j old b)
      set_at Lower old new b e g = λ t. SetBounds (n.column j) b (g t)
      set_at Upper old new b e g = λ t. SetBounds (n.column j) (e t) b

      pub tightened_edits : tightened.edits q (n.row i) (n.column j) side ≡ map (edit_at n) (tightened.edits p i j side)
      tightened_edits = let c = s.column j named in
          ap (λ (b : Option Number). tightened.bound_set side (n.column j) (bounds_at q (n.column j)) b ∷ []) new_bound_same
          ∙ ap (λ (e : Edit). e ∷ []) (set_at side (bounds_at p j) (bounds_at q (n.column j)) (tightened.new_bound p i j side) c.lower c.upper)
