-- K13.
use Rattle.std.proofs.Common.{◌≡◌, ℕ, Bool, true, false, not, ◌&&◌, List, [], ◌∷◌, Option, Some, None, unwrap_or, refl, sym, ap, ap₂, ◌∙◌, subst}
use Rattle.std.specs.Prelude.{if◌then◌else◌}
use Rattle.std.proofs.lemmas.Bool.{and_parts}
use Rattle.fractions.specs.Number.{Number, zero_ℚ, ◌-ℚ◌, ◌*ℚ◌}
use Rattle.fractions.specs.Division.{◌/ℚ◌}
use Rattle.fractions.specs.Compare.{lt_ℚ}
use Rattle.fractions.specs.Ends.{HighAbove, LowBelow, minus_ends, over}
use Rattle.fractions.specs.Total.{put}
use Rattle.lp_model.specs.LinearProgram.{LinearProgram}
use Rattle.lp_model.specs.Reductions.{Reduces, ReducesPairs}
use Rattle.lp_model.specs.Vectors.{Vector}
use Rattle.lp_model.specs.declared.program.Sense.TheVariants.{Min}
use Rattle.lp_model.specs.declared.terms.Term.{Term}
use Rattle.lp_theory.specs.Activities.{greatest_rest, least_rest}
use Rattle.lp_theory.specs.MetEnds.{lower_over, upper_over}
use Rattle.lp_theory.specs.Nearest.{InOrder}
use Rattle.lp_substitutions.specs.FreeColumnSingleton.{IsFreeColumnSingleton, cheapest_side, free_column_singleton_deleted, free_column_singleton_offset, free_column_singleton_point, implied_lower, implied_upper, undo_free_column_singleton}
use Rattle.lp_substitutions.proofs.FreeColumnSingleton.{free_column_singleton_reduces}
use Rattle.undo_records.specs.Lift.{undone}
use Rattle.undo_records.specs.declared.side.Side.TheVariants.{Lower, Upper}
use Rattle.undo_records.specs.declared.undo.Undo.{Undo}
use Rattle.undo_records.specs.declared.undo.Undo.TheVariants.{FreeColumnSingleton}
use Rattle.undo_pairs.specs.LiftPair.{undone_pair}
use Rattle.pair_laws.specs.Records as records
use Rattle.pair_laws.proofs.ColumnPairs.{free_pair}
use Rattle.problem_model.specs.declared.edit.Edit.TheVariants.{DeleteColumn, DeleteRow}
use Rattle.problem_model.specs.declared.part.Contents.TheVariants as holding
use Rattle.problem_model.specs.declared.part.Part.TheVariants as part
use Rattle.problem_model.specs.EditedPrograms.{programs_edited}
use Rattle.problem_model.specs.Parts.{contents_of}
use Rattle.problem_model.specs.Problems.{row_at, column_at, sides_at, bounds_at, cost_at, row_entries, column_entries, IsSparse}
use Rattle.problem_model.specs.Showing.{shown}
use Rattle.problem_model.specs.Sparse.{Sparse}
use Rattle.rule_words.specs.Owed.{Owes}
use Rattle.rule_words.specs.Ray.{StepsBack}
use Rattle.rule_words.specs.StepBack.{weighed_in}
use Rattle.ray_step_laws.proofs.Records as ray
use Rattle.rule_words.proofs.Coefficients.{end_live}
use Rattle.rule_words.proofs.EndTestsSay.{not_true}
use Rattle.rule_words.proofs.Named.{nothing_twice, one_on, two_sided}
use Rattle.row_spans.specs.declared.span.Extreme.TheVariants.{Greatest, Least}
use Rattle.row_spans.specs.declared.span.Span.{Span}
use Rattle.row_spans.specs.Exact.{fits, if_room}
use Rattle.row_spans.specs.RowSums.{rest}
use Rattle.row_spans.specs.Spans.{span_of, spans_of}
use Rattle.row_spans.proofs.Bridge.{rest-is}
use Rattle.activity_laws.specs.Rows.{keeps_lower, keeps_upper}
use Rattle.activity_laws.specs.BoundTightening.{entry_at, if_made, implied, left_over}
use Rattle.activity_laws.proofs.Rows as rows
use Rattle.activity_laws.proofs.Rows.{high_above, low_below}
use Rattle.activity_laws.proofs.BoundTightening.{found, is_made}
use Rattle.column_laws.specs.SoleEntry.{entry_of, is_sole_at, others_of, price_of}
use Rattle.column_laws.specs.FreeColumnSingleton.{cheapest_for, edits, enabled, gain_of, is_free, is_free_column_singleton, is_implied_at, record_of, side_for, value_of}
use Rattle.column_laws.proofs.SoleEntry.{IsSole, IsSoleEntry, costs_are, costs_moved, entry_is, entry_sound, in_order, named_on, not_whole, others_have, others_sound, out_allowed, owes_with, price_is, singleton, sole, sum_is, with_costs}
use Rattle.problem_model.specs.Showing.{reach_low, reach_high}

-- ---- what the condition says
-- o is a number at which the bounds of column j are implied
pub record IsImplied (j : ℕ) (ss : List Span) (s : Span) (o : Option Number) : Type 0 where
  pub side : o ≡ Some (unwrap_or o zero_ℚ)
  pub lower : keeps_lower s.lower (implied Lower j s.value (Some (unwrap_or o zero_ℚ)) (Some (unwrap_or o zero_ℚ)) ss) ≡ true
  pub upper : keeps_upper s.upper (implied Upper j s.value (Some (unwrap_or o zero_ℚ)) (Some (unwrap_or o zero_ℚ)) ss) ≡ true

implied_told : (j : ℕ) (ss : List Span) (s : Span) (o : Option Number) → is_implied_at j ss s o ≡ true → IsImplied j ss s o
implied_told j ss s None e = absurd (not_true e)
implied_told j ss s (Some w) e =
    let b = and_parts (keeps_lower s.lower (implied Lower j s.value (Some w) (Some w) ss)) (keeps_upper s.upper (implied Upper j s.value (Some w) (Some w) ss)) e in
    record { side = refl; lower = b.0; upper = b.1 }

-- column j is continuous, and its bounds are implied at the cheapest side
pub record IsFree (p : Sparse) (j i : ℕ) (c : Number) (l u : Option Number) (ss : List Span) : Type 0 where
  pub continuous : (bounds_at p j).whole ≡ false
  pub solid : (bounds_at p j).semi ≡ false
  pub bounds : IsImplied j ss (span_of p (record { id = j; value = entry_of p j i })) (side_for c (entry_of p j i) l u)

free_told : (p : Sparse) (j i : ℕ) (c : Number) (l u : Option Number) → is_free j c l u (spans_of p i) (entry_at j (spans_of p i)) ≡ true → IsFree p j i c l u (spans_of p i)
free_told p j i c l u e = by (entry_at j (spans_of p i)) refl e
  where
    parts : (s : Span) → is_free j c l u (spans_of p i) (Some s) ≡ true → (s.whole ≡ false) × (s.semi ≡ false) × IsImplied j (spans_of p i) s (side_for c s.value l u)
    parts s h =
        let b = and_parts (not s.whole) (not s.semi && is_implied_at j (spans_of p i) s (side_for c s.value l u)) h in
        let d = and_parts (not s.semi) (is_implied_at j (spans_of p i) s (side_for c s.value l u)) b.1 in
        (not_whole s.whole b.0, not_whole s.semi d.0, implied_told j (spans_of p i) s (side_for c s.value l u) d.1)

    by : (o : Option Span) → entry_at j (spans_of p i) ≡ o → is_free j c l u (spans_of p i) o ≡ true → IsFree p j i c l u (spans_of p i)
    by None f h = absurd (not_true h)
    by (Some s) f h =
        let b = parts (span_of p (record { id = j; value = entry_of p j i })) (subst (λ (x : Span). is_free j c l u (spans_of p i) (Some x) ≡ true) (found p j (row_entries p i) s f).span h) in
        record { continuous = b.0; solid = b.1; bounds = b.2 }

-- and it is live, with its one entry in row i
pub record IsColumnFree (p : Sparse) (on : Bool) (j i : ℕ) (es : List Term) (c : Number) (l u : Option Number) : Type 0 where
  pub live : on ≡ true
  pub sole_there : IsSole i es
  pub free : IsFree p j i c l u (spans_of p i)

column_told : (p : Sparse) (on : Bool) (j i : ℕ) (es : List Term) (c : Number) (l u : Option Number) → is_free_column_singleton j i (if on then holding.Column es c else holding.Gone) l u (spans_of p i) ≡ true → IsColumnFree p on j i es c l u
column_told p true j i es c l u e =
    let b = and_parts (is_sole_at i es) (is_free j c l u (spans_of p i) (entry_at j (spans_of p i))) e in
    record { live = refl; sole_there = sole i es b.0; free = free_told p j i c l u b.1 }
column_told p false j i es c l u e = absurd (not_true e)

-- the row is live too, and its sides are not crossed
pub record Said (p : Sparse) (j i : ℕ) : Type 0 where
  pub row_live : (row_at p i).live ≡ true
  pub sides : InOrder (sides_at p i).lower (sides_at p i).upper
  pub column : IsColumnFree p (column_at p j).live j i (column_entries p j) (cost_at p j) (sides_at p i).lower (sides_at p i).upper

pub said : (p : Sparse) (j i : ℕ) → enabled p j i ≡ true → Said p j i
said p j i e = let r = rows.said (is_free_column_singleton j i (contents_of p (part.Col j))) p i e in record {
  row_live = r.live;
  sides = in_order (sides_at p i).lower (sides_at p i).upper r.sides;
  column = column_told p (column_at p j).live j i (column_entries p j) (cost_at p j) (sides_at p i).lower (sides_at p i).upper r.holds;
}

-- a side that is found is the cheapest one
side_is : (q : Number) (l u : Option Number) (w : Number) (b : Bool) → cheapest_for (if_made (if_room b q)) l u ≡ Some w → cheapest_side q l u ≡ Some w
side_is q l u w true e = e
side_is q l u w false e = cc

-- a bound that is kept by what is made is kept by what that is
low_from : (l x y : Option Number) → LowBelow l x → ((b : Number) → x ≡ Some b → y ≡ Some b) → LowBelow l y
low_from None x y h k = tt
low_from (Some a) None y h k = absurd h
low_from (Some a) (Some b) y h k = subst (LowBelow (Some a)) (sym (k b refl)) h

high_from : (u x y : Option Number) → HighAbove u x → ((b : Number) → x ≡ Some b → y ≡ Some b) → HighAbove u y
high_from None x y h k = tt
high_from (Some a) None y h k = absurd h
high_from (Some a) (Some b) y h k = subst (HighAbove (Some a)) (sym (k b refl)) h

module _ (p : Sparse) (s : IsSparse p) (j i : ℕ) (f : Said p j i) where
  there : IsSoleEntry p j i
  there = record { row = f.row_live; column = f.column.live; sole = f.column.sole_there; continuous = f.column.free.continuous; solid = f.column.free.solid }

  abbrev M : LinearProgram
  M = shown p

  abbrev L : Option Number
  L = (sides_at p i).lower

  abbrev U : Option Number
  U = (sides_at p i).upper

  abbrev a : Number
  a = entry_of p j i

  abbrev w : Number
  w = value_of p j i

  abbrev ss : List Span
  ss = spans_of p i

  lower_side_is : M.lower_side i ≡ L
  lower_side_is = end_live (row_at p i).live L f.row_live

  upper_side_is : M.upper_side i ≡ U
  upper_side_is = end_live (row_at p i).live U f.row_live

  a_is : M.coefficient i j ≡ a
  a_is = entry_is p s j i there

  from_greatest : (b : Number) → left_over a (Some w) (rest Greatest j ss) ≡ Some b → over (minus_ends (Some w) (greatest_rest M i j)) a ≡ Some b
  from_greatest b e = let m = is_made a (Some w) (rest Greatest j ss) b e in ap (λ (x : Option Number). over (minus_ends (Some w) x) a) (sym (rest-is p i j Greatest m.other s f.row_live m.known)) ∙ m.bound

  from_least : (b : Number) → left_over a (Some w) (rest Least j ss) ≡ Some b → over (minus_ends (Some w) (least_rest M i j)) a ≡ Some b
  from_least b e = let m = is_made a (Some w) (rest Least j ss) b e in ap (λ (x : Option Number). over (minus_ends (Some w) x) a) (sym (rest-is p i j Least m.other s f.row_live m.known)) ∙ m.bound

  abbrev G : Option Number
  G = minus_ends (Some w) (greatest_rest M i j)

  abbrev S : Option Number
  S = minus_ends (Some w) (least_rest M i j)

  lower_is : (b : Number) → implied Lower j a (Some w) (Some w) ss ≡ Some b → implied_lower M j i w ≡ Some b
  lower_is b e = ap (λ c. lower_over c G S) a_is ∙ by (lt_ℚ zero_ℚ a) e
    where
      by : (t : Bool) → (if t then left_over a (Some w) (rest Greatest j ss) else left_over a (Some w) (rest Least j ss)) ≡ Some b → (if t then over G a else over S a) ≡ Some b
      by true h = from_greatest b h
      by false h = from_least b h

  upper_is : (b : Number) → implied Upper j a (Some w) (Some w) ss ≡ Some b → implied_upper M j i w ≡ Some b
  upper_is b e = ap (λ c. upper_over c G S) a_is ∙ by (lt_ℚ zero_ℚ a) e
    where
      by : (t : Bool) → (if t then left_over a (Some w) (rest Least j ss) else left_over a (Some w) (rest Greatest j ss)) ≡ Some b → (if t then over S a else over G a) ≡ Some b
      by true h = from_least b h
      by false h = from_greatest b h

  free : IsFreeColumnSingleton M j i w
  free = record {
    singleton = singleton p s j i there;
    sides = subst (λ (e : Option Number). InOrder e (M.upper_side i)) (sym lower_side_is) (subst (λ (e : Option Number). InOrder L e) (sym upper_side_is) f.sides);
    side = ap (λ q. cheapest_side q (M.lower_side i) (M.upper_side i)) (price_is p s j i there) ∙ ap₂ (cheapest_side (price_of p j i)) lower_side_is upper_side_is
        ∙ side_is (price_of p j i) L U w (fits (price_of p j i)) f.column.free.bounds.side;
    lower = subst (λ (e : Option Number). LowBelow e (implied_lower M j i w)) (sym (end_live (column_at p j).live (reach_low (bounds_at p j)) f.column.live))
        (low_from (reach_low (bounds_at p j)) (implied Lower j a (Some w) (Some w) ss) (implied_lower M j i w) (low_below (reach_low (bounds_at p j)) (implied Lower j a (Some w) (Some w) ss) f.column.free.bounds.lower) lower_is);
    upper = subst (λ (e : Option Number). HighAbove e (implied_upper M j i w)) (sym (end_live (column_at p j).live (reach_high (bounds_at p j)) f.column.live))
        (high_from (reach_high (bounds_at p j)) (implied Upper j a (Some w) (Some w) ss) (implied_upper M j i w) (high_above (reach_high (bounds_at p j)) (implied Upper j a (Some w) (Some w) ss) f.column.free.bounds.upper) upper_is);
  }

  undone_is : free_column_singleton_point M j i w ≡ undone (record_of p j i)
  undone_is z x = ((λ y. undo_free_column_singleton j (a_is y) w M.columns (put (M.coefficient i) j zero_ℚ) x) ∙ ap (λ q. put x j ((w -ℚ q) /ℚ a)) (sym (sum_is p s j i there x))) z

  offset_is : free_column_singleton_offset M j i w ≡ gain_of p j i
  offset_is = ap (λ q. q *ℚ w) (price_is p s j i there)

  deleted_is : programs_edited (costs_moved p s j i there) (DeleteColumn j ∷ DeleteRow i ∷ []) ≡ free_column_singleton_deleted M j i
  deleted_is z = record (free_column_singleton_deleted M j i) { costs = costs_are p s j i there z }

  -- the record holds what is shown
  record_is : records.free_column_singleton M j i w (others_of p j i) ≡ record_of p j i
  record_is z = FreeColumnSingleton (record { column = j; row = i; value = a_is z; at = w; price = price_is p s j i there z; entries = others_of p j i })

  pairs : ReducesPairs Min M (free_column_singleton_deleted M j i) (undone_pair (record_of p j i))
  pairs = subst (λ (u : Undo). ReducesPairs Min M (free_column_singleton_deleted M j i) (undone_pair u)) record_is
      (free_pair M j i w (others_of p j i) free (others_sound p s j i there).0 (others_have p s j i there))

  rays : StepsBack M (free_column_singleton_deleted M j i) (weighed_in (record_of p j i) (free_column_singleton_deleted M j i))
  rays = subst (λ (u : Undo). StepsBack M (free_column_singleton_deleted M j i) (weighed_in u (free_column_singleton_deleted M j i))) record_is
      (ray.free_column_singleton false false M j i w (others_of p j i) free.singleton)

  owes_free : Owes p (with_costs p s j i there (gain_of p j i) (DeleteColumn j ∷ DeleteRow i ∷ [])) (record_of p j i)
  owes_free = owes_with p s j i there (gain_of p j i) (DeleteColumn j ∷ DeleteRow i ∷ []) (free_column_singleton_deleted M j i) (record_of p j i) (record {
    allowed = out_allowed p s j i there;
    no_entries = tt;
    nothing_added = sym nothing_twice;
    sided = two_sided (DeleteColumn j) (DeleteRow i) tt tt;
    program = deleted_is;
    reduces = subst (λ (k : Number). Reduces Min M (free_column_singleton_deleted M j i) (undone (record_of p j i)) k) offset_is
        (subst (λ (undo : Vector → Vector). Reduces Min M (free_column_singleton_deleted M j i) undo (free_column_singleton_offset M j i w)) undone_is (free_column_singleton_reduces M j i w free));
    pairs = pairs;
    rays = rays;
    sound = (entry_sound p s j i there, others_sound p s j i there);
    names = (one_on p.matrix.rows i f.row_live, named_on p s j i there);
    deletes = refl;
  })

pub owes : (p : Sparse) (j i : ℕ) → IsSparse p → enabled p j i ≡ true → Owes p (edits p j i) (record_of p j i)
owes p j i s e = owes_free p s j i (said p j i e)
