-- What the rules say at other ids, by cases: one line a rule, and what a rule reads and computes in a lemma of its own.
use Rattle.std.proofs.Common.{◌≡◌, ◌↔◌, ℕ, true, false, ◌&&◌, List, [], ◌∷◌, ◌++◌, get_or, map, Option, unwrap_or, refl, sym, ap, ap₂, ◌∙◌, subst, arith, true≢false}
use Rattle.std.specs.Prelude.{if◌then◌else◌}
use Rattle.std.specs.List.{All, filter}
use Rattle.std.proofs.lemmas.List.{map-append}
use Rattle.std.proofs.lemmas.List.Elements.{All-filter, All-head, All-map, All-nil, All-tail}
use Rattle.fractions.specs.Number.{Number, zero_ℚ, ◌*ℚ◌}
use Rattle.fractions.specs.Ends.{less, meet_low, meet_high}
use Rattle.fractions.specs.Lowest.{Fits}
use Rattle.fractions.specs.EndWords.{LessFits, OverFits}
use Rattle.lp_model.specs.declared.terms.Term.{Term}
use Rattle.lp_model.specs.EndTests.{holds_zero, is_apart, is_in_order, is_place}
use Rattle.lp_theory.specs.MetEnds.{lower_over, upper_over}
use Rattle.lp_columns.specs.EmptyColumn.{resting_place}
use Rattle.lp_columns.specs.RoundedBounds.{rounded_up, rounded_down}
use Rattle.undo_records.specs.declared.side.Side.{Side}
use Rattle.problem_model.specs.declared.edit.Edit.{Edit}
use Rattle.problem_model.specs.declared.edit.Edit.TheVariants.{DeleteRow, SetBounds, SetSides}
use Rattle.problem_model.specs.declared.line.Line.{Line}
use Rattle.problem_model.specs.declared.part.Contents.{Contents}
use Rattle.problem_model.specs.declared.part.Contents.TheVariants as holding
use Rattle.problem_model.specs.declared.part.Part.{Part}
use Rattle.problem_model.specs.declared.part.Part.TheVariants.{Row, Sides, Col, Bounds}
use Rattle.problem_model.specs.Matrices.{line_at}
use Rattle.problem_model.specs.Parts.{contents_of}
use Rattle.problem_model.specs.Problems.{column_at, column_entries, cost_at, first_of, row_at, row_entries, sides_at}
use Rattle.problem_model.specs.Programs.{rank}
use Rattle.problem_model.specs.Sparse.{Sparse}
use Rattle.problem_laws.proofs.Entries.{column_entries-live, row_entries-live}
use Rattle.rule_words.specs.Reading.{bounds_named, found_on, sides_of}
use Rattle.singleton_laws.specs.EmptyRow.{is_empty_row}
use Rattle.singleton_laws.specs.SingletonRow.{are_open, edits_by, is_singleton_row, sole_entry}
use Rattle.singleton_laws.specs.FixedColumn.{column_out, is_fixed_column, value_of}
use Rattle.rule_words.specs.MovedSides.{SidesFit, sides_less}
use Rattle.singleton_laws.specs.RoundedBounds.{is_to_be_rounded}
use Rattle.singleton_laws.specs.EmptyColumn.{is_empty_column, place_of}
use Rattle.singleton_laws.specs.CrossedBounds as bounds_crossed
use Rattle.singleton_laws.specs.CrossedSides as sides_crossed
use Rattle.singleton_laws.proofs.EmptyRow as empty_row
use Rattle.singleton_laws.proofs.SingletonRow as singleton_row
use Rattle.singleton_laws.proofs.FixedColumn as fixed_column
use Rattle.singleton_laws.proofs.RoundedBounds as rounded_bounds
use Rattle.singleton_laws.proofs.EmptyColumn as empty_column
use Rattle.singleton_laws.proofs.CrossedBounds as crossed_bounds
use Rattle.singleton_laws.proofs.CrossedSides as crossed_sides
use Rattle.activity_laws.specs.ForcingRow.{is_forcing_row}
use Rattle.activity_laws.specs.InfeasibleRow.{is_infeasible_row}
use Rattle.activity_laws.specs.RedundantRow.{is_redundant_row}
use Rattle.activity_laws.specs.RedundantSide.{has_redundant_side}
use Rattle.activity_laws.specs.Rows.{heads, row_found}
use Rattle.activity_laws.specs.BoundTightening.{bounds_of}
use Rattle.activity_laws.proofs.Rows.{said}
use Rattle.activity_laws.proofs.BoundTightening as bound_tightening
use Rattle.coef_laws.proofs.Changing as coefficients
use Rattle.column_laws.proofs.FreeColumnSingleton as free_column_singleton
use Rattle.column_laws.proofs.SlackColumnSingleton as slack_column_singleton
use Rattle.aggregation_laws.proofs.DoubletonEquation as doubleton_equation
use Rattle.parallel_laws.proofs.ParallelColumns as parallel_columns
use Rattle.parallel_laws.proofs.ParallelRows as parallel_rows
use Rattle.dual_laws.specs.DominatedColumn.{pairs_of}
use Rattle.dual_laws.proofs.DualFixing as dual_fixing
use Rattle.dual_laws.proofs.DominatedColumn as dominated_column
use Rattle.dual_laws.proofs.UnboundedColumn as unbounded_column
use Rattle.presolve_model.specs.declared.instance.Instance.{Instance}
use Rattle.presolve_model.specs.declared.instance.Instance.TheVariants as at
use Rattle.presolve_model.specs.declared.instance.Reduction.{Reduction}
use Rattle.presolve_model.specs.declared.instance.Reduction.TheVariants.{EmptyRow, SingletonRow, FixedColumn, RoundedBounds, RedundantRow, RedundantSide, ForcingRow, BoundTightening, CoefficientTightening, DualFixing, DominatedColumn, DoubletonEquation, FreeColumnSingleton, SlackColumnSingleton, ParallelRows, ParallelColumns, EmptyColumn}
use Rattle.presolve_model.specs.declared.instance.Rule.{Rule}
use Rattle.presolve_model.specs.declared.instance.Rule.TheVariants as rule
use Rattle.presolve_model.specs.declared.instance.Verdict.{Verdict}
use Rattle.presolve_model.specs.declared.instance.Verdict.TheVariants.{CrossedBounds, CrossedSides, InfeasibleRow, UnboundedColumn}
use Rattle.presolve_model.specs.Enabled.{enabled_on}
use Rattle.presolve_model.specs.Instances.{beside_at, both_orders, goes_by_groups, instances_from, is_of_rows, is_open, sole_row}
use Rattle.presolve_model.specs.Scans.{all_ids}
use Rattle.presolve_model.specs.Tables.{Computes, edits, heads_of, holds_by, holds_of, looked_at_by, more_by, more_of}
use Rattle.presolve_model.specs.Tallies.{Open}
use Rattle.written_ids.specs.NewIds.{Ids, new_ids, term_at, terms_at}
use Rattle.written_ids.specs.Standing.{AreOneToOne, LinesStand}
use Rattle.written_ids.proofs.Ends.{all_bounds_live, all_ids_live, at_ids, bounds_of_at, ids_in, side_at}
use Rattle.written_ids.proofs.Lists.{all_both, all_one, all_two, both_by, both_then, filter_across, map_across}
use Rattle.written_ids.proofs.Naming.{entries_read, sides_read_at, sides_read_there}
use Rattle.written_ids.proofs.NewIds.{contents_at, edit_at, id_of, none_at, one_at, part_at}
use Rattle.written_ids.proofs.Pairs.{all_pairs, at_pairs, pair_at}
use Rattle.written_ids.proofs.Standing.{AreThere, IsThere, one_part, two_parts}
use Rattle.written_laws.specs.Left.{AreOpenAlike}
use Rattle.written_rules.proofs.Activities.{bound_there, bounds_read_at, bounds_read_there, forcing_row_alike, forcing_row_edits, infeasible_row_alike, redundant_row_alike, redundant_row_edits, redundant_side_alike, redundant_side_edits, row_there, tightened_alike, tightened_edits, tightened_there}
use Rattle.written_rules.proofs.DominatedColumn.{dominated_column_alike, lines_there, sides_of_both_at, sides_of_both_there}
use Rattle.written_rules.proofs.DoubletonEquation.{doubleton_equation_alike, doubleton_equation_computes, doubleton_equation_edits, pair_there}
use Rattle.written_rules.proofs.Locks.{dual_fixing_alike, place_kept, unbounded_column_alike}
use Rattle.written_rules.proofs.Parallels.{columns_there, parallel_columns_alike, parallel_columns_computes, parallel_columns_edits, parallel_rows_alike, parallel_rows_computes, parallel_rows_edits, rows_there}
use Rattle.written_rules.proofs.SoleColumns.{free_column_singleton_alike, free_column_singleton_computes, free_column_singleton_edits, free_there, slack_column_singleton_alike, slack_column_singleton_computes, slack_column_singleton_edits, slack_there}
use Rattle.written_rules.proofs.CoefficientTightening.{coefficient_alike, coefficient_computes, coefficient_edits, coefficient_there}

-- ---- instances at other ids
abbrev pub reduction_at : Ids → Reduction → Reduction
reduction_at n (EmptyRow i) = EmptyRow (n.row i)
reduction_at n (SingletonRow i) = SingletonRow (n.row i)
reduction_at n (FixedColumn j) = FixedColumn (n.column j)
reduction_at n (RoundedBounds j) = RoundedBounds (n.column j)
reduction_at n (RedundantRow i) = RedundantRow (n.row i)
reduction_at n (RedundantSide i) = RedundantSide (n.row i)
reduction_at n (ForcingRow i) = ForcingRow (n.row i)
reduction_at n (BoundTightening i j side) = BoundTightening (n.row i) (n.column j) side
reduction_at n (CoefficientTightening i j) = CoefficientTightening (n.row i) (n.column j)
reduction_at n (DualFixing j) = DualFixing (n.column j)
reduction_at n (DominatedColumn i j k) = DominatedColumn (n.row i) (n.column j) (n.column k)
reduction_at n (DoubletonEquation i j k) = DoubletonEquation (n.row i) (n.column j) (n.column k)
reduction_at n (FreeColumnSingleton j i) = FreeColumnSingleton (n.column j) (n.row i)
reduction_at n (SlackColumnSingleton j i) = SlackColumnSingleton (n.column j) (n.row i)
reduction_at n (ParallelRows i k) = ParallelRows (n.row i) (n.row k)
reduction_at n (ParallelColumns j k) = ParallelColumns (n.column j) (n.column k)
reduction_at n (EmptyColumn j) = EmptyColumn (n.column j)

abbrev pub verdict_at : Ids → Verdict → Verdict
verdict_at n (CrossedBounds j) = CrossedBounds (n.column j)
verdict_at n (CrossedSides i) = CrossedSides (n.row i)
verdict_at n (InfeasibleRow i) = InfeasibleRow (n.row i)
verdict_at n (UnboundedColumn j) = UnboundedColumn (n.column j)

abbrev pub instance_at : Ids → Instance → Instance
instance_at n (at.Reduction r) = at.Reduction (reduction_at n r)
instance_at n (at.Verdict v) = at.Verdict (verdict_at n v)

-- ---- the parts at which an instance is, with all its ids: its heads, and what of its ids these do not have
abbrev pub beside : Reduction → List Part
beside (BoundTightening i j side) = Bounds j ∷ []
beside (CoefficientTightening i j) = Bounds j ∷ []
beside other = []

abbrev pub own_of : Reduction → List Part
own_of r = heads_of r ++ beside r

abbrev pub own : Instance → List Part
own (at.Reduction r) = own_of r
own (at.Verdict v) = looked_at_by v

pub reduction_beside : (n : Ids) (r : Reduction) → beside (reduction_at n r) ≡ map (part_at n) (beside r)
reduction_beside n (BoundTightening i j side) = refl
reduction_beside n (CoefficientTightening i j) = refl
reduction_beside n other = refl

-- ---- what is read
pub reduction_heads : (n : Ids) (r : Reduction) → heads_of (reduction_at n r) ≡ map (part_at n) (heads_of r)
reduction_heads n (EmptyRow i) = refl
reduction_heads n (SingletonRow i) = refl
reduction_heads n (FixedColumn j) = refl
reduction_heads n (RoundedBounds j) = refl
reduction_heads n (RedundantRow i) = refl
reduction_heads n (RedundantSide i) = refl
reduction_heads n (ForcingRow i) = refl
reduction_heads n (BoundTightening i j side) = refl
reduction_heads n (CoefficientTightening i j) = refl
reduction_heads n (DualFixing j) = refl
reduction_heads n (DominatedColumn i j k) = refl
reduction_heads n (DoubletonEquation i j k) = refl
reduction_heads n (FreeColumnSingleton j i) = refl
reduction_heads n (SlackColumnSingleton j i) = refl
reduction_heads n (ParallelRows i k) = refl
reduction_heads n (ParallelColumns j k) = refl
reduction_heads n (EmptyColumn j) = refl

pub verdict_heads : (n : Ids) (v : Verdict) → looked_at_by (verdict_at n v) ≡ map (part_at n) (looked_at_by v)
verdict_heads n (CrossedBounds j) = refl
verdict_heads n (CrossedSides i) = refl
verdict_heads n (InfeasibleRow i) = refl
verdict_heads n (UnboundedColumn j) = refl

-- what is read by what the heads hold
module _ (n : Ids) (p : Sparse) (o : AreOneToOne n p) where
  pub reduction_more : (r : Reduction) → more_of (reduction_at n r) (map (contents_at n) (map (contents_of p) (heads_of r))) ≡ map (part_at n) (more_of r (map (contents_of p) (heads_of r)))
  reduction_more (EmptyRow i) = refl
  reduction_more (SingletonRow i) = bounds_read_at n p i
  reduction_more (FixedColumn j) = refl
  reduction_more (RoundedBounds j) = refl
  reduction_more (RedundantRow i) = bounds_read_at n p i
  reduction_more (RedundantSide i) = bounds_read_at n p i
  reduction_more (ForcingRow i) = bounds_read_at n p i
  reduction_more (BoundTightening i j side) = bounds_read_at n p i
  reduction_more (CoefficientTightening i j) = bounds_read_at n p i
  reduction_more (DualFixing j) = sides_read_at n p j
  reduction_more (DominatedColumn i j k) = sides_of_both_at n p o j k
  reduction_more (DoubletonEquation i j k) = refl
  reduction_more (FreeColumnSingleton j i) = bounds_read_at n p i
  reduction_more (SlackColumnSingleton j i) = refl
  reduction_more (ParallelRows i k) = refl
  reduction_more (ParallelColumns j k) = refl
  reduction_more (EmptyColumn j) = refl

  pub verdict_more : (v : Verdict) → more_by (verdict_at n v) (map (contents_at n) (map (contents_of p) (looked_at_by v))) ≡ map (part_at n) (more_by v (map (contents_of p) (looked_at_by v)))
  verdict_more (CrossedBounds j) = refl
  verdict_more (CrossedSides i) = refl
  verdict_more (InfeasibleRow i) = bounds_read_at n p i
  verdict_more (UnboundedColumn j) = sides_read_at n p j

-- what the heads name is live
pub reduction_names : (p : Sparse) (r : Reduction) → All (IsThere p) (more_of r (map (contents_of p) (heads_of r)))
reduction_names p (EmptyRow i) = All-nil (IsThere p)
reduction_names p (SingletonRow i) = bounds_read_there p i
reduction_names p (FixedColumn j) = All-nil (IsThere p)
reduction_names p (RoundedBounds j) = All-nil (IsThere p)
reduction_names p (RedundantRow i) = bounds_read_there p i
reduction_names p (RedundantSide i) = bounds_read_there p i
reduction_names p (ForcingRow i) = bounds_read_there p i
reduction_names p (BoundTightening i j side) = bounds_read_there p i
reduction_names p (CoefficientTightening i j) = bounds_read_there p i
reduction_names p (DualFixing j) = sides_read_there p j
reduction_names p (DominatedColumn i j k) = sides_of_both_there p j k
reduction_names p (DoubletonEquation i j k) = All-nil (IsThere p)
reduction_names p (FreeColumnSingleton j i) = bounds_read_there p i
reduction_names p (SlackColumnSingleton j i) = All-nil (IsThere p)
reduction_names p (ParallelRows i k) = All-nil (IsThere p)
reduction_names p (ParallelColumns j k) = All-nil (IsThere p)
reduction_names p (EmptyColumn j) = All-nil (IsThere p)

pub verdict_names : (p : Sparse) (v : Verdict) → All (IsThere p) (more_by v (map (contents_of p) (looked_at_by v)))
verdict_names p (CrossedBounds j) = All-nil (IsThere p)
verdict_names p (CrossedSides i) = All-nil (IsThere p)
verdict_names p (InfeasibleRow i) = bounds_read_there p i
verdict_names p (UnboundedColumn j) = sides_read_there p j

-- ---- the conditions are the same
empty_row_alike : (n : Ids) (a b : Contents) → is_empty_row (contents_at n a) (contents_at n b) ≡ is_empty_row a b
empty_row_alike n (holding.Entries ts) (holding.Sides l u) = ap (λ y. y && holds_zero l u) (none_at n.column ts)
empty_row_alike n a b = refl

open_alike : (n : Ids) (cs : List Contents) → are_open (map (contents_at n) cs) ≡ are_open cs
open_alike n (holding.Bounds l u w ∷ []) = refl
open_alike n other = refl

singleton_row_alike : (n : Ids) (a b : Contents) (cs : List Contents) → is_singleton_row (contents_at n a) (contents_at n b) (map (contents_at n) cs) ≡ is_singleton_row a b cs
singleton_row_alike n (holding.Entries ts) (holding.Sides l u) cs = let one = one_at n.column ts in let opens = open_alike n cs in λ t. one t && (is_in_order l u && opens t)
singleton_row_alike n a b cs = refl

fixed_column_alike : (n : Ids) (a b : Contents) → is_fixed_column (contents_at n a) (contents_at n b) ≡ is_fixed_column a b
fixed_column_alike n (holding.Column ts c) (holding.Bounds l u w) = refl
fixed_column_alike n a b = refl

rounded_bounds_alike : (n : Ids) (a : Contents) → is_to_be_rounded (contents_at n a) ≡ is_to_be_rounded a
rounded_bounds_alike n (holding.Bounds l u w) = refl
rounded_bounds_alike n a = refl

empty_column_alike : (n : Ids) (a b : Contents) → is_empty_column (contents_at n a) (contents_at n b) ≡ is_empty_column a b
empty_column_alike n (holding.Column ts c) (holding.Bounds l u w) = ap (λ y. y && is_apart l u && is_place (resting_place c l u) w) (none_at n.row ts)
empty_column_alike n a b = refl

crossed_bounds_alike : (n : Ids) (a : Contents) → bounds_crossed.are_crossed (contents_at n a) ≡ bounds_crossed.are_crossed a
crossed_bounds_alike n (holding.Bounds l u w) = refl
crossed_bounds_alike n a = refl

crossed_sides_alike : (n : Ids) (a : Contents) → sides_crossed.are_crossed (contents_at n a) ≡ sides_crossed.are_crossed a
crossed_sides_alike n (holding.Sides l u) = refl
crossed_sides_alike n a = refl

module _ (n : Ids) (p : Sparse) (o : AreOneToOne n p) where
  pub reduction_holds : (r : Reduction) → AreThere p (own_of r)
      → holds_of (reduction_at n r) (map (contents_at n) (found_on (heads_of r) (more_of r) p)) ≡ holds_of r (found_on (heads_of r) (more_of r) p)
  reduction_holds (EmptyRow i) h = empty_row_alike n (contents_of p (Row i)) (contents_of p (Sides i))
  reduction_holds (SingletonRow i) h = singleton_row_alike n (contents_of p (Row i)) (contents_of p (Sides i)) (map (contents_of p) (bounds_named (contents_of p (Row i) ∷ [])))
  reduction_holds (FixedColumn j) h = fixed_column_alike n (contents_of p (Col j)) (contents_of p (Bounds j))
  reduction_holds (RoundedBounds j) h = rounded_bounds_alike n (contents_of p (Bounds j))
  reduction_holds (RedundantRow i) h = redundant_row_alike n (row_found p i)
  reduction_holds (RedundantSide i) h = redundant_side_alike n (row_found p i)
  reduction_holds (ForcingRow i) h = forcing_row_alike n (row_found p i)
  reduction_holds (BoundTightening i j side) h = tightened_alike n p o i j side (h 2 (Row i) (omega arith))
  reduction_holds (CoefficientTightening i j) h = coefficient_alike n p o i j (h 2 (Row i) (omega arith))
  reduction_holds (DualFixing j) h = dual_fixing_alike n (contents_of p (Col j)) (contents_of p (Bounds j)) (map (contents_of p) (sides_of (entries_read p j)))
  reduction_holds (DominatedColumn i j k) h = dominated_column_alike n p o i j k (h 1 (Row i) (omega arith)) (h 2 (Row i) (omega arith)) (h 0 (Row i) (omega arith))
  reduction_holds (DoubletonEquation i j k) h = doubleton_equation_alike n p o i j k (h 2 (Row i) (omega arith)) (h 3 (Row i) (omega arith)) (h 0 (Row i) (omega arith))
  reduction_holds (FreeColumnSingleton j i) h = free_column_singleton_alike n p o j i (h 0 (Row i) (omega arith)) (h 2 (Row i) (omega arith))
  reduction_holds (SlackColumnSingleton j i) h = slack_column_singleton_alike n p o j i (h 0 (Row i) (omega arith)) (h 2 (Row i) (omega arith))
  reduction_holds (ParallelRows i k) h = parallel_rows_alike n p o i k (h 0 (Row i) (omega arith)) (h 1 (Row i) (omega arith))
  reduction_holds (ParallelColumns j k) h = parallel_columns_alike n p o j k (h 0 (Col j) (omega arith)) (h 1 (Col j) (omega arith))
  reduction_holds (EmptyColumn j) h = empty_column_alike n (contents_of p (Col j)) (contents_of p (Bounds j))

  pub verdict_holds : (v : Verdict) → AreThere p (looked_at_by v)
      → holds_by (verdict_at n v) (map (contents_at n) (found_on (looked_at_by v) (more_by v) p)) ≡ holds_by v (found_on (looked_at_by v) (more_by v) p)
  verdict_holds (CrossedBounds j) h = crossed_bounds_alike n (contents_of p (Bounds j))
  verdict_holds (CrossedSides i) h = crossed_sides_alike n (contents_of p (Sides i))
  verdict_holds (InfeasibleRow i) h = infeasible_row_alike n (row_found p i)
  verdict_holds (UnboundedColumn j) h = unbounded_column_alike n (contents_of p (Col j)) (contents_of p (Bounds j)) (map (contents_of p) (sides_of (entries_read p j)))

-- ---- nothing is enabled at what is not live
pub reduction_there : (p : Sparse) (r : Reduction) → enabled_on p (at.Reduction r) ≡ true → All (IsThere p) (own_of r)
reduction_there p (EmptyRow i) e = let on = (empty_row.said p i e).live in all_two (IsThere p) (Row i) (Sides i) on on
reduction_there p (SingletonRow i) e = let on = (singleton_row.said p i e).live in all_two (IsThere p) (Row i) (Sides i) on on
reduction_there p (FixedColumn j) e = let on = (fixed_column.said p j e).live in all_two (IsThere p) (Col j) (Bounds j) on on
reduction_there p (RoundedBounds j) e = all_one (IsThere p) (Bounds j) (rounded_bounds.said p j e).live
reduction_there p (RedundantRow i) e = row_there is_redundant_row p i e
reduction_there p (RedundantSide i) e = row_there has_redundant_side p i e
reduction_there p (ForcingRow i) e = row_there is_forcing_row p i e
reduction_there p (BoundTightening i j side) e = tightened_there p i j side e
reduction_there p (CoefficientTightening i j) e = coefficient_there p i j e
reduction_there p (DualFixing j) e = let on = (dual_fixing.said p j e).live in all_two (IsThere p) (Col j) (Bounds j) on on
reduction_there p (DominatedColumn i j k) e = let o = dominated_column.said p i j k e in lines_there p i j k o.row_live o.first_live o.second_live
reduction_there p (DoubletonEquation i j k) e = let o = doubleton_equation.said p i j k e in pair_there p i j k o.row_on o.first_on o.second_on
reduction_there p (FreeColumnSingleton j i) e = let o = free_column_singleton.said p j i e in free_there p j i o.row_live o.column.live
reduction_there p (SlackColumnSingleton j i) e = let o = slack_column_singleton.said p j i e in slack_there p j i o.row_live o.column_live
reduction_there p (ParallelRows i k) e = let o = parallel_rows.said p i k e in rows_there p i k o.first_live o.second_live
reduction_there p (ParallelColumns j k) e = let o = parallel_columns.said p j k e in columns_there p j k o.first_live o.second_live
reduction_there p (EmptyColumn j) e = let on = (empty_column.said p j e).live in all_two (IsThere p) (Col j) (Bounds j) on on

pub verdict_there : (p : Sparse) (v : Verdict) → enabled_on p (at.Verdict v) ≡ true → All (IsThere p) (looked_at_by v)
verdict_there p (CrossedBounds j) e = all_one (IsThere p) (Bounds j) (crossed_bounds.said p j e).live
verdict_there p (CrossedSides i) e = all_one (IsThere p) (Sides i) (crossed_sides.said p i e).live
verdict_there p (InfeasibleRow i) e = row_there is_infeasible_row p i e
verdict_there p (UnboundedColumn j) e = let on = (unbounded_column.said p j e).live in all_two (IsThere p) (Col j) (Bounds j) on on

-- ---- ids that come back
abbrev pub ComesBack : Ids → Ids → Part → Type 0
ComesBack n m a = id_of (part_at n (part_at m a)) ≡ id_of a

pub reduction_back : (n m : Ids) (r : Reduction) → All (ComesBack n m) (own_of r) → reduction_at n (reduction_at m r) ≡ r
reduction_back n m (EmptyRow i) h = ap (λ k. EmptyRow k) (All-head (ComesBack n m) (Row i) (Sides i ∷ []) h)
reduction_back n m (SingletonRow i) h = ap (λ k. SingletonRow k) (All-head (ComesBack n m) (Row i) (Sides i ∷ []) h)
reduction_back n m (FixedColumn j) h = ap (λ k. FixedColumn k) (All-head (ComesBack n m) (Col j) (Bounds j ∷ []) h)
reduction_back n m (RoundedBounds j) h = ap (λ k. RoundedBounds k) (All-head (ComesBack n m) (Bounds j) [] h)
reduction_back n m (RedundantRow i) h = ap (λ k. RedundantRow k) (All-head (ComesBack n m) (Row i) (Sides i ∷ []) h)
reduction_back n m (RedundantSide i) h = ap (λ k. RedundantSide k) (All-head (ComesBack n m) (Row i) (Sides i ∷ []) h)
reduction_back n m (ForcingRow i) h = ap (λ k. ForcingRow k) (All-head (ComesBack n m) (Row i) (Sides i ∷ []) h)
reduction_back n m (BoundTightening i j side) h = λ t. BoundTightening (h 0 (Row i) (omega arith) t) (h 2 (Row i) (omega arith) t) side
reduction_back n m (CoefficientTightening i j) h = λ t. CoefficientTightening (h 0 (Row i) (omega arith) t) (h 2 (Row i) (omega arith) t)
reduction_back n m (DualFixing j) h = ap (λ k. DualFixing k) (All-head (ComesBack n m) (Col j) (Bounds j ∷ []) h)
reduction_back n m (DominatedColumn i j k) h = λ t. DominatedColumn (h 0 (Row i) (omega arith) t) (h 1 (Row i) (omega arith) t) (h 2 (Row i) (omega arith) t)
reduction_back n m (DoubletonEquation i j k) h = λ t. DoubletonEquation (h 0 (Row i) (omega arith) t) (h 2 (Row i) (omega arith) t) (h 3 (Row i) (omega arith) t)
reduction_back n m (FreeColumnSingleton j i) h = λ t. FreeColumnSingleton (h 2 (Row i) (omega arith) t) (h 0 (Row i) (omega arith) t)
reduction_back n m (SlackColumnSingleton j i) h = λ t. SlackColumnSingleton (h 2 (Row i) (omega arith) t) (h 0 (Row i) (omega arith) t)
reduction_back n m (ParallelRows i k) h = λ t. ParallelRows (h 0 (Row i) (omega arith) t) (h 1 (Row i) (omega arith) t)
reduction_back n m (ParallelColumns j k) h = λ t. ParallelColumns (h 0 (Col j) (omega arith) t) (h 1 (Col j) (omega arith) t)
reduction_back n m (EmptyColumn j) h = ap (λ k. EmptyColumn k) (All-head (ComesBack n m) (Col j) (Bounds j ∷ []) h)

pub verdict_back : (n m : Ids) (v : Verdict) → All (ComesBack n m) (looked_at_by v) → verdict_at n (verdict_at m v) ≡ v
verdict_back n m (CrossedBounds j) h = ap (λ k. CrossedBounds k) (All-head (ComesBack n m) (Bounds j) [] h)
verdict_back n m (CrossedSides i) h = ap (λ k. CrossedSides k) (All-head (ComesBack n m) (Sides i) [] h)
verdict_back n m (InfeasibleRow i) h = ap (λ k. InfeasibleRow k) (All-head (ComesBack n m) (Row i) (Sides i ∷ []) h)
verdict_back n m (UnboundedColumn j) h = ap (λ k. UnboundedColumn k) (All-head (ComesBack n m) (Col j) (Bounds j ∷ []) h)

-- ---- edits, and the numbers that are computed
module _ (n : Ids) (p q : Sparse) (s : LinesStand n p q) where
  module _ (i : ℕ) (o : singleton_row.Said p (row_at p i).live (row_entries p i)) where
    abbrev sole : Term
    sole = sole_entry p i

    sole_live : (column_at p sole.id).live ≡ true
    sole_live = All-head (λ (t : Term). (column_at p t.id).live ≡ true) sole [] (subst (All (λ (t : Term). (column_at p t.id).live ≡ true)) o.one (row_entries-live p i))

    sole_same : sole_entry q (n.row i) ≡ term_at n.column sole
    sole_same = ap first_of ((s.row i o.live).entries ∙ ap (terms_at n.column) o.one)

    singleton_row_edits : edits_by q (n.row i) (sole_entry q (n.row i)) ≡ map (edit_at n) (edits_by p i sole)
    singleton_row_edits = let r = s.row i o.live in let c = s.column sole.id sole_live in
        ap (edits_by q (n.row i)) sole_same
        ∙ (λ t. SetBounds (n.column sole.id) (meet_low (c.lower t) (lower_over sole.value (r.lower t) (r.upper t))) (meet_high (c.upper t) (upper_over sole.value (r.lower t) (r.upper t)))
        ∷ DeleteRow (n.row i) ∷ [])

    singleton_row_computes : (OverFits (sides_at p i).lower sole.value × OverFits (sides_at p i).upper sole.value)
        ↔ (OverFits (sides_at q (n.row i)).lower (sole_entry q (n.row i)).value × OverFits (sides_at q (n.row i)).upper (sole_entry q (n.row i)).value)
    singleton_row_computes = let r = s.row i o.live in
        both_by (λ (x : Option Number × Option Number × Number). OverFits x.0 x.2 × OverFits x.1 x.2) ((sides_at p i).lower, (sides_at p i).upper, sole.value)
        ((sides_at q (n.row i)).lower, (sides_at q (n.row i)).upper, (sole_entry q (n.row i)).value) (sym (λ t. (r.lower t, r.upper t, (sole_same t).value)))

  sides_less_same : (w : Number) (ts : List Term) → All (λ t. (row_at p t.id).live ≡ true) ts → map (sides_less q w) (terms_at n.row ts) ≡ map (edit_at n) (map (sides_less p w) ts)
  sides_less_same w [] h = refl
  sides_less_same w (t ∷ ts) h = let r = s.row t.id (All-head (λ t. (row_at p t.id).live ≡ true) t ts h) in
      ap₂ ◌∷◌ (λ x. SetSides (n.row t.id) (less (r.lower x) (t.value *ℚ w)) (less (r.upper x) (t.value *ℚ w))) (sides_less_same w ts (All-tail (λ t. (row_at p t.id).live ≡ true) t ts h))

  term_computes : (w : Number) (t : Term) → (row_at p t.id).live ≡ true → SidesFit p w t ↔ SidesFit q w (term_at n.row t)
  term_computes w t h = let r = s.row t.id h in let fits = λ (o : Option Number). LessFits o (t.value *ℚ w) in (
    λ c. record { product = c.product; lower = subst fits (sym r.lower) c.lower; upper = subst fits (sym r.upper) c.upper },
    λ c. record { product = c.product; lower = subst fits r.lower c.lower; upper = subst fits r.upper c.upper },
  )

  module _ (j : ℕ) (on : (column_at p j).live ≡ true) where
    abbrev w : Number
    w = value_of p j

    value_same : value_of q (n.column j) ≡ w
    value_same = ap (λ (o : Option Number). unwrap_or o zero_ℚ) (s.column j on).lower

    fixed_column_edits : map (sides_less q (value_of q (n.column j))) (column_entries q (n.column j)) ++ column_out (n.column j) (cost_at q (n.column j) *ℚ value_of q (n.column j))
        ≡ map (edit_at n) (map (sides_less p w) (column_entries p j) ++ column_out j (cost_at p j *ℚ w))
    fixed_column_edits = let c = s.column j on in
        (λ t. map (sides_less q (value_same t)) (c.entries t) ++ column_out (n.column j) (c.cost t *ℚ value_same t))
        ∙ ap (λ (es : List Edit). es ++ column_out (n.column j) (cost_at p j *ℚ w)) (sides_less_same w (column_entries p j) (column_entries-live p j))
        ∙ sym (map-append (edit_at n) (map (sides_less p w) (column_entries p j)) (column_out j (cost_at p j *ℚ w)))

    fixed_column_computes : (All (SidesFit p w) (column_entries p j) × Fits (cost_at p j *ℚ w))
        ↔ (All (SidesFit q (value_of q (n.column j))) (column_entries q (n.column j)) × Fits (cost_at q (n.column j) *ℚ value_of q (n.column j)))
    fixed_column_computes = let c = s.column j on in
        let terms = all_both (SidesFit p w) (SidesFit q w) (term_at n.row) (column_entries p j) (λ k d l. term_computes w (get_or (column_entries p j) k d) (column_entries-live p j k d l)) in
        both_then (λ h. (terms.0 h.0, h.1), λ h. (terms.1 h.0, h.1))
        (both_by (λ (x : List Term × Number × Number). All (SidesFit q x.2) x.0 × Fits (x.1 *ℚ x.2)) (terms_at n.row (column_entries p j), cost_at p j, w)
        (column_entries q (n.column j), cost_at q (n.column j), value_of q (n.column j)) (sym (λ t. (c.entries t, c.cost t, value_same t))))

    place_same : place_of q (n.column j) ≡ place_of p j
    place_same = let c = s.column j on in λ t. resting_place (c.cost t) (c.lower t) (c.upper t)

  pub edits_stand : (r : Reduction) → enabled_on p (at.Reduction r) ≡ true → edits (reduction_at n r) q ≡ map (edit_at n) (edits r p)
  unfolding edits
  edits_stand (EmptyRow i) e = refl
  edits_stand (SingletonRow i) e = singleton_row_edits i (singleton_row.said p i e)
  edits_stand (FixedColumn j) e = fixed_column_edits j (fixed_column.said p j e).live
  edits_stand (RoundedBounds j) e = let c = s.column j (rounded_bounds.said p j e).live in λ t. SetBounds (n.column j) (rounded_up (c.lower t)) (rounded_down (c.upper t)) ∷ []
  edits_stand (RedundantRow i) e = redundant_row_edits n p q s i
  edits_stand (RedundantSide i) e = redundant_side_edits n p q s i (said has_redundant_side p i e).live
  edits_stand (ForcingRow i) e = forcing_row_edits n p q s i (said is_forcing_row p i e).live
  edits_stand (BoundTightening i j side) e = tightened_edits n p q s i (bound_tightening.row_live p i j side e) j side (bound_tightening.column_live p i j side e)
  edits_stand (CoefficientTightening i j) e = coefficient_edits n p q s i j (coefficients.row_live p i j e) (coefficients.column_live p i j e)
  edits_stand (DualFixing j) e = ap (λ (o : Option Number). SetBounds (n.column j) o o ∷ []) (place_kept n p q s j (dual_fixing.said p j e).live)
  edits_stand (DominatedColumn i j k) e = let c = s.column k (dominated_column.said p i j k e).second_live in λ t. SetBounds (n.column k) (c.lower t) (c.lower t) ∷ []
  edits_stand (DoubletonEquation i j k) e = let o = doubleton_equation.said p i j k e in doubleton_equation_edits n p q s i j k o.row_on o.first_on o.second_on
  edits_stand (FreeColumnSingleton j i) e = let o = free_column_singleton.said p j i e in free_column_singleton_edits n p q s j i o.row_live o.column.live
  edits_stand (SlackColumnSingleton j i) e = let o = slack_column_singleton.said p j i e in slack_column_singleton_edits n p q s j i o.row_live o.column_live
  edits_stand (ParallelRows i k) e = let o = parallel_rows.said p i k e in parallel_rows_edits n p q s i k o.first_live o.second_live
  edits_stand (ParallelColumns j k) e = let o = parallel_columns.said p j k e in parallel_columns_edits n p q s j k o.first_live o.second_live
  edits_stand (EmptyColumn j) e = ap (λ (o : Option Number). SetBounds (n.column j) o o ∷ []) (place_same j (empty_column.said p j e).live)

  pub computes_stand : (r : Reduction) → enabled_on p (at.Reduction r) ≡ true → Computes r p ↔ Computes (reduction_at n r) q
  unfolding Computes
  computes_stand (EmptyRow i) e = (λ h. h, λ h. h)
  computes_stand (SingletonRow i) e = singleton_row_computes i (singleton_row.said p i e)
  computes_stand (FixedColumn j) e = fixed_column_computes j (fixed_column.said p j e).live
  computes_stand (RoundedBounds j) e = (λ h. h, λ h. h)
  computes_stand (RedundantRow i) e = (λ h. h, λ h. h)
  computes_stand (RedundantSide i) e = (λ h. h, λ h. h)
  computes_stand (ForcingRow i) e = (λ h. h, λ h. h)
  computes_stand (BoundTightening i j side) e = (λ h. h, λ h. h)
  computes_stand (CoefficientTightening i j) e = coefficient_computes n p q s i j (coefficients.row_live p i j e) (coefficients.column_live p i j e)
  computes_stand (DualFixing j) e = (λ h. h, λ h. h)
  computes_stand (DominatedColumn i j k) e = (λ h. h, λ h. h)
  computes_stand (DoubletonEquation i j k) e = let o = doubleton_equation.said p i j k e in doubleton_equation_computes n p q s i j k o.row_on o.first_on o.second_on
  computes_stand (FreeColumnSingleton j i) e = let o = free_column_singleton.said p j i e in free_column_singleton_computes n p q s j i o.row_live o.column.live
  computes_stand (SlackColumnSingleton j i) e = let o = slack_column_singleton.said p j i e in slack_column_singleton_computes n p q s j i o.row_live o.column_live
  computes_stand (ParallelRows i k) e = let o = parallel_rows.said p i k e in parallel_rows_computes n p q s i k o.first_live o.second_live
  computes_stand (ParallelColumns j k) e = let o = parallel_columns.said p j k e in parallel_columns_computes n p q s j k o.first_live o.second_live
  computes_stand (EmptyColumn j) e = (λ h. h, λ h. h)

-- ---- a bound that is open at its new id, and every other instance
pub open_stands : (old : Open) (p : Sparse) (new : Open) → AreOpenAlike old p new → (r : Reduction) → AreThere p (own_of r)
    → is_open new (at.Reduction (reduction_at (new_ids p) r)) ≡ is_open old (at.Reduction r)
open_stands old p new a (BoundTightening i j side) h = a j side (h 2 (Row i) (omega arith))
open_stands old p new a other h = refl

-- the lines that the first ids of a rule name
abbrev pub lines_of : Sparse → Rule → List Line
lines_of p kind = if is_of_rows kind then p.matrix.rows else p.matrix.columns

-- ---- the instances at a line, of a rule that does not go by groups: as many at its new id, each there exactly where the line is live
abbrev pub IsAtLine : Sparse → Rule → ℕ → Instance → Type 0
IsAtLine p kind k e = ((line_at (lines_of p kind) k).live ≡ true) ↔ AreThere p (own e)

-- K11 has one for each pair of columns of a row, and these columns are live
abbrev dominated_column_in : ℕ → ℕ × ℕ → Instance
dominated_column_in i x = at.Reduction (DominatedColumn i x.0 x.1)

dominated_column_stand : (p q : Sparse) → LinesStand (new_ids p) p q → (i : ℕ) → (row_at p i).live ≡ true
    → map (dominated_column_in (rank p.matrix.rows i)) (pairs_of (row_entries q (rank p.matrix.rows i))) ≡ map (instance_at (new_ids p)) (map (dominated_column_in i) (pairs_of (row_entries p i)))
dominated_column_stand p q s i on = let n = new_ids p in
    ap (λ ts. map (dominated_column_in (n.row i)) (pairs_of ts)) (s.row i on).entries
    ∙ at_pairs n.column (dominated_column_in i) (instance_at n) (dominated_column_in (n.row i)) (λ x. refl) (row_entries p i)

dominated_column_at_line : (p : Sparse) (i : ℕ) → All (IsAtLine p rule.DominatedColumn i) (map (dominated_column_in i) (pairs_of (row_entries p i)))
dominated_column_at_line p i = let pairs = pairs_of (row_entries p i) in
    All-map (IsAtLine p rule.DominatedColumn i) (dominated_column_in i) pairs (λ a d l.
    let x = get_or pairs a d in
    let on = all_pairs (λ j. (column_at p j).live ≡ true) (row_entries p i) (row_entries-live p i) a d l in
    (λ h. lines_there p i x.0 x.1 h on.0 on.1, λ h. h 0 (Row i) (omega arith)))

-- K8 has one for each bound of a column of a row that is open
abbrev tightened_in : ℕ → ℕ × Side → Instance
tightened_in i x = at.Reduction (BoundTightening i x.0 x.1)

abbrev open_bounds : Open → List Term → List (ℕ × Side)
open_bounds opens ts = filter (λ x. opens x.0 x.1) (bounds_of ts)

tightened_stand : (old : Open) (p : Sparse) (new : Open) (q : Sparse) → LinesStand (new_ids p) p q → AreOpenAlike old p new → (i : ℕ) → (row_at p i).live ≡ true
    → map (tightened_in (rank p.matrix.rows i)) (open_bounds new (row_entries q (rank p.matrix.rows i))) ≡ map (instance_at (new_ids p)) (map (tightened_in i) (open_bounds old (row_entries p i)))
tightened_stand old p new q s a i on = let n = new_ids p in let ts = row_entries p i in
    ap (λ us. map (tightened_in (n.row i)) (open_bounds new us)) (s.row i on).entries
    ∙ ap (λ (xs : List (ℕ × Side)). map (tightened_in (n.row i)) (filter (λ x. new x.0 x.1) xs)) (bounds_of_at n.column ts)
    ∙ ap (map (tightened_in (n.row i))) (filter_across (side_at n.column) (λ x. old x.0 x.1) (λ x. new x.0 x.1) (bounds_of ts)
    (λ k d l. let x = get_or (bounds_of ts) k d in a x.0 x.1 (all_bounds_live p i k d l)))
    ∙ map_across (side_at n.column) (tightened_in i) (instance_at n) (tightened_in (n.row i)) (λ x. refl) (open_bounds old ts)

-- where there is one, the columns are live
with_column : (p : Sparse) (kind : Rule) (i j : ℕ) (e : Instance) → own e ≡ heads i ++ Bounds j ∷ [] → (line_at (lines_of p kind) i).live ≡ (row_at p i).live → (column_at p j).live ≡ true → IsAtLine p kind i e
with_column p kind i j e is line on = (
  λ h. subst (AreThere p) (sym is) (bound_there p i j (sym line ∙ h) on),
  λ h. line ∙ subst (AreThere p) is h 0 (Row i) (omega arith),
)

tightened_at_line : (opens : Open) (p : Sparse) (i : ℕ) → All (IsAtLine p rule.BoundTightening i) (map (tightened_in i) (open_bounds opens (row_entries p i)))
tightened_at_line opens p i = let bounds = open_bounds opens (row_entries p i) in
    All-map (IsAtLine p rule.BoundTightening i) (tightened_in i) bounds (λ a d l.
    let x = get_or bounds a d in
    with_column p rule.BoundTightening i x.0 (tightened_in i x) refl refl
    (All-filter (λ x. opens x.0 x.1) (λ (x : ℕ × Side). (column_at p x.0).live ≡ true) (bounds_of (row_entries p i)) (all_bounds_live p i) a d l))

-- K9 has one for each column of a row
abbrev coefficient_in : ℕ → ℕ → Instance
coefficient_in i j = at.Reduction (CoefficientTightening i j)

coefficients_stand : (p q : Sparse) → LinesStand (new_ids p) p q → (i : ℕ) → (row_at p i).live ≡ true
    → map (coefficient_in (rank p.matrix.rows i)) (ids_in (row_entries q (rank p.matrix.rows i))) ≡ map (instance_at (new_ids p)) (map (coefficient_in i) (ids_in (row_entries p i)))
coefficients_stand p q s i on = let n = new_ids p in
    ap (λ ts. map (coefficient_in (n.row i)) (ids_in ts)) (s.row i on).entries
    ∙ at_ids n.column (coefficient_in i) (instance_at n) (coefficient_in (n.row i)) (λ j. refl) (row_entries p i)

coefficients_at_line : (p : Sparse) (i : ℕ) → All (IsAtLine p rule.CoefficientTightening i) (map (coefficient_in i) (ids_in (row_entries p i)))
coefficients_at_line p i = let js = ids_in (row_entries p i) in
    All-map (IsAtLine p rule.CoefficientTightening i) (coefficient_in i) js (λ a d l.
    let j = get_or js a d in with_column p rule.CoefficientTightening i j (coefficient_in i j) refl refl (all_ids_live p i a d l))

-- K12 has one for each order of the two columns of a row
abbrev doubleton_equation_in : ℕ → ℕ × ℕ → Instance
doubleton_equation_in i x = at.Reduction (DoubletonEquation i x.0 x.1)

both_orders_at : (f : ℕ → ℕ) (ts : List Term) → both_orders (terms_at f ts) ≡ map (pair_at f) (both_orders ts)
both_orders_at f [] = refl
both_orders_at f (t ∷ []) = refl
both_orders_at f (t ∷ u ∷ []) = refl
both_orders_at f (t ∷ u ∷ v ∷ ts) = refl

all_orders : (P : ℕ → Type 0) (ts : List Term) → All (λ t. P t.id) ts → All (λ (x : ℕ × ℕ). P x.0 × P x.1) (both_orders ts)
all_orders P [] h = All-nil (λ (x : ℕ × ℕ). P x.0 × P x.1)
all_orders P (t ∷ []) h = All-nil (λ (x : ℕ × ℕ). P x.0 × P x.1)
all_orders P (t ∷ u ∷ []) h =
    let a = All-head (λ t. P t.id) t (u ∷ []) h in
    let b = All-head (λ t. P t.id) u [] (All-tail (λ t. P t.id) t (u ∷ []) h) in
    all_two (λ (x : ℕ × ℕ). P x.0 × P x.1) (t.id, u.id) (u.id, t.id) (a, b) (b, a)
all_orders P (t ∷ u ∷ v ∷ ts) h = All-nil (λ (x : ℕ × ℕ). P x.0 × P x.1)

doubleton_equations_stand : (p q : Sparse) → LinesStand (new_ids p) p q → (i : ℕ) → (row_at p i).live ≡ true
    → map (doubleton_equation_in (rank p.matrix.rows i)) (both_orders (row_entries q (rank p.matrix.rows i))) ≡ map (instance_at (new_ids p)) (map (doubleton_equation_in i) (both_orders (row_entries p i)))
doubleton_equations_stand p q s i on = let n = new_ids p in let ts = row_entries p i in
    ap (λ us. map (doubleton_equation_in (n.row i)) (both_orders us)) (s.row i on).entries
    ∙ ap (map (doubleton_equation_in (n.row i))) (both_orders_at n.column ts)
    ∙ map_across (pair_at n.column) (doubleton_equation_in i) (instance_at n) (doubleton_equation_in (n.row i)) (λ x. refl) (both_orders ts)

doubleton_equations_at_line : (p : Sparse) (i : ℕ) → All (IsAtLine p rule.DoubletonEquation i) (map (doubleton_equation_in i) (both_orders (row_entries p i)))
doubleton_equations_at_line p i = let pairs = both_orders (row_entries p i) in
    All-map (IsAtLine p rule.DoubletonEquation i) (doubleton_equation_in i) pairs (λ a d l.
    let x = get_or pairs a d in
    let on = all_orders (λ j. (column_at p j).live ≡ true) (row_entries p i) (row_entries-live p i) a d l in
    (λ h. pair_there p i x.0 x.1 h on.0 on.1, λ h. h 0 (Row i) (omega arith)))

-- K13 and K14 have one for a column with one entry, at the row of that
abbrev free_in : ℕ → ℕ → Instance
free_in j i = at.Reduction (FreeColumnSingleton j i)

abbrev slack_in : ℕ → ℕ → Instance
slack_in j i = at.Reduction (SlackColumnSingleton j i)

sole_row_at : (f : ℕ → ℕ) (ts : List Term) → sole_row (terms_at f ts) ≡ map f (sole_row ts)
sole_row_at f [] = refl
sole_row_at f (t ∷ []) = refl
sole_row_at f (t ∷ u ∷ ts) = refl

sole_row_live : (p : Sparse) (j : ℕ) → All (λ i. (row_at p i).live ≡ true) (sole_row (column_entries p j))
sole_row_live p j = by (column_entries p j) (column_entries-live p j)
  where
    by : (ts : List Term) → All (λ t. (row_at p t.id).live ≡ true) ts → All (λ i. (row_at p i).live ≡ true) (sole_row ts)
    by [] h = All-nil (λ i. (row_at p i).live ≡ true)
    by (t ∷ []) h = all_one (λ i. (row_at p i).live ≡ true) t.id (All-head (λ t. (row_at p t.id).live ≡ true) t [] h)
    by (t ∷ u ∷ ts) h = All-nil (λ i. (row_at p i).live ≡ true)

soles_stand : (p q : Sparse) → LinesStand (new_ids p) p q → (j : ℕ) → (column_at p j).live ≡ true
    → (old new : ℕ → Instance) → ((i : ℕ) → new (rank p.matrix.rows i) ≡ instance_at (new_ids p) (old i))
    → map new (sole_row (column_entries q (rank p.matrix.columns j))) ≡ map (instance_at (new_ids p)) (map old (sole_row (column_entries p j)))
soles_stand p q s j on old new e = let n = new_ids p in let ts = column_entries p j in
    ap (λ us. map new (sole_row us)) (s.column j on).entries
    ∙ ap (map new) (sole_row_at n.row ts)
    ∙ map_across n.row old (instance_at n) new e (sole_row ts)

free_at_line : (p : Sparse) (j : ℕ) → All (IsAtLine p rule.FreeColumnSingleton j) (map (free_in j) (sole_row (column_entries p j)))
free_at_line p j = let rows = sole_row (column_entries p j) in
    All-map (IsAtLine p rule.FreeColumnSingleton j) (free_in j) rows (λ a d l. (λ h. free_there p j (get_or rows a d) (sole_row_live p j a d l) h, λ h. h 2 (Col j) (omega arith)))

slack_at_line : (p : Sparse) (j : ℕ) → All (IsAtLine p rule.SlackColumnSingleton j) (map (slack_in j) (sole_row (column_entries p j)))
slack_at_line p j = let rows = sole_row (column_entries p j) in
    All-map (IsAtLine p rule.SlackColumnSingleton j) (slack_in j) rows (λ a d l. (λ h. slack_there p j (get_or rows a d) (sole_row_live p j a d l) h, λ h. h 2 (Col j) (omega arith)))

pub instances_stand : (old : Open) (p : Sparse) (new : Open) (q : Sparse) → LinesStand (new_ids p) p q → AreOpenAlike old p new → (kind : Rule) (k : ℕ) → goes_by_groups kind ≡ false
    → (line_at (lines_of p kind) k).live ≡ true → instances_from new q kind (rank (lines_of p kind) k) ≡ map (instance_at (new_ids p)) (instances_from old p kind k)
instances_stand old p new q s a rule.CrossedBounds k g on = refl
instances_stand old p new q s a rule.CrossedSides k g on = refl
instances_stand old p new q s a rule.InfeasibleRow k g on = refl
instances_stand old p new q s a rule.UnboundedColumn k g on = refl
instances_stand old p new q s a rule.EmptyRow k g on = refl
instances_stand old p new q s a rule.SingletonRow k g on = refl
instances_stand old p new q s a rule.FixedColumn k g on = refl
instances_stand old p new q s a rule.RoundedBounds k g on = refl
instances_stand old p new q s a rule.RedundantRow k g on = refl
instances_stand old p new q s a rule.RedundantSide k g on = refl
instances_stand old p new q s a rule.ForcingRow k g on = refl
instances_stand old p new q s a rule.BoundTightening k g on = tightened_stand old p new q s a k on
instances_stand old p new q s a rule.CoefficientTightening k g on = coefficients_stand p q s k on
instances_stand old p new q s a rule.DualFixing k g on = refl
instances_stand old p new q s a rule.DominatedColumn k g on = dominated_column_stand p q s k on
instances_stand old p new q s a rule.DoubletonEquation k g on = doubleton_equations_stand p q s k on
instances_stand old p new q s a rule.FreeColumnSingleton k g on = soles_stand p q s k on (free_in k) (free_in (rank p.matrix.columns k)) (λ i. refl)
instances_stand old p new q s a rule.SlackColumnSingleton k g on = soles_stand p q s k on (slack_in k) (slack_in (rank p.matrix.columns k)) (λ i. refl)
instances_stand old p new q s a rule.ParallelRows k g on = absurd (true≢false g)
instances_stand old p new q s a rule.ParallelColumns k g on = absurd (true≢false g)
instances_stand old p new q s a rule.EmptyColumn k g on = refl

pub instances_at_line : (opens : Open) (p : Sparse) (kind : Rule) (k : ℕ) → goes_by_groups kind ≡ false → All (IsAtLine p kind k) (instances_from opens p kind k)
instances_at_line opens p rule.CrossedBounds k g = all_one (IsAtLine p rule.CrossedBounds k) (at.Verdict (CrossedBounds k)) (one_part p (Bounds k))
instances_at_line opens p rule.CrossedSides k g = all_one (IsAtLine p rule.CrossedSides k) (at.Verdict (CrossedSides k)) (one_part p (Sides k))
instances_at_line opens p rule.InfeasibleRow k g = all_one (IsAtLine p rule.InfeasibleRow k) (at.Verdict (InfeasibleRow k)) (two_parts p (Row k) (Sides k) (λ h. h))
instances_at_line opens p rule.UnboundedColumn k g = all_one (IsAtLine p rule.UnboundedColumn k) (at.Verdict (UnboundedColumn k)) (two_parts p (Col k) (Bounds k) (λ h. h))
instances_at_line opens p rule.EmptyRow k g = all_one (IsAtLine p rule.EmptyRow k) (at.Reduction (EmptyRow k)) (two_parts p (Row k) (Sides k) (λ h. h))
instances_at_line opens p rule.SingletonRow k g = all_one (IsAtLine p rule.SingletonRow k) (at.Reduction (SingletonRow k)) (two_parts p (Row k) (Sides k) (λ h. h))
instances_at_line opens p rule.FixedColumn k g = all_one (IsAtLine p rule.FixedColumn k) (at.Reduction (FixedColumn k)) (two_parts p (Col k) (Bounds k) (λ h. h))
instances_at_line opens p rule.RoundedBounds k g = all_one (IsAtLine p rule.RoundedBounds k) (at.Reduction (RoundedBounds k)) (one_part p (Bounds k))
instances_at_line opens p rule.RedundantRow k g = all_one (IsAtLine p rule.RedundantRow k) (at.Reduction (RedundantRow k)) (two_parts p (Row k) (Sides k) (λ h. h))
instances_at_line opens p rule.RedundantSide k g = all_one (IsAtLine p rule.RedundantSide k) (at.Reduction (RedundantSide k)) (two_parts p (Row k) (Sides k) (λ h. h))
instances_at_line opens p rule.ForcingRow k g = all_one (IsAtLine p rule.ForcingRow k) (at.Reduction (ForcingRow k)) (two_parts p (Row k) (Sides k) (λ h. h))
instances_at_line opens p rule.BoundTightening k g = tightened_at_line opens p k
instances_at_line opens p rule.CoefficientTightening k g = coefficients_at_line p k
instances_at_line opens p rule.DualFixing k g = all_one (IsAtLine p rule.DualFixing k) (at.Reduction (DualFixing k)) (two_parts p (Col k) (Bounds k) (λ h. h))
instances_at_line opens p rule.DominatedColumn k g = dominated_column_at_line p k
instances_at_line opens p rule.DoubletonEquation k g = doubleton_equations_at_line p k
instances_at_line opens p rule.FreeColumnSingleton k g = free_at_line p k
instances_at_line opens p rule.SlackColumnSingleton k g = slack_at_line p k
instances_at_line opens p rule.ParallelRows k g = absurd (true≢false g)
instances_at_line opens p rule.ParallelColumns k g = absurd (true≢false g)
instances_at_line opens p rule.EmptyColumn k g = all_one (IsAtLine p rule.EmptyColumn k) (at.Reduction (EmptyColumn k)) (two_parts p (Col k) (Bounds k) (λ h. h))

-- ---- the instances at a line, of a rule that goes by groups: one for each second line, there exactly where both lines are live
pub groups_from : (opens : Open) (p : Sparse) (kind : Rule) (i : ℕ) → goes_by_groups kind ≡ true → instances_from opens p kind i ≡ map (beside_at kind i) (all_ids p kind)
groups_from opens p rule.ParallelRows i g = refl
groups_from opens p rule.ParallelColumns j g = refl
groups_from opens p kind i g = absurd (true≢false (sym g))

pub groups_stand : (p : Sparse) (kind : Rule) (i k : ℕ) → goes_by_groups kind ≡ true
    → beside_at kind (rank (lines_of p kind) i) (rank (lines_of p kind) k) ≡ instance_at (new_ids p) (beside_at kind i k)
groups_stand p rule.ParallelRows i k g = refl
groups_stand p rule.ParallelColumns j k g = refl
groups_stand p kind i k g = absurd (true≢false (sym g))

pub groups_at_lines : (p : Sparse) (kind : Rule) (i k : ℕ) → goes_by_groups kind ≡ true
    → (((line_at (lines_of p kind) i).live ≡ true) × ((line_at (lines_of p kind) k).live ≡ true)) ↔ AreThere p (own (beside_at kind i k))
groups_at_lines p rule.ParallelRows i k g = (λ h. rows_there p i k h.0 h.1, λ h. (h 0 (Row i) (omega arith), h 1 (Row i) (omega arith)))
groups_at_lines p rule.ParallelColumns j k g = (λ h. columns_there p j k h.0 h.1, λ h. (h 0 (Col j) (omega arith), h 1 (Col j) (omega arith)))
groups_at_lines p kind i k g = absurd (true≢false (sym g))
