-- The laws of the tables by cases: one line a rule.
use Rattle.std.proofs.Common.{◌≡◌, ◌⊎◌, inl, inr, ◌<◌, ◌&&◌, nat_eq, ap₂, ℕ, false, true, List, [], ◌∷◌, ◌++◌, Option, Some, None, length, map, refl, sym, ap, subst, arith, true≢false}
use Rattle.std.specs.List.{All, Contains, filter, range_with_len}
use Rattle.std.proofs.lemmas.Bool.{and_parts, eqb-true}
use Rattle.fractions.specs.Number.{Number}
use Rattle.fractions.specs.declared.Numbers.{Numbers}
use Rattle.lp_model.specs.declared.program.Sense.{Sense}
use Rattle.lp_model.specs.declared.terms.Term.{Term}
use Rattle.lp_model.specs.LinearProgram.{LinearProgram}
use Rattle.lp_model.specs.Reductions.{Reduces}
use Rattle.lp_model.specs.Vectors.{Vector}
use Rattle.lp_model.specs.Verdicts.{NoPoint, NoPointOrEndless}
use Rattle.lp_model.specs.declared.program.Sense.TheVariants.{Min}
use Rattle.lp_model.specs.Turning.{minimizing}
use Rattle.lp_passages.proofs.Turns.{either_in, no_point_in}
use Rattle.lp_theory.proofs.Verdicts.{no_point_back, no_point_or_endless_back}
use Rattle.problem_model.specs.declared.part.Contents.{Contents}
use Rattle.problem_model.specs.declared.part.Contents.TheVariants as holding
use Rattle.problem_model.specs.declared.part.Read.{Read}
use Rattle.problem_model.specs.NewNumbers.{EditFits, EditsAreWritten}
use Rattle.undo_records.specs.declared.side.Side.{Side}
use Rattle.undo_records.specs.declared.side.Side.TheVariants.{Lower, Upper}
use Rattle.problem_model.specs.declared.line.Bounds.{Bounds}
use Rattle.problem_model.specs.Offsets.{OffsetFits}
use Rattle.undo_records.specs.declared.undo.Undo.{Undo}
use Rattle.problem_model.specs.Problems.{bounds_at, column_entries, IsSparse, row_entries}
use Rattle.problem_model.specs.Showing.{shown}
use Rattle.problem_model.specs.Sparse.{Sparse}
use Rattle.problem_laws.proofs.AtIds.{row_inside, column_inside}
use Rattle.rule_words.specs.Owed.{Owes}
use Rattle.singleton_laws.proofs.EmptyRow as empty_row
use Rattle.singleton_laws.proofs.SingletonRow as singleton_row
use Rattle.singleton_laws.proofs.FixedColumn as fixed_column
use Rattle.singleton_laws.proofs.RoundedBounds as rounded_bounds
use Rattle.singleton_laws.proofs.EmptyColumn as empty_column
use Rattle.singleton_laws.proofs.CrossedBounds as crossed_bounds
use Rattle.singleton_laws.proofs.CrossedSides as crossed_sides
use Rattle.activity_laws.specs.ForcingRow.{is_forcing_row}
use Rattle.activity_laws.specs.InfeasibleRow.{is_infeasible_row}
use Rattle.activity_laws.specs.RedundantRow.{is_redundant_row}
use Rattle.activity_laws.specs.RedundantSide.{has_redundant_side}
use Rattle.activity_laws.specs.BoundTightening.{bound_set, bounds_of, new_bound, old_bound}
use Rattle.activity_laws.proofs.Rows.{said}
use Rattle.activity_laws.proofs.RedundantRow as redundant_row
use Rattle.activity_laws.proofs.RedundantSide as redundant_side
use Rattle.activity_laws.proofs.ForcingRow as forcing_row
use Rattle.activity_laws.proofs.BoundTightening as bound_tightening
use Rattle.activity_laws.proofs.InfeasibleRow as infeasible_row
use Rattle.coef_laws.specs.CoefficientTightening as coefficient_words
use Rattle.coef_laws.specs.declared.tightening.Tightening.{Tightening}
use Rattle.coef_laws.proofs.CoefficientTightening as coefficient_tightening
use Rattle.coef_laws.proofs.Changing as coefficients
use Rattle.dual_laws.specs.DominatedColumn.{pairs_of}
use Rattle.dual_laws.proofs.DualFixing as dual_fixing
use Rattle.dual_laws.proofs.DominatedColumn as dominated_column
use Rattle.dual_laws.proofs.Forms.{dominated_column_more_rests, dominated_column_rests, dual_fixing_rests, unbounded_column_rests, RestsOnLines, RestsOnSeen, sides_named_rest}
use Rattle.dual_laws.proofs.UnboundedColumn as unbounded_column
use Rattle.aggregation_laws.specs.DoubletonEquation.{are_at}
use Rattle.aggregation_laws.proofs.DoubletonEquation as doubleton_equation
use Rattle.column_laws.proofs.SoleEntry.{IsSole}
use Rattle.column_laws.proofs.FreeColumnSingleton as free_column_singleton
use Rattle.column_laws.proofs.SlackColumnSingleton as slack_column_singleton
use Rattle.parallel_laws.proofs.ParallelRows as parallel_rows
use Rattle.parallel_laws.proofs.ParallelColumns as parallel_columns
use Rattle.presolve_model.specs.declared.instance.Instance.{Instance}
use Rattle.presolve_model.specs.declared.instance.Instance.TheVariants as at
use Rattle.presolve_model.specs.declared.instance.Reduction.{Reduction}
use Rattle.presolve_model.specs.declared.instance.Reduction.TheVariants.{EmptyRow, SingletonRow, FixedColumn, RoundedBounds, RedundantRow, RedundantSide, ForcingRow, BoundTightening, CoefficientTightening, DualFixing, DominatedColumn, DoubletonEquation, FreeColumnSingleton, SlackColumnSingleton, ParallelRows, ParallelColumns, EmptyColumn}
use Rattle.presolve_model.specs.declared.instance.Verdict.{Verdict}
use Rattle.presolve_model.specs.declared.instance.Verdict.TheVariants.{CrossedBounds, CrossedSides, InfeasibleRow, UnboundedColumn}
use Rattle.presolve_model.specs.Changes.{ChangeFits, ChangeIsWritten}
use Rattle.presolve_model.specs.Enabled.{enabled_on, reading_of}
use Rattle.presolve_model.specs.declared.instance.Rule.{Rule}
use Rattle.presolve_model.specs.declared.instance.Rule.TheVariants as rule
use Rattle.presolve_model.specs.Instances.{both_orders, goes_by_form, id_at, id_count, instances_from, is_open, lets_by, reach_of, rests_on_reading, rule_at, rule_of, sole_row, tallied}
use Rattle.presolve_model.specs.Meanings.{Meant, says_no_point}
use Rattle.presolve_model.specs.Order.{verdict_order, reduction_order}
use Rattle.presolve_model.specs.Tables.{Computes, edits, holds, more, record_of}
use Rattle.presolve_model.specs.Tallies.{AreCountsOf, Counts, IsTally, Open}
use Rattle.presolve_model.proofs.Lists.{either_true, contains_bound, contains_filter, contains_id, contains_map, contains_pair, contains_range}
use Rattle.presolve_model.proofs.Readings.{found_told}
use Rattle.presolve_model.proofs.Tallying.{counts_long, tally_more, tally_same}

-- ---- what each rule owes
pub reductions_owe : (p : Sparse) (r : Reduction) → IsSparse p → enabled_on p (at.Reduction r) ≡ true → Owes p (edits r p) (record_of r p)
unfolding edits record_of
reductions_owe p (EmptyRow i) s e = empty_row.owes p i s e
reductions_owe p (SingletonRow i) s e = singleton_row.owes p i s e
reductions_owe p (FixedColumn j) s e = fixed_column.owes p j s e
reductions_owe p (RoundedBounds j) s e = rounded_bounds.owes p j s e
reductions_owe p (RedundantRow i) s e = redundant_row.owes p i s e
reductions_owe p (RedundantSide i) s e = redundant_side.owes p i s e
reductions_owe p (ForcingRow i) s e = forcing_row.owes p i s e
reductions_owe p (BoundTightening i j side) s e = bound_tightening.owes p i j side s e
reductions_owe p (CoefficientTightening i j) s e = coefficient_tightening.owes p i j s e
reductions_owe p (DualFixing j) s e = dual_fixing.owes p j s e
reductions_owe p (DominatedColumn i j k) s e = dominated_column.owes p i j k s e
reductions_owe p (DoubletonEquation i j k) s e = doubleton_equation.owes p i j k s e
reductions_owe p (FreeColumnSingleton j i) s e = free_column_singleton.owes p j i s e
reductions_owe p (SlackColumnSingleton j i) s e = slack_column_singleton.owes p j i s e
reductions_owe p (ParallelRows i k) s e = parallel_rows.owes p i k s e
reductions_owe p (ParallelColumns j k) s e = parallel_columns.owes p j k s e
reductions_owe p (EmptyColumn j) s e = empty_column.owes p j s e

-- ---- each enabled instance that is open is among those of its rule and its first id, which is the problem's
pub record IsListed (opens : Open) (p : Sparse) (e : Instance) : Type 0 where
  pub within : id_at e < id_count p (rule_at e)
  pub there : Contains (instances_from opens p (rule_at e) (id_at e)) e

-- two columns of a row are among its orders, and the one row of a column is that
contains_order : (ts : List Term) (j k : ℕ) → are_at j k ts ≡ true → Contains (both_orders ts) (j, k)
contains_order [] j k h = absurd (true≢false (sym h))
contains_order (t ∷ []) j k h = absurd (true≢false (sym h))
contains_order (t ∷ u ∷ v ∷ ts) j k h = absurd (true≢false (sym h))
contains_order (t ∷ u ∷ []) j k h = by (either_true (nat_eq t.id j && nat_eq u.id k) (nat_eq t.id k && nat_eq u.id j) h)
  where
    by : ((nat_eq t.id j && nat_eq u.id k) ≡ true) ⊎ ((nat_eq t.id k && nat_eq u.id j) ≡ true) → Contains (both_orders (t ∷ u ∷ [])) (j, k)
    by (inl e) = let b = and_parts (nat_eq t.id j) (nat_eq u.id k) e in (0, omega arith, ap₂ (λ (x y : ℕ). (x, y)) (eqb-true t.id j b.0) (eqb-true u.id k b.1))
    by (inr e) = let b = and_parts (nat_eq t.id k) (nat_eq u.id j) e in (1, omega arith, ap₂ (λ (x y : ℕ). (x, y)) (eqb-true u.id j b.1) (eqb-true t.id k b.0))

contains_sole : (i : ℕ) (ts : List Term) → IsSole i ts → Contains (sole_row ts) i
contains_sole i ts h = subst (λ (us : List Term). Contains (sole_row us) i) (sym h.one) (0, omega arith, h.at)

alone : (opens : Open) (p : Sparse) (e : Instance) → id_at e < id_count p (rule_at e) → instances_from opens p (rule_at e) (id_at e) ≡ e ∷ [] → IsListed opens p e
alone opens p e l h = record { within = l; there = subst (λ es. Contains es e) (sym h) (0, omega arith, refl) }

pub reductions_listed : (opens : Open) (p : Sparse) (r : Reduction) → is_open opens (at.Reduction r) ≡ true → enabled_on p (at.Reduction r) ≡ true → IsListed opens p (at.Reduction r)
reductions_listed opens p (EmptyRow i) o e = alone opens p (at.Reduction (EmptyRow i)) (row_inside p i (empty_row.said p i e).live) refl
reductions_listed opens p (SingletonRow i) o e = alone opens p (at.Reduction (SingletonRow i)) (row_inside p i (singleton_row.said p i e).live) refl
reductions_listed opens p (FixedColumn j) o e = alone opens p (at.Reduction (FixedColumn j)) (column_inside p j (fixed_column.said p j e).live) refl
reductions_listed opens p (RoundedBounds j) o e = alone opens p (at.Reduction (RoundedBounds j)) (column_inside p j (rounded_bounds.said p j e).live) refl
reductions_listed opens p (RedundantRow i) o e = alone opens p (at.Reduction (RedundantRow i)) (row_inside p i (said is_redundant_row p i e).live) refl
reductions_listed opens p (RedundantSide i) o e = alone opens p (at.Reduction (RedundantSide i)) (row_inside p i (said has_redundant_side p i e).live) refl
reductions_listed opens p (ForcingRow i) o e = alone opens p (at.Reduction (ForcingRow i)) (row_inside p i (said is_forcing_row p i e).live) refl
reductions_listed opens p (BoundTightening i j side) o e = let t = bound_tightening.said_at p i j side e in record {
  within = row_inside p i (bound_tightening.row_live p i j side e);
  there = contains_map (λ x. at.Reduction (BoundTightening i x.0 x.1)) (filter (λ x. opens x.0 x.1) (bounds_of (row_entries p i))) (j, side)
      (contains_filter (λ x. opens x.0 x.1) (bounds_of (row_entries p i)) (j, side) (contains_bound (row_entries p i) j side t.named) o);
}
reductions_listed opens p (CoefficientTightening i j) o e = record {
  within = row_inside p i (coefficients.row_live p i j e);
  there = contains_map (λ k. at.Reduction (CoefficientTightening i k)) (map (λ t. t.id) (row_entries p i)) j (contains_id (row_entries p i) j (coefficients.entry_named p i j e));
}
reductions_listed opens p (DualFixing j) o e = alone opens p (at.Reduction (DualFixing j)) (column_inside p j (dual_fixing.said p j e).live) refl
reductions_listed opens p (DominatedColumn i j k) o e = let d = dominated_column.said p i j k e in record {
  within = row_inside p i d.row_live;
  there = contains_map (λ x. at.Reduction (DominatedColumn i x.0 x.1)) (pairs_of (row_entries p i)) (j, k) (contains_pair (row_entries p i) j k d.first_in d.second_in);
}
reductions_listed opens p (DoubletonEquation i j k) o e = let d = doubleton_equation.said p i j k e in record {
  within = row_inside p i d.row_on;
  there = contains_map (λ x. at.Reduction (DoubletonEquation i x.0 x.1)) (both_orders (row_entries p i)) (j, k) (contains_order (row_entries p i) j k d.at);
}
reductions_listed opens p (FreeColumnSingleton j i) o e = let d = (free_column_singleton.said p j i e).column in record {
  within = column_inside p j d.live;
  there = contains_map (λ i. at.Reduction (FreeColumnSingleton j i)) (sole_row (column_entries p j)) i (contains_sole i (column_entries p j) d.sole_there);
}
reductions_listed opens p (SlackColumnSingleton j i) o e = let d = slack_column_singleton.said p j i e in record {
  within = column_inside p j d.column_live;
  there = contains_map (λ i. at.Reduction (SlackColumnSingleton j i)) (sole_row (column_entries p j)) i (contains_sole i (column_entries p j) d.sole_there);
}
reductions_listed opens p (ParallelRows i k) o e = let d = parallel_rows.said p i k e in record {
  within = row_inside p i d.first_live;
  there = contains_map (λ k. at.Reduction (ParallelRows i k)) (range_with_len 0 (length p.matrix.rows)) k (contains_range (length p.matrix.rows) k (row_inside p k d.second_live));
}
reductions_listed opens p (ParallelColumns j k) o e = let d = parallel_columns.said p j k e in record {
  within = column_inside p j d.first_live;
  there = contains_map (λ k. at.Reduction (ParallelColumns j k)) (range_with_len 0 (length p.matrix.columns)) k (contains_range (length p.matrix.columns) k (column_inside p k d.second_live));
}
reductions_listed opens p (EmptyColumn j) o e = alone opens p (at.Reduction (EmptyColumn j)) (column_inside p j (empty_column.said p j e).live) refl

pub verdicts_listed : (opens : Open) (p : Sparse) (v : Verdict) → enabled_on p (at.Verdict v) ≡ true → IsListed opens p (at.Verdict v)
verdicts_listed opens p (CrossedBounds j) e = alone opens p (at.Verdict (CrossedBounds j)) (column_inside p j (crossed_bounds.said p j e).live) refl
verdicts_listed opens p (CrossedSides i) e = alone opens p (at.Verdict (CrossedSides i)) (row_inside p i (crossed_sides.said p i e).live) refl
verdicts_listed opens p (InfeasibleRow i) e = alone opens p (at.Verdict (InfeasibleRow i)) (row_inside p i (said is_infeasible_row p i e).live) refl
verdicts_listed opens p (UnboundedColumn j) e = alone opens p (at.Verdict (UnboundedColumn j)) (column_inside p j (unbounded_column.said p j e).live) refl

-- ---- each rule has its place in the order
pub reductions_ordered : (r : Reduction) → Contains reduction_order (rule_of r)
reductions_ordered (EmptyRow i) = (0, omega arith, refl)
reductions_ordered (SingletonRow i) = (1, omega arith, refl)
reductions_ordered (FixedColumn j) = (2, omega arith, refl)
reductions_ordered (RoundedBounds j) = (3, omega arith, refl)
reductions_ordered (RedundantRow i) = (4, omega arith, refl)
reductions_ordered (RedundantSide i) = (5, omega arith, refl)
reductions_ordered (ForcingRow i) = (6, omega arith, refl)
reductions_ordered (BoundTightening i j side) = (7, omega arith, refl)
reductions_ordered (CoefficientTightening i j) = (8, omega arith, refl)
reductions_ordered (DualFixing j) = (9, omega arith, refl)
reductions_ordered (DominatedColumn i j k) = (10, omega arith, refl)
reductions_ordered (DoubletonEquation i j k) = (11, omega arith, refl)
reductions_ordered (FreeColumnSingleton j i) = (12, omega arith, refl)
reductions_ordered (SlackColumnSingleton j i) = (13, omega arith, refl)
reductions_ordered (ParallelRows i k) = (14, omega arith, refl)
reductions_ordered (ParallelColumns j k) = (15, omega arith, refl)
reductions_ordered (EmptyColumn j) = (16, omega arith, refl)

pub verdicts_ordered : (v : Verdict) → Contains verdict_order (rule_at (at.Verdict v))
verdicts_ordered (CrossedBounds j) = (0, omega arith, refl)
verdicts_ordered (CrossedSides i) = (1, omega arith, refl)
verdicts_ordered (InfeasibleRow i) = (2, omega arith, refl)
verdicts_ordered (UnboundedColumn j) = (3, omega arith, refl)

-- ---- what verdicts mean; that it goes back along reductions; and what it says of a program that is maximized
pub verdicts_mean : (p : Sparse) (v : Verdict) → IsSparse p → enabled_on p (at.Verdict v) ≡ true → Meant v Min (shown p)
verdicts_mean p (CrossedBounds j) s e = crossed_bounds.decides p j s e
verdicts_mean p (CrossedSides i) s e = crossed_sides.decides p i s e
verdicts_mean p (InfeasibleRow i) s e = infeasible_row.decides p i s e
verdicts_mean p (UnboundedColumn j) s e = unbounded_column.decides p j s e

pub meant_back : (v : Verdict) (M R : LinearProgram) (f : Vector → Vector) (k : Number) → Reduces Min M R f k → Meant v Min R → Meant v Min M
meant_back (CrossedBounds j) M R f k h m = no_point_back Min M R f k h m
meant_back (CrossedSides i) M R f k h m = no_point_back Min M R f k h m
meant_back (InfeasibleRow i) M R f k h m = no_point_back Min M R f k h m
meant_back (UnboundedColumn j) M R f k h m = no_point_or_endless_back Min M R f k h m

pub meant_in : (v : Verdict) (d : Sense) (M : LinearProgram) → Meant v Min (minimizing d M) → Meant v d M
meant_in (CrossedBounds j) d M h = no_point_in d M h
meant_in (CrossedSides i) d M h = no_point_in d M h
meant_in (InfeasibleRow i) d M h = no_point_in d M h
meant_in (UnboundedColumn j) d M h = either_in d M h

-- ---- a verdict that says that no point is feasible says so, and each says that none is, or that no cost is the least
pub meant_no_point : (v : Verdict) (d : Sense) (M : LinearProgram) → says_no_point v ≡ true → Meant v d M → NoPoint M
meant_no_point (CrossedBounds j) d M e h = h
meant_no_point (CrossedSides i) d M e h = h
meant_no_point (InfeasibleRow i) d M e h = h
meant_no_point (UnboundedColumn j) d M e h = absurd (true≢false (sym e))

pub meant_either : (v : Verdict) (d : Sense) (M : LinearProgram) → Meant v d M → NoPointOrEndless d M
meant_either (CrossedBounds j) d M h = λ x f. absurd (h x f)
meant_either (CrossedSides i) d M h = λ x f. absurd (h x f)
meant_either (InfeasibleRow i) d M h = λ x f. absurd (h x f)
meant_either (UnboundedColumn j) d M h = h

-- ---- where a rule's refusals rest on what is read: an enabled instance that reads the same has edits whose numbers have room, and can be
-- written, alike
abbrev IsAlike : Numbers → Sparse → Sparse → Reduction → Type 0
IsAlike numbers p q r = (ChangeFits r q → ChangeFits r p) × (ChangeIsWritten numbers r q → ChangeIsWritten numbers r p)

abbrev holds_first : Contents → List Read → Contents
holds_first c [] = c
holds_first c (r ∷ rs) = r.contents

bounds_alike : (numbers : Numbers) (p q : Sparse) (j : ℕ) → enabled_on p (at.Reduction (RoundedBounds j)) ≡ true → reading_of q (at.Reduction (RoundedBounds j)) ≡ reading_of p (at.Reduction (RoundedBounds j)) → IsAlike numbers p q (RoundedBounds j)
unfolding edits Computes
bounds_alike numbers p q j e h =
    let same : edits (RoundedBounds j) q ≡ edits (RoundedBounds j) p = rounded_bounds.edits_same p q j e (ap (holds_first holding.Gone) h) in (
      λ fits. record { computes = tt; edits = record { each = subst (All EditFits) same fits.edits.each; offset = tt } },
      λ written. subst (EditsAreWritten numbers) same written,
    )

offset_fits : (side : Side) (j : ℕ) (old : Bounds) (b : Option Number) (offset : Number) → OffsetFits offset (bound_set side j old b ∷ [])
offset_fits Lower j old b offset = tt
offset_fits Upper j old b offset = tt

tightened_alike : (numbers : Numbers) (p q : Sparse) (i j : ℕ) (side : Side) → enabled_on p (at.Reduction (BoundTightening i j side)) ≡ true → reading_of q (at.Reduction (BoundTightening i j side)) ≡ reading_of p (at.Reduction (BoundTightening i j side))
    → IsAlike numbers p q (BoundTightening i j side)
unfolding edits Computes
tightened_alike numbers p q i j side e h =
    let same : edits (BoundTightening i j side) q ≡ edits (BoundTightening i j side) p = bound_tightening.edits_same p q i j side e (found_told p q (at.Reduction (BoundTightening i j side)) h) in (
      λ fits. record { computes = tt; edits = record { each = subst (All EditFits) same fits.edits.each; offset = offset_fits side j (bounds_at p j) (new_bound p i j side) p.offset } },
      λ written. subst (EditsAreWritten numbers) same written,
    )

no_offset : (i j : ℕ) (o : Option Tightening) (offset : Number) → OffsetFits offset (coefficient_words.edits_by i j o)
no_offset i j None offset = tt
no_offset i j (Some t) offset = by t.side (coefficient_words.turned t.side (coefficient_words.new_limit t))
  where
    by : (side : Side) (b : Number) → OffsetFits offset (coefficient_words.side_set side i b ∷ [])
    by Lower b = tt
    by Upper b = tt

coefficients_alike : (numbers : Numbers) (p q : Sparse) (i j : ℕ) → enabled_on p (at.Reduction (CoefficientTightening i j)) ≡ true → reading_of q (at.Reduction (CoefficientTightening i j)) ≡ reading_of p (at.Reduction (CoefficientTightening i j))
    → IsAlike numbers p q (CoefficientTightening i j)
unfolding edits Computes
coefficients_alike numbers p q i j e h =
    let same = coefficients.tightening_same p q i j e (found_told p q (at.Reduction (CoefficientTightening i j)) h) in (
      λ fits. record {
        computes = subst coefficient_words.ComputedBy same fits.computes;
        edits = record { each = subst (λ o. All EditFits (coefficient_words.edits_by i j o)) same fits.edits.each; offset = no_offset i j (coefficient_words.tightening_of p i j) p.offset };
      },
      λ written. subst (λ o. EditsAreWritten numbers (coefficient_words.edits_by i j o)) same written,
    )

pub refusals_rest : (numbers : Numbers) (p q : Sparse) (r : Reduction) → rests_on_reading (rule_of r) ≡ true → enabled_on p (at.Reduction r) ≡ true → reading_of q (at.Reduction r) ≡ reading_of p (at.Reduction r) → IsAlike numbers p q r
refusals_rest numbers p q (EmptyRow i) t e h = absurd (true≢false (sym t))
refusals_rest numbers p q (SingletonRow i) t e h = absurd (true≢false (sym t))
refusals_rest numbers p q (FixedColumn j) t e h = absurd (true≢false (sym t))
refusals_rest numbers p q (RoundedBounds j) t e h = bounds_alike numbers p q j e h
refusals_rest numbers p q (RedundantRow i) t e h = absurd (true≢false (sym t))
refusals_rest numbers p q (RedundantSide i) t e h = absurd (true≢false (sym t))
refusals_rest numbers p q (ForcingRow i) t e h = absurd (true≢false (sym t))
refusals_rest numbers p q (BoundTightening i j side) t e h = tightened_alike numbers p q i j side e h
refusals_rest numbers p q (CoefficientTightening i j) t e h = coefficients_alike numbers p q i j e h
refusals_rest numbers p q (DualFixing j) t e h = absurd (true≢false (sym t))
refusals_rest numbers p q (DominatedColumn i j k) t e h = absurd (true≢false (sym t))
refusals_rest numbers p q (DoubletonEquation i j k) t e h = absurd (true≢false (sym t))
refusals_rest numbers p q (FreeColumnSingleton j i) t e h = absurd (true≢false (sym t))
refusals_rest numbers p q (SlackColumnSingleton j i) t e h = absurd (true≢false (sym t))
refusals_rest numbers p q (ParallelRows i k) t e h = absurd (true≢false (sym t))
refusals_rest numbers p q (ParallelColumns j k) t e h = absurd (true≢false (sym t))
refusals_rest numbers p q (EmptyColumn j) t e h = absurd (true≢false (sym t))

pub verdicts_do_not_rest : (v : Verdict) → rests_on_reading (rule_at (at.Verdict v)) ≡ true → ⊥
verdicts_do_not_rest (CrossedBounds j) t = true≢false (sym t)
verdicts_do_not_rest (CrossedSides i) t = true≢false (sym t)
verdicts_do_not_rest (InfeasibleRow i) t = true≢false (sym t)
verdicts_do_not_rest (UnboundedColumn j) t = true≢false (sym t)

-- ---- where only the form of ends is looked at, what is read rests on entries, and the condition on what is seen
pub record RestsOnForms (e : Instance) : Type 0 where
  pub more : RestsOnLines (more e)
  pub holds : RestsOnSeen (lets_by (reach_of (rule_at e))) (holds e)

pub forms_suffice : (e : Instance) → goes_by_form (reach_of (rule_at e)) ≡ true → RestsOnForms e
forms_suffice (at.Verdict (CrossedBounds j)) t = absurd (true≢false (sym t))
forms_suffice (at.Verdict (CrossedSides i)) t = absurd (true≢false (sym t))
forms_suffice (at.Verdict (InfeasibleRow i)) t = absurd (true≢false (sym t))
forms_suffice (at.Verdict (UnboundedColumn j)) t = record { more = sides_named_rest; holds = unbounded_column_rests }
forms_suffice (at.Reduction (EmptyRow i)) t = absurd (true≢false (sym t))
forms_suffice (at.Reduction (SingletonRow i)) t = absurd (true≢false (sym t))
forms_suffice (at.Reduction (FixedColumn j)) t = absurd (true≢false (sym t))
forms_suffice (at.Reduction (RoundedBounds j)) t = absurd (true≢false (sym t))
forms_suffice (at.Reduction (RedundantRow i)) t = absurd (true≢false (sym t))
forms_suffice (at.Reduction (RedundantSide i)) t = absurd (true≢false (sym t))
forms_suffice (at.Reduction (ForcingRow i)) t = absurd (true≢false (sym t))
forms_suffice (at.Reduction (BoundTightening i j side)) t = absurd (true≢false (sym t))
forms_suffice (at.Reduction (CoefficientTightening i j)) t = absurd (true≢false (sym t))
forms_suffice (at.Reduction (DualFixing j)) t = record { more = sides_named_rest; holds = dual_fixing_rests }
forms_suffice (at.Reduction (DominatedColumn i j k)) t = record { more = dominated_column_more_rests; holds = dominated_column_rests j k }
forms_suffice (at.Reduction (DoubletonEquation i j k)) t = absurd (true≢false (sym t))
forms_suffice (at.Reduction (FreeColumnSingleton j i)) t = absurd (true≢false (sym t))
forms_suffice (at.Reduction (SlackColumnSingleton j i)) t = absurd (true≢false (sym t))
forms_suffice (at.Reduction (ParallelRows i k)) t = absurd (true≢false (sym t))
forms_suffice (at.Reduction (ParallelColumns j k)) t = absurd (true≢false (sym t))
forms_suffice (at.Reduction (EmptyColumn j)) t = absurd (true≢false (sym t))

-- of those whose refusals rest on what is read more is looked at than the form
pub sleepers_read_ends : (r : Rule) → rests_on_reading r ≡ true → goes_by_form (reach_of r) ≡ false
sleepers_read_ends rule.RoundedBounds t = refl
sleepers_read_ends rule.BoundTightening t = refl
sleepers_read_ends rule.CoefficientTightening t = refl
sleepers_read_ends r t = absurd (true≢false (sym t))

-- ---- the counts after a reduction are those of the records
pub records_tallied : (p : Sparse) (r : Reduction) (c : Counts) (us : List Undo) → enabled_on p (at.Reduction r) ≡ true → AreCountsOf (length p.matrix.columns) c → IsTally c us → IsTally (tallied r c) (us ++ record_of r p ∷ [])
unfolding record_of
records_tallied p (EmptyRow i) c us e a h = tally_same c us (record_of (EmptyRow i) p) (λ k s. refl) h
records_tallied p (SingletonRow i) c us e a h = tally_same c us (record_of (SingletonRow i) p) (λ k s. refl) h
records_tallied p (FixedColumn j) c us e a h = tally_same c us (record_of (FixedColumn j) p) (λ k s. refl) h
records_tallied p (RoundedBounds j) c us e a h = tally_same c us (record_of (RoundedBounds j) p) (λ k s. refl) h
records_tallied p (RedundantRow i) c us e a h = tally_same c us (record_of (RedundantRow i) p) (λ k s. refl) h
records_tallied p (RedundantSide i) c us e a h = tally_same c us (record_of (RedundantSide i) p) (λ k s. refl) h
records_tallied p (ForcingRow i) c us e a h = tally_same c us (record_of (ForcingRow i) p) (λ k s. refl) h
records_tallied p (BoundTightening i j side) c us e a h =
    tally_more c us (length p.matrix.columns) (record { row = i; column = j; side = side; bound = old_bound side (bounds_at p j).lower (bounds_at p j).upper; entries = row_entries p i }) a (column_inside p j (bound_tightening.column_live p i j side e)) h
records_tallied p (CoefficientTightening i j) c us e a h = tally_same c us (record_of (CoefficientTightening i j) p) (λ k s. refl) h
records_tallied p (DualFixing j) c us e a h = tally_same c us (record_of (DualFixing j) p) (λ k s. refl) h
records_tallied p (DominatedColumn i j k) c us e a h = tally_same c us (record_of (DominatedColumn i j k) p) (λ k s. refl) h
records_tallied p (DoubletonEquation i j k) c us e a h = tally_same c us (record_of (DoubletonEquation i j k) p) (λ k s. refl) h
records_tallied p (FreeColumnSingleton j i) c us e a h = tally_same c us (record_of (FreeColumnSingleton j i) p) (λ k s. refl) h
records_tallied p (SlackColumnSingleton j i) c us e a h = tally_same c us (record_of (SlackColumnSingleton j i) p) (λ k s. refl) h
records_tallied p (ParallelRows i k) c us e a h = tally_same c us (record_of (ParallelRows i k) p) (λ l s. refl) h
records_tallied p (ParallelColumns j k) c us e a h = tally_same c us (record_of (ParallelColumns j k) p) (λ l s. refl) h
records_tallied p (EmptyColumn j) c us e a h = tally_same c us (record_of (EmptyColumn j) p) (λ k s. refl) h

pub tallied_long : (r : Reduction) (c : Counts) (n : ℕ) → AreCountsOf n c → AreCountsOf n (tallied r c)
tallied_long (EmptyRow i) c n a = a
tallied_long (SingletonRow i) c n a = a
tallied_long (FixedColumn j) c n a = a
tallied_long (RoundedBounds j) c n a = a
tallied_long (RedundantRow i) c n a = a
tallied_long (RedundantSide i) c n a = a
tallied_long (ForcingRow i) c n a = a
tallied_long (BoundTightening i j side) c n a = counts_long c n j side a
tallied_long (CoefficientTightening i j) c n a = a
tallied_long (DualFixing j) c n a = a
tallied_long (DominatedColumn i j k) c n a = a
tallied_long (DoubletonEquation i j k) c n a = a
tallied_long (FreeColumnSingleton j i) c n a = a
tallied_long (SlackColumnSingleton j i) c n a = a
tallied_long (ParallelRows i k) c n a = a
tallied_long (ParallelColumns j k) c n a = a
tallied_long (EmptyColumn j) c n a = a
