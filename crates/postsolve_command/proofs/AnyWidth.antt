-- With numbers of any width each lift has room.
use Rattle.std.proofs.Common.{◌≡◌, ℕ, zero, suc, true, List, [], ◌∷◌, pred, drop, length, Option, Some, None, inl, inr, subst}
use Rattle.fractions.specs.Number.{Number, zero_ℚ, ◌+ℚ◌, ◌*ℚ◌}
use Rattle.fractions.specs.Division.{◌/ℚ◌}
use Rattle.fractions.specs.Ends.{less, minus_ends}
use Rattle.fractions.specs.Room.{in_any_width}
use Rattle.exact_texts.specs.Kinds.{room_of}
use Rattle.file_ports.specs.Ports.{Moment}
use Rattle.command_words.specs.Names.{PostsolveNames}
use Rattle.lp_model.specs.ProgramData.{ProgramData}
use Rattle.lp_model.specs.Meaning.{meaning}
use Rattle.lp_model.specs.LinearProgram.{LinearProgram}
use Rattle.lp_model.specs.Reductions.{Priced}
use Rattle.lp_model.specs.Room.{ProductsFitIn}
use Rattle.lp_model.specs.Sparse.{dense, sparse_total}
use Rattle.lp_model.specs.Vectors.{Vector, vector_of}
use Rattle.lp_model.specs.declared.terms.Term.{Term}
use Rattle.lp_prices.specs.Prices.{ReducedCostFitsIn}
use Rattle.undo_records.specs.Fitting.{TermsFit, EndLessFits, LessEndFits, EndOverFits, SlackFits, ShareFits}
use Rattle.undo_records.specs.Lift.{lift}
use Rattle.undo_records.specs.Postsolve.{Postsolve}
use Rattle.undo_records.specs.Room.{UndoFits, LiftFits}
use Rattle.undo_records.specs.declared.side.RowFate.{RowFate}
use Rattle.undo_records.specs.declared.side.RowFate.TheVariants.{Kept, Dropped}
use Rattle.undo_records.specs.declared.undo.Undo.{Undo}
use Rattle.undo_records.specs.declared.undo.Undo.TheVariants.{EmptyRow, SingletonRow, FixedColumn, RoundedBounds, RedundantRow, RedundantSide, ForcingRow, BoundTightening, CoefficientTightening, DualFixing, DominatedColumn, DoubletonEquation, FreeColumnSingleton, SlackColumnSingleton, ParallelRows, ParallelColumns, EmptyColumn}
use Rattle.undo_pairs.specs.LiftPair.{furthest, point_undone, lift_pair}
use Rattle.undo_pairs.specs.Numbers.{started}
use Rattle.postsolve_dual.specs.PairRoom.{RatiosFit, TakenFits, SlackPriceFits, DualsFit, LiftPairFits}
use Rattle.postsolve_command.specs.Lifted.{Stops, point_at}
use Rattle.postsolve_command.specs.Postsolved.{IsStopped}

terms_fit : (s : Number) (ts : List Term) (x : Vector) → TermsFit in_any_width s ts x
terms_fit s [] x = tt
terms_fit s (t ∷ ts) x = ((tt, tt), terms_fit (s +ℚ t.value *ℚ x t.id) ts x)

end_less : (end : Option Number) (q : Number) → EndLessFits in_any_width end q
end_less None q = tt
end_less (Some e) q = tt

less_end : (p : Number) (end : Option Number) → LessEndFits in_any_width p end
less_end p None = tt
less_end p (Some e) = tt

end_over : (end : Option Number) (a : Number) → EndOverFits in_any_width end a
end_over None a = tt
end_over (Some e) a = tt

slack_fits : (a : Number) (lo hi : Option Number) (q : Number) → SlackFits in_any_width a lo hi q
slack_fits a lo hi q = ((end_less lo q, end_less hi q), end_over (less lo q) a, end_over (less hi q) a)

share_fits : (a : Number) (lo hi : Option Number) (p : Number) → ShareFits in_any_width a lo hi p
share_fits a lo hi p = ((less_end p hi, less_end p lo), end_over (minus_ends (Some p) hi) a, end_over (minus_ends (Some p) lo) a)

undo_fits : (u : Undo) (x : Vector) → UndoFits in_any_width u x
undo_fits (EmptyRow r) x = tt
undo_fits (SingletonRow r) x = tt
undo_fits (FixedColumn r) x = tt
undo_fits (RoundedBounds r) x = tt
undo_fits (RedundantRow r) x = tt
undo_fits (RedundantSide r) x = tt
undo_fits (ForcingRow r) x = tt
undo_fits (BoundTightening r) x = tt
undo_fits (CoefficientTightening r) x = tt
undo_fits (DualFixing r) x = tt
undo_fits (DominatedColumn r) x = tt
undo_fits (DoubletonEquation r) x = ((tt, tt), tt)
undo_fits (FreeColumnSingleton r) x = (terms_fit zero_ℚ r.entries x, (tt, tt))
undo_fits (SlackColumnSingleton r) x = (terms_fit zero_ℚ r.entries x, slack_fits r.value r.lower_side r.upper_side (sparse_total r.entries x))
undo_fits (ParallelRows r) x = tt
undo_fits (ParallelColumns r) x = (share_fits r.factor r.kept_lower r.kept_upper (x r.kept), (tt, tt))
undo_fits (EmptyColumn r) x = tt

lift_fits : (us : List Undo) (x : Vector) → LiftFits in_any_width us x
lift_fits [] x = tt
lift_fits (u ∷ us) x = (lift_fits us x, undo_fits u (lift us x))

-- ---- with duals
ratios_fit : (ts : List Term) (z : Vector) → RatiosFit in_any_width ts z
ratios_fit [] z = tt
ratios_fit (e ∷ es) z = (tt, ratios_fit es z)

taken_fits : (ts : List Term) (t : Number) (z : Vector) → TakenFits in_any_width ts t z
taken_fits [] t z = tt
taken_fits (e ∷ es) t z = ((tt, tt), taken_fits es t z)

price_fits : (fate : RowFate) (a t y : Number) → SlackPriceFits in_any_width fate a t y
price_fits Kept a t y = (tt, tt)
price_fits Dropped a t y = tt

duals_fit : (u : Undo) (p : Priced) → DualsFit in_any_width u p
duals_fit (EmptyRow r) p = tt
duals_fit (SingletonRow r) p = λ _. tt
duals_fit (FixedColumn r) p = (terms_fit zero_ℚ r.entries p.y, tt)
duals_fit (RoundedBounds r) p = tt
duals_fit (RedundantRow r) p = tt
duals_fit (RedundantSide r) p = tt
duals_fit (ForcingRow r) p = (ratios_fit r.entries p.z, taken_fits r.entries (furthest r.side zero_ℚ r.entries p.z) p.z)
duals_fit (BoundTightening r) p = λ _. (tt, tt, taken_fits r.entries (p.z r.column /ℚ dense r.entries r.column) p.z)
duals_fit (CoefficientTightening r) p = tt
duals_fit (DualFixing r) p = tt
duals_fit (DominatedColumn r) p = tt
duals_fit (DoubletonEquation r) p = ((terms_fit zero_ℚ r.entries p.y, tt), ((tt, tt, tt), tt, (tt, tt), (tt, tt)))
duals_fit (FreeColumnSingleton r) p = tt
duals_fit (SlackColumnSingleton r) p = price_fits r.fate r.value r.price (p.y r.row)
duals_fit (ParallelRows r) p = ((λ _. terms_fit zero_ℚ r.entries p.x), λ _. tt)
duals_fit (ParallelColumns r) p = tt
duals_fit (EmptyColumn r) p = tt

pair_fits : (us : List Undo) (p : Priced) → LiftPairFits in_any_width us p
pair_fits [] p = tt
pair_fits (u ∷ us) p = (pair_fits us p, (undo_fits u (lift_pair us p).x, duals_fit u (point_undone u (lift_pair us p))))

products_fit : (n : ℕ) (a x : Vector) → ProductsFitIn in_any_width n a x
products_fit zero a x = tt
products_fit (suc n) a x = (products_fit n a x, tt, tt)

reduced_cost_fits : (M : LinearProgram) (y : Vector) (j : ℕ) → ReducedCostFitsIn in_any_width M y j
reduced_cost_fits M y j = (products_fit M.rows y (λ i. M.coefficient i j), tt)

-- ---- no lift stops
none_stops : (records : Postsolve) (program : ProgramData) (point : List Number) (duals : Option (List Number)) (said : List ℕ) → Stops in_any_width records program point duals said → ⊥
none_stops records program point None said (at, stops, says) = stops.here (lift_fits (drop (pred at) records.undos) (point_at records point))
none_stops records program point (Some ys) said (inl (column, first, says)) = first.here (reduced_cost_fits (meaning program) (vector_of ys) column)
none_stops records program point (Some ys) said (inr (priced, (at, stops, says))) = stops.here (pair_fits (drop (pred at) records.undos) (started records program point ys))

pub never_stopped : (names : PostsolveNames) (said : List ℕ) (before : Moment) → names.wide ≡ true → IsStopped names said before → ⊥
never_stopped names said before wide h =
    none_stops h.records h.program h.point h.duals said (subst (λ w. Stops (room_of w) h.records h.program h.point h.duals said) wide h.stops)
