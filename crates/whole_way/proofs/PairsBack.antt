-- Pairs come back.
use Rattle.std.proofs.Common.{◌≡◌, List, length, refl, sym, ap, ◌∙◌, subst}
use Rattle.std.proofs.lemmas.List.{length-map}
use Rattle.fractions.specs.Number.{Number}
use Rattle.lp_model.specs.declared.program.Sense.{Sense}
use Rattle.lp_model.specs.declared.program.Sense.TheVariants.{Min, Max}
use Rattle.lp_model.specs.Meaning.{meaning}
use Rattle.lp_model.specs.Optimality.{Meets}
use Rattle.lp_model.specs.ProgramData.{ProgramData}
use Rattle.lp_model.specs.Reductions.{Priced}
use Rattle.lp_model.specs.Turning.{in_sense}
use Rattle.lp_model.specs.Vectors.{Vector, vector_of}
use Rattle.lp_passages.proofs.Optimal.{meets_is_best}
use Rattle.undo_records.specs.Lift.{lift, placed}
use Rattle.undo_records.specs.Postsolve.{Postsolve}
use Rattle.undo_pairs.specs.LiftPair.{lift_pair}
use Rattle.undo_pairs.specs.Numbers.{placed_pair, reduced_costs_of, started, turned_for}
use Rattle.pair_laws.proofs.Pricing.{priced}
use Rattle.pair_laws.proofs.PointsOfPairs.{point_lifted}
use Rattle.pair_laws.proofs.SenseLaws.{in_files_sense}
use Rattle.presolve_model.specs.Accounts.{at_original_ids, postsolved_pair}
use Rattle.presolve_model.specs.Conclusions.{CarriesNames}
use Rattle.whole_way.specs.ComingBack.{IsPairUndone, IsUndone}
use Rattle.whole_way.specs.WayBack.{PairsComeBack}
use Rattle.whole_way.proofs.Back.{point_back}
use Rattle.whole_way.proofs.Placing.{placed_spread}

-- a pair of the reduced program with its reduced costs
abbrev with_prices : ProgramData → List Number → List Number → Priced
with_prices reduced point duals = record {
  x = vector_of point;
  y = vector_of duals;
  z = vector_of (reduced_costs_of (meaning reduced) (vector_of duals) (length reduced.columns));
}

placed_there : (told : Postsolve) (reduced : ProgramData) (point duals : List Number) → placed_pair told reduced point duals ≡ at_original_ids told (with_prices reduced point duals)
placed_there told reduced point duals = λ t. record {
  x = placed_spread told.columns point t;
  y = placed_spread told.rows duals t;
  z = placed_spread told.columns (reduced_costs_of (meaning reduced) (vector_of duals) (length reduced.columns)) t;
}

-- what postsolve makes of the pair
brought : (told : Postsolve) (reduced : ProgramData) (point duals : List Number)
    → turned_for told.sense (lift_pair told.undos (started told reduced point duals)) ≡ postsolved_pair told (with_prices reduced point duals)
brought told reduced point duals = in_files_sense told reduced point duals ∙ ap (in_sense told.sense (lift_pair told.undos)) (placed_there told reduced point duals)

-- its point is the lifted point, in either sense
point_turned : (d : Sense) (p : Priced) → (turned_for d p).x ≡ p.x
point_turned Min p = refl
point_turned Max p = refl

point_of_pair : (told : Postsolve) (reduced : ProgramData) (point duals : List Number)
    → (turned_for told.sense (lift_pair told.undos (started told reduced point duals))).x ≡ lift told.undos (vector_of (placed told.columns point))
point_of_pair told reduced point duals =
    point_turned told.sense (lift_pair told.undos (started told reduced point duals))
    ∙ point_lifted told.undos (started told reduced point duals)
    ∙ ap (lift told.undos) (point_turned told.sense (placed_pair told reduced point duals))

pub point_undone : (told : Postsolve) (reduced : ProgramData) (point duals lifted prices : List Number) → IsPairUndone told reduced point duals lifted prices → IsUndone told point lifted
point_undone told reduced point duals lifted prices u = record { size = u.columns; is = u.point_is ∙ point_of_pair told reduced point duals }

-- there are as many labels as rows
pub rows_labelled : (program reduced : ProgramData) (told : Postsolve) → CarriesNames program reduced told → length told.rows ≡ length program.rows
rows_labelled program reduced told names =
    sym (length-map told.rows (λ label. label.name)) ∙ ap length names.rows ∙ length-map program.rows (λ row. row.name)

pub pairs_back : PairsComeBack
pairs_back options workers program reduced told ended point duals lifted prices c continuous m u =
    let p : Priced = with_prices reduced point duals in
    let x : (postsolved_pair told p).x ≡ vector_of lifted = sym (u.point_is ∙ ap (λ (q : Priced). q.x) (brought told reduced point duals)) in
    let y : (postsolved_pair told p).y ≡ vector_of prices = sym (u.duals_are ∙ ap (λ (q : Priced). q.y) (brought told reduced point duals)) in
    let met : Meets program.sense (meaning program) (vector_of lifted) (vector_of prices) =
    subst (λ (v : Vector). Meets program.sense (meaning program) v (vector_of prices)) x
    (subst (λ (v : Vector). Meets program.sense (meaning program) (postsolved_pair told p).x v) y
    ((c.pairs continuous).meets p (priced (meaning reduced) (vector_of point) (vector_of duals)) m)) in
    record {
      comes_back = point_back options workers program reduced told ended point lifted c m.feasible (point_undone told reduced point duals lifted prices u);
      rows = u.rows ∙ rows_labelled program reduced told c.names;
      meets = met;
      best = record { feasible = met.feasible; best = meets_is_best program.sense (meaning program) (vector_of lifted) (vector_of prices) met };
    }
