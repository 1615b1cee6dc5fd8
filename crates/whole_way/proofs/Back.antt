-- Points come back.
use Rattle.std.proofs.Common.{◌≡◌, ℕ, ◌<◌, List, length, sym, ap, ◌∙◌, subst}
use Rattle.std.proofs.lemmas.List.{length-map}
use Rattle.fractions.specs.Number.{Number, ◌+ℚ◌}
use Rattle.lp_model.specs.LinearProgram.{cost_at, Feasible}
use Rattle.lp_model.specs.Meaning.{meaning}
use Rattle.lp_model.specs.ProgramData.{ProgramData}
use Rattle.lp_model.specs.Senses.{NoWorse}
use Rattle.lp_model.specs.Vectors.{Vector, vector_of}
use Rattle.lp_theory.proofs.Steps.{no_worse_more, no_worse_trans}
use Rattle.undo_records.specs.Lift.{lift}
use Rattle.undo_records.specs.Postsolve.{Postsolve}
use Rattle.presolve_model.specs.Accounts.{postsolved}
use Rattle.presolve_model.specs.Conclusions.{CarriesNames}
use Rattle.whole_way.specs.ComingBack.{IsUndone, StandsFor}
use Rattle.whole_way.specs.WayBack.{BestComesBack, NoneIsLost, PointsComeBack}
use Rattle.whole_way.proofs.Placing.{placed_spread}
use Rattle.whole_way.proofs.Listing.{cost_agrees, feasible_agrees, length-listed, listed, listed_is}

undone_is : (told : Postsolve) (point lifted : List Number) → IsUndone told point lifted → postsolved told (vector_of point) ≡ vector_of lifted
undone_is told point lifted u = sym (u.is ∙ ap (lift told.undos) (placed_spread told.columns point))

-- there are as many labels as columns
as_many : (program reduced : ProgramData) (told : Postsolve) → CarriesNames program reduced told → length told.columns ≡ length program.columns
as_many program reduced told names =
    sym (length-map told.columns (λ label. label.name)) ∙ ap length names.columns ∙ length-map program.columns (λ column. column.name)

pub point_back : PointsComeBack
point_back options workers program reduced told ended point lifted c f u = record {
  size = u.size ∙ as_many program reduced told c.names;
  feasible = subst (Feasible (meaning program)) (undone_is told point lifted u) (c.reduces.lifts (vector_of point) f);
  cost = subst (λ (x : Vector). cost_at (meaning program) x ≡ cost_at (meaning reduced) (vector_of point) +ℚ told.offset)
      (undone_is told point lifted u) (c.reduces.costs (vector_of point) f);
}

-- a point as a list stands for it as well
stands : (program reduced : ProgramData) (offset : Number) (x y : Vector) → Feasible (meaning reduced) y
    → NoWorse program.sense (cost_at (meaning reduced) y +ℚ offset) (cost_at (meaning program) x)
    → StandsFor program reduced offset x (listed (length reduced.columns) y)
stands program reduced offset x y f w =
    let n : ℕ = length reduced.columns in
    let same : (k : ℕ) → k < n → y k ≡ vector_of (listed n y) k = λ k l. listed_is n k y l in
    record {
      size = length-listed n y;
      feasible = feasible_agrees (meaning reduced) y (vector_of (listed n y)) same f;
      no_worse = subst (λ (c : Number). NoWorse program.sense (c +ℚ offset) (cost_at (meaning program) x)) (cost_agrees (meaning reduced) y (vector_of (listed n y)) same) w;
    }

pub none_lost : NoneIsLost
none_lost options workers program reduced told ended x c f =
    let kept = c.reduces.keeps x f in
    (listed (length reduced.columns) kept.0, stands program reduced told.offset x kept.0 kept.1 kept.2)

pub best_back : BestComesBack
best_back options workers program reduced told ended point lifted c b u =
    let back = point_back options workers program reduced told ended point lifted c b.feasible u in
    record {
      feasible = back.feasible;
      best = λ y f. let kept = c.reduces.keeps y f in
          subst (λ (k : Number). NoWorse program.sense k (cost_at (meaning program) y)) (sym back.cost)
          (no_worse_trans program.sense _ _ _ (no_worse_more program.sense _ _ told.offset (b.best kept.0 kept.1)) kept.2);
    }
