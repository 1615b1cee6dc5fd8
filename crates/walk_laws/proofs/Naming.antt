-- The record of a reduction names it.
use Rattle.std.proofs.Common.{◌≡◌, List, [], ◌∷◌, map, refl, ap₂}
use Rattle.problem_model.specs.Sparse.{Sparse}
use Rattle.presolve_model.specs.declared.instance.Reduction.{Reduction}
use Rattle.presolve_model.specs.declared.instance.Reduction.TheVariants.{EmptyRow, SingletonRow, FixedColumn, RoundedBounds, RedundantRow, RedundantSide, ForcingRow, BoundTightening, CoefficientTightening, DualFixing, DominatedColumn, DoubletonEquation, FreeColumnSingleton, SlackColumnSingleton, ParallelRows, ParallelColumns, EmptyColumn}
use Rattle.presolve_model.specs.Changes.{changed}
use Rattle.presolve_model.specs.Replay.{records}
use Rattle.presolve_model.specs.Tables.{record_of}
use Rattle.walk_laws.specs.Walk.{reduction_of}

pub named : (r : Reduction) (p : Sparse) → reduction_of (record_of r p) ≡ r
unfolding record_of
named (EmptyRow i) p = refl
named (SingletonRow i) p = refl
named (FixedColumn j) p = refl
named (RoundedBounds j) p = refl
named (RedundantRow i) p = refl
named (RedundantSide i) p = refl
named (ForcingRow i) p = refl
named (BoundTightening i j side) p = refl
named (CoefficientTightening i j) p = refl
named (DualFixing j) p = refl
named (DominatedColumn i j k) p = refl
named (DoubletonEquation i j k) p = refl
named (FreeColumnSingleton j i) p = refl
named (SlackColumnSingleton j i) p = refl
named (ParallelRows i k) p = refl
named (ParallelColumns j k) p = refl
named (EmptyColumn j) p = refl

-- those of a history name it
pub named_along : (p : Sparse) (rs : List Reduction) → map reduction_of (records p rs) ≡ rs
named_along p [] = refl
named_along p (r ∷ rs) = ap₂ (λ (x : Reduction) (xs : List Reduction). x ∷ xs) (named r p) (named_along (changed r p) rs)
