-- Sound records can be undone.
use Rattle.std.proofs.Common.{ℕ, zero, suc, ◌<◌, List, [], ◌∷◌, length, arith}
use Rattle.std.specs.List.{All}
use Rattle.lp_model.specs.declared.terms.Term.{Term}
use Rattle.lp_model.specs.Sparse.{Ascends}
use Rattle.undo_records.specs.declared.undo.Undo.{Undo}
use Rattle.undo_records.specs.declared.undo.Undo.TheVariants.{EmptyRow, SingletonRow, FixedColumn, RoundedBounds, RedundantRow, RedundantSide, ForcingRow, BoundTightening, CoefficientTightening, DualFixing, DominatedColumn, DoubletonEquation, FreeColumnSingleton, SlackColumnSingleton, ParallelRows, ParallelColumns, EmptyColumn}
use Rattle.undo_records.specs.Sound.{CanUndo, IsSound}
use Rattle.undo_records.specs.Postsolve.{Postsolve}
use Rattle.undo_records.specs.Walk.{AreSound}

-- ids that ascend below n are below n
ids_below : (m n : ℕ) (ts : List Term) → Ascends m n ts → All (λ e. e.id < n) ts
ids_below m n [] h k d l = absurd (omega arith)
ids_below m n (t ∷ ts) h zero d l = h.1
ids_below m n (t ∷ ts) h (suc k) d l = ids_below (suc t.id) n ts h.3 k d (omega arith)

pub sound_can : (m n : ℕ) (u : Undo) → IsSound m n u → CanUndo n u
sound_can m n (FixedColumn r) h = h.0
sound_can m n (DoubletonEquation r) h = (h.1.0, h.1.1, h.0.2)
sound_can m n (FreeColumnSingleton r) (e, o) = (e.1, e.2, ids_below 0 n r.entries o.0)
sound_can m n (SlackColumnSingleton r) (e, o) = (e.1, e.2, ids_below 0 n r.entries o.0)
sound_can m n (ParallelColumns r) h = (h.0.0, h.0.1, h.1)
sound_can m n (EmptyRow r) h = tt
sound_can m n (SingletonRow r) h = tt
sound_can m n (RoundedBounds r) h = tt
sound_can m n (RedundantRow r) h = tt
sound_can m n (RedundantSide r) h = tt
sound_can m n (ForcingRow r) h = tt
sound_can m n (BoundTightening r) h = tt
sound_can m n (CoefficientTightening r) h = tt
sound_can m n (DualFixing r) h = tt
sound_can m n (DominatedColumn r) h = tt
sound_can m n (ParallelRows r) h = tt
sound_can m n (EmptyColumn r) h = tt

pub all_can : (p : Postsolve) → AreSound p → All (CanUndo (length p.columns)) p.undos
all_can p h k d l = sound_can (length p.rows) (length p.columns) _ (h.records k d l)
