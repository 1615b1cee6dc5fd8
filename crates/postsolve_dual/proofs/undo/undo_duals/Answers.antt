use Rattle.std.proofs.Common.{sym, subst}
use Rattle.std.specs.Result.{IfErr, IsOk}
use Rattle.undo_records.specs.declared.undo.Undo.{Undo}
use Rattle.undo_pairs.specs.Numbers.{priced_of}
use Rattle.postsolve_dual.specs.PairRoom.{DualsFit}
use Rattle.postsolve_dual.proofs.undo.undo_duals.Goals as goal

pub returns-in-ParallelRows-clause-fits : goal.returns-in-ParallelRows-clause-fits
returns-in-ParallelRows-clause-fits g c = subst (λ (u : Undo). IsOk c.undo_parallel_rows.result → DualsFit g.T.Exact.room u (priced_of c.args.pair.now)) (sym c.in-ParallelRows.is) c.undo_parallel_rows.ensures.fits

pub returns-in-ParallelRows-clause-past : goal.returns-in-ParallelRows-clause-past
returns-in-ParallelRows-clause-past g c = subst (λ (u : Undo). IfErr c.undo_parallel_rows.result (λ why. g.T.Exact.is_past why → DualsFit g.T.Exact.room u (priced_of c.args.pair.now) → ⊥)) (sym c.in-ParallelRows.is) c.undo_parallel_rows.ensures.past
