use Rattle.std.proofs.Common.{List, ap, ◌∙◌}
use Rattle.fractions.specs.Number.{Number, zero_ℚ}
use Rattle.lp_model.specs.Vectors.{vector_of}
use Rattle.undo_pairs.specs.LiftPair.{furthest}
use Rattle.postsolve_dual.proofs.Pairs.{forced_is}
use Rattle.postsolve_dual.proofs.rows.undo_forcing_row.Goals as goal

pub returns-clause-lifted : goal.returns-clause-lifted
returns-clause-lifted g c = forced_is _ _ _ _ _ _ _
    (c.in_ok-dual.ensures.value ∙ ap (λ (zs : List Number). furthest c.args.side zero_ℚ c.args.entries.now (vector_of zs)) c.reduced_costs.ensures)
    c.take_row.ensures.point c.take_row.ensures.duals c.in_ok-take_row.ensures.costs
    c.set_dual.ensures.point c.set_dual.ensures.costs c.set_dual.ensures.duals
