use Rattle.std.proofs.Common.{List, length, ap, sym, ◌∙◌, arith}
use Rattle.std.specs.List.{filter}
use Rattle.presolve_model.specs.Enabled.{enabled_on}
use Rattle.presolve_model.specs.Tallies.{open_on}
use Rattle.threaded_passes.specs.Pieces.{instances_in, of_pieces, PieceData}
use Rattle.threaded_passes.proofs.InOrder.{tested}
use Rattle.threaded_passes.proofs.Sharing.{joined_found}
use Rattle.threaded_passes.proofs.found.enabled_by_threads.Goals as goal

pub returns : goal.returns
returns g c =
    let p = c.args.problem.now in
    let opens = open_on c.args.tally.now in
    joined_found opens p c.as_slice.result.now c.args.threads _ c.as_slice-2.result.now c.in_ok-lists.lists.items c.as_slice-4.result.now c.join_all.result _ (omega (arith, c.if-threads-lt2.false)) (c.as_slice-2.ensures.value ∙ c.in_ok-firsts.ensures)
    c.in_ok-lists.ensures c.as_slice-4.ensures.value (ap length (c.as_slice-3.ensures.value ∙ sym c.as_slice.ensures.value)) c.join_all.ensures
    (tested (enabled_on p) (instances_in opens p) c.as_slice.result.now
    ∙ ap (λ (ts : List PieceData). filter (enabled_on p) (of_pieces opens p ts)) c.as_slice.ensures.value
    ∙ ap (filter (enabled_on p)) (c.in_ok-pieces.ensures opens p))
