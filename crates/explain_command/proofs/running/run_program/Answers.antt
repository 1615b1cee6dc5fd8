use Rattle.explain_command.proofs.Joining.{run_told}
use Rattle.explain_command.proofs.running.run_program.Goals as goal

pub returns : goal.returns
returns g c =
    let run = c.in_ok-run.run' in
    let looked = c.in_ok-run.ensures in
    let counted = c.in_ok-told.ensures in
    run_told c.args.options.now c.args.words.now c.args.program.now run.book run.end run.held.items c.in_ok-told.told c.end-log.result.sizes.items c.status_of.result c.in_ok-text.text.items looked.runs looked.start looked.replayed looked.held counted.end counted.problem counted.history counted.verdict counted.records
    counted.held counted.counts c.status_of.ensures c.in_ok-text.ensures
