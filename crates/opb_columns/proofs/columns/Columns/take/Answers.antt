use Rattle.opb_columns.proofs.Pushing.{hold_added}
use Rattle.opb_columns.proofs.columns.Columns.take.Goals as goal

pub returns : goal.returns
returns c = λ names cost entries summed h unsaid differ.
    hold_added names cost entries summed c.args.name.now c.args.value c.in_ok-column.column c.number_of.new.self c.add.new.self (c.in_ok-column.ensures names cost entries summed h unsaid) differ
    c.in_ok-add.ensures.count c.in_ok-add.ensures.fits c.in_ok-add.ensures.added c.in_ok-add.ensures.covered
