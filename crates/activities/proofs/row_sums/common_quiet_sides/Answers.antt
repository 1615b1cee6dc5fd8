use Rattle.row_spans.specs.declared.span.Extreme.TheVariants.{Least, Greatest}
use Rattle.activities.proofs.Turned.{quiet_there}
use Rattle.activities.proofs.row_sums.common_quiet_sides.Goals as goal

pub returns-clause-lower : goal.returns-clause-lower
returns-clause-lower c t =
    quiet_there Greatest c.args.spans.now c.args.place c.index-spans-place.result c.args.greatest.now c.args.lower.now c.requires.spans c.requires.place c.index-spans-place.is c.requires.greatest (λ a b h. c.quiet_sides.ensures.lower a b h t)

pub returns-clause-upper : goal.returns-clause-upper
returns-clause-upper c t =
    quiet_there Least c.args.spans.now c.args.place c.index-spans-place.result c.args.least.now c.args.upper.now c.requires.spans c.requires.place c.index-spans-place.is c.requires.least (λ a b h. c.quiet_sides.ensures.upper a b h t)
