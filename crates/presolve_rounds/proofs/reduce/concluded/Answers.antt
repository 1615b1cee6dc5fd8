use Rattle.std.proofs.Common.{sym, ◌∙◌}
use Rattle.lp_model.specs.Meaning.{meaning}
use Rattle.presolve_model.proofs.ByCases.{meant_either, meant_no_point}
use Rattle.presolve_rounds.proofs.reduce.concluded.Goals as goal

pub returns-then-says_no_point : goal.returns-then-says_no_point
returns-then-says_no_point c =
    let says = sym c.says_no_point.ensures ∙ c.if-says_no_point.true in
    (c.requires, says, meant_no_point c.args.made.verdict c.args.source.now.given.sense (meaning c.args.source.now.given) says c.requires.means)

pub returns-else-says_no_point : goal.returns-else-says_no_point
returns-else-says_no_point c =
    (c.requires, sym c.says_no_point.ensures ∙ c.if-says_no_point.false, meant_either c.args.made.verdict c.args.source.now.given.sense (meaning c.args.source.now.given) c.requires.means)
