use Rattle.std.proofs.Common.{◌<◌, ◌≤◌, length, true, false, sym, ap, subst}
use Rattle.lp_model.specs.Meaning.{meaning}
use Rattle.tableau_laws.specs.Variables.{joined}
use Rattle.tableau_laws.proofs.Joins.{joined-left}
use Rattle.simplex_tableau.proofs.Firsts.{flag_later}
use Rattle.simplex_tableau.proofs.starting.first_flag.Goals as goal

pub returns-then-k-columns : goal.returns-then-k-columns
returns-then-k-columns c =
    sym (joined-left (length c.args.program.now.columns) (λ j. false) (joined (length c.args.program.now.rows) (λ i. true) (λ i. false)) c.args.k (subst (λ n. c.args.k < n) (ap length c.columns.ensures) c.if-k-columns.true))

pub returns : goal.returns
returns c = sym (flag_later (meaning c.args.program.now) c.args.k (subst (λ n. n ≤ c.args.k) (ap length c.columns.ensures) c.if-k-columns.false) c.requires)
