use Rattle.std.proofs.Common.{◌≡◌, true}
use Rattle.problem_model.specs.Matrices.{line_at}
use Rattle.entry_lines.proofs.LiveTerms.{first_found}
use Rattle.entry_lines.proofs.lines.first_live.Goals as goal

pub returns-then-is_live-clause-first : goal.returns-then-is_live-clause-first
returns-then-is_live-clause-first c =
    let live : (line_at c.args.others.now c.term-item.result.id).live ≡ true = cc in
    first_found c.args.others.now c.args.terms.now c.loop-term.term-index c.term-item.result c.loop-term-test.true c.term-item.is c.loop-term.invariant live
