use Rattle.std.proofs.Common.{arith}
use Rattle.transactions.proofs.Cuts.{start_before}
use Rattle.transactions.proofs.transactions.start_at.Goals as goal

pub returns : goal.returns
returns c = start_before c.args.headings.now c.args.place _ (omega (arith, c.if-place-eq0.false)) c.requires
