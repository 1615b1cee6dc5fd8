use Rattle.std.proofs.Common.{◌<◌, ℕ, length, sym, subst}
use Rattle.entry_lines.proofs.Named.{id_below}
use Rattle.entry_lines.proofs.transpose.scatter.Goals as goal

pub bounds-rows-term : goal.bounds-rows-term
bounds-rows-term c = subst (λ (n : ℕ). c.term-item.result.id < n) (sym c.loop-term.invariant.long) (id_below c.args.terms.now 0 (length c.args.rows.now) c.loop-term.term-index c.term-item.result c.requires c.loop-term-test.true c.term-item.is)
