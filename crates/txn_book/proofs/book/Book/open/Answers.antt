use Rattle.std.proofs.Common.{ap, ◌∙◌}
use Rattle.presolve_model.specs.Tallies.{no_counts}
use Rattle.txn_book.proofs.Growing.{stands_fresh}
use Rattle.txn_book.proofs.book.Book.open.Goals as goal

pub invariant_of-result : goal.invariant_of-result
invariant_of-result c = stands_fresh c.args.problem _ _ _ _ _ c.args.numbers c.args.limit c.is_sparse.ensures c.requires.writable c.requires.unchanged
    c.of.ensures c.new-3.ensures.items c.new-4.ensures.items c.new-5.ensures (c.in_ok-tally.ensures ∙ ap no_counts c.column_count.ensures.value)
