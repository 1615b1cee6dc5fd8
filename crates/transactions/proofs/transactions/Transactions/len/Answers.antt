use Rattle.std.proofs.Common.{length, sym, ap, ◌∙◌}
use Rattle.transactions.proofs.Cuts.{length_cut}
use Rattle.transactions.proofs.transactions.Transactions.len.Goals as goal

pub returns : goal.returns
returns c = ap length c.as_slice.ensures.value ∙ sym (length_cut 0 _ _) ∙ ap length c.self.view_is
