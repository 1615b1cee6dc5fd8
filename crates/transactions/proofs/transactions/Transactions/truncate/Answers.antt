use Rattle.std.proofs.Common.{◌≡◌, ◌≤◌, length, ap, ◌∙◌, sym, take, arith}
use Rattle.transactions.proofs.Cuts.{all_kept, kept_all, kept_all_ends}
use Rattle.transactions.proofs.transactions.Transactions.truncate.Goals as goal

few : (c : goal.After-truncate-2) → c.args.count ≤ length c.as_slice-2.result.now
few c =
    let same : length c.as_slice.result.now ≡ length c.as_slice-2.result.now = ap length (c.as_slice.ensures.value ∙ sym c.as_slice-2.ensures.value) in
    omega (arith, c.if-count-as_slice.false, same)

pub returns-then-count-as_slice : goal.returns-then-count-as_slice
returns-then-count-as_slice c =
    sym c.self.view_is ∙ all_kept c.args.count c.self.inside.headings.items c.as_slice.result.now c.self.inside.reads.items c.as_slice.ensures.value c.if-count-as_slice.true
    ∙ ap (take c.args.count) c.self.view_is

pub invariant_of-self : goal.invariant_of-self
invariant_of-self c = kept_all_ends c.self.inside.headings.items _ c.as_slice-2.result.now c.self.inside.reads.items _ c.args.count c.start_at-end.result
    c.truncate.ensures.items c.truncate-2.ensures.items c.start_at-end.ensures c.as_slice-2.ensures.value c.self.invariant (few c)

pub returns : goal.returns
returns c = kept_all c.self.inside.headings.items _ c.as_slice-2.result.now c.self.inside.reads.items _ c.args.count c.start_at-end.result
    c.truncate.ensures.items c.truncate-2.ensures.items c.start_at-end.ensures c.as_slice-2.ensures.value c.self.invariant (few c)
    ∙ ap (take c.args.count) c.self.view_is
