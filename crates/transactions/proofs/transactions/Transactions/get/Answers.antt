use Rattle.std.proofs.Common.{arith, ap, ◌∙◌, slice_get}
use Rattle.transactions.proofs.Cuts.{none_at, range_at, some_at}
use Rattle.transactions.proofs.transactions.Transactions.get.Goals as goal

pub returns-then-place-headings : goal.returns-then-place-headings
returns-then-place-headings c =
    none_at _ _ c.self.inside.reads.items c.args.place c.as_slice-headings.ensures.value (omega (arith, c.if-place-headings.true))
    ∙ ap (λ ts. slice_get ts c.args.place) c.self.view_is

pub range-requires : goal.range-requires
range-requires c = range_at _ _ _ _ c.args.place _ _ c.as_slice-headings.ensures.value (omega (arith, c.if-place-headings.false)) c.start_at-from.ensures c.as_slice.ensures.value c.self.invariant

pub returns : goal.returns
returns c =
    some_at _ _ _ _ _ c.args.place _ _ c.as_slice-headings.ensures.value (omega (arith, c.if-place-headings.false)) c.start_at-from.ensures c.as_slice.ensures.value c.range.ensures
    ∙ ap (λ ts. slice_get ts c.args.place) c.self.view_is
