use Rattle.std.proofs.Common.{◌<◌, List, length, ap, ◌∙◌, refl, subst, arith}
use Rattle.transactions.specs.Transactions.{with_read}
use Rattle.transactions.specs.declared.transactions.Heading.{Heading}
use Rattle.transactions.proofs.Cuts.{added_all, added_all_ends}
use Rattle.transactions.proofs.transactions.Transactions.add.Goals as goal

pub invariant_of-self-2 : goal.invariant_of-self-2
invariant_of-self-2 c = added_all_ends _ _ _ _ _ _ _ c.end_last.ensures refl c.as_slice-2.ensures.value c.in_ok-push.ensures.items c.self.invariant
    (subst (λ (hs : List Heading). 0 < length hs) c.as_slice.ensures.value (omega (arith, c.if-as_slice-eq0.false)))

pub returns : goal.returns
returns c =
    added_all _ _ _ _ _ _ _ c.end_last.ensures refl c.as_slice-2.ensures.value c.in_ok-push.ensures.items c.self.invariant
    ∙ ap (λ ts. with_read ts c.args.read) c.self.view_is
