use Rattle.std.proofs.Common.{List, ◌∷◌, [], ◌++◌, length, sym, ap, ◌∙◌, subst}
use Rattle.transactions.specs.Transactions.{Transaction, EndsAscend, cut}
use Rattle.transactions.specs.declared.transactions.Heading.{Heading}
use Rattle.transactions.proofs.Cuts.{opened, opened_ends}
use Rattle.transactions.proofs.transactions.Transactions.open.Goals as goal

pub invariant_of-self-2 : goal.invariant_of-self-2
invariant_of-self-2 c =
    subst (λ (hs : List Heading). EndsAscend 0 hs (length c.self.inside.reads.items)) (sym c.in_ok-push.ensures.items) (opened_ends 0 _ _ _ c.self.invariant (ap length c.as_slice-end.ensures.value))

pub returns : goal.returns
returns c =
    ap (λ (hs : List Heading). cut 0 hs c.self.inside.reads.items) c.in_ok-push.ensures.items
    ∙ opened 0 _ _ _ _ c.self.invariant (ap length c.as_slice-end.ensures.value)
    ∙ ap (λ (ts : List Transaction). ts ++ record { by = c.args.by; version = c.args.version; reads = [] } ∷ []) c.self.view_is
