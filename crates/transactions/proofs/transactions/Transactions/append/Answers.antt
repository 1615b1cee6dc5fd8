use Rattle.std.proofs.Common.{◌∷◌, ◌++◌, [], List, length, ap, ◌∙◌, refl}
use Rattle.transactions.specs.Transactions.{Transaction}
use Rattle.transactions.specs.declared.transactions.Heading.{Heading}
use Rattle.transactions.proofs.Cuts.{appended_all, appended_all_ends}
use Rattle.transactions.proofs.transactions.Transactions.append.Goals as goal

pub invariant_of-self-2 : goal.invariant_of-self-2
invariant_of-self-2 c =
    appended_all_ends c.self.inside.headings.items _ c.self.inside.reads.items c.args.reads.now c.as_slice-end.result.now _ c.args.by c.args.version (length c.as_slice-end.result.now)
    (c.push_reserved.ensures.items ∙ ap (λ (hs : List Heading). hs ++ record { by = c.args.by; version = c.args.version; end = length c.as_slice-end.result.now } ∷ []) c.reserve.ensures.items)
    refl c.as_slice-end.ensures.value c.in_ok-extend_from_slice.ensures.items c.self.invariant

pub returns-clause-appended : goal.returns-clause-appended
returns-clause-appended c =
    appended_all c.self.inside.headings.items _ c.self.inside.reads.items c.args.reads.now c.as_slice-end.result.now _ c.args.by c.args.version (length c.as_slice-end.result.now)
    (c.push_reserved.ensures.items ∙ ap (λ (hs : List Heading). hs ++ record { by = c.args.by; version = c.args.version; end = length c.as_slice-end.result.now } ∷ []) c.reserve.ensures.items)
    refl c.as_slice-end.ensures.value c.in_ok-extend_from_slice.ensures.items c.self.invariant
    ∙ ap (λ (ts : List Transaction). ts ++ record { by = c.args.by; version = c.args.version; reads = c.args.reads.now } ∷ []) c.self.view_is
