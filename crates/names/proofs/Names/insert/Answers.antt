use Rattle.std.proofs.Common.{sym, ap, ◌∙◌, ◌++◌, ◌∷◌, []}
use Rattle.names.specs.Names.{place}
use Rattle.names.proofs.Places.{items_differ, last_within, place_keys, taken_last}
use Rattle.names.proofs.Names.insert.Goals as goal

pub returns-in_ok-insert-in-None-clause-taken : goal.returns-in_ok-insert-in-None-clause-taken
returns-in_ok-insert-in-None-clause-taken c = (
  ap (place c.args.name.now) (sym c.self.view_is) ∙ place_keys c.args.name.now c.self.inside.set.keys ∙ sym c.in-None.ensures.index,
  c.len-id.ensures,
  taken_last c.self.inside.set.keys c.insert.new.self.keys c.in_ok-owned-in-None.owned c.args.name.now c.in_ok-owned-in-None.ensures.items c.in-None.ensures.found c.in_ok-insert-in-None.ensures.keys
      ∙ ap (λ names. names ++ c.args.name.now ∷ []) c.self.view_is,
)

pub returns-in_ok-insert-in-None-clause-within : goal.returns-in_ok-insert-in-None-clause-within
returns-in_ok-insert-in-None-clause-within c =
    let taken : _ = returns-in_ok-insert-in-None-clause-taken c in last_within _ _ _ _ taken.1 taken.2

pub invariant_of-self-in-None : goal.invariant_of-self-in-None
invariant_of-self-in-None c = items_differ c.insert.new.self.keys c.insert.ensures.unique
