use Rattle.std.proofs.Common.{ℕ, List, [], ◌∷◌, ◌++◌, ap, ◌∙◌, refl, subst}
use Rattle.line_groups.specs.Groups.{Grouped, IsTable}
use Rattle.line_groups.specs.Steps.{HasGroup}
use Rattle.line_groups.proofs.Tables.{new_group}
use Rattle.line_groups.proofs.groups.Groups.number_of.Goals as goal

pub returns-in_ok-insert-in-None : goal.returns-in_ok-insert-in-None
returns-in_ok-insert-in-None c count =
    let old : Grouped = record { keys = c.self.inside.keys.keys; numbers = c.self.inside.numbers.items; groups = c.self.inside.groups.items } in
    let new : Grouped = record { keys = c.insert.new.self.keys; numbers = c.self.inside.numbers.items; groups = c.push.new.self.items } in
    subst (λ (g : Grouped). IsTable g count → HasGroup g new count c.args.key c.len-number.result) c.self.view_is
    (λ (t : IsTable old count). new_group old new count c.args.key c.len-number.result t c.in-None.ensures.found c.len-number.ensures.len c.in_ok-insert-in-None.ensures.keys refl
    (c.in_ok-push-in-None.ensures.items ∙ ap (λ (xs : List ℕ). c.self.inside.groups.items ++ xs ∷ []) c.new.ensures))
