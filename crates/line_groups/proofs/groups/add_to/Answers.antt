use Rattle.std.proofs.Common.{◌≡◌, refl, sym, subst, ◌∙◌, ℕ, List, [], get_or}
use Rattle.std.specs.List.{Contains}
use Rattle.std.proofs.lemmas.List.{get_or_default}
use Rattle.sorted_ids.specs.Ascending.{AscendsFrom}
use Rattle.line_groups.proofs.Tables.{puts}
use Rattle.line_groups.proofs.groups.add_to.Goals as goal

pub returns-in_ok-add : goal.returns-in_ok-add
returns-in_ok-add c inside =
    let was : get_or c.args.groups.now.items c.args.number [] ≡ c.index_mut.result.now = get_or_default c.args.groups.now.items c.args.number [] c.index_mut.result.now inside ∙ sym c.index_mut.ensures.value in
    puts c.args.groups.now.items _ c.args.number c.args.id c.add.new.self inside refl c.in_ok-add.ensures.there
    (subst (λ (xs : List ℕ). (k : ℕ) → Contains xs k → Contains c.add.new.self k) (sym was) c.in_ok-add.ensures.kept)
    (subst (λ (xs : List ℕ). AscendsFrom 0 xs → AscendsFrom 0 c.add.new.self) (sym was) c.in_ok-add.ensures.ascends)
