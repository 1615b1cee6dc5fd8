use Rattle.std.proofs.Common.{[], ◌∷◌, sym, subst}
use Rattle.std.specs.List.{All}
use Rattle.std.proofs.lemmas.List.Elements.{All-cons, All-nil}
use Rattle.book_turns.specs.Turns.{IsPass}
use Rattle.book_tests.proofs.passes.closed.Goals as goal

pub close-requires-clause-own : goal.close-requires-clause-own
close-requires-clause-own g c =
    let s = c.args.shared in
    subst (All (IsPass s)) (sym c.in_ok-passes.ensures.items)
    (All-cons (IsPass s) c.args.first (c.args.second ∷ []) c.requires.first (All-cons (IsPass s) c.args.second [] c.requires.second (All-nil (IsPass s))))
