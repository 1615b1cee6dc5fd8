use Rattle.std.proofs.Common.{rules, ◌≡◌, ◌<◌, ◌^◌, List, [], ◌∷◌, ◌++◌, sym, ap, ◌∙◌, subst, arith}
use Rattle.shared_book.specs.History.{Known}
use Rattle.presolve_model.specs.Ledger.{Ledger, Stands}
use Rattle.book_turns.specs.Turns.{Turn}
use Rattle.worker_rounds.specs.Looks.{IsLooking}
use Rattle.worker_rounds.proofs.Raced.{closed_later, then_few, then_goes}
use Rattle.worker_rounds.proofs.racing.race.Goals as goal

pub returns-clause-goes : goal.returns-clause-goes
returns-clause-goes g c = then_goes c.args.book c.close-book.result c.in_ok-shared.shared _ c.in_ok-shared.ensures.start c.stands.ensures.stands c.close-book.ensures

pub returns-clause-few : goal.returns-clause-few
returns-clause-few g c =
    let e = c.limit-limit.ensures in
    let below = c.limit-limit.type_inv in
    let short : c.args.book.limit < 2 ^ 64 = omega (arith, e, below) in
    then_few c.args.book c.close-book.result c.in_ok-shared.shared _ c.in_ok-shared.ensures.start c.stands.ensures.stands c.close-book.ensures short c.requires.few

pub ids_on-requires-clause-later : goal.ids_on-requires-clause-later
ids_on-requires-clause-later g c =
    let start = c.in_ok-shared.ensures.start in
    let short : c.in_ok-shared.shared.start.limit < 2 ^ 64 = omega (arith, ap (λ (b : Ledger). b.limit) start, c.limit-limit.ensures, c.limit-limit.type_inv) in
    let one : c.push.new.self.items ≡ c.race_on.new.main ∷ [] = c.in_ok-push.ensures.items ∙ ap (λ (ps : List (Known Ledger Turn)). ps ++ c.race_on.new.main ∷ []) c.new-passes.ensures.items in
    let looking : IsLooking c.race_on.new.main c.in-Some.looking = search rules in
    closed_later c.in_ok-shared.shared c.race_on.new.main c.push.new.self.items c.close-book.result c.in-Some.looking.version (subst Stands (sym start) c.stands.ensures.stands) short c.close-book.ensures one looking.frozen
