use Rattle.std.proofs.Common.{◌≡◌, ap, ◌∙◌, subst, sym}
use Rattle.place_laws.specs.Choosing.{all_around, AreSorted}
use Rattle.place_laws.proofs.Choosing.{all_sorted}
use Rattle.book_turns.proofs.Going.{frozen_by}
use Rattle.round_marks.specs.Forming.{forms_of}
use Rattle.round_marks.specs.Marking.{Watched}
use Rattle.worker_rounds.proofs.Raced.{looks_first}
use Rattle.worker_rounds.proofs.racing.first_look.Goals as goal

pub returns-clause-looking : goal.returns-clause-looking
returns-clause-looking g c =
    let p = c.in_ok-version.version.problem in
    let ids : c.in_ok-ids.ids ≡ all_around p = c.in_ok-ids.ensures ∙ ap all_around c.problem.ensures in
    let forms : c.in_ok-watch.watch.forms ≡ forms_of p = ap (λ (w : Watched). w.forms) c.in_ok-watch.ensures ∙ ap forms_of c.problem-2.ensures in
    record {
      frozen = frozen_by c.args.book.now c.args.main.now c.freeze.new.pass c.in_ok-version.version c.in_ok-version.ensures;
      sorted = subst AreSorted (sym ids) (all_sorted p);
      looks = looks_first c.in_ok-version.version c.in_ok-watch.watch c.in_ok-ids.ids forms ids;
      awake = ap (λ (w : Watched). w.marks.asleep) c.in_ok-watch.ensures;
    }
