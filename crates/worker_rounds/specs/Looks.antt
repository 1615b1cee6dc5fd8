-- Where rounds of workers look.
use Rattle.std.specs.Prelude.{◌≡◌, []}
use Rattle.shared_book.specs.History.{HasFrozen, Known}
use Rattle.place_laws.specs.Choosing.{AreSorted, Around, HasEach}
use Rattle.presolve_model.specs.Ledger.{Ledger}
use Rattle.presolve_model.specs.Tallies.{open_on}
use Rattle.book_turns.specs.Turns.{Turn}
use Rattle.worker_rounds.specs.Marking.{LooksAt}
use Rattle.worker_rounds.specs.declared.racing.Looking.{Looking}

-- the pass froze the version; the ids ascend and have all that is enabled and open on it; and nothing is asleep
pub record IsLooking (p : Known Ledger Turn) (l : Looking) : Type 0 where
  pub frozen : HasFrozen p l.version
  pub sorted : AreSorted l.ids
  pub looks : LooksAt l.version l.watch l.ids
  pub awake : l.watch.marks.asleep ≡ []

-- the ids ascend, and have all that is enabled and open on a book
pub record HasAllOf (b : Ledger) (n : Around) : Type 0 where
  pub sorted : AreSorted n
  pub each : HasEach (open_on b.tally) b.problem n
