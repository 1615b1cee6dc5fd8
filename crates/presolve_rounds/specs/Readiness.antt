-- What a round begins with.
use Rattle.std.specs.Prelude.{◌≡◌, true}
use Rattle.presolve_model.specs.declared.instance.Instance.{Instance}
use Rattle.presolve_model.specs.Enabled.{enabled_on}
use Rattle.presolve_model.specs.Instances.{is_open}
use Rattle.presolve_model.specs.Tallies.{open_on}
use Rattle.round_marks.specs.Forming.{AreFormsOf}
use Rattle.round_marks.specs.Marking.{Watched}
use Rattle.presolve_model.specs.Ledger.{Ledger}
use Rattle.place_laws.specs.Choosing.{AreSorted, Around, IsComplete}
use Rattle.place_laws.specs.Marks.{IsMarked, Marks}
use Rattle.round_laws.specs.Passing.{Follows}
use Rattle.round_marks.specs.Stamping.{AreStampsOf, Stamped}

-- the numbers and forms of the present problem, and rows and columns where each enabled instance is that is open and does not sleep
pub record IsReady (b : Ledger) (s : Stamped) (n : Around) (w : Watched) : Type 0 where
  pub follows : Follows (open_on b.tally) b.problem b
  pub stamps : AreStampsOf s b.problem
  pub forms : AreFormsOf w.forms b.problem
  pub sorted : AreSorted n
  pub complete : IsComplete b.numbers (open_on b.tally) b.problem n w.marks.asleep

-- each enabled instance that is open reads a part that is noted, or sleeps
abbrev pub AreMarked : Ledger → Marks → Type 0
AreMarked b m = (e : Instance) → enabled_on b.problem e ≡ true → is_open (open_on b.tally) e ≡ true → IsMarked b.numbers b.problem m e
