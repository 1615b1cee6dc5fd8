-- What a round of workers marks.
use Rattle.std.specs.Prelude.{◌≡◌, true, List}
use Rattle.std.specs.List.{Contains}
use Rattle.problem_model.specs.declared.part.Part.{Part}
use Rattle.presolve_model.specs.declared.instance.Instance.{Instance}
use Rattle.presolve_model.specs.Enabled.{enabled_on}
use Rattle.presolve_model.specs.Instances.{is_open, reach_of, rule_at}
use Rattle.presolve_model.specs.Ledger.{Ledger}
use Rattle.presolve_model.specs.Tables.{heads}
use Rattle.presolve_model.specs.Tallies.{open_on}
use Rattle.presolve_model.specs.Worlds.{Version, version_of}
use Rattle.place_laws.specs.Choosing.{Around, HasEach}
use Rattle.place_laws.specs.Marks.{Grows, Marks, parts_for}
use Rattle.round_laws.specs.Passing.{Follows}
use Rattle.round_marks.specs.Forming.{AreFormsOf}
use Rattle.round_marks.specs.Marking.{Watched}
use Rattle.round_marks.specs.Stamping.{Stamped, stamps_of}
use Rattle.worker_rounds.specs.Workers.{IsFound, WorkerData}

-- a part at the head of what the instance reads is marked, where it counts for its rule
abbrev pub IsLeft : Marks → Instance → Type 0
IsLeft m e = (a : Part) × Contains (heads e) a × Contains (parts_for m (reach_of (rule_at e))) a

-- so it is with each of these instances, and nothing else happens to what is watched
pub record Leaves (es : List Instance) (w v : Watched) : Type 0 where
  pub forms : v.forms ≡ w.forms
  pub asleep : v.marks.asleep ≡ w.marks.asleep
  pub grows : Grows w.marks v.marks
  pub left : (e : Instance) → Contains es e → IsLeft v.marks e

-- with each that workers found
pub record LeavesFound (ws : List WorkerData) (w v : Watched) : Type 0 where
  pub forms : v.forms ≡ w.forms
  pub asleep : v.marks.asleep ≡ w.marks.asleep
  pub grows : Grows w.marks v.marks
  pub left : (e : Instance) → IsFound ws e → IsLeft v.marks e

-- with each that is enabled and open on a version
abbrev pub AreAllLeft : Version → Marks → Type 0
AreAllLeft v m = (e : Instance) → enabled_on v.problem e ≡ true → is_open (open_on v.tally) e ≡ true → IsLeft m e

-- a version of a book, and one of the book that later calls left
pub record IsLater (v w : Version) : Type 0 where
  pub earlier : Ledger
  pub later : Ledger
  pub before : v ≡ version_of earlier
  pub after : w ≡ version_of later
  pub follows : Follows (open_on earlier.tally) earlier.problem later
  pub opened : (e : Instance) → is_open (open_on later.tally) e ≡ true → is_open (open_on earlier.tally) e ≡ true

-- a round on a version has left these numbers and marks, and then a later version was frozen
pub record HasLeft (v : Version) (s : Stamped) (m : Watched) (w : Version) : Type 0 where
  pub stamps : s ≡ stamps_of v.problem
  pub forms : AreFormsOf m.forms v.problem
  pub left : AreAllLeft v m.marks
  pub later : IsLater v w

-- the ids have all that is enabled and open on a version, and the forms are those of its ends
pub record LooksAt (w : Version) (m : Watched) (n : Around) : Type 0 where
  pub forms : AreFormsOf m.forms w.problem
  pub each : HasEach (open_on w.tally) w.problem n
