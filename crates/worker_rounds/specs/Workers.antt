-- Workers of a round.
use Rattle.std.specs.Prelude.{◌≡◌, ℕ, ◌<◌, List, [], length, get_or}
use Rattle.std.specs.List.{Contains}
use Rattle.shared_book.specs.History.{HasFrozen, Known, Shared}
use Rattle.presolve_model.specs.declared.instance.Instance.{Instance}
use Rattle.presolve_model.specs.Ledger.{Ledger}
use Rattle.presolve_model.specs.Worlds.{Version}
use Rattle.book_turns.specs.Turns.{IsPass, Turn}
use Rattle.worker_tasks.specs.Tasks.{found_of, TaskData}
use Rattle.worker_tasks.specs.Work.{instances_in, WorkData}

-- a worker: what its pass knows, and what it has done
abbrev pub WorkerData : Type 0
WorkerData = Known Ledger Turn × WorkData

-- it may begin: its pass has frozen the version, and it has done nothing yet
pub record MayBegin (s : Shared Ledger) (v : Version) (w : WorkerData) : Type 0 where
  pub pass : IsPass s w.0
  pub frozen : HasFrozen w.0 v
  pub fresh : w.1 ≡ record { done = []; found = [] }

-- the task of this number
pub record IsAt (ts : List TaskData) (i : ℕ) (t : TaskData) : Type 0 where
  pub inside : i < length ts
  pub is : get_or ts i t ≡ t

-- all that there is to find in the tasks that it finished is found
abbrev pub HasFound : Version → List TaskData → WorkData → Type 0
HasFound v ts w = (i : ℕ) (t : TaskData) → Contains w.done i → IsAt ts i t → (e : Instance) → Contains (instances_in (found_of v t)) e → Contains w.found e

-- one of the workers finished the task of this number
abbrev pub IsDone : List WorkerData → ℕ → Type 0
IsDone ws i = (w : WorkerData) × Contains ws w × Contains w.1.done i

-- one of them found this instance
abbrev pub IsFound : List WorkerData → Instance → Type 0
IsFound ws e = (w : WorkerData) × Contains ws w × Contains w.1.found e
