-- Workers as data, by their numbers, and a book with its workers.
use Rattle.std.specs.Prelude.{◌≡◌, ◌≢◌, ℕ, ◌<◌, nat_eq, if◌then◌else◌, List, [], ◌∷◌, length, slice_index_or, Option, None}
use Rattle.fractions.specs.Total.{put}
use Rattle.presolve_model.specs.Given.{Proposed}
use Rattle.presolve_model.specs.Ledger.{Ledger}
use Rattle.presolve_model.specs.Worlds.{State, Version}

-- a worker's number, its frozen version, and the proposals that it has not committed yet, the first one first
pub record WorkerData : Type 0 where
  pub number : ℕ
  pub frozen : Option Version
  pub pending : List Proposed

-- a book, and the workers that did something
pub record WorldData : Type 0 where
  pub book : Ledger
  pub workers : List WorkerData

-- a worker that did nothing yet
abbrev pub newcomer : ℕ → WorkerData
newcomer w = record { number = w; frozen = None; pending = [] }

-- the worker of a number: the first that has it
abbrev pub worker_in : List WorkerData → ℕ → WorkerData
worker_in [] w = newcomer w
worker_in (d ∷ ds) w = if nat_eq w d.number then d else worker_in ds w

-- the state that this is: any other worker did nothing yet
abbrev pub state_of : WorldData → State
state_of d = record { book = d.book; frozen = λ w. (worker_in d.workers w).frozen; pending = λ w. (worker_in d.workers w).pending }

-- the worker at a place, any where there is none
abbrev pub nth_worker : List WorkerData → ℕ → WorkerData
nth_worker ds i = slice_index_or ds i (newcomer 0)

-- none has the number
abbrev pub IsAbsent : List WorkerData → ℕ → Type 0
IsAbsent ds w = (k : ℕ) → k < length ds → (nth_worker ds k).number ≢ w

-- the first with the number is at this place
pub record IsAt (ds : List WorkerData) (w i : ℕ) : Type 0 where
  pub within : i < length ds
  pub number : (nth_worker ds i).number ≡ w
  pub before : (k : ℕ) → k < i → (nth_worker ds k).number ≢ w

-- each number has the worker that it had
abbrev pub SameWorkers : List WorkerData → List WorkerData → Type 0
SameWorkers ds es = (v : ℕ) → worker_in es v ≡ worker_in ds v

-- the number w has the worker e, and any other the one that it had
abbrev pub Replaces : List WorkerData → ℕ → WorkerData → List WorkerData → Type 0
Replaces ds w e es = (v : ℕ) → worker_in es v ≡ put (worker_in ds) w e v
