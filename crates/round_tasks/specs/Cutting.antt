-- The tasks of a round.
use Rattle.std.specs.Prelude.{◌≡◌, ℕ, ◌+◌, ◌*◌, ◌<◌, ◌≤◌, Bool, true, List, ◌++◌, length, get_or, All}
use Rattle.std.specs.List.{Contains}
use Rattle.presolve_model.specs.declared.instance.Instance.{Instance}
use Rattle.presolve_model.specs.declared.instance.Rule.{Rule}
use Rattle.presolve_model.specs.Enabled.{enabled_on}
use Rattle.presolve_model.specs.Instances.{id_at, is_open, rule_at}
use Rattle.presolve_model.specs.Order.{reduction_order, verdict_order}
use Rattle.presolve_model.specs.Tallies.{open_on}
use Rattle.presolve_model.specs.Worlds.{Version}
use Rattle.place_laws.specs.Choosing.{Around, ids_of}
use Rattle.worker_tasks.specs.Tasks.{HoldsChunk, TaskData}

-- tasks in order, and whether none was left out
pub record TaskList : Type 0 where
  pub tasks : List TaskData
  pub whole : Bool

-- so many ids come before an end: up to the first one that does not
pub record IsCountBelow (ids : List ℕ) (end n : ℕ) : Type 0 where
  pub inside : n ≤ length ids
  pub below : (k : ℕ) → k < n → get_or ids k 0 < end
  pub next : n < length ids → end ≤ get_or ids n 0

-- each enabled and open instance of a rule has its first id there
abbrev pub HasEachOf : Version → Rule → List ℕ → Type 0
HasEachOf v r ids = (e : Instance) → enabled_on v.problem e ≡ true → is_open (open_on v.tally) e ≡ true → rule_at e ≡ r → Contains ids (id_at e)

-- one of the tasks is of this rule, and of a chunk with this id
pub record IsGivenOut (ts : List TaskData) (r : Rule) (k : ℕ) : Type 0 where
  pub task : TaskData
  pub among : Contains ts task
  pub rule : task.rule ≡ r
  pub first : task.chunk * 1024 ≤ k
  pub last : k < task.chunk * 1024 + 1024

-- tasks of a rule behind others: each holds its chunk, and where none was left out each id is given out
pub record AddsTasks (v : Version) (r : Rule) (ids : List ℕ) (before after : List TaskData) (whole : Bool) : Type 0 where
  pub hold : All (HoldsChunk v) before → All (HoldsChunk v) after
  pub kept : (s : Rule) (k : ℕ) → IsGivenOut before s k → IsGivenOut after s k
  pub given : whole ≡ true → (k : ℕ) → Contains ids k → IsGivenOut after r k

-- the same of some rules
pub record AddsAllTasks (v : Version) (n : Around) (rules : List Rule) (before after : List TaskData) (whole : Bool) : Type 0 where
  pub hold : All (HoldsChunk v) before → All (HoldsChunk v) after
  pub kept : (s : Rule) (k : ℕ) → IsGivenOut before s k → IsGivenOut after s k
  pub given : whole ≡ true → (r : Rule) (k : ℕ) → Contains rules r → Contains (ids_of n r) k → IsGivenOut after r k

-- the tasks of a round
pub record AreTasksOf (v : Version) (n : Around) (t : TaskList) : Type 0 where
  pub hold : All (HoldsChunk v) t.tasks
  pub given : t.whole ≡ true → (r : Rule) (k : ℕ) → Contains (verdict_order ++ reduction_order) r → Contains (ids_of n r) k → IsGivenOut t.tasks r k
