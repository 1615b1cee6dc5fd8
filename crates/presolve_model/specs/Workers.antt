-- How the work of a run is shared out.
use Rattle.std.specs.Prelude.{◌≡◌, ◌⊎◌, ℕ, Bool, true, false}

-- how many workers there are, and whether they have to make what the ordered run makes
pub record Workers : Type 0 where
  pub threads : ℕ
  pub ordered : Bool

abbrev pub one_worker : Workers
one_worker = record { threads = 1; ordered = false }

-- what comes of the run is what comes of the ordered run: one worker makes it, or several who have to
abbrev pub IsInOrder : Workers → Type 0
IsInOrder workers = (workers.threads ≡ 1) ⊎ (workers.ordered ≡ true)
