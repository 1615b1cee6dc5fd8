-- When no reduction is left that could be applied.
use Rattle.std.specs.Prelude.{◌≡◌, ℕ, true, false, List, length}
use Rattle.std.specs.List.{filter}
use Rattle.fractions.specs.declared.Numbers.{Numbers}
use Rattle.problem_model.specs.Sparse.{Sparse}
use Rattle.presolve_model.specs.declared.instance.Instance.{Instance}
use Rattle.presolve_model.specs.declared.instance.Instance.TheVariants as at
use Rattle.presolve_model.specs.declared.instance.Reduction.{Reduction}
use Rattle.presolve_model.specs.declared.instance.Verdict.{Verdict}
use Rattle.presolve_model.specs.Enabled.{enabled_on}
use Rattle.presolve_model.specs.Instances.{is_open}
use Rattle.presolve_model.specs.Order.{reduction_order}
use Rattle.presolve_model.specs.Replay.{CanApply}
use Rattle.presolve_model.specs.Scans.{all_of}
use Rattle.presolve_model.specs.Tallies.{Open}

-- the open reductions that are enabled, in their order
abbrev pub enabled_reductions : Open → Sparse → List Instance
enabled_reductions opens p = filter (enabled_on p) (all_of opens p reduction_order)

-- no verdict is enabled
abbrev pub IsUndecided : Sparse → Type 0
IsUndecided p = (v : Verdict) → enabled_on p (at.Verdict v) ≡ false

-- none is, and no open reduction can be applied: each that is enabled has a number that is past or can't be written
pub record Stuck (numbers : Numbers) (opens : Open) (p : Sparse) : Type 0 where
  pub undecided : IsUndecided p
  pub reductions : (r : Reduction) → is_open opens (at.Reduction r) ≡ true → CanApply numbers p r → ⊥

-- how many open reductions are enabled
abbrev pub skipped_on : Open → Sparse → ℕ
skipped_on opens p = length (enabled_reductions opens p)
