use Rattle.std.proofs.Common.{take}
use Rattle.std.specs.List.{Contains}
use Rattle.presolve_model.specs.declared.instance.Instance.{Instance}
use Rattle.threaded_passes.specs.Listing.{SharesRow}
use Rattle.threaded_passes.proofs.listed.run_length.Given as goal

-- those before this place share their reading
abbrev pub invariant-loop-place : goal.invariant-loop-place
invariant-loop-place l = (x : Instance) → Contains (take l.place l.instances) x → SharesRow l.first x
