use Rattle.std.proofs.Common.{◌≡◌, ◌++◌, length}
use Rattle.std.specs.List.{Contains}
use Rattle.presolve_model.specs.declared.instance.Instance.{Instance}
use Rattle.worker_tasks.specs.Work.{instances_in}
use Rattle.worker_tasks.proofs.work.add_instances.Given as goal

-- those so far, and those of the proposals that are left
abbrev pub invariant-loop-rest : goal.invariant-loop-rest
invariant-loop-rest l = record {
  kept : (e : Instance) → Contains l.initial.found.items e → Contains l.found.items e;
  added : l.found.items ++ instances_in l.rest ≡ l.initial.found.items ++ instances_in l.proposals;
}

abbrev pub decreases-loop-rest : goal.decreases-loop-rest
decreases-loop-rest l = length l.rest
