use Rattle.std.proofs.Common.{◌↔◌, ◌≤◌, length}
use Rattle.lp_model.specs.Sparse.{Ascends}
use Rattle.lp_model.proofs.written.ascend.Given as goal

-- all terms ascend just where those that are left do from here on
abbrev pub invariant-loop-rest : goal.invariant-loop-rest
invariant-loop-rest l = Ascends l.next l.limit l.rest ↔ Ascends 0 l.limit l.terms

abbrev pub decreases-loop-rest : goal.decreases-loop-rest
decreases-loop-rest l = length l.rest
