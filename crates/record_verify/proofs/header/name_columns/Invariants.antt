use Rattle.std.proofs.Common.{◌≡◌, ◌↔◌, length}
use Rattle.lp_model.specs.Names.{names_of_columns}
use Rattle.presolve_model.specs.Telling.{names_in}
use Rattle.record_verify.proofs.header.name_columns.Given as goal

-- the names are the same where those that are left are
abbrev pub invariant-loop-rest : goal.invariant-loop-rest
invariant-loop-rest l = (names_in l.rest ≡ names_of_columns l.left) ↔ (names_in l.fn.labels ≡ names_of_columns l.fn.columns)

abbrev pub decreases-loop-rest : goal.decreases-loop-rest
decreases-loop-rest l = length l.rest
