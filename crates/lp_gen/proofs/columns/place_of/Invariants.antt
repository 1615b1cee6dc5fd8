use Rattle.std.proofs.Common.{◌≡◌, ◌+◌, length}
use Rattle.std.specs.Prelude.{nat_lt}
use Rattle.std.specs.List.{prefix_len}
use Rattle.lp_gen.proofs.columns.place_of.Given as goal

-- the terms that are left count the rest
abbrev pub invariant-loop-rest : goal.invariant-loop-rest
invariant-loop-rest l = record {
  counted : l.place + prefix_len (λ t. nat_lt t.id l.row) l.rest ≡ prefix_len (λ t. nat_lt t.id l.fn.row) l.fn.terms;
  within : l.place + length l.rest ≡ length l.fn.terms;
}

abbrev pub decreases-loop-rest : goal.decreases-loop-rest
decreases-loop-rest l = length l.rest
