use Rattle.std.proofs.Common.{◌≡◌, ℕ, ◌<◌, None}
use Rattle.simplex_laws.specs.Choices.{limit}
use Rattle.simplex_tableau.specs.Data.{shown}
use Rattle.simplex_tableau.specs.Programs.{minimized}
use Rattle.simplex_steps.specs.Signs.{sign_of}
use Rattle.simplex_steps.proofs.limits.is_limited.Given as goal

-- none so far
abbrev pub invariant-loop-m : goal.invariant-loop-m
invariant-loop-m l = (j : ℕ) → j < l.m → limit (minimized l.program) (shown l.tableau) l.e (sign_of l.up) j ≡ None
