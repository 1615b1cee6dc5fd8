use Rattle.std.proofs.Common.{ℕ, ◌<◌}
use Rattle.simplex_tableau.specs.Programs.{minimized}
use Rattle.simplex_laws.specs.Choices.{limit}
use Rattle.simplex_laws.specs.LimitRoom.{LimitFitsAt}
use Rattle.simplex_tableau.specs.Data.{shown}
use Rattle.simplex_steps.specs.Best.{IsBest}
use Rattle.simplex_steps.specs.Signs.{sign_of}
use Rattle.simplex_steps.proofs.limits.find_stop.Given as goal

-- the nearest so far, and all had room
abbrev pub invariant-loop-m : goal.invariant-loop-m
invariant-loop-m l = IsBest (limit (minimized l.program) (shown l.tableau) l.e (sign_of l.up)) l.m l.best
    × ((j : ℕ) → j < l.m → LimitFitsAt (minimized l.program) (shown l.tableau) l.e (sign_of l.up) j)
