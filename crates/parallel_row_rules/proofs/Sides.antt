-- Sides over a factor.
use Rattle.std.proofs.Common.{Option, Some, None}
use Rattle.fractions.specs.Number.{Number}
use Rattle.fractions.specs.EndWords.{OverFits}
use Rattle.parallel_laws.specs.ParallelRows.{SideComputes}

pub side_computes : (s : Number) (o : Option Number) → OverFits o s → SideComputes s o
side_computes s None h = h
side_computes s (Some b) h = h

pub side_fits : (s : Number) (o : Option Number) → SideComputes s o → OverFits o s
side_fits s None h = h
side_fits s (Some b) h = h
