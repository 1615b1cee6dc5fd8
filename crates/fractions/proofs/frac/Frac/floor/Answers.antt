use Rattle.std.proofs.Common.{sym, ap, ◌∙◌}
use Rattle.fractions.specs.Number.{of_ℤ}
use Rattle.fractions.specs.Floor.{floor_of}
use Rattle.fractions.proofs.Floors.{floor_of-ratio}
use Rattle.fractions.proofs.frac.Frac.floor.Goals as goal

pub returns : goal.returns
returns c = c.whole.ensures.value ∙ ap of_ℤ (c.floor_parts.ensures.value ∙ sym (floor_of-ratio _ _ c.self.invariant) ∙ ap floor_of c.self.view_is)
