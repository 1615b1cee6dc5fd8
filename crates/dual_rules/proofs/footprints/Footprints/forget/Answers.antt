use Rattle.dual_rules.proofs.KeptFootprints.{all_earlier, next_turn}
use Rattle.dual_rules.proofs.footprints.Footprints.forget.Goals as goal

pub returns-in-Some : goal.returns-in-Some
returns-in-Some c = all_earlier c.in-Some.turn c.self.inside.kept.items (next_turn c.self.inside.turn c.in-Some.turn c.self.inside.kept.items c.in-Some.ensures.1 c.self.invariant)
