use Rattle.std.proofs.Common.{subst, sym}
use Rattle.dual_rules.specs.Footprints.{AreFootprints}
use Rattle.dual_rules.proofs.KeptFootprints.{one_kept}
use Rattle.dual_rules.proofs.footprints.Footprints.of.Goals as goal

pub returns-clause-kept : goal.returns-clause-kept
returns-clause-kept c = subst (AreFootprints c.args.problem.now) (sym c.keep.ensures) (one_kept c.args.problem.now c.args.self.now c.args.column c.in-Some-footprint_of.footprint c.in-Some-footprint_of.ensures c.requires.kept)
