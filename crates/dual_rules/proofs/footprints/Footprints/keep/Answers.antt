use Rattle.std.proofs.Common.{ap, ◌∙◌, refl, List, slice_set, Option, Some}
use Rattle.dual_rules.specs.declared.footprints.Footprint.{Footprint}
use Rattle.dual_rules.proofs.KeptFootprints.{set_kept}
use Rattle.dual_rules.proofs.footprints.Footprints.keep.Goals as goal

pub returns-then-column-len : goal.returns-then-column-len
returns-then-column-len c =
    set_kept c.self.inside.turn c.self.inside.kept.items c.args.column (record { turn = c.self.inside.turn; footprint = c.args.footprint }) refl
    ∙ ap (λ (fs : List (Option Footprint)). slice_set fs c.args.column (Some c.args.footprint)) c.self.view_is
