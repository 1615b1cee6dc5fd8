use Rattle.std.proofs.Common.{◌≡◌, ◌<◌, replicate, subst, sym, arith}
use Rattle.std.specs.List.{All}
use Rattle.std.proofs.lemmas.List.Elements.{All-replicate}
use Rattle.dual_rules.specs.declared.footprints.Kept.{Kept}
use Rattle.dual_rules.proofs.KeptFootprints.{all_earlier}
use Rattle.dual_rules.proofs.footprints.Footprints.new.Goals as goal

pub returns : goal.returns
returns c =
    let none : Kept = record { turn = 0; footprint = record { asked = 0; offered = 0 } } in
    let same : c.in_ok-kept.kept.items ≡ replicate c.args.columns none = c.in_ok-kept.ensures.items_if_clones_equal (λ y e. e) in
    all_earlier 1 c.in_ok-kept.kept.items (subst (All (λ (k : Kept). k.turn < 1)) (sym same) (All-replicate (λ (k : Kept). k.turn < 1) c.args.columns none (omega arith)))
