use Rattle.std.proofs.Common.{◌≡◌, List, sym, subst, ap, ap₂, ◌∙◌}
use Rattle.fractions.specs.Total.{put}
use Rattle.lp_model.specs.declared.terms.Term.{Term}
use Rattle.lp_model.specs.Sparse.{dense}
use Rattle.lp_model.specs.Vectors.{Vector, vector_of}
use Rattle.undo_records.specs.declared.side.Side.{Side}
use Rattle.lp_rays.specs.Handing.{low_at_greatest, high_at_greatest, low_at_least, high_at_least}
use Rattle.lp_rays.specs.RayData.{weights_of}
use Rattle.ray_steps.specs.StepBack.{ratios, take_ratios}
use Rattle.ray_lift.proofs.Shiftings.{weights_are}
use Rattle.ray_lift.proofs.forcing.weigh_forcing_row.Goals as goal

pub returns-in_ok-shift_columns-in-Lower-clause-lifted : goal.returns-in_ok-shift_columns-in-Lower-clause-lifted
returns-in_ok-shift_columns-in-Lower-clause-lifted c =
    let h = c.in_ok-shift_columns-in-Lower.ensures in
    let e = c.set_lower_side.ensures in
    let d : c.in_ok-taken.taken ≡ ratios c.args.undo.now.side c.args.undo.now.entries (weights_of c.args.ray.now) = c.in_ok-taken.ensures.value ∙ ap (λ (ts : List Term). ratios c.args.undo.now.side ts (weights_of c.args.ray.now)) c.as_slice-entries.ensures in
    subst (λ (x : Side). weights_of c.set_lower_side.new.self ≡ take_ratios x c.args.undo.now.row c.args.undo.now.entries (ratios c.args.undo.now.side c.args.undo.now.entries (weights_of c.args.ray.now)) (weights_of c.args.ray.now)) (sym c.in-Lower.is)
    (weights_are _ _
    (e.lower_side ∙ ap₂ (λ (f : Vector) x. put f c.args.undo.now.row x) (ap vector_of h.lower_sides) d)
    (ap vector_of (e.upper_sides ∙ h.upper_sides))
    (ap vector_of e.lower_bounds ∙ h.lower ∙ ap₂ {C = Vector} (λ ts x k. low_at_greatest (dense ts k) x (vector_of c.args.ray.now.lower_bounds k) (vector_of c.args.ray.now.upper_bounds k)) c.as_slice-entries.ensures d)
    (ap vector_of e.upper_bounds ∙ h.upper ∙ ap₂ {C = Vector} (λ ts x k. high_at_greatest (dense ts k) x (vector_of c.args.ray.now.lower_bounds k) (vector_of c.args.ray.now.upper_bounds k)) c.as_slice-entries.ensures d))

pub returns-in_ok-shift_columns-in-Upper-clause-lifted : goal.returns-in_ok-shift_columns-in-Upper-clause-lifted
returns-in_ok-shift_columns-in-Upper-clause-lifted c =
    let h = c.in_ok-shift_columns-in-Upper.ensures in
    let e = c.set_upper_side.ensures in
    let d : c.in_ok-taken.taken ≡ ratios c.args.undo.now.side c.args.undo.now.entries (weights_of c.args.ray.now) = c.in_ok-taken.ensures.value ∙ ap (λ (ts : List Term). ratios c.args.undo.now.side ts (weights_of c.args.ray.now)) c.as_slice-entries.ensures in
    subst (λ (x : Side). weights_of c.set_upper_side.new.self ≡ take_ratios x c.args.undo.now.row c.args.undo.now.entries (ratios c.args.undo.now.side c.args.undo.now.entries (weights_of c.args.ray.now)) (weights_of c.args.ray.now)) (sym c.in-Upper.is)
    (weights_are _ _
    (ap vector_of (e.lower_sides ∙ h.lower_sides))
    (e.upper_side ∙ ap₂ (λ (f : Vector) x. put f c.args.undo.now.row x) (ap vector_of h.upper_sides) d)
    (ap vector_of e.lower_bounds ∙ h.lower ∙ ap₂ {C = Vector} (λ ts x k. low_at_least (dense ts k) x (vector_of c.args.ray.now.lower_bounds k) (vector_of c.args.ray.now.upper_bounds k)) c.as_slice-entries.ensures d)
    (ap vector_of e.upper_bounds ∙ h.upper ∙ ap₂ {C = Vector} (λ ts x k. high_at_least (dense ts k) x (vector_of c.args.ray.now.lower_bounds k) (vector_of c.args.ray.now.upper_bounds k)) c.as_slice-entries.ensures d))
