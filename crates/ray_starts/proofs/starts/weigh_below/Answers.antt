use Rattle.std.proofs.Common.{ap, ap₂, ◌∙◌}
use Rattle.fractions.specs.Total.{put}
use Rattle.lp_model.specs.Vectors.{Vector, vector_of}
use Rattle.lp_model.specs.Sparse.{dense}
use Rattle.lp_rays.specs.Ray.{Weights}
use Rattle.ray_starts.proofs.Weighed.{weights_are, greatest_lower, greatest_upper}
use Rattle.ray_starts.proofs.starts.weigh_below.Goals as goal

pub returns-clause-value : goal.returns-clause-value
returns-clause-value c =
    let h = c.weigh_columns.ensures in
    let e = c.set_lower_side.ensures in
    weights_are _ _
    (e.lower_side ∙ ap₂ (λ (f : Vector) x. put f c.args.row x) (ap vector_of h.lower_sides ∙ ap (λ (w : Weights). w.s) c.requires.none) c.one.ensures.value)
    (ap vector_of (e.upper_sides ∙ h.upper_sides) ∙ ap (λ (w : Weights). w.t) c.requires.none)
    (ap vector_of e.lower_bounds ∙ h.lower ∙ (λ i k. greatest_lower (dense c.args.entries.now k) i))
    (ap vector_of e.upper_bounds ∙ h.upper ∙ (λ i k. greatest_upper (dense c.args.entries.now k) i))
