use Rattle.std.proofs.Common.{ap, ap₂, ◌∙◌}
use Rattle.fractions.specs.Number.{◌+ℚ◌}
use Rattle.fractions.specs.Total.{put}
use Rattle.lp_model.specs.Sparse.{dense}
use Rattle.lp_model.specs.Vectors.{Vector, vector_of}
use Rattle.ray_steps.specs.declared.shift.Shift.TheVariants.{Push}
use Rattle.ray_lift.proofs.Shiftings.{set_low, set_high, weights_are}
use Rattle.ray_lift.proofs.bounds.push_row.Goals as goal

pub returns-clause-lifted : goal.returns-clause-lifted
returns-clause-lifted c =
    let h = c.in_ok-shift_columns.ensures in
    let b = c.set_bounds.ensures in
    let e = c.set_lower_side.ensures in
    weights_are _ _
    (e.lower_side ∙ ap₂ (λ (f : Vector) x. put f c.args.row x) (ap vector_of (b.lower_sides ∙ h.lower_sides)) (c.in_ok-side.ensures.value ∙ ap (λ x. x +ℚ c.args.taken.now) c.lower_side.ensures))
    (ap vector_of (e.upper_sides ∙ b.upper_sides ∙ h.upper_sides))
    (ap vector_of e.lower_bounds ∙ b.lower_bound ∙ ap (λ (f : Vector). put f c.args.column c.args.own.lower) h.lower ∙ set_low Push c.args.column (dense c.args.entries.now) c.args.taken.now c.args.own.lower (vector_of c.args.ray.now.lower_bounds) (vector_of c.args.ray.now.upper_bounds))
    (ap vector_of e.upper_bounds ∙ b.upper_bound ∙ ap (λ (f : Vector). put f c.args.column c.args.own.upper) h.upper ∙ set_high Push c.args.column (dense c.args.entries.now) c.args.taken.now c.args.own.upper (vector_of c.args.ray.now.lower_bounds) (vector_of c.args.ray.now.upper_bounds))
