use Rattle.std.proofs.Common.{refl, ap, ◌∙◌}
use Rattle.lp_model.specs.Vectors.{vector_of}
use Rattle.fractions.specs.Total.{put}
use Rattle.ray_starts.proofs.Placing.{placed_none, placed_more, placed_all}
use Rattle.ray_starts.proofs.Weighed.{no_lower_weight, no_upper_weight}
use Rattle.ray_starts.proofs.columns.weigh_columns.Goals as goal

pub loop-term-init : goal.loop-term-init
loop-term-init c = record {
  lower_size = refl;
  upper_size = c.requires.columns;
  lower = placed_none _ _ _ _ c.requires.entries c.requires.no_lower;
  upper = placed_none _ _ _ _ c.requires.entries c.requires.no_upper;
  lower_sides = refl;
  upper_sides = refl;
}

pub loop-term-preserved : goal.loop-term-preserved
loop-term-preserved c =
    let e = c.set_bounds.ensures in
    let h = c.loop-term.invariant in
    record {
      lower_size = e.lower_size ∙ h.lower_size;
      upper_size = e.upper_size ∙ h.upper_size;
      lower = placed_more _ _ _ _ _ _ _ _ (no_lower_weight c.args.extreme) c.in-Some.ensures.cases.0 (e.lower_bound ∙ ap (λ x. put (vector_of c.loop-term.ray.lower_bounds) c.in-Some.term.now.id x) c.weights_at-lower.ensures.lower) h.lower;
      upper = placed_more _ _ _ _ _ _ _ _ (no_upper_weight c.args.extreme) c.in-Some.ensures.cases.0 (e.upper_bound ∙ ap (λ x. put (vector_of c.loop-term.ray.upper_bounds) c.in-Some.term.now.id x) c.weights_at-lower.ensures.upper) h.upper;
      lower_sides = e.lower_sides ∙ h.lower_sides;
      upper_sides = e.upper_sides ∙ h.upper_sides;
    }

pub returns-clause-lower : goal.returns-clause-lower
returns-clause-lower c = placed_all _ _ _ _ _ (no_lower_weight c.args.extreme) c.in_default.ensures.cases c.loop-term.invariant.lower

pub returns-clause-upper : goal.returns-clause-upper
returns-clause-upper c = placed_all _ _ _ _ _ (no_upper_weight c.args.extreme) c.in_default.ensures.cases c.loop-term.invariant.upper
