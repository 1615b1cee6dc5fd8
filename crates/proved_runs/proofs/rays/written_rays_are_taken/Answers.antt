use Rattle.proved_runs.proofs.Taken.{rays_taken}
use Rattle.proved_runs.proofs.rays.written_rays_are_taken.Goals as goal

pub returns : goal.returns
returns c = rays_taken
    (record { starts = c.written_ray_is_read.ensures.starts; fault = c.written_ray_is_read.ensures.fault; ray = c.written_ray_is_read.ensures.ray })
    (record {
      row = c.no_is_no_ray.ensures.row;
      column = c.no_is_no_ray.ensures.column;
      total = c.no_is_no_ray.ensures.total;
      past_column = c.past_has_no_room.ensures.column;
      past_total = c.past_has_no_room.ensures.total;
    })
