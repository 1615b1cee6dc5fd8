use Rattle.ray_text.specs.Given.{of_rows, of_columns}
use Rattle.ray_text.proofs.Places.{lower_held, upper_held, ray_same}
use Rattle.ray_text.proofs.reading.Reading.ray.Goals as goal

pub returns : goal.returns
returns c = λ rows columns before held.
    ray_same _ _ _ _ _ _ _ _ _ c.new.ensures
    (lower_held rows (of_rows before) c.args.self.now.rows.weights.items _ held.rows_held.weights c.in_ok-rows.ensures.lower)
    (upper_held rows (of_rows before) c.args.self.now.rows.weights.items _ held.rows_held.weights c.in_ok-rows.ensures.upper)
    (lower_held columns (of_columns before) c.args.self.now.columns.weights.items _ held.columns_held.weights c.in_ok-columns.ensures.lower)
    (upper_held columns (of_columns before) c.args.self.now.columns.weights.items _ held.columns_held.weights c.in_ok-columns.ensures.upper)
