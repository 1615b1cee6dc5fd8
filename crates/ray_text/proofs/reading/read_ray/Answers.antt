use Rattle.lp_model.specs.Names.{names_of_rows, names_of_columns}
use Rattle.ray_text.specs.Reading.{said}
use Rattle.ray_text.proofs.Places.{told, one_each}
use Rattle.ray_text.proofs.reading.read_ray.Goals as goal

pub returns-in-Ok-clause-read : goal.returns-in-Ok-clause-read
returns-in-Ok-clause-read c =
    let rows = names_of_rows c.args.program.now.rows in
    let columns = names_of_columns c.args.program.now.columns in
    let took = c.in-Ok.ensures rows columns c.names_differ.ensures.rows c.names_differ.ensures.columns c.in_ok-reading.ensures in
    (took.0, c.in_ok-ray-in-Ok.ensures rows columns (said c.args.bytes.now) took.1)

pub returns-in-Ok-clause-sized : goal.returns-in-Ok-clause-sized
returns-in-Ok-clause-sized c =
    let rows = names_of_rows c.args.program.now.rows in
    let columns = names_of_columns c.args.program.now.columns in
    let took = c.in-Ok.ensures rows columns c.names_differ.ensures.rows c.names_differ.ensures.columns c.in_ok-reading.ensures in
    one_each c.args.program.now c.args.bytes.now c.in_ok-ray-in-Ok.field-0 (c.in_ok-ray-in-Ok.ensures rows columns (said c.args.bytes.now) took.1)

pub returns-clause-read : goal.returns-clause-read
returns-clause-read c =
    let rows = names_of_rows c.args.program.now.rows in
    let columns = names_of_columns c.args.program.now.columns in
    let took = c.in-Err.ensures rows columns c.names_differ.ensures.rows c.names_differ.ensures.columns c.in_ok-reading.ensures in
    told rows columns c.args.bytes.now c.take_lines.new.reading c.in-Err.error took
