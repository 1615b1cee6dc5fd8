use Rattle.std.proofs.Common.{◌∙◌, sym, []}
use Rattle.std.proofs.lemmas.List.{get_or-map, length-map}
use Rattle.lp_model.specs.Names.{names_of_columns}
use Rattle.ray_text.proofs.NameTables.{one_more}
use Rattle.ray_text.proofs.weights.column_table.Goals as goal

pub loop-id-preserved : goal.loop-id-preserved
loop-id-preserved c =
    one_more (names_of_columns c.args.columns.now) c.loop-id.table c.insert.new.self c.as_bytes.result.now c.loop-id.id c.in_ok-insert.field-0 c.requires c.loop-id.invariant
    (rw length-map c.loop-id-test.true) (c.as_bytes.ensures.bytes ∙ sym (get_or-map _ c.args.columns.now c.loop-id.id c.index-columns-id.result [] c.loop-id-test.true)) c.in_ok-insert.ensures.taken
