use Rattle.std.proofs.Common.{[], ◌∙◌, sym}
use Rattle.std.specs.Prelude.{codes}
use Rattle.std.proofs.lemmas.List.{get_or-map, length-map}
use Rattle.lp_model.specs.Names.{names_of_columns}
use Rattle.ray_text.proofs.WritingSteps.{one_more}
use Rattle.ray_text.proofs.writing.push_columns.Goals as goal

pub loop-id-preserved : goal.loop-id-preserved
loop-id-preserved c =
    one_more (codes "column") (names_of_columns c.args.columns.now) c.args.lower.now c.args.upper.now c.loop-id.id c.loop-id.out.items c.push_weights.new.out.items _ c.as_bytes.result.now c.index-lower-id.result c.index-upper-id.result
    (rw length-map c.loop-id-test.true) (rw length-map c.requires.lower) (rw length-map c.requires.upper)
    (c.as_bytes.ensures.bytes ∙ sym (get_or-map _ c.args.columns.now c.loop-id.id c.index-columns-id.result [] c.loop-id-test.true)) c.index-lower-id.is c.index-upper-id.is
    c.in_ok-push_weights.ensures c.loop-id.invariant
