use Rattle.std.proofs.Common.{rules, ◌≡◌, [], ◌++◌, take}
use Rattle.problem_model.specs.Entries.{led_by}
use Rattle.entry_lines.proofs.Putting.{passed_whole, passed_below}
use Rattle.entry_lines.proofs.entries.pass.Goals as goal

pub returns-clause-put : goal.returns-clause-put
returns-clause-put c =
    let made : c.lead.new.items.items ≡ (c.args.items.now.items ++ take c.count_below-place.result c.args.left.now) ++ led_by c.args.term.now.id c.args.term.now.value [] = search rules in
    passed_whole c.args.term.now.id c.args.term.now.value c.args.items.now.items c.args.left.now c.lead.new.items.items c.past_id.result.now c.count_below-place.result c.requires
    (c.count_below-place.ensures.place c.args.term.now.value) (c.past_id.ensures c.args.term.now.value) made

pub returns-clause-below : goal.returns-clause-below
returns-clause-below c =
    let made : c.lead.new.items.items ≡ (c.args.items.now.items ++ take c.count_below-place.result c.args.left.now) ++ led_by c.args.term.now.id c.args.term.now.value [] = search rules in
    passed_below c.args.term.now.id c.args.term.now.value c.args.items.now.items (take c.count_below-place.result c.args.left.now) c.lead.new.items.items c.requires c.count_below-place.ensures.below made
