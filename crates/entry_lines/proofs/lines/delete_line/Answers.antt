use Rattle.std.proofs.Common.{◌∙◌, List, sym, ap, length}
use Rattle.problem_model.specs.declared.line.Line.{Line}
use Rattle.problem_model.specs.Edits.{lines_losing}
use Rattle.entry_lines.proofs.Counting.{others_lose}
use Rattle.entry_lines.proofs.lines.delete_line.Goals as goal

pub returns-clause-others : goal.returns-clause-others
returns-clause-others c =
    others_lose c.args.others.now.len c.as_slice.result.now c.args.lines.now.items c.args.others.now.items c.as_mut_slice.result.now c.count_out_at.new.lines c.args.k c.index_mut.result.now c.index_mut.result.now c.as_slice-2.result.now
    c.requires.matrix c.requires.live c.index_mut.ensures.value (c.as_slice-2.ensures ∙ c.delete-entries.ensures.entries) c.as_mut_slice.ensures.value
    (sym (ap length c.as_mut_slice.ensures.value) ∙ c.as_mut_slice.ensures.len) c.count_out_at.ensures
    ∙ ap (λ (ls : List Line). lines_losing ls c.args.others.now.items c.args.k) c.as_slice.ensures.value
