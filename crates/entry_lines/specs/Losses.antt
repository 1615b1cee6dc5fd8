-- Lines that lose an entry.
use Rattle.std.specs.Prelude.{pred, List}
use Rattle.lp_model.specs.declared.terms.Term.{Term}
use Rattle.problem_model.specs.declared.line.Line.{Line}
use Rattle.problem_model.specs.Edits.{thinned}
use Rattle.problem_model.specs.Matrices.{no_line}
use Rattle.entry_lines.specs.Places.{edited_at}

-- a line of which one live entry is no longer live, where the others are as they are then
abbrev pub counted_out : List Line → Line → Line
counted_out others l = thinned others (record l { live_entries = pred l.live_entries })

-- each line that the terms name loses one
abbrev pub counted_out_at : List Line → List Line → List Term → List Line
counted_out_at others lines ts = edited_at no_line (λ t. counted_out others) lines ts
