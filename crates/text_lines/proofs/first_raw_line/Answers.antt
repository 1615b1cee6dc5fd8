use Rattle.std.proofs.Common.{◌∙◌, ap}
use Rattle.text_lines.specs.Lines.{raw_lines_of}
use Rattle.text_lines.proofs.LineLaws.{line_first, one_line}
use Rattle.text_lines.proofs.first_raw_line.Goals as goal

pub returns-in-Some-clause-first : goal.returns-in-Some-clause-first
returns-in-Some-clause-first c =
    ap raw_lines_of c.in-Some.ensures.whole ∙ line_first (λ part. part) c.in-Some.parts.0.now c.in-Some.parts.1.now c.in-Some.ensures.first

pub returns-in-None-clause-first : goal.returns-in-None-clause-first
returns-in-None-clause-first c = one_line (λ part. part) c.args.text.now c.requires c.in-None.ensures.none
