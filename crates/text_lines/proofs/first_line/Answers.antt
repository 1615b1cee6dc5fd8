use Rattle.std.proofs.Common.{◌∷◌, List, ℕ, ◌∙◌, ap, sym}
use Rattle.text_lines.specs.Lines.{without_return, lines_of}
use Rattle.text_lines.proofs.LineLaws.{line_first, one_line}
use Rattle.text_lines.proofs.first_line.Goals as goal

pub returns-in_default-clause-first : goal.returns-in_default-clause-first
returns-in_default-clause-first c = one_line without_return c.args.text.now c.requires c.in_default.ensures.none

pub returns-clause-first : goal.returns-clause-first
returns-clause-first c =
    ap lines_of c.in-Some.ensures.whole ∙ line_first without_return c.in-Some.line.now c.in-Some.rest.now c.in-Some.ensures.first
    ∙ ap (λ (line : List ℕ). line ∷ lines_of c.in-Some.rest.now) (sym c.without_return.ensures)
