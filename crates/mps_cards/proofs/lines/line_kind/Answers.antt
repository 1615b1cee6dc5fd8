use Rattle.std.proofs.Common.{◌∙◌, sym}
use Rattle.mps_cards.proofs.LineKinds.{bare-kind, card-kind}
use Rattle.mps_cards.proofs.lines.line_kind.Goals as goal

pub returns-then-is_bare : goal.returns-then-is_bare
returns-then-is_bare c = sym (bare-kind c.args.line.now (sym c.is_bare.ensures ∙ c.if-is_bare.true))

pub returns-then-is_blank : goal.returns-then-is_blank
returns-then-is_blank c = sym (card-kind c.args.line.now (sym c.is_bare.ensures ∙ c.if-is_bare.false) (sym c.is_blank.ensures ∙ c.if-is_blank.true))
