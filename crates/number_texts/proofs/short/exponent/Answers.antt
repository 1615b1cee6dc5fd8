use Rattle.std.proofs.Common.{sym, ◌∙◌}
use Rattle.number_texts.proofs.ShortLaws.{no_exponent, some_exponent}
use Rattle.number_texts.proofs.short.exponent.Goals as goal

pub returns-then-is_empty : goal.returns-then-is_empty
returns-then-is_empty c = no_exponent _ (sym c.is_empty.ensures ∙ c.if-is_empty.true)

pub returns : goal.returns
returns c =
    let l = c.in_ok-behind_letter.ensures in
    some_exponent _ _ _ _ _ _ l.some l.letter l.rest c.sign-below.ensures.minus c.sign-below.ensures.rest c.in_ok-size.ensures.value (sym c.is_empty-else-is_empty-2.ensures ∙ c.if-not-is_empty.false) (sym c.is_empty-2.ensures ∙ c.if-is_empty-2.false)
