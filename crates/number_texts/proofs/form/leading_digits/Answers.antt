use Rattle.std.proofs.Common.{sym, ◌∙◌}
use Rattle.number_texts.proofs.ShortLaws.{leading_past}
use Rattle.number_texts.proofs.form.leading_digits.Goals as goal

pub returns-then-number-ge1000000000000000000-clause-none :
    goal.returns-then-number-ge1000000000000000000-clause-none
returns-then-number-ge1000000000000000000-clause-none c =
    leading_past c.args.before c.loop-rest.number c.args.text.now c.loop-rest.rest.now c.loop-rest.invariant.value c.in-len1-up.len_at_least (sym c.is_ascii_digit.ensures.value ∙ c.if-not-is_ascii_digit.false) c.if-number-ge1000000000000000000.true
