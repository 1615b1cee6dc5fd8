use Rattle.std.proofs.Common.{◌∙◌, sym, ap}
use Rattle.fractions.specs.Number.{Number}
use Rattle.number_texts.specs.Views.{terms_seen}
use Rattle.number_texts.specs.Read.{in_range}
use Rattle.number_texts.proofs.ReadingLaws.{read-past, read-by}
use Rattle.number_texts.proofs.RangeLaws.{in_range-past}
use Rattle.number_texts.proofs.reading.value_of.Goals as goal

pub returns-in_default : goal.returns-in_default
returns-in_default c = sym (read-past c.args.numbers c.args.negative (terms_seen c.args.parts.now) c.in_default.ensures.value)

pub returns-in-Ok : goal.returns-in-Ok
returns-in-Ok c =
    let f = c.in-Some.ensures.value in
    c.taken.ensures ∙ ap (λ (q : Number). in_range c.args.numbers q) c.in-Ok.ensures.1 ∙ sym (read-by c.args.numbers c.args.negative (terms_seen c.args.parts.now) c.in-Some.mantissa f.1 f.0)

pub returns-in-Err : goal.returns-in-Err
returns-in-Err c =
    let f = c.in-Some.ensures.value in
    sym (read-by c.args.numbers c.args.negative (terms_seen c.args.parts.now) c.in-Some.mantissa f.1 f.0 ∙ in_range-past c.args.numbers _ c.in-Err.ensures)
