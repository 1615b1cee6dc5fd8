use Rattle.std.proofs.Common.{◌∙◌, sym}
use Rattle.opb_tokens.specs.Texts.{text_token}
use Rattle.opb_reader.proofs.Taking.{fault_by, not_heard, place_on, shaped_on, well_heard}
use Rattle.opb_reader.proofs.reader.Reader.take.Goals as goal

pub returns-then-not-branch : goal.returns-then-not-branch
returns-then-not-branch c = λ tokens h short.
    let next = sym c.in-Some-behind.is ∙ c.behind.ensures.place in
    let ready = c.in-Some-behind.ensures.shape tokens h.shape in
    let heard = c.in_ok-hear.ensures tokens h.rows h.columns h.number ready.0 short in
    fault_by tokens (text_token c.args.token.now) c.args.self.now _ h (sym c.fault.ensures ∙ c.in_default.is) next ∙ not_heard tokens _ c.in-Some-behind.next (sym c.if-not-branch.true ∙ heard.0)

pub returns : goal.returns
returns c = λ tokens h short.
    let next = sym c.in-Some-behind.is ∙ c.behind.ensures.place in
    let ready = c.in-Some-behind.ensures.shape tokens h.shape in
    let heard = c.in_ok-hear.ensures tokens h.rows h.columns h.number ready.0 short in
    let held = heard.1 c.if-not-branch.false in
    let sound = fault_by tokens (text_token c.args.token.now) c.args.self.now _ h (sym c.fault.ensures ∙ c.in_default.is) next ∙ well_heard tokens _ c.in-Some-behind.next (sym c.if-not-branch.false ∙ heard.0) in (
      sound,
      record {
        place = place_on tokens _ c.args.self.now.place c.in-Some-behind.next h.place (sym next) sound;
        shape = shaped_on tokens _ c.args.self.now.place c.in-Some-behind.next (sym next) ready.1;
        literal = c.is_literal-self.ensures;
        number = c.number-self.ensures tokens;
        rows = held.0;
        columns = held.1;
      },
    )
