use Rattle.std.proofs.Common.{refl, ap, subst, length}
use Rattle.opb_text.specs.Tokens.{AtLeast, Equal, Minimum, Token}
use Rattle.opb_text.specs.Statements.{open_row, row_kinds}
use Rattle.opb_tokens.specs.Texts.{text_token}
use Rattle.opb_reader.specs.Holding.{IsSilent}
use Rattle.opb_reader.specs.Shapes.{IsReady}
use Rattle.opb_reader.proofs.Ending.{heard_as, heard_end}
use Rattle.opb_reader.proofs.Tables.{at_least_comes, equal_comes, minimum_comes}
use Rattle.opb_reader.proofs.reader.Reader.hear.Goals as goal

pub returns-in-End : goal.returns-in-End
returns-in-End c = λ tokens rows columns number ready short.
    let is = ap text_token c.in-End.is in
    heard_end tokens (text_token c.args.token.now) c.end.result _ _ is
    (c.end.ensures tokens rows columns number (subst (λ (t : Token). IsReady t (open_row tokens) (length (row_kinds tokens)) (IsSilent tokens)) is ready) short)

pub returns-in-Minimum : goal.returns-in-Minimum
returns-in-Minimum c = λ tokens rows columns number ready short.
    let is = ap text_token c.in-Minimum.is in
    let first = subst (λ (t : Token). IsReady t (open_row tokens) (length (row_kinds tokens)) (IsSilent tokens)) is ready in
    heard_as tokens _ Minimum c.begin_costs.new.self c.args.self.now.columns is refl (c.begin_costs.ensures tokens rows first) (minimum_comes tokens _ columns first)

pub returns-in_ok-take_relation-in-AtLeast : goal.returns-in_ok-take_relation-in-AtLeast
returns-in_ok-take_relation-in-AtLeast c = λ tokens rows columns number ready short.
    let is = ap text_token c.in-AtLeast.is in
    let shape = subst (λ (t : Token). IsReady t (open_row tokens) (length (row_kinds tokens)) (IsSilent tokens)) is ready in
    heard_as tokens _ AtLeast _ c.args.self.now.columns is refl (c.in_ok-take_relation-in-AtLeast.ensures.at_least tokens rows shape refl) (at_least_comes tokens _ columns shape)

pub returns-in_ok-take_relation-in-Equal : goal.returns-in_ok-take_relation-in-Equal
returns-in_ok-take_relation-in-Equal c = λ tokens rows columns number ready short.
    let is = ap text_token c.in-Equal.is in
    let shape = subst (λ (t : Token). IsReady t (open_row tokens) (length (row_kinds tokens)) (IsSilent tokens)) is ready in
    heard_as tokens _ Equal _ c.args.self.now.columns is refl (c.in_ok-take_relation-in-Equal.ensures.equal tokens rows shape refl) (equal_comes tokens _ columns shape)
