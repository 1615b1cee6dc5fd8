use Rattle.opb_reader.proofs.Walking.{line_on, line_stops, walked_few}
use Rattle.opb_reader.proofs.reader.Reader.line.Goals as goal

pub returns-in-Some-2 : goal.returns-in-Some-2
returns-in-Some-2 c = λ before h few.
    let walked = c.loop-word.invariant before h few in
    line_stops before _ c.loop-word.self c.take.new.self _ _ c.in-Some.word.now _ c.in_ok-kind.field-0 c.in-Some-2.kind c.least_fault.result c.is_literal.result walked c.in-Some.ensures.first c.read_token-token.ensures
    c.in-Some-2.is (c.in_ok-kind.ensures walked.now walked.holds (walked_few before _ _ _ walked few)) c.is_literal.ensures c.least_fault.ensures

pub loop-word-preserved : goal.loop-word-preserved
loop-word-preserved c = λ before h few.
    let walked = c.loop-word.invariant before h few in
    line_on before _ c.loop-word.self c.take.new.self _ _ c.in-Some.word.now _ c.in_ok-kind.field-0 walked c.in-Some.ensures.first c.read_token-token.ensures
    c.in_default-2.is (c.in_ok-kind.ensures walked.now walked.holds (walked_few before _ _ _ walked few))
