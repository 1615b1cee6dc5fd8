use Rattle.std.proofs.Common.{◌∷◌, ◌∙◌, arith}
use Rattle.text_lines.specs.Lines.{lines_of}
use Rattle.point_text.specs.SolutionLines.{line_of, text_line}
use Rattle.point_text.specs.Holding.{held}
use Rattle.point_text.proofs.Going.{took_line, took_fault}
use Rattle.point_text.proofs.PairGoing.{columns_more, columns_fail, said_of}
use Rattle.point_text.proofs.pair_reading.take_column_lines.Goals as goal

pub loop-rest-preserved : goal.loop-rest-preserved
loop-rest-preserved g c =
    let r = g.T.Textual.texts.reading in
    let names = c.args.values.now.table in
    let line = c.first_line.result.0.now in
    let new = held g.T.Exact.number c.take_line.new.self in
    let before = c.loop-rest.invariant.going.0 in
    let go = c.loop-rest.invariant.going.1 in
    let says = said_of line c.in_ok-said.field-0 c.in-Some.said c.in-Some.is c.in_ok-said.ensures in
    let taken = took_line r names c.loop-rest.values.table before (text_line c.in-Some.said) (line_of line) c.in_ok-kind.field-0 c.in_default-2.field-0 new
    c.loop-rest.invariant.table says.1 c.in_default-2.is (c.in_ok-kind.ensures.took before go.holds) in
    record {
      few = omega (arith, c.loop-rest.invariant.few, c.first_line.ensures.shorter);
      len = c.take_line.ensures.len;
      table = c.take_line.ensures.table ∙ c.loop-rest.invariant.table;
      going = (
        line_of line ∷ before,
        columns_more r names (lines_of c.args.text.now) (lines_of c.loop-rest.rest.now) (lines_of c.first_line.result.1.now) line c.loop-rest.line_number (held g.T.Exact.number c.loop-rest.values) new before
            c.first_line.ensures.first says.0 taken.0 taken.1 go,
      );
    }

pub returns-in-Err-clause-took : goal.returns-in-Err-clause-took
returns-in-Err-clause-took g c =
    let r = g.T.Textual.texts.reading in
    let names = c.args.values.now.table in
    let line = c.first_line.result.0.now in
    let before = c.loop-rest.invariant.going.0 in
    let go = c.loop-rest.invariant.going.1 in
    let says = said_of line c.in_ok-said.field-0 c.in-Some.said c.in-Some.is c.in_ok-said.ensures in
    columns_fail r names (lines_of c.args.text.now) (lines_of c.loop-rest.rest.now) (lines_of c.first_line.result.1.now) line c.loop-rest.line_number (held g.T.Exact.number c.loop-rest.values) before c.in-Err.kind
    c.first_line.ensures.first says.0
    (took_fault r names c.loop-rest.values.table before (text_line c.in-Some.said) (line_of line) c.in_ok-kind.field-0 c.in-Err.kind (held g.T.Exact.number c.take_line.new.self)
    c.loop-rest.invariant.table says.1 c.in-Err.is (c.in_ok-kind.ensures.took before go.holds)) go
