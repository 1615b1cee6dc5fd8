use Rattle.std.proofs.Common.{◌∷◌, ◌∙◌, refl, arith}
use Rattle.point_text.specs.Holding.{held}
use Rattle.point_text.specs.PairText.{silent}
use Rattle.point_text.specs.SolutionLines.{line_of, text_line}
use Rattle.point_text.proofs.Going.{go_more, go_fail, took_line, took_fault}
use Rattle.point_text.proofs.Silence.{silent-length, holds_silent}
use Rattle.point_text.proofs.reading.take_lines.Goals as goal

pub loop-rest-init : goal.loop-rest-init
loop-rest-init g c = record {
  few = omega arith;
  len = c.requires.len;
  table = refl;
  going = (
    silent c.args.lines_before,
    record {
      holds = holds_silent g.T.Textual.texts.reading c.args.lines_before (held g.T.Exact.number c.args.values.now) c.requires.holds;
      count = silent-length c.args.lines_before;
      fault = refl;
      lines = refl;
    },
  );
}

pub loop-rest-preserved : goal.loop-rest-preserved
loop-rest-preserved g c =
    let r = g.T.Textual.texts.reading in
    let names = c.args.values.now.table in
    let line = c.first_line.result.0.now in
    let new = held g.T.Exact.number c.take_line.new.self in
    let before = c.loop-rest.invariant.going.0 in
    let go = c.loop-rest.invariant.going.1 in
    let taken = took_line r names c.loop-rest.values.table before (text_line c.in_ok-said.said) (line_of line) c.in_ok-kind.field-0 c.in_default.field-0 new
    c.loop-rest.invariant.table c.in_ok-said.ensures c.in_default.is (c.in_ok-kind.ensures.took before go.holds) in
    record {
      few = omega (arith, c.loop-rest.invariant.few, c.first_line.ensures.shorter);
      len = c.take_line.ensures.len;
      table = c.take_line.ensures.table ∙ c.loop-rest.invariant.table;
      going = (
        line_of line ∷ before,
        go_more r names (silent c.args.lines_before) c.args.text.now c.loop-rest.rest.now c.first_line.result.1.now line c.loop-rest.number (held g.T.Exact.number c.loop-rest.values) new before
            c.first_line.ensures.first taken go,
      );
    }

pub returns-in-Err-clause-took : goal.returns-in-Err-clause-took
returns-in-Err-clause-took g c =
    let r = g.T.Textual.texts.reading in
    let names = c.args.values.now.table in
    let line = c.first_line.result.0.now in
    let before = c.loop-rest.invariant.going.0 in
    let go = c.loop-rest.invariant.going.1 in
    go_fail r names (silent c.args.lines_before) c.args.text.now c.loop-rest.rest.now c.first_line.result.1.now line c.loop-rest.number (held g.T.Exact.number c.loop-rest.values) before c.in-Err.kind
    c.first_line.ensures.first
    (took_fault r names c.loop-rest.values.table before (text_line c.in_ok-said.said) (line_of line) c.in_ok-kind.field-0 c.in-Err.kind (held g.T.Exact.number c.take_line.new.self)
    c.loop-rest.invariant.table c.in_ok-said.ensures c.in-Err.is (c.in_ok-kind.ensures.took before go.holds)) go
