use Rattle.std.proofs.Common.{◌∙◌, sym}
use Rattle.parallel_column_rules.specs.Walks.{after_first}
use Rattle.parallel_column_rules.proofs.EntryWalks.{begins, goes_on, shorter, starts}
use Rattle.parallel_column_rules.proofs.walks.are_times.Goals as goal

pub loop-rest-init : goal.loop-rest-init
loop-rest-init c = let lines = c.args.lines.now in let xs = c.from_live-rest.result.now in let ys = c.from_live-rest_of_others.result.now in record {
  same = starts lines c.args.factor.now c.args.entries.now c.args.others.now xs ys c.from_live-rest.ensures c.from_live-rest_of_others.ensures;
  first = begins lines c.args.entries.now xs c.from_live-rest.ensures;
  second = begins lines c.args.others.now ys c.from_live-rest_of_others.ensures;
}

pub loop-rest-smaller : goal.loop-rest-smaller
loop-rest-smaller c = shorter c.args.lines.now c.args.factor.now c.loop-rest.rest.now c.loop-rest.rest_of_others.now c.next_live-rest.result.now (sym c.begin_alike.ensures ∙ c.if-not-begin_alike.false) c.next_live-rest.ensures

pub loop-rest-preserved : goal.loop-rest-preserved
loop-rest-preserved c =
    let lines = c.args.lines.now in let i = c.loop-rest.invariant in
    let ts = c.loop-rest.rest.now in let us = c.loop-rest.rest_of_others.now in
    let xs = c.next_live-rest.result.now in let ys = c.next_live-rest_of_others.result.now in
    record {
      same = goes_on lines c.args.factor.now ts us xs ys i.first i.second (sym c.begin_alike.ensures ∙ c.if-not-begin_alike.false) c.next_live-rest.ensures c.next_live-rest_of_others.ensures ∙ i.same;
      first = begins lines (after_first ts) xs c.next_live-rest.ensures;
      second = begins lines (after_first us) ys c.next_live-rest_of_others.ensures;
    }
