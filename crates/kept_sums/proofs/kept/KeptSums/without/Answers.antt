use Rattle.kept_sums.proofs.Crossed.{uncounted}
use Rattle.kept_sums.proofs.kept.KeptSums.without.Goals as goal

pub returns-clause-value : goal.returns-clause-value
returns-clause-value c a b h = record {
  least = c.in_ok-least.ensures.value a b h.least;
  greatest = c.in_ok-greatest.ensures.value a b h.greatest;
  crossed = uncounted a b c.args.span.now c.args.self.now.crossed c.in_ok-crossed.crossed c.crossed_in.result c.crossed_in.ensures h.crossed c.in_ok-crossed.ensures.0 c.in_ok-crossed.ensures.1;
}
