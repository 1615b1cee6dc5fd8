use Rattle.std.proofs.Common.{ℕ, IfSome, subst}
use Rattle.row_spans.specs.declared.span.Extreme.TheVariants.{Least, Greatest}
use Rattle.row_spans.specs.Spans.{end_at}
use Rattle.kept_sums.specs.KeptSides.{EndIs}
use Rattle.kept_sums.proofs.kept_sides.quiet_sides.Goals as goal

pub is_quiet-requires-clause-least : goal.is_quiet-requires-clause-least
is_quiet-requires-clause-least c = subst (λ (d : ℕ). IfSome c.ends_over-ends.result (λ e. EndIs d (end_at Least c.args.span.now) e.least)) c.if-least-greatest.false c.ends_over-ends.ensures.least

pub is_quiet-requires-clause-greatest : goal.is_quiet-requires-clause-greatest
is_quiet-requires-clause-greatest c = subst (λ (d : ℕ). IfSome c.ends_over-ends.result (λ e. EndIs d (end_at Greatest c.args.span.now) e.greatest)) c.if-least-greatest.false c.ends_over-ends.ensures.greatest
