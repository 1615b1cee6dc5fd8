use Rattle.std.proofs.Common.{◌≡◌, ◌≢◌, true, sym, ◌∙◌, subst}
use Rattle.std.specs.Prelude.{if◌then◌else◌}
use Rattle.fractions.specs.Compare.{lt_ℚ}
use Rattle.fractions.specs.Number.{zero_ℚ}
use Rattle.row_spans.specs.declared.span.Span.{Span}
use Rattle.row_spans.specs.Spans.{span_at}
use Rattle.activity_rules.specs.Tightened.{is_below}
use Rattle.activity_rules.proofs.Slackness.{quiet_not_tight}
use Rattle.activity_rules.proofs.tightened_bounds.is_tight_at.Goals as goal

pub returns-then-is_quiet : goal.returns-then-is_quiet
returns-then-is_quiet c =
    let s = span_at c.args.sums.now c.args.place in
    sym (quiet_not_tight c.args.sides.now c.args.sums.now s c.args.quiet (subst (λ (r : Span). r.value ≢ zero_ℚ) c.span_of-span.ensures.value c.span_of-span.ensures.some) c.requires.quiet c.args.side
    (subst (λ (r : Span). (if is_below c.args.side (lt_ℚ zero_ℚ r.value) then c.args.quiet.lower else c.args.quiet.upper) ≡ true) c.span_of-span.ensures.value (sym c.is_quiet.ensures ∙ c.if-is_quiet.true)))
