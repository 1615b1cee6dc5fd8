use Rattle.std.proofs.Common.{◌≡◌, Bool, true, false, sym}
use Rattle.std.specs.Prelude.{if◌then◌else◌}
use Rattle.undo_records.specs.declared.side.Side.TheVariants.{Lower, Upper}
use Rattle.row_spans.specs.Spans.{span_at}
use Rattle.activity_rules.proofs.Slackness.{quiet_not_tight}
use Rattle.activity_rules.proofs.Tightened.{none_zero_at}
use Rattle.activity_rules.proofs.tightened_bounds.better_at.Goals as goal

both : (b l u : Bool) → l ≡ true → u ≡ true → (if b then l else u) ≡ true
both true l u h g = h
both false l u h g = g

pub is_tight_at-requires-clause-quiet : goal.is_tight_at-requires-clause-quiet
is_tight_at-requires-clause-quiet c = record { lower = c.quiet_sides-quiet.ensures.lower; upper = c.quiet_sides-quiet.ensures.upper }

pub returns-then-quiet-2-clause-lower : goal.returns-then-quiet-2-clause-lower
returns-then-quiet-2-clause-lower c =
    let q = c.quiet_sides-quiet.result in
    sym (quiet_not_tight c.args.sides.now c.args.sums.now (span_at c.args.sums.now c.args.place) q (none_zero_at 0 c.args.sums.now c.args.place c.quiet_sides-quiet.ensures.spans c.requires)
    (record { lower = c.quiet_sides-quiet.ensures.lower; upper = c.quiet_sides-quiet.ensures.upper }) Lower (both _ q.lower q.upper c.if-quiet.true c.if-quiet-2.true))

pub returns-then-quiet-2-clause-upper : goal.returns-then-quiet-2-clause-upper
returns-then-quiet-2-clause-upper c =
    let q = c.quiet_sides-quiet.result in
    sym (quiet_not_tight c.args.sides.now c.args.sums.now (span_at c.args.sums.now c.args.place) q (none_zero_at 0 c.args.sums.now c.args.place c.quiet_sides-quiet.ensures.spans c.requires)
    (record { lower = c.quiet_sides-quiet.ensures.lower; upper = c.quiet_sides-quiet.ensures.upper }) Upper (both _ q.lower q.upper c.if-quiet.true c.if-quiet-2.true))
