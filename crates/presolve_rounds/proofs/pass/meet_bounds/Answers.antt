use Rattle.std.proofs.Common.{◌≡◌, true, false, sym, ◌∙◌}
use Rattle.presolve_model.specs.Ledger.{Ledger}
use Rattle.presolve_model.specs.Tallies.{open_on}
use Rattle.presolve_rounds.specs.Walking.{open_bounds}
use Rattle.presolve_rounds.proofs.RowBounds.{all_met, at_first, closed_left, open_left}
use Rattle.presolve_rounds.proofs.Sharing.{left_next, left_stopped}
use Rattle.presolve_rounds.proofs.pass.meet_bounds.Goals as goal

pub meet-requires-clause-enabled : goal.meet-requires-clause-enabled
meet-requires-clause-enabled c =
    let b : Ledger = c.args.book.now in
    let open_now : open_on c.loop-column.book.tally c.in-Some.column c.in-Some.side ≡ true = sym (λ t. open_on (c.tally.ensures t) c.in-Some.column c.in-Some.side) ∙ sym c.is_open.ensures ∙ c.if-is_open.true in
    (open_left c.args.walk.now.frozen.now.value (open_bounds (open_on b.tally) c.args.row c.args.bounds) c.args.watch.now b c.args.row c.loop-column.bounds c.next.new.self c.loop-column.watch c.loop-column.book c.in-Some.column c.in-Some.side c.loop-column.invariant c.in-Some.ensures.some open_now).alike.enabled _
    (at_first _ _)

pub meet-requires-clause-fresh : goal.meet-requires-clause-fresh
meet-requires-clause-fresh c =
    let b : Ledger = c.args.book.now in
    let open_now : open_on c.loop-column.book.tally c.in-Some.column c.in-Some.side ≡ true = sym (λ t. open_on (c.tally.ensures t) c.in-Some.column c.in-Some.side) ∙ sym c.is_open.ensures ∙ c.if-is_open.true in
    (open_left c.args.walk.now.frozen.now.value (open_bounds (open_on b.tally) c.args.row c.args.bounds) c.args.watch.now b c.args.row c.loop-column.bounds c.next.new.self c.loop-column.watch c.loop-column.book c.in-Some.column c.in-Some.side c.loop-column.invariant c.in-Some.ensures.some open_now).fresh _
    (at_first _ _)

pub returns-then-branch : goal.returns-then-branch
returns-then-branch c =
    let b : Ledger = c.args.book.now in
    let open_now : open_on c.loop-column.book.tally c.in-Some.column c.in-Some.side ≡ true = sym (λ t. open_on (c.tally.ensures t) c.in-Some.column c.in-Some.side) ∙ sym c.is_open.ensures ∙ c.if-is_open.true in
    left_stopped c.args.walk.now.frozen.now.value (open_bounds (open_on b.tally) c.args.row c.args.bounds) c.args.watch.now b _ _ c.loop-column.watch c.meet.new.watch c.loop-column.book c.meet.new.book
    (open_left c.args.walk.now.frozen.now.value (open_bounds (open_on b.tally) c.args.row c.args.bounds) c.args.watch.now b c.args.row c.loop-column.bounds c.next.new.self c.loop-column.watch c.loop-column.book c.in-Some.column c.in-Some.side c.loop-column.invariant c.in-Some.ensures.some open_now)
    c.in_ok-meet.ensures.passed _ c.in_ok-meet.ensures.met c.if-branch.true

pub loop-column-preserved-else-branch : goal.loop-column-preserved-else-branch
loop-column-preserved-else-branch c =
    let b : Ledger = c.args.book.now in
    let open_now : open_on c.loop-column.book.tally c.in-Some.column c.in-Some.side ≡ true = sym (λ t. open_on (c.tally.ensures t) c.in-Some.column c.in-Some.side) ∙ sym c.is_open.ensures ∙ c.if-is_open.true in
    left_next c.args.walk.now.frozen.now.value (open_bounds (open_on b.tally) c.args.row c.args.bounds) c.args.watch.now b _ _ c.loop-column.watch c.meet.new.watch c.loop-column.book c.meet.new.book
    (open_left c.args.walk.now.frozen.now.value (open_bounds (open_on b.tally) c.args.row c.args.bounds) c.args.watch.now b c.args.row c.loop-column.bounds c.next.new.self c.loop-column.watch c.loop-column.book c.in-Some.column c.in-Some.side c.loop-column.invariant c.in-Some.ensures.some open_now)
    c.in_ok-meet.ensures.passed _ c.in_ok-meet.ensures.met c.if-branch.false

pub loop-column-preserved : goal.loop-column-preserved
loop-column-preserved c =
    let b : Ledger = c.args.book.now in
    let closed_now : open_on c.loop-column.book.tally c.in-Some.column c.in-Some.side ≡ false = sym (λ t. open_on (c.tally.ensures t) c.in-Some.column c.in-Some.side) ∙ sym c.is_open.ensures ∙ c.if-is_open.false in
    closed_left c.args.walk.now.frozen.now.value (open_bounds (open_on b.tally) c.args.row c.args.bounds) c.args.watch.now b c.args.row c.loop-column.bounds c.next.new.self c.loop-column.watch c.loop-column.book c.in-Some.column c.in-Some.side c.loop-column.invariant c.in-Some.ensures.some closed_now

pub returns : goal.returns
returns c = all_met c.args.walk.now.frozen.now.value (open_bounds (open_on c.args.book.now.tally) c.args.row c.args.bounds) c.args.watch.now c.args.book.now c.args.row c.loop-column.bounds c.loop-column.watch c.loop-column.book c.loop-column.invariant c.in_default.ensures.none.0
