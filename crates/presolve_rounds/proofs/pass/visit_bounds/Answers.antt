use Rattle.std.proofs.Common.{◌≡◌, [], sym, ◌∙◌}
use Rattle.presolve_model.specs.Ledger.{Ledger}
use Rattle.presolve_rounds.proofs.RowBounds.{all_stale_bounds, bounds_alike, bounds_fresh, bounds_passed, none_tight, tight}
use Rattle.presolve_rounds.proofs.pass.visit_bounds.Goals as goal

pub returns-then-not-may_be_tightened : goal.returns-then-not-may_be_tightened
returns-then-not-may_be_tightened c =
    let b : Ledger = c.args.book.now in
    let none : tight b c.args.row ≡ [] = sym (λ t. tight (record b { problem = c.problem.ensures t }) c.args.row) ∙ c.may_be_tightened.ensures.none c.if-not-may_be_tightened.true in
    none_tight c.args.walk.now.frozen.now.value c.args.watch.now b c.args.row c.requires.going none

pub returns-then-not-is_row_fresh : goal.returns-then-not-is_row_fresh
returns-then-not-is_row_fresh c =
    let a : Ledger = c.args.walk.now.frozen.now.value in
    let b : Ledger = c.args.book.now in
    all_stale_bounds a c.args.watch.now b c.args.row c.requires.going (c.is_row_fresh.ensures.stale c.if-not-is_row_fresh.true)

pub meet_bounds-requires-clause-alike : goal.meet_bounds-requires-clause-alike
meet_bounds-requires-clause-alike c =
    let b : Ledger = c.args.book.now in
    bounds_alike b c.args.row c.in_ok-bounds.bounds (c.in_ok-bounds.ensures ∙ (λ t. tight (record b { problem = c.problem-2.ensures t }) c.args.row))

pub meet_bounds-requires-clause-fresh : goal.meet_bounds-requires-clause-fresh
meet_bounds-requires-clause-fresh c =
    let a : Ledger = c.args.walk.now.frozen.now.value in
    let b : Ledger = c.args.book.now in
    bounds_fresh a b c.args.row c.in_ok-bounds.bounds (c.is_row_fresh.ensures.fresh c.if-not-is_row_fresh.false)

pub returns : goal.returns
returns c =
    let b : Ledger = c.args.book.now in
    bounds_passed c.args.walk.now.frozen.now.value c.args.watch.now b c.args.row c.requires.going c.in_ok-bounds.bounds c.meet_bounds.new.watch c.meet_bounds.new.book
    (c.in_ok-bounds.ensures ∙ (λ t. tight (record b { problem = c.problem-2.ensures t }) c.args.row)) c.in_ok-meet_bounds.ensures
