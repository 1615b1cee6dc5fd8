use Rattle.std.proofs.Common.{List, sym, subst}
use Rattle.lp_model.specs.declared.terms.Term.{Term}
use Rattle.problem_model.specs.Edits.{bounds_set}
use Rattle.problem_model.specs.Sparse.{Sparse}
use Rattle.sparse_problem.specs.KeptRows.{AreBetween}
use Rattle.sparse_problem.proofs.Mending.{AreLeft, after_is, between_done, between_room, column_read, left_first, left_next, left_once, left_some, left_told, moving_first, none_left}
use Rattle.sparse_problem.proofs.kept_rows.move_in_rows.Goals as goal

pub loop-rest-init : goal.loop-rest-init
loop-rest-init c =
    let p : Sparse = c.args.parts.now in
    let e = sym (column_read p c.args.j c.columns.result.now c.index-columns-j.result c.as_slice-rest.result.now c.requires.column c.columns.ensures c.as_slice-rest.ensures) in (
      subst (λ (ts : List Term). AreBetween p (bounds_set p c.args.j c.args.lower.now c.args.upper.now) ts c.args.kept.now.items) e (moving_first p c.args.j c.is_sparse.ensures c.requires.column c.args.lower.now c.args.upper.now c.args.kept.now.items c.requires.kept),
      subst (AreLeft p c.args.j) e (left_first p c.args.j c.is_sparse.ensures),
    )

pub move_in_row-requires-clause-told : goal.move_in_row-requires-clause-told
move_in_row-requires-clause-told c =
    left_told c.args.parts.now c.args.j c.term-item.result _ (subst (AreLeft c.args.parts.now c.args.j) (sym (after_is c.term-item.result c.loop-rest.rest.now c.in-len1-up.len_at_least c.term-item.is)) c.loop-rest.invariant.1)

pub move_in_row-requires-clause-some : goal.move_in_row-requires-clause-some
move_in_row-requires-clause-some c =
    left_some c.args.parts.now c.args.j c.term-item.result _ (subst (AreLeft c.args.parts.now c.args.j) (sym (after_is c.term-item.result c.loop-rest.rest.now c.in-len1-up.len_at_least c.term-item.is)) c.loop-rest.invariant.1)

pub move_in_row-requires-clause-room : goal.move_in_row-requires-clause-room
move_in_row-requires-clause-room c = between_room c.args.parts.now (bounds_set c.args.parts.now c.args.j c.args.lower.now c.args.upper.now) c.loop-rest.rest.now c.loop-rest.kept.items c.term-item.result.id c.loop-rest.invariant.0

pub loop-rest-preserved : goal.loop-rest-preserved
loop-rest-preserved c =
    let p : Sparse = c.args.parts.now in
    let e = after_is c.term-item.result c.loop-rest.rest.now c.in-len1-up.len_at_least c.term-item.is in
    let left = subst (AreLeft p c.args.j) (sym e) c.loop-rest.invariant.1 in (
      c.move_in_row.ensures _ (left_once p c.args.j c.term-item.result _ left) (subst (λ (ts : List Term). AreBetween p (bounds_set c.args.parts.now c.args.j c.args.lower.now c.args.upper.now) ts c.loop-rest.kept.items) (sym e) c.loop-rest.invariant.0),
      left_next p c.args.j c.term-item.result _ left,
    )

pub returns : goal.returns
returns c = between_done c.args.parts.now (bounds_set c.args.parts.now c.args.j c.args.lower.now c.args.upper.now) c.loop-rest.kept.items (subst (λ (ts : List Term). AreBetween c.args.parts.now (bounds_set c.args.parts.now c.args.j c.args.lower.now c.args.upper.now) ts c.loop-rest.kept.items) (none_left c.loop-rest.rest.now c.in_default.len_below) c.loop-rest.invariant.0)
