use Rattle.std.proofs.Common.{◌<◌, [], length, refl, sym, ◌∙◌, subst, arith}
use Rattle.std.proofs.lemmas.List.{get_or_default}
use Rattle.tableau_rows.specs.Places.{ReplacesAt, ReplaceFitsAt, IsReplaceable}
use Rattle.tableau_rows.proofs.Sweeps.{Both, Swept, swept_none, swept_more}
use Rattle.tableau_rows.proofs.rows.replace_rows.Goals as goal

pub loop-row-init : goal.loop-row-init
loop-row-init c = subst (λ rows. Swept (Both (ReplacesAt c.args.b c.args.e c.args.line.now) (ReplaceFitsAt c.args.b c.args.e c.args.line.now)) [] 0 c.args.rows.now.items rows) (sym c.deref_mut-row-items.ensures.value)
    (swept_none (Both (ReplacesAt c.args.b c.args.e c.args.line.now) (ReplaceFitsAt c.args.b c.args.e c.args.line.now)) [] c.args.rows.now.items)

pub replace-requires-clause-row : goal.replace-requires-clause-row
replace-requires-clause-row c =
    let l : c.loop-row.row-index < length c.args.rows.now.items = subst (λ rows. c.loop-row.row-index < length rows) c.deref_mut-row-items.ensures.value c.loop-row-test.true in
    let m : c.loop-row.row-index < length c.loop-row.row-items = omega (arith, c.loop-row.invariant.long) in
    subst (λ row. IsReplaceable (length c.args.line.now) c.args.b c.args.e row)
    (sym (get_or_default c.loop-row.row-items c.loop-row.row-index c.row-item.result [] m ∙ c.loop-row.invariant.left c.loop-row.row-index (omega arith)))
    (c.requires.rows c.loop-row.row-index l)

pub loop-row-preserved : goal.loop-row-preserved
loop-row-preserved c =
    swept_more (ReplacesAt c.args.b c.args.e c.args.line.now) (ReplaceFitsAt c.args.b c.args.e c.args.line.now) [] c.row-item.result c.replace.new.self c.loop-row.row-index c.args.rows.now.items c.loop-row.row-items
    (subst (λ rows. c.loop-row.row-index < length rows) c.deref_mut-row-items.ensures.value c.loop-row-test.true) (c.in_ok-replace.ensures.value, c.in_ok-replace.ensures.long) (c.in_ok-replace.ensures.fits.0 refl) c.loop-row.invariant
