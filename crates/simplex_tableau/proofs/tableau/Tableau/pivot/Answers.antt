use Rattle.std.proofs.Common.{◌≡◌, ◌<◌, List, [], true, false, length, get_or, set, take, drop, ◌++◌, refl, sym, ap, ◌∙◌, arith, subst}
use Rattle.fractions.specs.Number.{Number}
use Rattle.lp_model.proofs.Sums.{not_so}
use Rattle.tableau_laws.specs.Tableaus.{gain, pivoted}
use Rattle.tableau_laws.specs.Room.{PivotFits}
use Rattle.simplex_tableau.specs.Data.{TableauData, shown, IsShaped}
use Rattle.tableau_rows.specs.Places.{row_of, MovesTo}
use Rattle.tableau_rows.specs.Turning.{AreTurnable, AreTurned}
use Rattle.tableau_rows.proofs.Sweeps.{err_fits}
use Rattle.simplex_tableau.proofs.Shapes.{can_turn, IsPivotOf, pivot_shown, pivot_shaped, fits_made, move_room, turn_room, Held, held, back_again, gain_is}
use Rattle.simplex_tableau.proofs.tableau.Tableau.pivot.Goals as goal

pub returns-in_err-move_to-clause-fits : goal.returns-in_err-move_to-clause-fits
returns-in_err-move_to-clause-fits c =
    let d : TableauData = record { rows = c.self.inside.rows.items; basic = c.self.inside.basic.items; prices = c.self.inside.prices.items; values = c.self.inside.values.items; spent = c.self.inside.spent } in
    let h : Held d c.args.self.now c.args.b c.args.e = held d c.args.self.now c.args.b c.args.e (length c.self.inside.line ≡ 0) c.self.view_is c.requires.usable c.self.invariant c.requires.can in
    let l : c.args.b < length d.rows = omega (arith, h.can.b_within, h.shaped.rows) in
    let g : (c.index.result.now ≡ get_or d.rows c.args.b []) × (c.in_ok-w.w ≡ gain (shown d) c.args.b c.args.e c.args.bound.now) = gain_is d c.args.b c.args.e c.args.bound.now c.in_ok-w.w c.as_slice.result.now c.index.result.now c.index.result.now l c.as_slice.ensures.value c.index.ensures c.in_ok-w.ensures.value in
    err_fits c.from_residual-in_err-move_to.result _ c.from_residual-in_err-move_to.ensures.0
    (λ f. not_so (c.in_err-move_to.ensures.fits.1 (move_room d c.args.b c.args.e c.args.bound.now c.in_ok-w.w c.as_mut_slice.result.now c.as_slice-2.result.now c.as_mut_slice.ensures.value c.as_slice-2.ensures.value g.1
    (subst (λ (x : TableauData). PivotFits (shown x) c.args.b c.args.e c.args.bound.now) (sym h.view) f))))

pub turn_rows-requires-clause-rows : goal.turn_rows-requires-clause-rows
turn_rows-requires-clause-rows c =
    let d : TableauData = record { rows = c.self.inside.rows.items; basic = c.self.inside.basic.items; prices = c.self.inside.prices.items; values = c.self.inside.values.items; spent = c.self.inside.spent } in
    let h : Held d c.args.self.now c.args.b c.args.e = held d c.args.self.now c.args.b c.args.e (length c.self.inside.line ≡ 0) c.self.view_is c.requires.usable c.self.invariant c.requires.can in
    subst (λ (ps : List Number). AreTurnable (length ps) c.args.b c.args.e d.rows ps) (sym c.as_mut_slice-2.ensures.value) (can_turn d c.args.b c.args.e h.shaped h.can)

pub returns-in_err-turn_rows-clause-fits : goal.returns-in_err-turn_rows-clause-fits
returns-in_err-turn_rows-clause-fits c =
    let d : TableauData = record { rows = c.self.inside.rows.items; basic = c.self.inside.basic.items; prices = c.self.inside.prices.items; values = c.self.inside.values.items; spent = c.self.inside.spent } in
    let h : Held d c.args.self.now c.args.b c.args.e = held d c.args.self.now c.args.b c.args.e (length c.self.inside.line ≡ 0) c.self.view_is c.requires.usable c.self.invariant c.requires.can in
    err_fits c.from_residual-in_err-turn_rows.result _ c.from_residual-in_err-turn_rows.ensures.0
    (λ f. not_so (c.in_err-turn_rows.ensures.fits.1 (turn_room d c.args.b c.args.e c.args.bound.now c.as_mut_slice-2.result.now h.shaped c.as_mut_slice-2.ensures.value
    (subst (λ (x : TableauData). PivotFits (shown x) c.args.b c.args.e c.args.bound.now) (sym h.view) f))))

pub returns-clause-fits : goal.returns-clause-fits
returns-clause-fits c =
    let d : TableauData = record { rows = c.self.inside.rows.items; basic = c.self.inside.basic.items; prices = c.self.inside.prices.items; values = c.self.inside.values.items; spent = c.self.inside.spent } in
    let h : Held d c.args.self.now c.args.b c.args.e = held d c.args.self.now c.args.b c.args.e (length c.self.inside.line ≡ 0) c.self.view_is c.requires.usable c.self.invariant c.requires.can in
    let l : c.args.b < length d.rows = omega (arith, h.can.b_within, h.shaped.rows) in
    let g : (c.index.result.now ≡ get_or d.rows c.args.b []) × (c.in_ok-w.w ≡ gain (shown d) c.args.b c.args.e c.args.bound.now) = gain_is d c.args.b c.args.e c.args.bound.now c.in_ok-w.w c.as_slice.result.now c.index.result.now c.index.result.now l c.as_slice.ensures.value c.index.ensures c.in_ok-w.ensures.value in (
      (λ done. subst (λ (x : TableauData). PivotFits (shown x) c.args.b c.args.e c.args.bound.now) h.view
          (fits_made d c.args.b c.args.e c.args.bound.now c.in_ok-w.w c.as_slice.result.now c.as_mut_slice.result.now c.as_mut_slice-2.result.now c.index.result.now c.as_slice-2.result.now h.shaped
          c.as_slice.ensures.value c.as_mut_slice.ensures.value c.as_mut_slice-2.ensures.value g.0 c.as_slice-2.ensures.value g.1
          (c.in_ok-w.ensures.fits.0 refl) (c.in_ok-move_to.ensures.fits.0 refl) (c.in_ok-turn_rows.ensures.fits.0 refl))),
      λ room. refl,
    )

pub invariant_of-self-2 : goal.invariant_of-self-2
invariant_of-self-2 c =
    let d : TableauData = record { rows = c.self.inside.rows.items; basic = c.self.inside.basic.items; prices = c.self.inside.prices.items; values = c.self.inside.values.items; spent = c.self.inside.spent } in
    let h : Held d c.args.self.now c.args.b c.args.e = held d c.args.self.now c.args.b c.args.e (length c.self.inside.line ≡ 0) c.self.view_is c.requires.usable c.self.invariant c.requires.can in
    let l : c.args.b < length d.rows = omega (arith, h.can.b_within, h.shaped.rows) in
    let g : (c.index.result.now ≡ get_or d.rows c.args.b []) × (c.in_ok-w.w ≡ gain (shown d) c.args.b c.args.e c.args.bound.now) = gain_is d c.args.b c.args.e c.args.bound.now c.in_ok-w.w c.as_slice.result.now c.index.result.now c.index.result.now l c.as_slice.ensures.value c.index.ensures c.in_ok-w.ensures.value in
    let n : TableauData = record { rows = c.turn_rows.new.rows.items; basic = set (set d.basic c.args.b false) c.args.e true; prices = c.turn_rows.new.prices; values = c.move_to.new.values; spent = false } in
    let p : IsPivotOf d n c.args.b c.args.e c.args.bound.now c.in_ok-w.w = record {
      turned = subst (λ (ps : List Number). AreTurned (length ps) c.args.b c.args.e d.rows n.rows ps n.prices) c.as_mut_slice-2.ensures.value c.in_ok-turn_rows.ensures.value;
      moved = subst (λ (rs : List (List Number)). MovesTo c.args.b c.args.e (row_of rs) c.in_ok-w.w c.args.bound.now d.values n.values) c.as_slice-2.ensures.value
          (subst (λ (vs : List Number). MovesTo c.args.b c.args.e (row_of c.as_slice-2.result.now) c.in_ok-w.w c.args.bound.now vs n.values) c.as_mut_slice.ensures.value c.in_ok-move_to.ensures.value);
      long = c.move_to.auto.values ∙ ap length c.as_mut_slice.ensures.value;
      gain = g.1;
      flags = refl;
    } in
    let prices : take c.self.inside.prices.len (n.prices ++ drop (length n.prices) d.prices) ≡ n.prices = back_again c.self.inside.prices.len c.as_mut_slice-2.result.now n.prices d.prices c.as_mut_slice-2.ensures.len c.turn_rows.auto.prices in
    let values : take c.self.inside.values.len (n.values ++ drop (length n.values) d.values) ≡ n.values = back_again c.self.inside.values.len c.as_mut_slice.result.now n.values d.values c.as_mut_slice.ensures.len c.move_to.auto.values in
    λ fresh. (
      subst (λ (vs : List Number). IsShaped (record { rows = n.rows; basic = n.basic; prices = take c.self.inside.prices.len (n.prices ++ drop (length n.prices) d.prices); values = vs; spent = false })) (sym values)
          (subst (λ (ps : List Number). IsShaped (record { rows = n.rows; basic = n.basic; prices = ps; values = n.values; spent = false })) (sym prices)
          (pivot_shaped d n c.args.b c.args.e c.args.bound.now c.in_ok-w.w h.shaped h.can p)),
      c.in_ok-turn_rows.ensures.empty,
    )

pub returns-clause-value : goal.returns-clause-value
returns-clause-value c =
    let d : TableauData = record { rows = c.self.inside.rows.items; basic = c.self.inside.basic.items; prices = c.self.inside.prices.items; values = c.self.inside.values.items; spent = c.self.inside.spent } in
    let h : Held d c.args.self.now c.args.b c.args.e = held d c.args.self.now c.args.b c.args.e (length c.self.inside.line ≡ 0) c.self.view_is c.requires.usable c.self.invariant c.requires.can in
    let l : c.args.b < length d.rows = omega (arith, h.can.b_within, h.shaped.rows) in
    let g : (c.index.result.now ≡ get_or d.rows c.args.b []) × (c.in_ok-w.w ≡ gain (shown d) c.args.b c.args.e c.args.bound.now) = gain_is d c.args.b c.args.e c.args.bound.now c.in_ok-w.w c.as_slice.result.now c.index.result.now c.index.result.now l c.as_slice.ensures.value c.index.ensures c.in_ok-w.ensures.value in
    let n : TableauData = record { rows = c.turn_rows.new.rows.items; basic = set (set d.basic c.args.b false) c.args.e true; prices = c.turn_rows.new.prices; values = c.move_to.new.values; spent = false } in
    let p : IsPivotOf d n c.args.b c.args.e c.args.bound.now c.in_ok-w.w = record {
      turned = subst (λ (ps : List Number). AreTurned (length ps) c.args.b c.args.e d.rows n.rows ps n.prices) c.as_mut_slice-2.ensures.value c.in_ok-turn_rows.ensures.value;
      moved = subst (λ (rs : List (List Number)). MovesTo c.args.b c.args.e (row_of rs) c.in_ok-w.w c.args.bound.now d.values n.values) c.as_slice-2.ensures.value
          (subst (λ (vs : List Number). MovesTo c.args.b c.args.e (row_of c.as_slice-2.result.now) c.in_ok-w.w c.args.bound.now vs n.values) c.as_mut_slice.ensures.value c.in_ok-move_to.ensures.value);
      long = c.move_to.auto.values ∙ ap length c.as_mut_slice.ensures.value;
      gain = g.1;
      flags = refl;
    } in
    let prices : take c.self.inside.prices.len (n.prices ++ drop (length n.prices) d.prices) ≡ n.prices = back_again c.self.inside.prices.len c.as_mut_slice-2.result.now n.prices d.prices c.as_mut_slice-2.ensures.len c.turn_rows.auto.prices in
    let values : take c.self.inside.values.len (n.values ++ drop (length n.values) d.values) ≡ n.values = back_again c.self.inside.values.len c.as_mut_slice.result.now n.values d.values c.as_mut_slice.ensures.len c.move_to.auto.values in
    subst (λ (vs : List Number). shown (record { rows = n.rows; basic = n.basic; prices = take c.self.inside.prices.len (n.prices ++ drop (length n.prices) d.prices); values = vs; spent = false }) ≡ pivoted (shown c.args.self.now) c.args.b c.args.e c.args.bound.now) (sym values)
    (subst (λ (ps : List Number). shown (record { rows = n.rows; basic = n.basic; prices = ps; values = n.values; spent = false }) ≡ pivoted (shown c.args.self.now) c.args.b c.args.e c.args.bound.now) (sym prices)
    (pivot_shown d n c.args.b c.args.e c.args.bound.now c.in_ok-w.w h.shaped h.can p ∙ ap (λ (x : TableauData). pivoted (shown x) c.args.b c.args.e c.args.bound.now) h.view))
