use Rattle.std.proofs.Common.{◌≡◌, List, false, length, take, drop, ◌++◌, refl, sym, ap, ◌∙◌, subst}
use Rattle.fractions.specs.Number.{Number}
use Rattle.fractions.specs.FracWords.{SumFits}
use Rattle.lp_model.specs.Vectors.{vector_of}
use Rattle.tableau_laws.specs.Tableaus.{shifted}
use Rattle.tableau_laws.specs.Room.{ShiftFits, ValuesFit}
use Rattle.simplex_tableau.specs.Data.{TableauData, shown}
use Rattle.tableau_rows.specs.Places.{row_of, Moves}
use Rattle.simplex_tableau.proofs.Shapes.{shift_shown, back_again}
use Rattle.simplex_tableau.proofs.tableau.Tableau.shift.Goals as goal

pub returns-clause-value : goal.returns-clause-value
returns-clause-value c =
    let d : TableauData = record { rows = c.self.inside.rows.items; basic = c.self.inside.basic.items; prices = c.self.inside.prices.items; values = c.self.inside.values.items; spent = c.self.inside.spent } in
    let n : TableauData = record { rows = d.rows; basic = d.basic; prices = d.prices; values = c.move_all.new.values; spent = false } in
    let values : take c.self.inside.values.len (n.values ++ drop (length n.values) d.values) ≡ n.values = back_again c.self.inside.values.len c.as_mut_slice.result.now n.values d.values c.as_mut_slice.ensures.len c.move_all.auto.values in
    let moves : Moves c.args.e (row_of d.rows) c.args.w.now d.values n.values = subst (λ (rs : List (List Number)). Moves c.args.e (row_of rs) c.args.w.now d.values n.values) c.as_slice.ensures.value
    (subst (λ (vs : List Number). Moves c.args.e (row_of c.as_slice.result.now) c.args.w.now vs n.values) c.as_mut_slice.ensures.value c.in_ok-move_all.ensures.value) in
    subst (λ (vs : List Number). shown (record { rows = n.rows; basic = n.basic; prices = n.prices; values = vs; spent = false }) ≡ shifted (shown c.args.self.now) c.args.e c.args.w.now) (sym values)
    (shift_shown d n c.args.e c.args.w.now refl refl refl (c.move_all.auto.values ∙ ap length c.as_mut_slice.ensures.value) moves
    ∙ ap (λ (x : TableauData). shifted (shown x) c.args.e c.args.w.now) c.self.view_is)

pub returns-clause-fits : goal.returns-clause-fits
returns-clause-fits c =
    let d : TableauData = record { rows = c.self.inside.rows.items; basic = c.self.inside.basic.items; prices = c.self.inside.prices.items; values = c.self.inside.values.items; spent = c.self.inside.spent } in
    let f : SumFits (vector_of d.values c.args.e) c.args.w.now × ValuesFit (length d.values) c.args.e c.args.e (row_of d.rows) (vector_of d.values) c.args.w.now =
    subst (λ (rs : List (List Number)). SumFits (vector_of d.values c.args.e) c.args.w.now × ValuesFit (length d.values) c.args.e c.args.e (row_of rs) (vector_of d.values) c.args.w.now) c.as_slice.ensures.value
    (subst (λ (vs : List Number). SumFits (vector_of vs c.args.e) c.args.w.now × ValuesFit (length vs) c.args.e c.args.e (row_of c.as_slice.result.now) (vector_of vs) c.args.w.now) c.as_mut_slice.ensures.value (c.in_ok-move_all.ensures.fits.0 refl)) in
    ((λ done. subst (λ (x : TableauData). ShiftFits (shown x) c.args.e c.args.w.now) c.self.view_is (record { entering = f.0; values = f.1 })), λ room. refl)
