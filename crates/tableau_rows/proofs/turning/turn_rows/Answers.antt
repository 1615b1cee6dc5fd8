use Rattle.std.proofs.Common.{List, subst, length, [], refl, ap, ◌∙◌, ◌<◌, arith}
use Rattle.std.proofs.lemmas.List.{get_or_default}
use Rattle.fractions.specs.Number.{Number}
use Rattle.lp_model.specs.Vectors.{vector_of}
use Rattle.lp_model.proofs.Sums.{not_so}
use Rattle.tableau_laws.specs.Room.{RowFits}
use Rattle.tableau_rows.specs.Places.{Replaces}
use Rattle.tableau_rows.proofs.Sweeps.{err_fits}
use Rattle.tableau_rows.proofs.TurnLaws.{Stepped, turned_all, fits_all, fits_rows}
use Rattle.tableau_rows.proofs.turning.turn_rows.Goals as goal

pub returns-in_err-replace_rows-clause-fits : goal.returns-in_err-replace_rows-clause-fits
returns-in_err-replace_rows-clause-fits c =
    let l : c.args.b < length c.args.rows.now.items = omega (arith, c.requires.rows.b_within, c.requires.rows.rows_long) in
    let s : Stepped (length c.args.prices.now) c.args.b c.args.e c.args.rows.now.items c.swap.new.x c.swap.new.y c.turn.new.self = record {
      empty = ap length c.swap.ensures.x_after ∙ c.requires.empty;
      row = c.swap.ensures.y_after ∙ c.index_mut.ensures.value ∙ get_or_default c.args.rows.now.items c.args.b c.index_mut.result.now [] l;
      turns = c.in_ok-turn.ensures.value;
      long = c.in_ok-turn.ensures.long ∙ ap length (c.swap.ensures.y_after ∙ c.index_mut.ensures.value ∙ get_or_default c.args.rows.now.items c.args.b c.index_mut.result.now [] l) ∙ c.requires.rows.leaving;
    } in
    err_fits c.from_residual-in_err-replace_rows.result _ c.from_residual-in_err-replace_rows.ensures.0
    (λ f. not_so (c.in_err-replace_rows.ensures.fits.1 (fits_rows (length c.args.prices.now) c.args.b c.args.e c.args.rows.now.items c.swap.new.x c.swap.new.y c.turn.new.self c.args.prices.now c.requires.rows s f)))

pub returns-clause-value : goal.returns-clause-value
returns-clause-value c =
    let l : c.args.b < length c.args.rows.now.items = omega (arith, c.requires.rows.b_within, c.requires.rows.rows_long) in
    let s : Stepped (length c.args.prices.now) c.args.b c.args.e c.args.rows.now.items c.swap.new.x c.swap.new.y c.turn.new.self = record {
      empty = ap length c.swap.ensures.x_after ∙ c.requires.empty;
      row = c.swap.ensures.y_after ∙ c.index_mut.ensures.value ∙ get_or_default c.args.rows.now.items c.args.b c.index_mut.result.now [] l;
      turns = c.in_ok-turn.ensures.value;
      long = c.in_ok-turn.ensures.long ∙ ap length (c.swap.ensures.y_after ∙ c.index_mut.ensures.value ∙ get_or_default c.args.rows.now.items c.args.b c.index_mut.result.now [] l) ∙ c.requires.rows.leaving;
    } in
    turned_all (length c.args.prices.now) c.args.b c.args.e c.args.rows.now.items c.replace_rows.new.rows.items c.swap.new.x c.swap.new.y c.turn.new.self c.swap-2.new.x c.args.prices.now c.replace.new.row
    c.requires.rows s c.in_ok-replace_rows.ensures.value c.in_ok-replace_rows.ensures.long (subst (λ (l : List Number). Replaces c.args.b c.args.e l c.args.prices.now c.replace.new.row) c.as_slice.ensures c.in_ok-replace.ensures.value) c.replace.auto.row c.swap-2.ensures.x_after

pub returns-clause-fits : goal.returns-clause-fits
returns-clause-fits c =
    let l : c.args.b < length c.args.rows.now.items = omega (arith, c.requires.rows.b_within, c.requires.rows.rows_long) in
    let s : Stepped (length c.args.prices.now) c.args.b c.args.e c.args.rows.now.items c.swap.new.x c.swap.new.y c.turn.new.self = record {
      empty = ap length c.swap.ensures.x_after ∙ c.requires.empty;
      row = c.swap.ensures.y_after ∙ c.index_mut.ensures.value ∙ get_or_default c.args.rows.now.items c.args.b c.index_mut.result.now [] l;
      turns = c.in_ok-turn.ensures.value;
      long = c.in_ok-turn.ensures.long ∙ ap length (c.swap.ensures.y_after ∙ c.index_mut.ensures.value ∙ get_or_default c.args.rows.now.items c.args.b c.index_mut.result.now [] l) ∙ c.requires.rows.leaving;
    } in (
      (λ done. fits_all (length c.args.prices.now) c.args.b c.args.e c.args.rows.now.items c.swap.new.x c.swap.new.y c.turn.new.self c.args.prices.now c.requires.rows s
          (c.in_ok-turn.ensures.fits.0 refl) (c.in_ok-replace_rows.ensures.fits.0 refl)
          (subst (λ (l : List Number). RowFits (length l) c.args.b c.args.e (vector_of l) (vector_of c.args.prices.now)) c.as_slice.ensures (c.in_ok-replace.ensures.fits.0 refl))),
      λ room. refl,
    )
