use Rattle.std.proofs.Common.{◌∙◌, ℤ, List, refl, ap}
use Rattle.mps_assembly.specs.Columnwise.{terms_at}
use Rattle.opb_columns.specs.Sums.{sum_in}
use Rattle.opb_columns.proofs.Ending.{going_on, row_ended, taken_terms, with_sum}
use Rattle.opb_columns.proofs.columns.Columns.end_row.Goals as goal

pub loop-entry-preserved : goal.loop-entry-preserved
loop-entry-preserved c = record {
  going = going_on _ _ _ c.loop-entry.invariant.going refl refl c.in_ok-add_entry.ensures.count c.in-Some.ensures.count c.in-Some.ensures.fits c.in-Some.ensures.covered;
  costs = c.loop-entry.invariant.costs;
  owes = λ j below.
      taken_terms c.args.id c.in-Some.entry.column j _ (sum_in c.loop-entry.self.sums.values.items c.in-Some.entry.column) _ _ _ _ c.in-Some.ensures.taken.0
      (ap (sum_in c.loop-entry.self.sums.values.items))
      (c.in_ok-add_entry.ensures.added j (rw c.loop-entry.invariant.going.terms_count below)) (c.in-Some.ensures.taken.1 j)
      ∙ c.loop-entry.invariant.owes j below;
}

pub returns : goal.returns
returns c = λ names cost entries summed h fit.
    let none = c.in_default.ensures.none in
    row_ended names cost entries summed c.args.id c.args.self.now _ h fit
    (going_on _ _ _ c.loop-entry.invariant.going refl refl refl c.in_default.ensures.count c.in_default.ensures.fits c.in_default.ensures.covered) c.loop-entry.invariant.costs none.1
    (λ j below. ap (λ (sums : List ℤ). with_sum c.args.id (terms_at c.loop-entry.self.terms.items j) (sum_in sums j)) none.2 ∙ c.loop-entry.invariant.owes j below)
