use Rattle.std.proofs.Common.{◌∙◌, ℤ, List, refl, sym, ap}
use Rattle.fractions.specs.Number.{of_ℤ}
use Rattle.mps_assembly.specs.Columnwise.{cost_at}
use Rattle.opb_columns.specs.Sums.{sum_in}
use Rattle.opb_columns.proofs.Ending.{costs_ended, going_on, owed, set_cost}
use Rattle.opb_columns.proofs.columns.Columns.end_costs.Goals as goal

pub loop-entry-preserved-then-not-is_zero : goal.loop-entry-preserved-then-not-is_zero
loop-entry-preserved-then-not-is_zero c = record {
  going = going_on _ _ _ c.loop-entry.invariant.going refl c.set_cost.ensures.count refl c.in-Some.ensures.count c.in-Some.ensures.fits c.in-Some.ensures.covered;
  terms = c.loop-entry.invariant.terms;
  owes = λ j below. set_cost c.in-Some.entry.column j _ _ _ c.loop-entry.self.sums.values.items _ c.in-Some.ensures.taken.0 (c.in-Some.ensures.taken.1 j)
      (c.set_cost.ensures.set j (rw c.loop-entry.invariant.going.costs_count below)) (sym c.if-not-is_zero.ensures.test)
      ∙ c.loop-entry.invariant.owes j below;
}

pub returns : goal.returns
returns c = λ names entries summed h fit.
    let none = c.in_default.ensures.none in
    costs_ended names entries summed c.args.self.now _ h fit
    (going_on _ _ _ c.loop-entry.invariant.going refl refl refl c.in_default.ensures.count c.in_default.ensures.fits c.in_default.ensures.covered) c.loop-entry.invariant.terms none.1
    (λ j below. ap (λ (sums : List ℤ). owed (cost_at c.loop-entry.self.costs.items j) (of_ℤ (sum_in sums j))) none.2 ∙ c.loop-entry.invariant.owes j below)
