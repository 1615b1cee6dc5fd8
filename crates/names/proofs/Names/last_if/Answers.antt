use Rattle.std.proofs.Common.{◌≡◌, ◌-◌, ◌<◌, [], length, slice_index_or, Some, sym, ap, ◌∙◌, subst}
use Rattle.std.proofs.lemmas.Slice.Eq.{bytes_eq-Decides}
use Rattle.names.specs.Names.{AreDifferent}
use Rattle.names.proofs.Places.{last_place}
use Rattle.names.proofs.Names.last_if.Goals as goal

pub returns-then-eq-clause-place : goal.returns-then-eq-clause-place
returns-then-eq-clause-place c =
    let same : c.name.result.now ≡ c.args.name.now = (bytes_eq-Decides c.name.result.now c.args.name.now).0 (sym c.eq.ensures ∙ c.if-eq.true) in
    let count : c.len-count.result ≡ length c.args.self.now = c.len-count.ensures in
    let differ : AreDifferent c.args.self.now = subst AreDifferent c.self.view_is c.self.invariant in
    last_place c.args.self.now c.args.name.now differ (subst (λ n. 0 < n) count c.if-count-gt0.true) (ap (λ n. slice_index_or c.args.self.now (n - 1) []) (sym count) ∙ sym c.name.ensures ∙ same)
    ∙ ap (λ n. Some (n - 1)) (sym count)
