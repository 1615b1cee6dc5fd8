use Rattle.std.proofs.Common.{◌≡◌, ℕ, take, length, subst, arith}
use Rattle.std.specs.List.{Contains}
use Rattle.presolve_model.specs.declared.instance.Instance.{Instance}
use Rattle.threaded_passes.specs.Listing.{SharesRow}
use Rattle.threaded_passes.proofs.Listing.{one_shares}
use Rattle.threaded_passes.proofs.listed.run_length.Goals as goal

pub loop-place-preserved : goal.loop-place-preserved
loop-place-preserved c = one_shares c.args.first c.loop-place.place c.args.instances.now _ c.loop-place-test.true c.loop-place.invariant (c.shares_row.ensures c.if-not-shares_row.false)

pub returns-clause-sharing : goal.returns-clause-sharing
returns-clause-sharing c =
    let all : c.loop-place.place ≡ length c.args.instances.now = omega (arith, c.loop-place-test.false, c.loop-place.auto.place-end) in
    subst (λ (n : ℕ). (x : Instance) → Contains (take n c.args.instances.now) x → SharesRow c.args.first x) all c.loop-place.invariant
