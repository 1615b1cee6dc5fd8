use Rattle.std.proofs.Common.{ℕ, Bool, false, List, [], ◌∷◌, length, length-append, sym, ap, subst, arith}
use Rattle.worker_rounds.specs.Done.{IsSet}
use Rattle.worker_rounds.proofs.Flags.{none_down, one_down}
use Rattle.worker_rounds.proofs.done.flags_down.Goals as goal

pub loop-init : goal.loop-init
loop-init c = record {
  long = ap length c.new-flags.ensures.items;
  down = subst (λ (bs : List Bool). (i : ℕ) → IsSet bs i → ⊥) (sym c.new-flags.ensures.items) none_down;
}

pub loop-preserved : goal.loop-preserved
loop-preserved c = record {
  long = let l = ap length c.in_ok-push.ensures.items in omega (arith, l, c.loop.invariant.long, length-append c.loop.flags.items (false ∷ []));
  down = subst (λ (bs : List Bool). (i : ℕ) → IsSet bs i → ⊥) (sym c.in_ok-push.ensures.items) (one_down c.loop.flags.items c.loop.invariant.down);
}
