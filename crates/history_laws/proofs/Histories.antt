-- Histories by induction.
use Rattle.std.proofs.Common.{◌≡◌, List, [], ◌∷◌, ◌++◌, refl, ap, ◌∙◌, subst, pos}
use Rattle.fractions.specs.Ring.{ring, v, num, ◌:+◌, ◌:-◌}
use Rattle.fractions.specs.Number.{rational, ◌+ℚ◌, ◌-ℚ◌}
use Rattle.fractions.specs.declared.Numbers.{Numbers}
use Rattle.lp_model.specs.declared.program.Sense.TheVariants.{Min}
use Rattle.lp_model.specs.Reductions.{Reduces}
use Rattle.lp_theory.proofs.Steps.{compose, same_points}
use Rattle.pair_laws.proofs.Joining.{none, first}
use Rattle.undo_records.specs.Lift.{lift, undone}
use Rattle.problem_model.specs.Sparse.{Sparse}
use Rattle.problem_model.specs.Showing.{shown}
use Rattle.presolve_model.specs.declared.instance.Instance.TheVariants as at
use Rattle.presolve_model.specs.declared.instance.Reduction.{Reduction}
use Rattle.presolve_model.specs.Changes.{changed, added}
use Rattle.presolve_model.specs.Tables.{record_of}
use Rattle.presolve_model.specs.Replay.{replay, records, Replays, CanApply}
use Rattle.presolve_model.specs.Transactions.{numbers_along, numbers_read}
use Rattle.presolve_model.specs.Laws.{HistoryReduces, HistoryReducesPairs}
use Rattle.presolve_model.proofs.Tabled.{reduces_changed, pairs_changed, continuous_changed, adds, sound_changed}

pub history_reduces : HistoryReduces
history_reduces numbers p [] s h = subst (λ k. Reduces Min (shown p) (shown p) (λ x. x) k) (ring rational (p.offset ∷ []) (num (pos 0)) (v 0 :- v 0) refl)
    (same_points Min (shown p) (shown p) (λ x. refl) (λ x f. f) (λ x f. f))
history_reduces numbers p (r ∷ rs) s h =
    let q : Sparse = changed r p in
    let e : Sparse = replay q rs in
    subst (λ k. Reduces Min (shown p) (shown e) (lift (records p (r ∷ rs))) k)
    (ap (λ o. added r p +ℚ (e.offset -ℚ o)) (adds p r) ∙ ring rational (e.offset ∷ p.offset ∷ added r p ∷ []) (v 2 :+ (v 0 :- (v 1 :+ v 2))) (v 0 :- v 1) refl)
    (compose Min (shown p) (shown q) (shown e) (undone (record_of r p)) (lift (records q rs)) (added r p) (e.offset -ℚ q.offset)
    (reduces_changed p r s h.0.enabled) (history_reduces numbers q rs (sound_changed p r s h.0.enabled) h.1))

pub history_pairs : HistoryReducesPairs
history_pairs numbers p [] s h continuous = none Min (shown p)
history_pairs numbers p (r ∷ rs) s h continuous =
    let q : Sparse = changed r p in
    first Min (shown p) (shown q) (shown (replay q rs)) (record_of r p) (records q rs) (pairs_changed p r s h.0.enabled continuous)
    (history_pairs numbers q rs (sound_changed p r s h.0.enabled) h.1 (continuous_changed p r s h.0.enabled continuous))

-- ---- one reduction more
pub replay_grows : (p : Sparse) (rs : List Reduction) (r : Reduction) → replay p (rs ++ r ∷ []) ≡ changed r (replay p rs)
replay_grows p [] r = refl
replay_grows p (q ∷ rs) r = replay_grows (changed q p) rs r

pub replays_grow : (numbers : Numbers) (p : Sparse) (rs : List Reduction) (r : Reduction) → Replays numbers p rs → CanApply numbers (replay p rs) r → Replays numbers p (rs ++ r ∷ [])
replays_grow numbers p [] r h c = (c, tt)
replays_grow numbers p (q ∷ rs) r h c = (h.0, replays_grow numbers (changed q p) rs r h.1 c)

pub records_grow : (p : Sparse) (rs : List Reduction) (r : Reduction) → records p (rs ++ r ∷ []) ≡ records p rs ++ record_of r (replay p rs) ∷ []
records_grow p [] r = refl
records_grow p (q ∷ rs) r = ap (λ us. record_of q p ∷ us) (records_grow (changed q p) rs r)

pub numbers_grow : (p : Sparse) (rs : List Reduction) (r : Reduction) → numbers_along p (rs ++ r ∷ []) ≡ numbers_along p rs ++ numbers_read (replay p rs) (at.Reduction r) ∷ []
numbers_grow p [] r = refl
numbers_grow p (q ∷ rs) r = ap (λ ns. numbers_read p (at.Reduction q) ∷ ns) (numbers_grow (changed q p) rs r)
