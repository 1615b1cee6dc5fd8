-- What a history keeps.
use Rattle.std.proofs.Common.{◌≡◌, ℕ, All, List, [], ◌∷◌, length, refl, ◌∙◌, subst}
use Rattle.std.proofs.lemmas.List.Elements.{All-cons}
use Rattle.std.proofs.Common.{arith}
use Rattle.fractions.specs.declared.Numbers.{Numbers}
use Rattle.undo_records.specs.Lift.{lift}
use Rattle.undo_records.specs.Sound.{IsSound}
use Rattle.undo_records.specs.Walk.{Walks}
use Rattle.problem_model.specs.Sparse.{Sparse}
use Rattle.problem_model.specs.Problems.{IsSparse}
use Rattle.problem_model.specs.Writing.{IsWritable}
use Rattle.problem_model.specs.Showing.{shown}
use Rattle.problem_model.specs.Flags.{flags_of}
use Rattle.presolve_model.specs.declared.instance.Reduction.{Reduction}
use Rattle.presolve_model.specs.Changes.{changed}
use Rattle.presolve_model.specs.Tables.{record_of}
use Rattle.presolve_model.specs.Replay.{replay, records, Replays}
use Rattle.presolve_model.specs.Laws.{VerdictMeans}
use Rattle.presolve_model.proofs.ByCases.{verdicts_mean, meant_back}
use Rattle.presolve_model.proofs.Tabled.{sound_changed, writable_changed, sound_record, names_live, flags_after, same_size}
use Rattle.history_laws.proofs.Histories.{history_reduces}

pub sparse_replay : (numbers : Numbers) (p : Sparse) (rs : List Reduction) → IsSparse p → Replays numbers p rs → IsSparse (replay p rs)
sparse_replay numbers p [] s h = s
sparse_replay numbers p (r ∷ rs) s h = sparse_replay numbers (changed r p) rs (sound_changed p r s h.0.enabled) h.1

pub verdict_means : VerdictMeans
verdict_means numbers p rs v s h e =
    meant_back v (shown p) (shown (replay p rs)) (lift (records p rs)) _ (history_reduces numbers p rs s h) (verdicts_mean (replay p rs) v (sparse_replay numbers p rs s h) e)

pub writable_replay : (numbers : Numbers) (p : Sparse) (rs : List Reduction) → IsSparse p → IsWritable numbers p → Replays numbers p rs → IsWritable numbers (replay p rs)
writable_replay numbers p [] s k h = k
writable_replay numbers p (r ∷ rs) s k h =
    writable_replay numbers (changed r p) rs (sound_changed p r s h.0.enabled) (writable_changed p r s h.0.enabled numbers k h.0.fits h.0.written) h.1

pub records_walk : (numbers : Numbers) (p : Sparse) (rs : List Reduction) → IsSparse p → Replays numbers p rs → Walks (flags_of p) (records p rs) (flags_of (replay p rs))
records_walk numbers p [] s h = refl
records_walk numbers p (r ∷ rs) s h = (
  names_live p r s h.0.enabled,
  subst (λ f. Walks f (records (changed r p) rs) (flags_of (replay (changed r p) rs))) (flags_after p r s h.0.enabled)
      (records_walk numbers (changed r p) rs (sound_changed p r s h.0.enabled) h.1),
)

pub records_sound : (numbers : Numbers) (p : Sparse) (rs : List Reduction) (m n : ℕ) → IsSparse p → Replays numbers p rs → length p.matrix.rows ≡ m → length p.matrix.columns ≡ n → All (IsSound m n) (records p rs)
records_sound numbers p [] m n s h em en = λ k d lt. absurd (omega (arith, lt))
records_sound numbers p (r ∷ rs) m n s h em en = All-cons (IsSound m n) (record_of r p) (records (changed r p) rs)
    (subst (λ k. IsSound k n (record_of r p)) em (subst (λ k. IsSound (length p.matrix.rows) k (record_of r p)) en (sound_record p r s h.0.enabled)))
    (records_sound numbers (changed r p) rs m n (sound_changed p r s h.0.enabled) h.1 ((same_size p r).rows ∙ em) ((same_size p r).columns ∙ en))
