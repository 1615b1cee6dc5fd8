-- A history is a list of commits: what commits tell by numbers of changes, histories do.
use Rattle.std.proofs.Common.{◌≡◌, ◌+◌, ◌<◌, ◌≤◌, ◌-◌, ◌^◌, List, [], ◌∷◌, length, get_or, refl, sym, subst, arith}
use Rattle.std.specs.List.{All}
use Rattle.fractions.specs.declared.Numbers.{Numbers}
use Rattle.problem_model.specs.declared.part.Part.{Part}
use Rattle.problem_model.specs.Parts.{changes_of}
use Rattle.problem_model.specs.Problems.{IsSparse}
use Rattle.problem_model.specs.Reading.{read_of}
use Rattle.problem_model.specs.Sparse.{Sparse}
use Rattle.edit_laws.specs.Telling.{IsTold, AllAllowed, all_committed}
use Rattle.edit_laws.proofs.Raising.{all_told, all_counted}
use Rattle.presolve_model.specs.declared.instance.Instance.{Instance}
use Rattle.presolve_model.specs.declared.instance.Reduction.{Reduction}
use Rattle.presolve_model.specs.Changes.{changed}
use Rattle.presolve_model.specs.Enabled.{reads, reading_of, enabled_on}
use Rattle.presolve_model.specs.Replay.{replay, Replays, edits_along}
use Rattle.presolve_model.proofs.ByCases.{reductions_owe}
use Rattle.presolve_model.proofs.Lists.{map_same}
use Rattle.presolve_model.proofs.Readings.{enabled_same, reading_same}
use Rattle.presolve_model.proofs.Tabled.{sound_changed}

pub replay_is : (p : Sparse) (rs : List Reduction) → replay p rs ≡ all_committed p (edits_along p rs)
replay_is p [] = refl
replay_is p (r ∷ rs) = replay_is (changed r p) rs

along_long : (p : Sparse) (rs : List Reduction) → length (edits_along p rs) ≡ length rs
along_long p [] = refl
along_long p (r ∷ rs) = let more = along_long (changed r p) rs in omega (arith, more)

along_allowed : (numbers : Numbers) (p : Sparse) (rs : List Reduction) → IsSparse p → Replays numbers p rs → AllAllowed p (edits_along p rs)
along_allowed numbers p [] s h = tt
along_allowed numbers p (r ∷ rs) s h = ((reductions_owe p r s h.0.enabled).allowed, along_allowed numbers (changed r p) rs (sound_changed p r s h.0.enabled) h.1)

pub told_along : (numbers : Numbers) (p : Sparse) (rs : List Reduction) (a : Part) → IsSparse p → Replays numbers p rs → IsTold p (replay p rs) a
told_along numbers p rs a s h = subst (λ (q : Sparse). IsTold p q a) (sym (replay_is p rs)) (all_told p (edits_along p rs) a s (along_allowed numbers p rs s h))

-- no number rises by more than there are reductions
pub counted_along : (numbers : Numbers) (p : Sparse) (rs : List Reduction) (a : Part) → IsSparse p → Replays numbers p rs → changes_of (replay p rs) a ≤ changes_of p a + length rs
counted_along numbers p rs a s h =
    let few : changes_of (replay p rs) a ≤ changes_of p a + length (edits_along p rs) = subst (λ (q : Sparse). changes_of q a ≤ changes_of p a + length (edits_along p rs)) (sym (replay_is p rs)) (all_counted p (edits_along p rs) a s (along_allowed numbers p rs s h)) in
    omega (arith, few, along_long p rs)

-- ---- numbers alone decide: an instance reads what it read, and is enabled where it was, if no number of a part that it read has risen
-- the number of a part is the same, and not at the end of its type
abbrev pub Unmoved : Sparse → Sparse → Part → Type 0
Unmoved p q a = (changes_of p a < 2 ^ 64 - 1) × (changes_of q a ≡ changes_of p a)

module _ (p q : Sparse) (e : Instance) (told : (a : Part) → IsTold p q a) (u : All (Unmoved p q) (reads p e)) where
  same : All (λ b. read_of q b ≡ read_of p b) (reads p e)
  same k d l t = let b : Part = get_or (reads p e) k d in record { part = b; changes = (u k d l).1 t; contents = told b (u k d l).0 (u k d l).1 t }

  pub reading_unmoved : reading_of q e ≡ reading_of p e
  reading_unmoved = reading_same p q e (map_same (read_of q) (read_of p) (reads p e) same)

  pub enabled_unmoved : enabled_on q e ≡ enabled_on p e
  enabled_unmoved = enabled_same p q e (map_same (read_of q) (read_of p) (reads p e) same)

pub numbers_decide : (numbers : Numbers) (p : Sparse) (rs : List Reduction) (e : Instance) → IsSparse p → Replays numbers p rs → All (Unmoved p (replay p rs)) (reads p e)
    → (reading_of (replay p rs) e ≡ reading_of p e) × (enabled_on (replay p rs) e ≡ enabled_on p e)
numbers_decide numbers p rs e s h u = let t : (a : Part) → IsTold p (replay p rs) a = λ a. told_along numbers p rs a s h in
    (reading_unmoved p (replay p rs) e t u, enabled_unmoved p (replay p rs) e t u)
