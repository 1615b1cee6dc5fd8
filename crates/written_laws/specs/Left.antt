-- Problems with the same left to be done.
use Rattle.std.specs.Prelude.{◌≡◌, ◌↔◌, ℕ, true}
use Rattle.fractions.specs.declared.Numbers.{Numbers}
use Rattle.undo_records.specs.declared.side.Side.{Side}
use Rattle.problem_model.specs.Problems.{column_at}
use Rattle.problem_model.specs.Sparse.{Sparse}
use Rattle.presolve_model.specs.Stuck.{IsUndecided, Stuck, skipped_on}
use Rattle.presolve_model.specs.Tallies.{Open}
use Rattle.written_ids.specs.NewIds.{new_ids}

-- a bound of a live column may be tightened at its new id where it may be at its old one
abbrev pub AreOpenAlike : Open → Sparse → Open → Type 0
AreOpenAlike old p new = (j : ℕ) (side : Side) → (column_at p j).live ≡ true → new ((new_ids p).column j) side ≡ old j side

-- with what is open on each: both are undecided or neither is, both are stuck or neither is, and as many open reductions are enabled on both
pub record HaveSameLeft (numbers : Numbers) (old : Open) (p : Sparse) (new : Open) (q : Sparse) : Type 0 where
  pub undecided : IsUndecided p ↔ IsUndecided q
  pub stuck : Stuck numbers old p ↔ Stuck numbers new q
  pub skipped : skipped_on new q ≡ skipped_on old p
