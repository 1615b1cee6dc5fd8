-- A pass over instances in order, each looked at on the present problem when its turn comes.
use Rattle.std.specs.Prelude.{◌≡◌, ◌⊎◌, ℕ, ◌<◌, ◌≤◌, ◌^◌, Bool, true, false, ◌&&◌, nat_eq, List, [], ◌∷◌, ◌++◌, length, None}
use Rattle.std.specs.List.{Contains}
use Rattle.problem_model.specs.declared.part.Part.{Part}
use Rattle.problem_model.specs.Parts.{changes_of}
use Rattle.problem_model.specs.Problems.{IsSparse}
use Rattle.problem_model.specs.Sparse.{Sparse}
use Rattle.edit_laws.specs.Sizes.{SameSize}
use Rattle.presolve_model.specs.declared.instance.Instance.{Instance}
use Rattle.presolve_model.specs.Enabled.{enabled_on, reads}
use Rattle.presolve_model.specs.Instances.{goes_by_form, is_open, reach_of, rule_at}
use Rattle.presolve_model.specs.Tallies.{Open, open_on}
use Rattle.presolve_model.specs.Ledger.{Ledger}
use Rattle.presolve_model.specs.Ordered.{Committed}
use Rattle.place_laws.specs.Choosing.{proposals}
use Rattle.place_laws.specs.Marks.{Grows, IsMarked, Marks}
use Rattle.place_laws.specs.Standing.{IsLaterAt, Moves}

-- the book was opened alike
pub record IsSameBook (b c : Ledger) : Type 0 where
  pub start : c.start ≡ b.start
  pub numbers : c.numbers ≡ b.numbers
  pub limit : c.limit ≡ b.limit

-- The book's problem comes after f, where other bounds may have been open. No part has changed more often than reductions were applied, so
-- that no number stands at its end.
pub record Follows (opens : Open) (f : Sparse) (b : Ledger) : Type 0 where
  pub later : (a : Part) → IsLaterAt f b.problem a
  pub counted : (a : Part) → changes_of b.problem a ≤ length b.history
  pub short : b.limit < 2 ^ 64
  pub sparse : IsSparse b.problem
  pub size : SameSize f b.problem
  pub moves : Moves f b.problem opens (open_on b.tally)

-- an instance is marked, or its turn is still to come
abbrev pub IsTracked : Marks → List Instance → Ledger → Instance → Type 0
IsTracked n es b e = IsMarked b.numbers b.problem n e ⊎ Contains es e

-- where the run goes on, what is enabled is tracked
abbrev pub Tracks : Marks → List Instance → Ledger → Type 0
Tracks n es b = b.verdict ≡ None → length b.history < b.limit → (e : Instance) → enabled_on b.problem e ≡ true → is_open (open_on b.tally) e ≡ true → IsTracked n es b e

-- The book c after a pass, with the marks m where there were n before: b comes after f, and c does; those of the instances that are enabled
-- on f, the version v, were committed as they read it; what is enabled is tracked, whatever comes after them; and each part that has changed is
-- noted.
pub record Passed (opens : Open) (f : Sparse) (v : ℕ) (es : List Instance) (n : Marks) (b : Ledger) (m : Marks) (c : Ledger) : Type 0 where
  pub book : IsSameBook b c
  pub before : Follows opens f b
  pub committed : Committed b (proposals f v es) c
  pub follows : Follows opens f c
  pub tracks : (rest : List Instance) → Tracks n (es ++ rest) b → Tracks m rest c
  pub moved : (a : Part) → (changes_of c.problem a ≡ changes_of b.problem a) ⊎ Contains m.noted a
  pub grows : Grows n m

-- each of them reads what this one reads, on each problem, and looks at what these parts hold
pub record ReadAlike (e : Instance) (es : List Instance) : Type 0 where
  pub parts : (x : Instance) → Contains es x → (s : Sparse) → reads s x ≡ reads s e
  pub by_value : (x : Instance) → Contains es x → goes_by_form (reach_of (rule_at x)) ≡ false

-- the parts have changed as often as s says
abbrev pub are_unchanged : (Part → ℕ) → Sparse → List Part → Bool
are_unchanged s p [] = true
are_unchanged s p (a ∷ ps) = nat_eq (changes_of p a) (s a) && are_unchanged s p ps
