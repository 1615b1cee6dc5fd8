-- A pass on the way: it began with the book a.
use Rattle.std.specs.Prelude.{◌≡◌, ◌⊎◌, ℕ, Bool, true, false, List, map}
use Rattle.std.specs.List.{Contains, filter}
use Rattle.undo_records.specs.declared.side.Side.{Side}
use Rattle.undo_records.specs.declared.side.Side.TheVariants.{Lower}
use Rattle.problem_model.specs.declared.part.Part.{Part}
use Rattle.problem_model.specs.Parts.{changes_of}
use Rattle.problem_model.specs.Problems.{IsSparse}
use Rattle.line_groups.specs.Groups.{AreGroupsOf}
use Rattle.presolve_model.specs.declared.instance.Instance.{Instance}
use Rattle.presolve_model.specs.declared.instance.Instance.TheVariants as at
use Rattle.presolve_model.specs.declared.instance.Reduction.TheVariants.{BoundTightening}
use Rattle.presolve_model.specs.declared.outcome.Outcome.{Outcome}
use Rattle.presolve_model.specs.declared.outcome.Outcome.TheVariants.{Applied}
use Rattle.presolve_model.specs.Enabled.{enabled_on}
use Rattle.presolve_model.specs.Instances.{rule_at, shares_reading}
use Rattle.presolve_model.specs.Ledger.{instance_count, Ledger}
use Rattle.presolve_model.specs.Tallies.{Open, open_on}
use Rattle.place_laws.specs.Standing.{IsFresh}
use Rattle.round_laws.specs.Passing.{Follows, Passed, ReadAlike}
use Rattle.round_marks.specs.Forming.{AreFormsOf}
use Rattle.round_marks.specs.Marking.{Watched}
use Rattle.round_marks.specs.Stamping.{AreStampsOf}
use Rattle.presolve_rounds.specs.declared.pass.Walk.{Walk}

-- the book with which the round began
abbrev pub begun : Walk → Ledger
begun w = w.frozen.now.value

-- the version, the stamps and the groups of a walk are those of the book with which the round began
pub record IsWalk (w : Walk) : Type 0 where
  pub version : w.version ≡ instance_count (begun w)
  pub stamps : AreStampsOf w.stamps.now (begun w).problem
  pub groups : AreGroupsOf w.groups.now (begun w).problem

-- the book is b now, the forms of its problem are told, and each part that has changed is noted
pub record IsGoing (a : Ledger) (w : Watched) (b : Ledger) : Type 0 where
  pub began : IsSparse a.problem
  pub follows : Follows (open_on a.tally) a.problem b
  pub forms : AreFormsOf w.forms b.problem
  pub noted : (x : Part) → (changes_of b.problem x ≡ changes_of a.problem x) ⊎ Contains w.marks.noted x

-- it is c after these instances
pub record IsPassed (a : Ledger) (es : List Instance) (w : Watched) (b : Ledger) (v : Watched) (c : Ledger) : Type 0 where
  pub passed : Passed (open_on a.tally) a.problem (instance_count a) es w.marks b v.marks c
  pub forms : AreFormsOf v.forms c.problem

-- something was applied
abbrev pub is_applied : Outcome → Bool
is_applied (Applied k) = true
is_applied other = false

-- instances that are enabled, and share their reading
pub record AreAlike (b : Ledger) (es : List Instance) : Type 0 where
  pub enabled : (e : Instance) → Contains es e → enabled_on b.problem e ≡ true
  pub sharing : (e : Instance) → Contains es e → shares_reading (rule_at e) ≡ true
  pub alike : (e : Instance) → Contains es e → ReadAlike e es

-- their parts stand as they stood on a
abbrev pub AreFresh : Ledger → Ledger → List Instance → Type 0
AreFresh a b es = (e : Instance) → Contains es e → IsFresh a.problem b.problem e

-- one was met: where it was not applied the book stays, and where it was, those that share its reading are passed over as they are marked
pub record IsMet (a : Ledger) (e : Instance) (v : Watched) (b c : Ledger) (applied : Bool) : Type 0 where
  pub still : applied ≡ false → c ≡ b
  pub stopped : applied ≡ true → (es : List Instance) → shares_reading (rule_at e) ≡ true → ReadAlike e es → IsPassed a es v c v c

-- bounds of a row's columns, those that are open, as instances that tighten them
abbrev pub open_bounds : Open → ℕ → List (ℕ × Side) → List Instance
open_bounds opens i xs = map (λ x. at.Reduction (BoundTightening i x.0 x.1)) (filter (λ x. opens x.0 x.1) xs)

-- one that reads what each of a row reads
abbrev pub any_bound : ℕ → Instance
any_bound i = at.Reduction (BoundTightening i 0 Lower)
