-- What comes of instances at their turn.
use Rattle.std.specs.Prelude.{◌≡◌, ◌≢◌, ◌⊎◌, ℕ, ◌<◌, false, true, List, [], ◌∷◌, length, None}
use Rattle.std.specs.List.{Contains, filter}
use Rattle.problem_model.specs.declared.part.Part.{Part}
use Rattle.problem_model.specs.Noted.{AreNoted}
use Rattle.problem_model.specs.Parts.{changes_of}
use Rattle.problem_model.specs.Sparse.{Sparse}
use Rattle.presolve_model.specs.declared.instance.Instance.{Instance}
use Rattle.presolve_model.specs.declared.instance.Instance.TheVariants as at
use Rattle.presolve_model.specs.declared.instance.Reduction.{Reduction}
use Rattle.presolve_model.specs.declared.outcome.Outcome.{Outcome}
use Rattle.presolve_model.specs.declared.outcome.Outcome.TheVariants.{NoMemory}
use Rattle.presolve_model.specs.Commits.{Allows, left_by, with_instance}
use Rattle.presolve_model.specs.Enabled.{enabled_on}
use Rattle.presolve_model.specs.Instances.{goes_by_form, is_open, reach_of, rests_on_reading, rule_at, rule_of, shares_reading}
use Rattle.presolve_model.specs.Ledger.{instance_count, Ledger}
use Rattle.presolve_model.specs.Scans.{proposal_of}
use Rattle.presolve_model.specs.Tables.{heads}
use Rattle.presolve_model.specs.Tallies.{Open, open_on}
use Rattle.place_laws.specs.Choosing.{AreSorted, Around, IsComplete, visited}
use Rattle.place_laws.specs.Marks.{AreStirred, Grows, IsMarked, is_refusal, Marks, parts_for}
use Rattle.place_laws.specs.Standing.{IsFresh}
use Rattle.round_laws.specs.Passing.{Follows, Passed, ReadAlike}

-- An instance is met: it is enabled, and its parts stand. It is committed on the present problem, with any answer but want of memory. What
-- changes is noted, and stirred or roused; what sleeps sleeps on; and a part that the instance reads is marked.
abbrev pub MetIsPassed : Type 0
MetIsPassed = (opens : Open) (f : Sparse) (v : ℕ) (n m : Marks) (b c : Ledger) (e : Instance) (o : Outcome) (a : Part)
    → Follows opens f b
    → IsFresh f b.problem e
    → enabled_on b.problem e ≡ true
    → o ≢ NoMemory
    → Allows b (proposal_of b.problem v e) o
    → c ≡ left_by b 0 (proposal_of b.problem v e) o
    → AreNoted b.problem c.problem n.noted m.noted
    → AreStirred b.problem c.problem n m
    → ((x : Part) → Contains n.asleep x → Contains m.asleep x)
    → Contains (heads e) a
    → Contains (parts_for m (reach_of (rule_at e))) a
    → Passed opens f v (e ∷ []) n b m c

-- The same where it is refused for a number, and such a refusal rests on what it reads: it may be put to sleep.
abbrev pub SleeperIsPassed : Type 0
SleeperIsPassed = (opens : Open) (f : Sparse) (v : ℕ) (n m : Marks) (b c : Ledger) (e : Instance) (o : Outcome) (a : Part)
    → Follows opens f b
    → IsFresh f b.problem e
    → enabled_on b.problem e ≡ true
    → is_refusal o ≡ true
    → rests_on_reading (rule_at e) ≡ true
    → Allows b (proposal_of b.problem v e) o
    → c ≡ left_by b 0 (proposal_of b.problem v e) o
    → Grows n m
    → Contains (heads e) a
    → Contains m.asleep a
    → Passed opens f v (e ∷ []) n b m c

-- Some of the instances may be left out that were not enabled as the round began, where each part that has changed since is noted, and all of
-- them look at what parts hold.
abbrev pub RestIsPassed : Type 0
RestIsPassed = (opens : Open) (f : Sparse) (v : ℕ) (es fs : List Instance) (n m : Marks) (b c : Ledger)
    → Follows opens f b
    → filter (enabled_on f) fs ≡ filter (enabled_on f) es
    → ((x : Instance) → Contains es x → enabled_on f x ≡ true → Contains fs x)
    → ((x : Instance) → Contains es x → goes_by_form (reach_of (rule_at x)) ≡ false)
    → ((a : Part) → (changes_of b.problem a ≡ changes_of f a) ⊎ Contains n.noted a)
    → Passed opens f v fs n b m c
    → Passed opens f v es n b m c

-- Once a reduction was applied, with what it changes noted, those that read what it reads are passed over: they are stale, and marked.
abbrev pub OthersArePassed : Type 0
OthersArePassed = (opens : Open) (f : Sparse) (v : ℕ) (n m : Marks) (b c : Ledger) (r : Reduction) (es : List Instance)
    → Follows opens f b
    → IsFresh f b.problem (at.Reduction r)
    → enabled_on b.problem (at.Reduction r) ≡ true
    → shares_reading (rule_of r) ≡ true
    → length b.history < b.limit
    → c ≡ with_instance b 0 v (at.Reduction r)
    → AreNoted b.problem c.problem n.noted m.noted
    → ReadAlike (at.Reduction r) es
    → Passed opens f v es m c m c

-- After a pass over rows and columns where each enabled instance is that does not sleep, each enabled instance is marked, if the run goes on.
abbrev pub PassMarksAll : Type 0
PassMarksAll = (b c : Ledger) (n : Around) (k m : Marks)
    → AreSorted n
    → IsComplete b.numbers (open_on b.tally) b.problem n k.asleep
    → Passed (open_on b.tally) b.problem (instance_count b) (visited (open_on b.tally) b.problem n) k b m c
    → c.verdict ≡ None
    → length c.history < c.limit
    → (e : Instance)
    → enabled_on c.problem e ≡ true
    → is_open (open_on c.tally) e ≡ true
    → IsMarked c.numbers c.problem m e
