-- The ordered run: what one worker makes of a book, in rounds.
use Rattle.std.specs.Prelude.{◌≡◌, ◌≢◌, ◌⊎◌, Bool, ℕ, zero, suc, ◌<◌, ◌≤◌, List, [], ◌∷◌, ◌++◌, length, Option, Some, None}
use Rattle.std.specs.List.{filter}
use Rattle.lp_model.specs.ProgramData.{ProgramData}
use Rattle.undo_records.specs.Postsolve.{Postsolve}
use Rattle.problem_model.specs.Programs.{IsProblemOf, written_program}
use Rattle.problem_model.specs.Sparse.{Sparse}
use Rattle.presolve_model.specs.declared.conclusion.End.{End}
use Rattle.presolve_model.specs.declared.conclusion.End.TheVariants.{Fixpoint, LimitReached}
use Rattle.presolve_model.specs.declared.conclusion.Options.{Options}
use Rattle.presolve_model.specs.declared.instance.Instance.{Instance}
use Rattle.presolve_model.specs.declared.instance.Rule.{Rule}
use Rattle.presolve_model.specs.declared.outcome.Outcome.{Outcome}
use Rattle.presolve_model.specs.declared.outcome.Outcome.TheVariants.{NoMemory}
use Rattle.presolve_model.specs.Commits.{Allows, left_by, with_instance}
use Rattle.presolve_model.specs.Enabled.{enabled_on}
use Rattle.presolve_model.specs.Given.{Proposed}
use Rattle.presolve_model.specs.Ledger.{Ledger, instance_count}
use Rattle.presolve_model.specs.Order.{reduction_order, verdict_order}
use Rattle.presolve_model.specs.Scans.{all_ids, all_of, listed}
use Rattle.presolve_model.specs.Stuck.{skipped_on}
use Rattle.presolve_model.specs.Tallies.{no_counts, Open, open_on}
use Rattle.presolve_model.specs.Telling.{IsToldOf}

-- what rules list in a book, of all first ids
abbrev pub listed_in : Ledger → List Rule → List Proposed
listed_in b rules = listed (open_on b.tally) b.problem (instance_count b) (all_ids b.problem) rules

-- what a round lists: the verdicts that are enabled as it begins, and then the open reductions, each with what it reads
abbrev pub round_list : Ledger → List Proposed
round_list b = listed_in b verdict_order ++ listed_in b reduction_order

-- proposals are committed in their order, by the one worker, which is 0, and memory does not run out
abbrev pub Committed : Ledger → List Proposed → Ledger → Type 0
Committed b [] c = c ≡ b
Committed b (p ∷ ps) c = (o : Outcome) × (o ≢ NoMemory) × Allows b p o × Committed (left_by b 0 p o) ps c

-- a round, in a book with room
pub record IsRound (b c : Ledger) : Type 0 where
  pub room : length b.history < b.limit
  pub committed : Committed b (round_list b) c

-- the run goes on after a round that applied a reduction, and no verdict
pub record GoesOn (b c : Ledger) : Type 0 where
  pub round : IsRound b c
  pub undecided : c.verdict ≡ None
  pub more : length b.history < length c.history

-- it ends with a round that applied a verdict, of which no end is told, or nothing
abbrev pub EndsIn : Ledger → Option End → Ledger → Type 0
EndsIn b None c = c.verdict ≢ None
EndsIn b (Some (Fixpoint skipped)) c = (c.verdict ≡ None) × (length c.history ≡ length b.history) × (skipped ≡ skipped_on (open_on c.tally) c.problem)
EndsIn b (Some LimitReached) c = ⊥

-- the verdicts that are enabled, in their order
abbrev pub enabled_verdicts : Open → Sparse → List Instance
enabled_verdicts opens p = filter (enabled_on p) (all_of opens p verdict_order)

-- in a full book the first of these is applied; where there is none, the limit is reached
abbrev pub Closes : Ledger → List Instance → Option End → Ledger → Type 0
Closes b [] ended c = (ended ≡ Some LimitReached) × (c ≡ b)
Closes b (v ∷ vs) ended c = (ended ≡ None) × (c ≡ with_instance b 0 (instance_count b) v)

abbrev pub Stops : Ledger → Option End → Ledger → Type 0
Stops b ended c = (IsRound b c × EndsIn b ended c) ⊎ ((b.limit ≤ length b.history) × Closes b (enabled_verdicts (open_on b.tally) b.problem) ended c)

-- it stops after so many rounds that it goes on from
abbrev pub StopsAfter : ℕ → Ledger → Option End → Ledger → Type 0
StopsAfter zero b ended c = Stops b ended c
StopsAfter (suc n) b ended c = (d : Ledger) × GoesOn b d × StopsAfter n d ended c

-- the run from the book b ends so, with the book c
abbrev pub Ordered : Ledger → Option End → Ledger → Type 0
Ordered b ended c = (n : ℕ) × StopsAfter n b ended c

-- ---- of a program
-- a book of a problem to which nothing was done
abbrev pub new_book : Options → Sparse → Ledger
new_book options p = record { start = p; problem = p; history = []; verdict = None; records = []; transactions = []; tally = no_counts (length p.matrix.columns); numbers = options.numbers; limit = options.limit }

-- the options that a book was opened with, and whether duals are asked for
abbrev pub options_of : Bool → Ledger → Options
options_of dual b = record { numbers = b.numbers; limit = b.limit; dual = dual }

-- the run of the program's problem ends so, with this book
pub record RunsTo (options : Options) (program : ProgramData) (ended : Option End) (b : Ledger) : Type 0 where
  pub start : Sparse
  pub opened : IsProblemOf program start
  pub run : Ordered (new_book options start) ended b

-- the reduced program and the records are those of the book with which the run ends
pub record IsMadeInOrder (options : Options) (program reduced : ProgramData) (told : Postsolve) (ended : End) : Type 0 where
  pub book : Ledger
  pub runs : RunsTo options program (Some ended) book
  pub written : reduced ≡ written_program program book.problem
  pub tells : IsToldOf options.dual program book told
