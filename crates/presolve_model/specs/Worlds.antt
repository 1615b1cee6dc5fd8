-- A book and its workers: what each event makes of them.
use Rattle.std.specs.Prelude.{◌≡◌, ℕ, ⊤, List, [], ◌∷◌, ◌++◌, Option, Some, None}
use Rattle.fractions.specs.Total.{put}
use Rattle.presolve_model.specs.declared.outcome.Outcome.{Outcome}
use Rattle.presolve_model.specs.Commits.{Allows, left_by}
use Rattle.presolve_model.specs.Enabled.{Enabled}
use Rattle.presolve_model.specs.Given.{Proposed}
use Rattle.presolve_model.specs.Ledger.{Ledger, instance_count}
use Rattle.presolve_model.specs.Tallies.{Counts}
use Rattle.problem_model.specs.Sparse.{Sparse}

-- a frozen version: the problem, how often each bound had been tightened, and how many instances had been applied, a verdict among them
pub record Version : Type 0 where
  pub problem : Sparse
  pub tally : Counts
  pub applied : ℕ

-- the book, and for each worker its frozen version and the proposals that it has not committed yet, the first one first
pub record State : Type 0 where
  pub book : Ledger
  pub frozen : ℕ → Option Version
  pub pending : ℕ → List Proposed

pub data Happening : Type 0 where
  -- worker w freezes the present problem
  Freeze : (w : ℕ) → Happening
  -- worker w proposes
  Propose : (w : ℕ) (p : Proposed) → Happening
  -- worker w commits the first of its proposals
  Commit : (w : ℕ) → Happening

abbrev pub version_of : Ledger → Version
version_of b = record { problem = b.problem; tally = b.tally; applied = instance_count b }

abbrev pub opened : Ledger → State
opened b = record { book = b; frozen = λ w. None; pending = λ w. [] }

-- the first of a worker's proposals is committed, with an answer that a commit may give; with none pending nothing happens
abbrev pub Commits : State → ℕ → List Proposed → Option Outcome → State → Type 0
Commits s w [] None t = t ≡ s
Commits s w [] (Some o) t = ⊥
Commits s w (p ∷ ps) None t = ⊥
Commits s w (p ∷ ps) (Some o) t = Allows s.book p o × (t ≡ record s { book = left_by s.book w p o; pending = put s.pending w ps })

-- an event takes s to t, with the answer to a commit
abbrev pub Steps : State → Happening → Option Outcome → State → Type 0
Steps s (Freeze w) o t = (o ≡ None) × (t ≡ record s { frozen = put s.frozen w (Some (version_of s.book)) })
Steps s (Propose w p) o t = (o ≡ None) × (t ≡ record s { pending = put s.pending w (s.pending w ++ p ∷ []) })
Steps s (Commit w) o t = Commits s w (s.pending w) o t

-- events in a row, with their answers
abbrev pub Runs : State → List (Happening × Option Outcome) → State → Type 0
Runs s [] t = t ≡ s
Runs s ((h, o) ∷ hs) t = (between : State) × Steps s h o between × Runs between hs t

-- what is proposed is an instance that is enabled on its reading; nothing else is asked of it
abbrev pub IsProposal : Happening → Type 0
IsProposal (Freeze w) = ⊤
IsProposal (Propose w p) = Enabled p.instance p.reading
IsProposal (Commit w) = ⊤

abbrev pub AreProposals : List (Happening × Option Outcome) → Type 0
AreProposals [] = ⊤
AreProposals ((h, o) ∷ hs) = IsProposal h × AreProposals hs
