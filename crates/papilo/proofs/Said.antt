-- What a run says at a status, of how it ended.
use Rattle.std.proofs.Common.{◌≡◌, ℕ, List, ◌≤◌, ◌⊎◌, inl, inr, Option, Some, None, refl, arith, subst}
use Rattle.file_ports.specs.Ports.{Moment}
use Rattle.command_words.specs.Names.{Request, Presolve, Check, Postsolve, Migrate, Verify, Solve, Gen}
use Rattle.endings.specs.Ending.{status_of}
use Rattle.endings.specs.declared.ending.Ending.{Ending}
use Rattle.endings.specs.declared.ending.Ending.TheVariants.{Done, Usage, Refused, ReadFault, WriteFault, NoMemory, NoRoom, RecordsRefused, SolutionRefused, Violated, Spent, Infeasible, RayPast, UnboundedOrInfeasible, Unbounded}
use Rattle.papilo.specs.Runs.{AreThere, Ends, IsUnwritten}

-- the same at an equal status
pub ends_at : (asked : Option Request) (status other : ℕ) (printed : List ℕ) (before now : Moment) → status ≡ other → Ends asked status printed before now → Ends asked other printed before now
ends_at asked status other printed before now same h = subst (λ (k : ℕ). Ends asked k printed before now) same h

unwritten_at : (asked : Option Request) (printed : List ℕ) (before now : Moment) → Ends asked 4 printed before now → IsUnwritten asked before now
unwritten_at None printed before now h = h
unwritten_at (Some (Presolve names)) printed before now h = h.says.0
unwritten_at (Some (Check names)) printed before now h = h.says
unwritten_at (Some (Postsolve names)) printed before now h = h.says.0
unwritten_at (Some (Migrate names)) printed before now h = h.says.0
unwritten_at (Some (Verify names)) printed before now h = h.says
unwritten_at (Some (Solve names)) printed before now h = h.says.0
unwritten_at (Some (Gen numbers)) printed before now h = h.says

pub unwritten : (asked : Option Request) (status : ℕ) (printed : List ℕ) (before now : Moment) → status ≡ 4 → Ends asked status printed before now → IsUnwritten asked before now
unwritten asked status printed before now is h = unwritten_at asked printed before now (ends_at asked status 4 printed before now is h)

-- a command that is asked for does not end with status 1
asked_at : (request : Request) (printed : List ℕ) (before now : Moment) → Ends (Some request) 1 printed before now → ⊥
asked_at (Presolve names) printed before now h = h.says
asked_at (Check names) printed before now h = h.says
asked_at (Postsolve names) printed before now h = h.says
asked_at (Migrate names) printed before now h = h.says
asked_at (Verify names) printed before now h = h.says
asked_at (Solve names) printed before now h = h.says
asked_at (Gen numbers) printed before now h = h.says

pub not_refused : (request : Request) (status : ℕ) (printed : List ℕ) (before now : Moment) → Ends (Some request) status printed before now → status ≡ 1 → ⊥
not_refused request status printed before now h is = asked_at request printed before now (ends_at (Some request) status 1 printed before now is h)

pub there : (asked : Option Request) (status : ℕ) (printed : List ℕ) (before now : Moment) → Ends asked status printed before now → (status ≡ 3 → ⊥) → (status ≡ 5 → ⊥) → AreThere asked before
there None status printed before now h a b = tt
there (Some (Presolve names)) status printed before now h a b = h.read a b
there (Some (Check names)) status printed before now h a b = h.read a b
there (Some (Postsolve names)) status printed before now h a b = h.read a b
there (Some (Migrate names)) status printed before now h a b = h.read a b
there (Some (Verify names)) status printed before now h a b = h.read a b
there (Some (Solve names)) status printed before now h a b = h.read a b
there (Some (Gen numbers)) status printed before now h a b = tt

-- the statuses that there are
pub status_known : (ending : Ending) (status : ℕ) → status ≡ status_of ending → (status ≤ 10) ⊎ (status ≡ 20) ⊎ (status ≡ 21) ⊎ (status ≡ 22)
status_known (Done text) status is = inl (omega arith)
status_known Usage status is = inl (omega arith)
status_known (Refused line) status is = inl (omega arith)
status_known ReadFault status is = inl (omega arith)
status_known WriteFault status is = inl (omega arith)
status_known NoMemory status is = inl (omega arith)
status_known (NoRoom line) status is = inl (omega arith)
status_known (RecordsRefused line) status is = inl (omega arith)
status_known (SolutionRefused line) status is = inl (omega arith)
status_known (Violated line) status is = inl (omega arith)
status_known Spent status is = inl (omega arith)
status_known Infeasible status is = inr (inl is)
status_known (RayPast lines) status is = inr (inl is)
status_known UnboundedOrInfeasible status is = inr (inr (inl is))
status_known Unbounded status is = inr (inr (inr is))
