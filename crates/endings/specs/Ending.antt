-- The status of an ending, and what is printed at it.
use Rattle.std.specs.Prelude.{ℕ, Bool, true, false, List, [], ◌∷◌, ◌++◌, codes}
use Rattle.endings.specs.declared.ending.Ending.{Ending}
use Rattle.endings.specs.declared.ending.Ending.TheVariants.{Done, Usage, Refused, ReadFault, WriteFault, NoMemory, NoRoom, RecordsRefused, SolutionRefused, Violated, Spent, Infeasible, RayPast, UnboundedOrInfeasible, Unbounded}

abbrev pub status_of : Ending → ℕ
status_of (Done text) = 0
status_of Usage = 1
status_of (Refused line) = 2
status_of ReadFault = 3
status_of WriteFault = 4
status_of NoMemory = 5
status_of (NoRoom line) = 6
status_of (RecordsRefused line) = 7
status_of (SolutionRefused line) = 8
status_of (Violated line) = 9
status_of Spent = 10
status_of Infeasible = 20
status_of (RayPast lines) = 20
status_of UnboundedOrInfeasible = 21
status_of Unbounded = 22

-- ---- the lines that hold no number and no name
abbrev pub usage_line : List ℕ
usage_line = codes "usage: presolve, postsolve, check, gen, migrate, verify or solve" ++ 10 ∷ []

abbrev pub read_fault_line : List ℕ
read_fault_line = codes "read fault" ++ 10 ∷ []

abbrev pub write_fault_line : List ℕ
write_fault_line = codes "write fault" ++ 10 ∷ []

abbrev pub no_memory_line : List ℕ
no_memory_line = codes "no memory" ++ 10 ∷ []

abbrev pub spent_line : List ℕ
spent_line = codes "pivots spent" ++ 10 ∷ []

abbrev pub infeasible_line : List ℕ
infeasible_line = codes "infeasible" ++ 10 ∷ []

abbrev pub unbounded_line : List ℕ
unbounded_line = codes "unbounded or infeasible" ++ 10 ∷ []

abbrev pub endless_line : List ℕ
endless_line = codes "unbounded" ++ 10 ∷ []

abbrev pub text_of : Ending → List ℕ
text_of (Done text) = text.items
text_of Usage = usage_line
text_of (Refused line) = line.items
text_of ReadFault = read_fault_line
text_of WriteFault = write_fault_line
text_of NoMemory = no_memory_line
text_of (NoRoom line) = line.items
text_of (RecordsRefused line) = line.items
text_of (SolutionRefused line) = line.items
text_of (Violated line) = line.items
text_of Spent = spent_line
text_of Infeasible = infeasible_line
text_of (RayPast lines) = lines.items
text_of UnboundedOrInfeasible = unbounded_line
text_of Unbounded = endless_line

-- ---- by cases of the status
-- the first where the test holds, else the second
abbrev pub When : Bool → Type 0 → Type 0 → Type 0
When true P Q = P
When false P Q = Q
