-- Which names tell what they told, by how a run ended.
use Rattle.std.proofs.Common.{◌≡◌, ◌≢◌, ◌⊎◌, ℕ, List, inl, inr, Option, Some, None, refl, ap, arith}
use Rattle.std.specs.Prelude.{IfSome}
use Rattle.file_ports.specs.Ports.{Moment, Told, KeepsOthers}
use Rattle.command_words.specs.Names.{MigrateNames, PostsolveNames, PresolveNames, SolveNames, Request, Presolve, Check, Postsolve, Migrate, Verify, Solve, Gen}
use Rattle.endings.specs.Ending.{status_of, text_of}
use Rattle.endings.specs.Moments.{IsQuiet, KeepsAllBut}
use Rattle.endings.specs.declared.ending.Ending.{Ending}
use Rattle.endings.specs.declared.ending.Ending.TheVariants.{Done, Usage, Refused, ReadFault, WriteFault, NoMemory, NoRoom, RecordsRefused, SolutionRefused, Violated, Spent, Infeasible, RayPast, UnboundedOrInfeasible, Unbounded}
use Rattle.presolve_command.specs.Presolved.{AreUnwritten, EndsPresolve, FailsBetween, IsRayUnwritten, SaysInfeasible}
use Rattle.postsolve_command.specs.Postsolved.{EndsPostsolve}
use Rattle.migrate_command.specs.Migrated.{EndsMigrate}
use Rattle.solve_command.specs.Solving.{EndsSolve}
use Rattle.papilo.specs.Runs.{Ends, IsQuietBut, KeepsBeside, KeepsUnasked, ray_asked}

-- ---- where the status is neither 0 nor 4
quiet_refused : (ending : Ending) (before now : Moment) → Ends None (status_of ending) (text_of ending) before now → IsQuiet before now
quiet_refused (Done text) before now ends = absurd ends
quiet_refused Usage before now ends = ends.0
quiet_refused (Refused line) before now ends = absurd ends
quiet_refused ReadFault before now ends = absurd ends
quiet_refused WriteFault before now ends = absurd ends
quiet_refused NoMemory before now ends = ends.0
quiet_refused (NoRoom line) before now ends = absurd ends
quiet_refused (RecordsRefused line) before now ends = absurd ends
quiet_refused (SolutionRefused line) before now ends = absurd ends
quiet_refused (Violated line) before now ends = absurd ends
quiet_refused Infeasible before now ends = absurd ends
quiet_refused (RayPast lines) before now ends = absurd ends
quiet_refused UnboundedOrInfeasible before now ends = absurd ends
quiet_refused Spent before now ends = absurd ends
quiet_refused Unbounded before now ends = absurd ends

quiet_presolve : (names : PresolveNames) (ending : Ending) (before now : Moment) → EndsPresolve names (status_of ending) (text_of ending) before now
    → (status_of ending ≡ 0 → ⊥) → (status_of ending ≡ 4 → ⊥) → (status_of ending ≡ 20 → ⊥) → IsQuiet before now
quiet_presolve names (Done text) before now ends done unwritten found = absurd (done refl)
quiet_presolve names Usage before now ends done unwritten found = absurd ends.says
quiet_presolve names (Refused line) before now ends done unwritten found = ends.says.1
quiet_presolve names ReadFault before now ends done unwritten found = ends.says.1
quiet_presolve names WriteFault before now ends done unwritten found = absurd (unwritten refl)
quiet_presolve names NoMemory before now ends done unwritten found = ends.says.0
quiet_presolve names (NoRoom line) before now ends done unwritten found = absurd ends.says
quiet_presolve names (RecordsRefused line) before now ends done unwritten found = absurd ends.says
quiet_presolve names (SolutionRefused line) before now ends done unwritten found = absurd ends.says
quiet_presolve names (Violated line) before now ends done unwritten found = absurd ends.says
quiet_presolve names Infeasible before now ends done unwritten found = absurd (found refl)
quiet_presolve names (RayPast lines) before now ends done unwritten found = absurd (found refl)
quiet_presolve names UnboundedOrInfeasible before now ends done unwritten found = ends.says.1
quiet_presolve names Spent before now ends done unwritten found = absurd ends.says
quiet_presolve names Unbounded before now ends done unwritten found = absurd ends.says

quiet_postsolve : (names : PostsolveNames) (ending : Ending) (before now : Moment) → EndsPostsolve names (status_of ending) (text_of ending) before now
    → (status_of ending ≡ 0 → ⊥) → (status_of ending ≡ 4 → ⊥) → IsQuiet before now
quiet_postsolve names (Done text) before now ends done unwritten = absurd (done refl)
quiet_postsolve names Usage before now ends done unwritten = absurd ends.says
quiet_postsolve names (Refused line) before now ends done unwritten = ends.says.1
quiet_postsolve names ReadFault before now ends done unwritten = ends.says.1
quiet_postsolve names WriteFault before now ends done unwritten = absurd (unwritten refl)
quiet_postsolve names NoMemory before now ends done unwritten = ends.says.0
quiet_postsolve names (NoRoom line) before now ends done unwritten = ends.says.1
quiet_postsolve names (RecordsRefused line) before now ends done unwritten = ends.says.1
quiet_postsolve names (SolutionRefused line) before now ends done unwritten = ends.says.1
quiet_postsolve names (Violated line) before now ends done unwritten = absurd ends.says
quiet_postsolve names Infeasible before now ends done unwritten = absurd ends.says
quiet_postsolve names (RayPast lines) before now ends done unwritten = absurd ends.says
quiet_postsolve names UnboundedOrInfeasible before now ends done unwritten = absurd ends.says
quiet_postsolve names Spent before now ends done unwritten = absurd ends.says
quiet_postsolve names Unbounded before now ends done unwritten = absurd ends.says

quiet_migrate : (names : MigrateNames) (ending : Ending) (before now : Moment) → EndsMigrate names (status_of ending) (text_of ending) before now
    → (status_of ending ≡ 0 → ⊥) → (status_of ending ≡ 4 → ⊥) → IsQuiet before now
quiet_migrate names (Done text) before now ends done unwritten = absurd (done refl)
quiet_migrate names Usage before now ends done unwritten = absurd ends.says
quiet_migrate names (Refused line) before now ends done unwritten = absurd ends.says
quiet_migrate names ReadFault before now ends done unwritten = ends.says.1
quiet_migrate names WriteFault before now ends done unwritten = absurd (unwritten refl)
quiet_migrate names NoMemory before now ends done unwritten = ends.says.0
quiet_migrate names (NoRoom line) before now ends done unwritten = absurd ends.says
quiet_migrate names (RecordsRefused line) before now ends done unwritten = ends.says.1
quiet_migrate names (SolutionRefused line) before now ends done unwritten = absurd ends.says
quiet_migrate names (Violated line) before now ends done unwritten = absurd ends.says
quiet_migrate names Infeasible before now ends done unwritten = absurd ends.says
quiet_migrate names (RayPast lines) before now ends done unwritten = absurd ends.says
quiet_migrate names UnboundedOrInfeasible before now ends done unwritten = absurd ends.says
quiet_migrate names Spent before now ends done unwritten = absurd ends.says
quiet_migrate names Unbounded before now ends done unwritten = absurd ends.says

quiet_solve : (names : SolveNames) (ending : Ending) (before now : Moment) → EndsSolve names (status_of ending) (text_of ending) before now
    → (status_of ending ≡ 0 → ⊥) → (status_of ending ≡ 4 → ⊥) → IsQuiet before now
quiet_solve names (Done text) before now ends done unwritten = absurd (done refl)
quiet_solve names Usage before now ends done unwritten = absurd ends.says
quiet_solve names (Refused line) before now ends done unwritten = ends.says.1
quiet_solve names ReadFault before now ends done unwritten = ends.says.1
quiet_solve names WriteFault before now ends done unwritten = absurd (unwritten refl)
quiet_solve names NoMemory before now ends done unwritten = ends.says.0
quiet_solve names (NoRoom line) before now ends done unwritten = ends.says.1
quiet_solve names (RecordsRefused line) before now ends done unwritten = absurd ends.says
quiet_solve names (SolutionRefused line) before now ends done unwritten = absurd ends.says
quiet_solve names (Violated line) before now ends done unwritten = absurd ends.says
quiet_solve names Spent before now ends done unwritten = ends.says.1
quiet_solve names Infeasible before now ends done unwritten = ends.says.1
quiet_solve names (RayPast lines) before now ends done unwritten = ends.says.1
quiet_solve names UnboundedOrInfeasible before now ends done unwritten = absurd ends.says
quiet_solve names Unbounded before now ends done unwritten = ends.says.1

pub quiet : (asked : Option Request) (ending : Ending) (before now : Moment) → Ends asked (status_of ending) (text_of ending) before now
    → (status_of ending ≡ 0 → ⊥) → (status_of ending ≡ 4 → ⊥) → (status_of ending ≡ 20 → ⊥) → IsQuiet before now
quiet None ending before now ends done unwritten found = quiet_refused ending before now ends
quiet (Some (Presolve names)) ending before now ends done unwritten found = quiet_presolve names ending before now ends done unwritten found
quiet (Some (Check names)) ending before now ends done unwritten found = ends.quiet
quiet (Some (Postsolve names)) ending before now ends done unwritten found = quiet_postsolve names ending before now ends done unwritten
quiet (Some (Migrate names)) ending before now ends done unwritten found = quiet_migrate names ending before now ends done unwritten
quiet (Some (Verify names)) ending before now ends done unwritten found = ends.quiet
quiet (Some (Solve names)) ending before now ends done unwritten found = quiet_solve names ending before now ends done unwritten
quiet (Some (Gen numbers)) ending before now ends done unwritten found = ends.quiet

-- ---- where memory ran out
not_done : (status : ℕ) → status ≡ 5 → status ≡ 0 → ⊥
not_done status five done = omega (arith, five, done)

not_unwritten : (status : ℕ) → status ≡ 5 → status ≡ 4 → ⊥
not_unwritten status five unwritten = omega (arith, five, unwritten)

not_found : (status : ℕ) → status ≡ 5 → status ≡ 20 → ⊥
not_found status five found = omega (arith, five, found)

pub unspent : (asked : Option Request) (ending : Ending) (before now : Moment) → Ends asked (status_of ending) (text_of ending) before now
    → status_of ending ≡ 5 → IsQuiet before now
unspent asked ending before now ends five =
    quiet asked ending before now ends (not_done (status_of ending) five) (not_unwritten (status_of ending) five) (not_found (status_of ending) five)

-- ---- at any status
told_still : (before now : Moment) → IsQuiet before now → (other : List ℕ) → now.told other ≡ before.told other
told_still before now quiet other = ap (λ (t : List ℕ → Told). t other) quiet

-- ---- where there is no feasible point
still_but : (ray : Option (List ℕ)) (before now : Moment) → IsQuiet before now → IsQuietBut ray before now
still_but None before now still = still
still_but (Some ray) before now still = λ other a. told_still before now still other

found_quiet : (ray : Option (List ℕ)) (names : PresolveNames) (printed : List ℕ) (before now : Moment) → SaysInfeasible ray names printed before now → IsQuietBut ray before now
found_quiet None names printed before now h = h.1
found_quiet (Some ray) names printed before now (inl h) = h.0.3
found_quiet (Some ray) names printed before now (inr h) = still_but (Some ray) before now h.2

found_presolve : (names : PresolveNames) (ending : Ending) (before now : Moment) → EndsPresolve names (status_of ending) (text_of ending) before now → status_of ending ≡ 20 → IsQuietBut names.ray before now
found_presolve names (Done text) before now ends at = absurd (omega (arith, at))
found_presolve names Usage before now ends at = absurd ends.says
found_presolve names (Refused line) before now ends at = still_but names.ray before now ends.says.1
found_presolve names ReadFault before now ends at = still_but names.ray before now ends.says.1
found_presolve names WriteFault before now ends at = absurd (omega (arith, at))
found_presolve names NoMemory before now ends at = still_but names.ray before now ends.says.0
found_presolve names (NoRoom line) before now ends at = absurd ends.says
found_presolve names (RecordsRefused line) before now ends at = absurd ends.says
found_presolve names (SolutionRefused line) before now ends at = absurd ends.says
found_presolve names (Violated line) before now ends at = absurd ends.says
found_presolve names Infeasible before now ends at = found_quiet names.ray names _ before now ends.says
found_presolve names (RayPast lines) before now ends at = found_quiet names.ray names _ before now ends.says
found_presolve names UnboundedOrInfeasible before now ends at = still_but names.ray before now ends.says.1
found_presolve names Spent before now ends at = absurd ends.says
found_presolve names Unbounded before now ends at = absurd ends.says

found_done : (status : ℕ) → status ≡ 20 → status ≡ 0 → ⊥
found_done status found done = omega (arith, found, done)

found_unwritten : (status : ℕ) → status ≡ 20 → status ≡ 4 → ⊥
found_unwritten status found unwritten = omega (arith, found, unwritten)

pub infeasible : (asked : Option Request) (ending : Ending) (before now : Moment) → Ends asked (status_of ending) (text_of ending) before now → status_of ending ≡ 20 → IsQuietBut (ray_asked asked) before now
infeasible None ending before now ends at = quiet_refused ending before now ends
infeasible (Some (Presolve names)) ending before now ends at = found_presolve names ending before now ends at
infeasible (Some (Check names)) ending before now ends at = ends.quiet
infeasible (Some (Postsolve names)) ending before now ends at = quiet_postsolve names ending before now ends (found_done (status_of ending) at) (found_unwritten (status_of ending) at)
infeasible (Some (Migrate names)) ending before now ends at = quiet_migrate names ending before now ends (found_done (status_of ending) at) (found_unwritten (status_of ending) at)
infeasible (Some (Verify names)) ending before now ends at = ends.quiet
infeasible (Some (Solve names)) ending before now ends at = quiet_solve names ending before now ends (found_done (status_of ending) at) (found_unwritten (status_of ending) at)
infeasible (Some (Gen numbers)) ending before now ends at = ends.quiet

-- ---- at any status, all names but those that are asked for
fails_kept : (first text second : List ℕ) (before now : Moment) → FailsBetween first text second before now → KeepsAllBut before.told now.told first second
fails_kept first text second before now (inl f) = λ other a b. f.0 other a
fails_kept first text second before now (inr f) = f.2

but_kept : (ray : Option (List ℕ)) (before now : Moment) → IsQuietBut ray before now → (other : List ℕ) → IfSome ray (λ name. other ≢ name) → now.told other ≡ before.told other
but_kept None before now still other apart = told_still before now still other
but_kept (Some ray) before now still other apart = still other apart

unwritten_kept : (ray : Option (List ℕ)) (names : PresolveNames) (before now : Moment) → AreUnwritten names before now ⊎ IsRayUnwritten ray names before now
    → (other : List ℕ) → other ≢ names.output → other ≢ names.records → IfSome ray (λ name. other ≢ name) → now.told other ≡ before.told other
unwritten_kept ray names before now (inl h) = λ other a b c. fails_kept names.output h.0 names.records before now h.4 other a b
unwritten_kept None names before now (inr h) = absurd h
unwritten_kept (Some ray) names before now (inr h) = λ other a b c. h.2 other c

kept_presolve : (names : PresolveNames) (ending : Ending) (before now : Moment) → EndsPresolve names (status_of ending) (text_of ending) before now
    → KeepsBeside names before now
kept_presolve names (Done text) before now ends = λ other a b c. ends.says.others other a b
kept_presolve names Usage before now ends = absurd ends.says
kept_presolve names (Refused line) before now ends = λ other a b c. told_still before now ends.says.1 other
kept_presolve names ReadFault before now ends = λ other a b c. told_still before now ends.says.1 other
kept_presolve names WriteFault before now ends = unwritten_kept names.ray names before now ends.says.0
kept_presolve names NoMemory before now ends = λ other a b c. told_still before now ends.says.0 other
kept_presolve names (NoRoom line) before now ends = absurd ends.says
kept_presolve names (RecordsRefused line) before now ends = absurd ends.says
kept_presolve names (SolutionRefused line) before now ends = absurd ends.says
kept_presolve names (Violated line) before now ends = absurd ends.says
kept_presolve names Infeasible before now ends = λ other a b c. but_kept names.ray before now (found_quiet names.ray names _ before now ends.says) other c
kept_presolve names (RayPast lines) before now ends = λ other a b c. but_kept names.ray before now (found_quiet names.ray names _ before now ends.says) other c
kept_presolve names UnboundedOrInfeasible before now ends = λ other a b c. told_still before now ends.says.1 other
kept_presolve names Spent before now ends = absurd ends.says
kept_presolve names Unbounded before now ends = absurd ends.says

kept_postsolve : (names : PostsolveNames) (ending : Ending) (before now : Moment) → EndsPostsolve names (status_of ending) (text_of ending) before now
    → KeepsOthers before.told now.told names.result
kept_postsolve names (Done text) before now ends = ends.says.others
kept_postsolve names Usage before now ends = absurd ends.says
kept_postsolve names (Refused line) before now ends = λ other a. told_still before now ends.says.1 other
kept_postsolve names ReadFault before now ends = λ other a. told_still before now ends.says.1 other
kept_postsolve names WriteFault before now ends = ends.says.0.others
kept_postsolve names NoMemory before now ends = λ other a. told_still before now ends.says.0 other
kept_postsolve names (NoRoom line) before now ends = λ other a. told_still before now ends.says.1 other
kept_postsolve names (RecordsRefused line) before now ends = λ other a. told_still before now ends.says.1 other
kept_postsolve names (SolutionRefused line) before now ends = λ other a. told_still before now ends.says.1 other
kept_postsolve names (Violated line) before now ends = absurd ends.says
kept_postsolve names Infeasible before now ends = absurd ends.says
kept_postsolve names (RayPast lines) before now ends = absurd ends.says
kept_postsolve names UnboundedOrInfeasible before now ends = absurd ends.says
kept_postsolve names Spent before now ends = absurd ends.says
kept_postsolve names Unbounded before now ends = absurd ends.says

kept_migrate : (names : MigrateNames) (ending : Ending) (before now : Moment) → EndsMigrate names (status_of ending) (text_of ending) before now
    → KeepsOthers before.told now.told names.written
kept_migrate names (Done text) before now ends = ends.says.others
kept_migrate names Usage before now ends = absurd ends.says
kept_migrate names (Refused line) before now ends = absurd ends.says
kept_migrate names ReadFault before now ends = λ other a. told_still before now ends.says.1 other
kept_migrate names WriteFault before now ends = ends.says.0.others
kept_migrate names NoMemory before now ends = λ other a. told_still before now ends.says.0 other
kept_migrate names (NoRoom line) before now ends = absurd ends.says
kept_migrate names (RecordsRefused line) before now ends = λ other a. told_still before now ends.says.1 other
kept_migrate names (SolutionRefused line) before now ends = absurd ends.says
kept_migrate names (Violated line) before now ends = absurd ends.says
kept_migrate names Infeasible before now ends = absurd ends.says
kept_migrate names (RayPast lines) before now ends = absurd ends.says
kept_migrate names UnboundedOrInfeasible before now ends = absurd ends.says
kept_migrate names Spent before now ends = absurd ends.says
kept_migrate names Unbounded before now ends = absurd ends.says

kept_solve : (names : SolveNames) (ending : Ending) (before now : Moment) → EndsSolve names (status_of ending) (text_of ending) before now → KeepsOthers before.told now.told names.solution
kept_solve names (Done text) before now ends = ends.says.others
kept_solve names Usage before now ends = absurd ends.says
kept_solve names (Refused line) before now ends = λ other a. told_still before now ends.says.1 other
kept_solve names ReadFault before now ends = λ other a. told_still before now ends.says.1 other
kept_solve names WriteFault before now ends = ends.says.0.others
kept_solve names NoMemory before now ends = λ other a. told_still before now ends.says.0 other
kept_solve names (NoRoom line) before now ends = λ other a. told_still before now ends.says.1 other
kept_solve names (RecordsRefused line) before now ends = absurd ends.says
kept_solve names (SolutionRefused line) before now ends = absurd ends.says
kept_solve names (Violated line) before now ends = absurd ends.says
kept_solve names Spent before now ends = λ other a. told_still before now ends.says.1 other
kept_solve names Infeasible before now ends = λ other a. told_still before now ends.says.1 other
kept_solve names (RayPast lines) before now ends = λ other a. told_still before now ends.says.1 other
kept_solve names UnboundedOrInfeasible before now ends = absurd ends.says
kept_solve names Unbounded before now ends = λ other a. told_still before now ends.says.1 other

pub kept : (asked : Option Request) (ending : Ending) (before now : Moment) → Ends asked (status_of ending) (text_of ending) before now → KeepsUnasked asked before now
kept None ending before now ends = quiet_refused ending before now ends
kept (Some (Presolve names)) ending before now ends = kept_presolve names ending before now ends
kept (Some (Check names)) ending before now ends = ends.quiet
kept (Some (Postsolve names)) ending before now ends = kept_postsolve names ending before now ends
kept (Some (Migrate names)) ending before now ends = kept_migrate names ending before now ends
kept (Some (Verify names)) ending before now ends = ends.quiet
kept (Some (Solve names)) ending before now ends = kept_solve names ending before now ends
kept (Some (Gen numbers)) ending before now ends = ends.quiet
