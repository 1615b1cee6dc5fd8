-- What an ending by a verdict says of a solution.
use Rattle.std.proofs.Common.{◌≡◌, ℕ, List, Some, None, true, inl, inr, subst, ◌∙◌}
use Rattle.fractions.specs.Number.{Number}
use Rattle.fractions.specs.Room.{Room}
use Rattle.exact_texts.specs.Texts.{Texts}
use Rattle.file_ports.specs.Ports.{Moment, Told}
use Rattle.lp_model.specs.ProgramData.{ProgramData}
use Rattle.lp_model.specs.Vectors.{vector_of}
use Rattle.lp_model.specs.Meaning.{meaning}
use Rattle.lp_model.specs.LinearProgram.{Feasible}
use Rattle.lp_model.specs.Optimality.{Continuous, Meets}
use Rattle.lp_check.specs.declared.verdicts.Verdict.{Verdict}
use Rattle.lp_check.specs.declared.pair_verdicts.PairVerdict.{PairVerdict}
use Rattle.lp_check.specs.Deciding.{DecidesIn}
use Rattle.lp_check.specs.DecidingPairs.{DecidesPairIn}
use Rattle.ray_text.specs.RayLines.{is_ray_text}
use Rattle.endings.specs.Moments.{Reads}
use Rattle.endings.specs.declared.reads.TheConstants.{SOLUTION_LIMIT}
use Rattle.endings.specs.declared.ending.Ending.{Ending}
use Rattle.endings.specs.declared.ending.Ending.TheVariants.{Done, Usage, Refused, ReadFault, WriteFault, NoMemory, NoRoom, RecordsRefused, SolutionRefused, Violated, Spent, Infeasible, RayPast, UnboundedOrInfeasible, Unbounded}
use Rattle.check_command.specs.GivenTexts.{GivesRay, IsSolutionOf, NeedsContinuous, SaysGivenFault, given_fault, ray_fault_of}
use Rattle.check_command.specs.JudgedRay.{SaysRay, SaysRayFault}
use Rattle.check_command.specs.VerdictText.{status_of_verdict, verdict_text, status_of_pair_verdict, pair_verdict_text}
use Rattle.check_command.specs.Checked.{IsDecided, IsPointJudged, IsPairJudged, SaysSolution, TellsVerdict, TellsPairVerdict}
use Rattle.check_command.proofs.Exactly.{pair_decided, point_decided}
use Rattle.check_command.proofs.Proved.{proved_best}

-- ---- of a point
point_judged : (m : Room) (t : Texts) (program : ProgramData) (point : List Number) (verdict : Verdict Number) (name : List ℕ) (before : Moment) (status : ℕ) (printed : List ℕ)
    → Reads SOLUTION_LIMIT (before.told name) (λ text. IsSolutionOf t.reading program text point None) → DecidesIn m (meaning program) (vector_of point) verdict
    → status_of_verdict verdict ≡ status → printed ≡ verdict_text t.writing program verdict → IsPointJudged m t program (before.told name) status printed
point_judged m t program point verdict name before status printed given decides answers said =
    record { point = point; verdict = verdict; given = given; decides = decides; answers = answers; said = said; exact = λ all. subst (λ s. IsDecided s (Feasible (meaning program) (vector_of point))) answers (point_decided m all (meaning program) (vector_of point) verdict decides) }

pub point_told : (m : Room) (t : Texts) (program : ProgramData) (point : List Number) (verdict : Verdict Number) (ending : Ending) (name : List ℕ) (before now : Moment)
    → Reads SOLUTION_LIMIT (before.told name) (λ text. IsSolutionOf t.reading program text point None) → DecidesIn m (meaning program) (vector_of point) verdict → TellsVerdict t.writing program verdict ending
    → SaysSolution m t program name before now ending
point_told m t program point verdict (Done text) name before now given decides h = inl (point_judged m t program point verdict name before 0 text.items given decides h.0 h.1)
point_told m t program point verdict Usage name before now given decides h = absurd h
point_told m t program point verdict (Refused line) name before now given decides h = absurd h
point_told m t program point verdict ReadFault name before now given decides h = absurd h
point_told m t program point verdict WriteFault name before now given decides h = absurd h
point_told m t program point verdict NoMemory name before now given decides h = absurd h
point_told m t program point verdict (NoRoom line) name before now given decides h = inl (point_judged m t program point verdict name before 6 line.items given decides h.0 h.1)
point_told m t program point verdict (RecordsRefused line) name before now given decides h = absurd h
point_told m t program point verdict (SolutionRefused line) name before now given decides h = absurd h
point_told m t program point verdict (Violated line) name before now given decides h = inl (point_judged m t program point verdict name before 9 line.items given decides h.0 h.1)
point_told m t program point verdict Infeasible name before now given decides h = absurd h
point_told m t program point verdict (RayPast lines) name before now given decides h = absurd h
point_told m t program point verdict UnboundedOrInfeasible name before now given decides h = absurd h
point_told m t program point verdict Spent name before now given decides h = absurd h
point_told m t program point verdict Unbounded name before now given decides h = absurd h

-- ---- of a point with duals
pair_judged : (m : Room) (t : Texts) (program : ProgramData) (point duals : List Number) (verdict : PairVerdict Number) (name : List ℕ) (before : Moment) (status : ℕ) (printed : List ℕ)
    → Reads SOLUTION_LIMIT (before.told name) (λ text. IsSolutionOf t.reading program text point (Some duals)) → Continuous (meaning program)
    → DecidesPairIn m program.sense (meaning program) (vector_of point) (vector_of duals) verdict
    → status_of_pair_verdict verdict ≡ status → printed ≡ pair_verdict_text t.writing program verdict → IsPairJudged m t program (before.told name) status printed
pair_judged m t program point duals verdict name before status printed given continuous decides answers said = record {
  point = point;
  duals = duals;
  verdict = verdict;
  given = given;
  continuous = continuous;
  decides = decides;
  answers = answers;
  said = said;
  exact = λ all. subst (λ s. IsDecided s (Meets program.sense (meaning program) (vector_of point) (vector_of duals))) answers (pair_decided m all program.sense (meaning program) (vector_of point) (vector_of duals) verdict continuous decides);
  proves = λ zero. proved_best m t.writing program point duals verdict printed continuous decides said (answers ∙ zero);
}

pub pair_told : (m : Room) (t : Texts) (program : ProgramData) (point duals : List Number) (verdict : PairVerdict Number) (ending : Ending) (name : List ℕ) (before now : Moment)
    → Reads SOLUTION_LIMIT (before.told name) (λ text. IsSolutionOf t.reading program text point (Some duals)) → Continuous (meaning program)
    → DecidesPairIn m program.sense (meaning program) (vector_of point) (vector_of duals) verdict → TellsPairVerdict t.writing program verdict ending
    → SaysSolution m t program name before now ending
pair_told m t program point duals verdict (Done text) name before now given continuous decides h = inr (inl (pair_judged m t program point duals verdict name before 0 text.items given continuous decides h.0 h.1))
pair_told m t program point duals verdict Usage name before now given continuous decides h = absurd h
pair_told m t program point duals verdict (Refused line) name before now given continuous decides h = absurd h
pair_told m t program point duals verdict ReadFault name before now given continuous decides h = absurd h
pair_told m t program point duals verdict WriteFault name before now given continuous decides h = absurd h
pair_told m t program point duals verdict NoMemory name before now given continuous decides h = absurd h
pair_told m t program point duals verdict (NoRoom line) name before now given continuous decides h = inr (inl (pair_judged m t program point duals verdict name before 6 line.items given continuous decides h.0 h.1))
pair_told m t program point duals verdict (RecordsRefused line) name before now given continuous decides h = absurd h
pair_told m t program point duals verdict (SolutionRefused line) name before now given continuous decides h = absurd h
pair_told m t program point duals verdict (Violated line) name before now given continuous decides h = inr (inl (pair_judged m t program point duals verdict name before 9 line.items given continuous decides h.0 h.1))
pair_told m t program point duals verdict Infeasible name before now given continuous decides h = absurd h
pair_told m t program point duals verdict (RayPast lines) name before now given continuous decides h = absurd h
pair_told m t program point duals verdict UnboundedOrInfeasible name before now given continuous decides h = absurd h
pair_told m t program point duals verdict Spent name before now given continuous decides h = absurd h
pair_told m t program point duals verdict Unbounded name before now given continuous decides h = absurd h

-- ---- of a text
-- what is told has a property: so has it a wider one
pub reads_more : (limit : ℕ) (told : Told) (P Q : List ℕ → Type 0) → ((text : List ℕ) → P text → Q text) → Reads limit told P → Reads limit told Q
reads_more limit None P Q f h = tt
reads_more limit (Some None) P Q f h = h
reads_more limit (Some (Some held)) P Q f h = (h.0, f held h.1)

-- ---- of a ray
module _ (m : Room) (t : Texts) (program : ProgramData) (name : List ℕ) (before now : Moment) where
  ray_faulty : (said : List ℕ) → SaysRayFault program (before.told name) said → SaysGivenFault t.reading program name said before now
  ray_faulty said (fault, reads, line) = inl (
    fault,
    reads_more SOLUTION_LIMIT (before.told name)
        (λ text. (is_ray_text text ≡ true) × (ray_fault_of program text ≡ Some (fault.kind, fault.line))) (λ text. given_fault t.reading program text ≡ Some (fault.kind, fault.line))
        (λ text h. rw h.0 h.1) reads,
    line,
  )

  pub ray_says : (ending : Ending) → SaysRay program name before now ending → SaysSolution m t program name before now ending
  ray_says (Done text) h = inr (inr h)
  ray_says Usage h = absurd h
  ray_says (Refused line) h = record {
    given = reads_more SOLUTION_LIMIT (before.told name) (λ text. GivesRay program text) (λ text. NeedsContinuous t.reading program text) (λ text g. inr g) h.given;
    names = h.names;
  }
  ray_says ReadFault h = absurd h
  ray_says WriteFault h = absurd h
  ray_says NoMemory h = absurd h
  ray_says (NoRoom line) h = inr (inr h)
  ray_says (RecordsRefused line) h = absurd h
  ray_says (SolutionRefused line) h = ray_faulty line.items h
  ray_says (Violated line) h = inr (inr h)
  ray_says Spent h = absurd h
  ray_says Infeasible h = absurd h
  ray_says (RayPast lines) h = absurd h
  ray_says UnboundedOrInfeasible h = absurd h
  ray_says Unbounded h = absurd h
