-- What is made of a text's program is made of the text.
use Rattle.std.proofs.Common.{◌≡◌, ◌≤◌, ℕ, List, length, Result, Ok, Err, Vec, Global, ◌∙◌, refl, sym, subst}
use Rattle.file_ports.specs.Ports.{Told, Gives}
use Rattle.lp_model.specs.ProgramData.{ProgramData}
use Rattle.command_words.specs.declared.words.PresolveOptions.{PresolveOptions}
use Rattle.fractions.specs.declared.Numbers.{Numbers}
use Rattle.endings.specs.declared.forms.Form.{Form}
use Rattle.endings.proofs.FormNumbers.{same_numbers}
use Rattle.endings.specs.Forms.{form_of, numbers_in, numbers_of}
use Rattle.endings.specs.Moments.{Reads}
use Rattle.endings.specs.ProgramTexts.{IsProgramOf}
use Rattle.endings.proofs.Earlier.{given_reads}
use Rattle.presolve_model.specs.Conclusions.{Concluded}
use Rattle.presolve_report.specs.Conclusions.{Concludes}
use Rattle.presolve_model.specs.declared.conclusion.End.{End}
use Rattle.presolve_model.specs.declared.conclusion.Options.{Options}
use Rattle.presolve_model.specs.Workers.{Workers}
use Rattle.presolve_report.specs.Presolved.{Presolved}
use Rattle.presolve_report.specs.Presolved.TheVariants.{Reduced}
use Rattle.presolve_report.specs.Presolved.TheVariants as presolved
use Rattle.presolve_report.specs.DecidedProgram.{DecidedProgram}
use Rattle.presolve_report.specs.ReducedProgram.{ReducedProgram}
use Rattle.presolve_command.specs.declared.reduce.Texts.{Texts}
use Rattle.presolve_command.specs.declared.reduce.NotReduced.{NotReduced}
use Rattle.presolve_command.specs.declared.reduce.NotReduced.TheVariants.{Fault, NotContinuous, Infeasible, UnboundedOrInfeasible, NoMemory}
use Rattle.presolve_command.specs.Texts.{IsMade, IsNotTaken, IsReduced, IsTaken, options_for, ProgramIsInfeasibleBy, ProgramIsUnboundedOrInfeasible, TextIsInfeasibleBy, TextIsNotTaken, TextIsUnboundedOrInfeasible, workers_for}

reduced_so : (options : PresolveOptions) (text : List ℕ) (program : ProgramData) (r : Result Texts NotReduced)
    → IsProgramOf (form_of options) text program → IsMade (options_for options) (workers_for options) program r → IsReduced options text r
reduced_so options text program (Ok texts) read made = (made.0, (read.0, made.1 ∙ read.1), made.2)
reduced_so options text program (Err (Fault fault)) read made = absurd made
reduced_so options text program (Err (NotContinuous line)) read made =
    (read.0, subst (λ (x : ProgramData). IsNotTaken (options_for options) x line.items) read.1 made)
reduced_so options text program (Err (Infeasible found)) read made = (read.0, subst (λ (x : ProgramData). ProgramIsInfeasibleBy (options_for options) (workers_for options) x found.history.items found.verdict) read.1 made)
reduced_so options text program (Err UnboundedOrInfeasible) read made = (read.0, subst (ProgramIsUnboundedOrInfeasible (options_for options) (workers_for options)) read.1 made)
reduced_so options text program (Err NoMemory) read made = tt

-- what is told with these numbers
abbrev told_by : PresolveOptions → Numbers → Options
told_by options numbers = record { numbers = numbers; limit = options.limit; dual = options.dual }

pub made_reduced : (options : PresolveOptions) (form : Form) (numbers : Numbers) (workers : Workers) (text : List ℕ) (program : ProgramData) (r : Result Texts NotReduced)
    → form ≡ form_of options → numbers ≡ numbers_in form → workers ≡ workers_for options
    → IsProgramOf form text program → IsMade (told_by options numbers) workers program r → IsReduced options text r
made_reduced options form numbers workers text program r same taken alone =
    subst (λ (n : Numbers). IsProgramOf form text program → IsMade (told_by options n) workers program r → IsReduced options text r) (sym taken)
    (subst (λ (w : Workers). IsProgramOf form text program → IsMade (told_by options (numbers_in form)) w program r → IsReduced options text r) (sym alone)
    (subst (λ (f : Form). IsProgramOf f text program → IsMade (told_by options (numbers_in f)) (workers_for options) program r → IsReduced options text r) (sym same)
    (subst (λ (n : Numbers). IsProgramOf (form_of options) text program → IsMade (told_by options n) (workers_for options) program r → IsReduced options text r)
    (sym (same_numbers options.format (numbers_of options))) (reduced_so options text program r))))

-- what is said of what a read gave is said of what is told
pub said_read : (Said : List ℕ → Type 0) (limit : ℕ) (told : Told) (held text : List ℕ) → Gives told held → length held ≤ limit → text ≡ held → Said text → Reads limit told Said
said_read Said limit told held text gives most is h = given_reads limit told held Said gives most (subst Said is h)

-- what is said of a text where it is not reduced since a column has to be whole
pub not_taken_said : (options : PresolveOptions) (text : List ℕ) (n : NotReduced) (line : Vec ℕ Global) → n ≡ NotContinuous line → IsReduced options text (Err n)
    → TextIsNotTaken options text line.items
not_taken_said options text n line is h = subst (λ (x : NotReduced). IsReduced options text (Err x)) is h

-- the same for want of a feasible point, of the text as it is shown later
pub infeasible_said : (options : PresolveOptions) (text shown held : List ℕ) (n : NotReduced) (found : DecidedProgram) → n ≡ Infeasible found → text ≡ held → shown ≡ held → IsReduced options text (Err n)
    → TextIsInfeasibleBy options shown found.history.items found.verdict
infeasible_said options text shown held n found is was now h =
    subst (λ (t : List ℕ). TextIsInfeasibleBy options t found.history.items found.verdict) (was ∙ sym now) (subst (λ (x : NotReduced). IsReduced options text (Err x)) is h)

-- the same for want of a feasible point, or of one of least cost
pub unbounded_said : (options : PresolveOptions) (text : List ℕ) (n : NotReduced) → n ≡ UnboundedOrInfeasible → IsReduced options text (Err n) → TextIsUnboundedOrInfeasible options text
unbounded_said options text n is h = subst (λ (x : NotReduced). IsReduced options text (Err x)) is h

-- what presolve says where it gives a reduced program
pub concluded_of : (options : Options) (workers : Workers) (program : ProgramData) (p : Presolved) (made : ReducedProgram) → p ≡ Reduced made → Concludes options workers program p
    → Concluded options workers program made.program made.records made.end
concluded_of options workers program p made is h = subst (λ (x : Presolved). Concludes options workers program x) is h

-- the same of an end that is told of it
pub concluded_with : (options : Options) (workers : Workers) (program : ProgramData) (made : ReducedProgram) (ended : End) → ended ≡ made.end → Concluded options workers program made.program made.records made.end
    → Concluded options workers program made.program made.records ended
concluded_with options workers program made ended same h = subst (λ (x : End). Concluded options workers program made.program made.records x) (sym same) h

-- what presolve says where it gives a decided program
pub infeasible_of : (options : Options) (workers : Workers) (program : ProgramData) (p : Presolved) (made : DecidedProgram) → p ≡ presolved.Infeasible made → IsTaken options program
    → Concludes options workers program p → ProgramIsInfeasibleBy options workers program made.history.items made.verdict
infeasible_of options workers program p made is taken h = let k = subst (λ (x : Presolved). Concludes options workers program x) is h in
    (record { taken = taken; history = made.history.items; verdict = made.verdict; decided = k.0; says = k.1; no_point = k.2 }, refl, refl)

pub unbounded_of : (options : Options) (workers : Workers) (program : ProgramData) (p : Presolved) (made : DecidedProgram) → p ≡ presolved.UnboundedOrInfeasible made → IsTaken options program
    → Concludes options workers program p → ProgramIsUnboundedOrInfeasible options workers program
unbounded_of options workers program p made is taken h = let k = subst (λ (x : Presolved). Concludes options workers program x) is h in
    record { taken = taken; history = made.history.items; verdict = made.verdict; decided = k.0; says = k.1; endless = k.2 }
