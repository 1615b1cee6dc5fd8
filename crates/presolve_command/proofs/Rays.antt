-- The ray of a text's program that has no feasible point.
use Rattle.std.proofs.Common.{◌≡◌, ℕ, List, Option, Some, ap, sym, subst, Bor, Vec, Global}
use Rattle.std.specs.Prelude.{Err, IsErrOf}
use Rattle.std.specs.Option.{option_map}
use Rattle.file_ports.specs.Ports.{Moment, KeepsOthers, Written}
use Rattle.fractions.specs.declared.Numbers.{Numbers}
use Rattle.command_words.specs.declared.words.PresolveOptions.{PresolveOptions}
use Rattle.endings.proofs.FormNumbers.{same_numbers}
use Rattle.endings.specs.Forms.{form_of, numbers_in, numbers_of}
use Rattle.endings.specs.Moments.{IsQuiet}
use Rattle.endings.specs.ProgramTexts.{program_in}
use Rattle.endings.specs.declared.ending.Ending.TheVariants.{Infeasible, RayPast, WriteFault}
use Rattle.endings.specs.declared.forms.Form.{Form}
use Rattle.presolve_model.specs.declared.instance.Reduction.{Reduction}
use Rattle.presolve_model.specs.declared.instance.Verdict.{Verdict}
use Rattle.run_rays.specs.Lifting.{IsEndOf}
use Rattle.run_rays.specs.declared.of_run.RayError.{RayError}
use Rattle.run_rays.specs.declared.of_run.RayError.TheVariants.{Past}
use Rattle.ray_file.specs.Telling.{past_lines, StopsAt, TellsRay}
use Rattle.presolve_command.specs.Presolved.{FailsAt}
use Rattle.presolve_command.specs.Proving.{EndsInfeasible}
use Rattle.presolve_command.specs.Texts.{options_for, ProgramIsInfeasible, TextHasRay, TextIsInfeasibleBy, TextLacksRay, workers_for}

-- what is asked for
pub asked : (r : Option (Bor (List ℕ))) (name : Bor (List ℕ)) → r ≡ Some name → option_map (λ (n : Bor (List ℕ)). n.now) r ≡ Some name.now
asked r name is = ap (option_map (λ (n : Bor (List ℕ)). n.now)) is

-- the run ended so that its ray can be made
end_found : (options : PresolveOptions) (text : List ℕ) (history : List Reduction) (verdict : Verdict)
    (found : ProgramIsInfeasible (options_for options) (workers_for options) (program_in (form_of options) text)) → found.history ≡ history → found.verdict ≡ verdict
    → IsEndOf (numbers_in (form_of options)) (program_in (form_of options) text) history verdict
end_found options text history verdict found is decides =
    subst (λ (n : Numbers). IsEndOf n (program_in (form_of options) text) history verdict) (sym (same_numbers options.format (numbers_of options)))
    (subst (λ (v : Verdict). IsEndOf (numbers_of options) (program_in (form_of options) text) history v) decides
    (subst (λ (rs : List Reduction). IsEndOf (numbers_of options) (program_in (form_of options) text) rs found.verdict) is (record {
      start = found.decided.start;
      opened = found.decided.opened;
      replays = found.decided.replays;
      enabled = found.decided.enabled;
    })))

pub end_of : (options : PresolveOptions) (form : Form) (text : List ℕ) (rs history : List Reduction) (verdict : Verdict) → form ≡ form_of options → rs ≡ history
    → TextIsInfeasibleBy options text history verdict → IsEndOf (numbers_in form) (program_in form text) rs verdict
end_of options form text rs history verdict same are found =
    subst (λ (f : Form). IsEndOf (numbers_in f) (program_in f text) rs verdict) (sym same)
    (subst (λ (hs : List Reduction). IsEndOf (numbers_in (form_of options)) (program_in (form_of options) text) hs verdict) (sym are)
    (end_found options text history verdict found.1.0 found.1.1 found.1.2))

-- what is told of a run is told of what the text was found to be
at_found : (options : PresolveOptions) (form : Form) (text : List ℕ) (rs history : List Reduction) (verdict : Verdict) (Said : Form → List Reduction → Verdict → Type 0) → form ≡ form_of options → rs ≡ history
    → (found : TextIsInfeasibleBy options text history verdict) → Said form rs verdict → Said (form_of options) found.1.0.history found.1.0.verdict
at_found options form text rs history verdict Said same are found h =
    subst (λ (v : Verdict). Said (form_of options) found.1.0.history v) (sym found.1.2)
    (subst (λ (hs : List Reduction). Said (form_of options) hs verdict) (sym found.1.1)
    (subst (λ (hs : List Reduction). Said (form_of options) hs verdict) are
    (subst (λ (f : Form). Said f rs verdict) same h)))

pub has_ray : (options : PresolveOptions) (form : Form) (text : List ℕ) (rs history : List Reduction) (verdict : Verdict) (written : List ℕ) → form ≡ form_of options → rs ≡ history
    → TextIsInfeasibleBy options text history verdict → TellsRay (program_in form text) rs verdict written → TextHasRay options text written
has_ray options form text rs history verdict written same are found told =
    (found.0, (found.1.0, at_found options form text rs history verdict (λ f hs v. TellsRay (program_in f text) hs v written) same are found told))

pub lacks_ray : (options : PresolveOptions) (form : Form) (text : List ℕ) (rs history : List Reduction) (verdict : Verdict) (at : ℕ) → form ≡ form_of options → rs ≡ history
    → TextIsInfeasibleBy options text history verdict → StopsAt (program_in form text) rs verdict at → TextLacksRay options text at
lacks_ray options form text rs history verdict at same are found stops =
    (found.0, (found.1.0, at_found options form text rs history verdict (λ f hs v. StopsAt (program_in f text) hs v at) same are found stops))

-- where a ray was made: it was written, or its write failed
pub ends_written : (options : PresolveOptions) (text : List ℕ) (ray : Option (List ℕ)) (name bytes made : List ℕ) (before now : Moment) → ray ≡ Some name → bytes ≡ made → TextHasRay options text made
    → Written (before.told name) (now.told name) bytes → KeepsOthers before.told now.told name → EndsInfeasible options text ray Infeasible before now
ends_written options text ray name bytes made before now asked are has written others =
    subst (λ (r : Option (List ℕ)). EndsInfeasible options text r Infeasible before now) (sym asked)
    (made, has, subst (Written (before.told name) (now.told name)) are written, others)

pub ends_unwritten : (options : PresolveOptions) (text : List ℕ) (ray : Option (List ℕ)) (name made : List ℕ) (before now : Moment) → ray ≡ Some name → TextHasRay options text made
    → KeepsOthers before.told now.told name → FailsAt name before now → EndsInfeasible options text ray WriteFault before now
ends_unwritten options text ray name made before now asked has others fails =
    subst (λ (r : Option (List ℕ)). EndsInfeasible options text r WriteFault before now) (sym asked) (made, has, others, fails)

-- where a number of it has no room
pub ends_past : (options : PresolveOptions) (text : List ℕ) (ray : Option (List ℕ)) (name : List ℕ) (lines : Vec ℕ Global) (at said : ℕ) (before now : Moment) → ray ≡ Some name → TextLacksRay options text at
    → IsQuiet before now → at ≡ said → lines.items ≡ past_lines said → EndsInfeasible options text ray (RayPast lines) before now
ends_past options text ray name lines at said before now asked lacks quiet same are =
    subst (λ (r : Option (List ℕ)). EndsInfeasible options text r (RayPast lines) before now) (sym asked) (at, lacks, quiet, subst (λ (k : ℕ). lines.items ≡ past_lines k) (sym same) are)

pub error_is : {T : Type 0} (e : RayError) (at : ℕ) → e ≡ Past at → IsErrOf {T = T} (Err e) (Past at)
error_is e at is = ap (λ (x : RayError). Err x) is
