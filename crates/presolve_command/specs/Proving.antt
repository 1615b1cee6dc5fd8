-- How a presolve ends that found no feasible point of a text's program.
use Rattle.std.specs.Prelude.{◌≡◌, ℕ, List, Option, Some, None}
use Rattle.file_ports.specs.Ports.{Moment, KeepsOthers, Written}
use Rattle.command_words.specs.declared.words.PresolveOptions.{PresolveOptions}
use Rattle.endings.specs.Moments.{IsQuiet}
use Rattle.endings.specs.declared.ending.Ending.{Ending}
use Rattle.endings.specs.declared.ending.Ending.TheVariants.{Infeasible, RayPast, WriteFault}
use Rattle.ray_file.specs.Telling.{past_lines}
use Rattle.presolve_command.specs.Presolved.{FailsAt}
use Rattle.presolve_command.specs.Texts.{TextHasRay, TextLacksRay}

-- RAY, if it is asked for, was written, or has a number without room, or its write failed
abbrev pub EndsInfeasible : PresolveOptions → List ℕ → Option (List ℕ) → Ending → Moment → Moment → Type 0
EndsInfeasible options held None Infeasible before now = IsQuiet before now
EndsInfeasible options held (Some ray) Infeasible before now = (text : List ℕ) × TextHasRay options held text × Written (before.told ray) (now.told ray) text × KeepsOthers before.told now.told ray
EndsInfeasible options held (Some ray) (RayPast lines) before now = (at : ℕ) × TextLacksRay options held at × IsQuiet before now × (lines.items ≡ past_lines at)
EndsInfeasible options held (Some ray) WriteFault before now = (text : List ℕ) × TextHasRay options held text × KeepsOthers before.told now.told ray × FailsAt ray before now
EndsInfeasible options held ray other before now = ⊥
