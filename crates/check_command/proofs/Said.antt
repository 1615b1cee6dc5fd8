-- What is said of the solution is said of both texts.
use Rattle.std.proofs.Common.{◌≡◌, Bool, inr, subst}
use Rattle.file_ports.specs.Ports.{Moment}
use Rattle.command_words.specs.Names.{CheckNames}
use Rattle.lp_model.specs.ProgramData.{ProgramData}
use Rattle.exact_texts.specs.Kinds.{room_of, texts_of}
use Rattle.endings.specs.Ending.{status_of, text_of}
use Rattle.endings.specs.declared.ending.Ending.{Ending}
use Rattle.endings.specs.declared.ending.Ending.TheVariants.{Done, Usage, Refused, ReadFault, WriteFault, NoMemory, NoRoom, RecordsRefused, SolutionRefused, Violated, Spent, Infeasible, RayPast, UnboundedOrInfeasible, Unbounded}
use Rattle.check_command.specs.Checked.{IsProgramIn, SaysCheck, SaysSolution}

said_so : (names : CheckNames) (before now : Moment) (program : ProgramData) (ending : Ending)
    → IsProgramIn names before program → SaysSolution (room_of names.wide) (texts_of names.wide) program names.solution before now ending → SaysCheck names (status_of ending) (text_of ending) before now
said_so names before now program (Done text) read h = (program, read, h)
said_so names before now program Usage read h = absurd h
said_so names before now program (Refused line) read h = inr (program, read, h)
said_so names before now program ReadFault read h = absurd h
said_so names before now program WriteFault read h = absurd h
said_so names before now program NoMemory read h = absurd h
said_so names before now program (NoRoom line) read h = (program, read, h)
said_so names before now program (RecordsRefused line) read h = absurd h
said_so names before now program (SolutionRefused line) read h = (program, read, h)
said_so names before now program (Violated line) read h = (program, read, h)
said_so names before now program Infeasible read h = absurd h
said_so names before now program (RayPast lines) read h = absurd h
said_so names before now program UnboundedOrInfeasible read h = absurd h
said_so names before now program Spent read h = absurd h
said_so names before now program Unbounded read h = absurd h

pub solution_said : (names : CheckNames) (before now : Moment) (wide : Bool) → wide ≡ names.wide → (program : ProgramData) (ending : Ending)
    → IsProgramIn names before program → SaysSolution (room_of wide) (texts_of wide) program names.solution before now ending → SaysCheck names (status_of ending) (text_of ending) before now
solution_said names before now wide same program ending read h =
    said_so names before now program ending read (subst (λ w. SaysSolution (room_of w) (texts_of w) program names.solution before now ending) same h)
