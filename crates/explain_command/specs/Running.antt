-- What is told of a program's text.
use Rattle.std.specs.Prelude.{◌≡◌, ◌⊎◌, ℕ, List, ◌++◌}
use Rattle.command_words.specs.declared.words.PresolveOptions.{PresolveOptions}
use Rattle.lp_model.specs.ProgramData.{ProgramData}
use Rattle.presolve_model.specs.declared.conclusion.Options.{Options}
use Rattle.endings.specs.declared.forms.Form.{Form}
use Rattle.endings.specs.declared.forms.ProgramFault.{ProgramFault}
use Rattle.endings.specs.Forms.{form_of, numbers_of}
use Rattle.endings.specs.ProgramTexts.{fault_text, IsFaultOf, IsProgramOf}
use Rattle.explain_command.specs.declared.words.Words.{Words}
use Rattle.explain_command.specs.Telling.{Tells}

abbrev pub options_for : PresolveOptions → Options
options_for options = record { numbers = numbers_of options; limit = options.limit; dual = options.dual }

-- a text with something more behind it
pub record Begins (first text : List ℕ) : Type 0 where
  pub rest : List ℕ
  pub all : text ≡ first ++ rest

-- the line of a text's first fault stands first; a look at it follows
pub record NamesFault (form : Form) (text told : List ℕ) : Type 0 where
  pub fault : ProgramFault
  pub first : IsFaultOf form text fault
  pub line : Begins (fault_text fault) told

-- the text has no fault, and it is told of the run of its program; or its first fault is named
abbrev pub IsAnswer : Words → List ℕ → ℕ → List ℕ → Type 0
IsAnswer words text status told =
    ((program : ProgramData) × IsProgramOf (form_of words.options) text program × Tells (options_for words.options) words program status told)
    ⊎ ((status ≡ 2) × NamesFault (form_of words.options) text told)
