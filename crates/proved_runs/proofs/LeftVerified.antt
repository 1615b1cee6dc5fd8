-- What a presolve left is verified.
use Rattle.std.proofs.Common.{◌≡◌, inl, inr, ℕ, ◌≤◌, List, length, Option, Some, None, sym, ◌∙◌, subst, arith}
use Rattle.fractions.specs.declared.Numbers.TheVariants.{Fractions}
use Rattle.command_words.specs.Names.{PresolveNames, VerifyNames}
use Rattle.command_words.specs.declared.words.InputFormat.{InputFormat}
use Rattle.lp_model.specs.ProgramData.{ProgramData}
use Rattle.mps_written_lines.specs.Formats.{free_format}
use Rattle.mps_round_trip.specs.Plain.{Plain}
use Rattle.undo_records.specs.Postsolve.{Postsolve}
use Rattle.walk_laws.specs.Walk.{Walk}
use Rattle.walk_laws.proofs.OneFlaw.{no_flaw}
use Rattle.walk_laws.proofs.Running.{run_walks}
use Rattle.whole_way.specs.Texts.{TextsFit}
use Rattle.endings.specs.Forms.{form_of, form_with, numbers_of}
use Rattle.endings.specs.ProgramTexts.{HasNoFault, IsProgramOf, program_in}
use Rattle.endings.specs.declared.reads.TheConstants.{INPUT_LIMIT}
use Rattle.endings.proofs.FirstFaults.{mps_sound}
use Rattle.record_reader.specs.Reading as records
use Rattle.record_texts.specs.declared.reading.TheConstants.{RECORDS_LIMIT}
use Rattle.presolve_command.specs.Presolved.{IsMadeOf}
use Rattle.presolve_command.specs.Texts.{IsConcluded, options_for, workers_for}
use Rattle.verify_command.specs.Given.{output_form}
use Rattle.two_runs.specs.SameAnswers.{IsOfBytes}
use Rattle.two_runs.proofs.Joined.{held_written}
use Rattle.two_runs.proofs.Layers.{Layer, read_held}
use Rattle.proved_runs.specs.Verified.{IsLookedAt, WhatIsLeftIsVerified}
use Rattle.proved_runs.proofs.Forms.{with_fractions}
use Rattle.proved_runs.proofs.OneVerify.{bytes_told, OfWalk}

-- ---- a text that is neither refused for its length nor for a fault
after : {K R : Type 0} (limit : ℕ) (bytes over : List ℕ) (fault : Option K) (line : K → List ℕ) (code s : ℕ) (said : List ℕ) → length bytes ≤ limit → fault ≡ None
    → Layer limit bytes over fault line code s said R → R
after limit bytes over fault line code s said fits none (inl (e, inl over_long)) = absurd (let l = over_long.0 in omega (arith, fits, l))
after limit bytes over fault line code s said fits none (inl (e, inr (l, (k, f, x)))) = absurd (let g : None ≡ Some k = sym none ∙ f in cc)
after limit bytes over fault line code s said fits none (inr (l, n, rest)) = rest

module _ (first : PresolveNames) (second : VerifyNames) (status : ℕ) (said : List ℕ) (look : IsLookedAt first second status said) (plain : Plain (program_in (form_of first.options) look.input)) where
  abbrev made : IsMadeOf first look.presolved.program look.presolved.records look.printed look.before
  made = look.presolved.made

  abbrev source : ProgramData
  source = made.outcome.source

  abbrev concluded : IsConcluded (options_for first.options) (workers_for first.options) made.outcome look.presolved.program look.presolved.records look.printed
  concluded = made.concluded

  read : (length look.input ≤ INPUT_LIMIT) × IsProgramOf (form_of first.options) look.input source
  read = read_held INPUT_LIMIT (look.before.told first.input) look.input (λ text. IsProgramOf (form_of first.options) text source) look.input_read made.source

  output : look.presolved.program ≡ look.output
  output = held_written (look.before.told first.output) (look.left.told first.output) look.output look.presolved.program look.output_left look.presolved.program_written

  undoing : look.presolved.records ≡ look.records
  undoing = held_written (look.before.told first.records) (look.left.told first.records) look.records look.presolved.records look.records_left look.presolved.records_written

  fit : TextsFit made.outcome.program made.outcome.records look.output look.records
  fit = subst (λ (text : List ℕ). TextsFit made.outcome.program made.outcome.records look.output text) undoing
      (subst (λ (text : List ℕ). TextsFit made.outcome.program made.outcome.records text look.presolved.records) output
      (concluded.comes_back (subst Plain (sym read.1.1) plain)))

  -- IN with fractions
  again : HasNoFault (form_with first.options.format Fractions) look.input × (program_in (form_with first.options.format Fractions) look.input ≡ program_in (form_of first.options) look.input)
  again = with_fractions first.options.format (numbers_of first.options) look.input read.1.0

  walk : Walk source made.outcome.program made.outcome.records
  walk = run_walks (options_for first.options) (workers_for first.options) source made.outcome.program made.outcome.records made.outcome.report.end concluded.concluded concluded.taken

  abbrev Here : InputFormat → Type 0
  Here format = (HasNoFault (form_with format Fractions) look.input) × (program_in (form_with format Fractions) look.input ≡ program_in (form_of first.options) look.input)

  here : Here second.format
  here = subst Here (sym look.format) again

  abbrev program : ProgramData
  program = program_in (form_with second.format Fractions) look.input

  abbrev told : Postsolve
  told = records.records_of look.records

  walks : Walk program (program_in output_form look.output) told
  walks = subst (λ (p : ProgramData). Walk p (program_in output_form look.output) told) (read.1.1 ∙ sym here.1)
      (subst (λ (r : ProgramData). Walk source r told) (sym fit.program_text.same)
      (subst (λ (u : Postsolve). Walk source made.outcome.program u) (sym fit.records_text.same) walk))

  verdict : IsOfBytes status → OfWalk second.format look.input look.output look.records status said
  verdict b =
      after RECORDS_LIMIT look.records _ _ _ 7 status said look.records_fit fit.records_text.sound
      (after INPUT_LIMIT look.output _ _ _ 2 status said look.output_fits (mps_sound (free_format Fractions) look.output fit.program_text.sound)
      (after INPUT_LIMIT look.input _ _ _ 2 status said read.0 here.0
      (bytes_told second look.input look.output look.records look.found look.now status said look.input_found look.output_found look.records_found b look.verified.says)))

  by : OfWalk second.format look.input look.output look.records status said → status ≡ 0
  by (inl a) = a.0
  by (inr a) = absurd (no_flaw program (program_in output_form look.output) told a.1.0 walks a.1.1)

  pub is_verified : IsOfBytes status → status ≡ 0
  is_verified b = by (verdict b)

pub left_is_verified : WhatIsLeftIsVerified
left_is_verified first second status said look plain b = is_verified first second status said look plain b
