-- What two runs say, of the programs, records, points and duals that the bytes give.
use Rattle.std.proofs.Common.{◌≡◌, ℕ, Bool, true, List, Option, Some, None, sym, ap, ◌∙◌, subst}
use Rattle.fractions.specs.Number.{Number}
use Rattle.fractions.specs.Room.{Room}
use Rattle.exact_texts.specs.Kinds.{room_of, texts_of}
use Rattle.file_ports.specs.Ports.{Told, Written}
use Rattle.command_words.specs.Names.{PostsolveNames, PresolveNames}
use Rattle.lp_model.specs.Meaning.{meaning}
use Rattle.lp_model.specs.Optimality.{Continuous}
use Rattle.lp_model.specs.ProgramData.{ProgramData}
use Rattle.undo_records.specs.Postsolve.{Postsolve}
use Rattle.mps_round_trip.specs.Plain.{Plain}
use Rattle.point_text.specs.PairText.{pair_text_by}
use Rattle.presolve_model.specs.Conclusions.{Concluded}
use Rattle.presolve_model.specs.Telling.{names_in}
use Rattle.presolve_model.specs.declared.conclusion.End.{End}
use Rattle.presolve_model.specs.declared.conclusion.Options.{Options}
use Rattle.presolve_model.specs.Workers.{Workers}
use Rattle.whole_way.specs.Texts.{TextsFit}
use Rattle.endings.specs.Forms.{form_of}
use Rattle.endings.specs.Moments.{Reads}
use Rattle.endings.specs.ProgramTexts.{IsProgramOf}
use Rattle.endings.specs.SolutionTexts.{IsPairBy}
use Rattle.endings.specs.declared.reads.TheConstants.{INPUT_LIMIT, SOLUTION_LIMIT}
use Rattle.presolve_command.specs.Presolved.{IsMadeOf}
use Rattle.presolve_command.specs.Texts.{IsConcluded, options_for, workers_for}
use Rattle.postsolve_command.specs.Given.{reduced_form, UndoesThem}
use Rattle.postsolve_command.specs.Lifted.{AreTexts, IsLifted}
use Rattle.postsolve_command.specs.Postsolved.{AreGiven, AreLifted}
use Rattle.record_texts.specs.RecordTexts.{AreRecordsOf}
use Rattle.record_texts.specs.declared.reading.TheConstants.{RECORDS_LIMIT}
use Rattle.postsolve_command.specs.declared.given.TheConstants.{PROGRAM_LIMIT}
use Rattle.two_runs.specs.ComingBack.{PrintsOffset}
use Rattle.two_runs.specs.Runs.{AreRun, CanBeWritten, duals_in, original, point_in, records_in, reduced, Way}

-- ---- bytes that are told
-- what is held after a write is what was written
pub held_written : (old new : Told) (held bytes : List ℕ) → new ≡ Some (Some held) → Written old new bytes → bytes ≡ held
held_written None None held bytes is w = absurd (let e = is in cc)
held_written None (Some other) held bytes is w = let e : Some (Some bytes) ≡ Some (Some held) = sym (ap (λ (x : Option (List ℕ)). Some x) w) ∙ is in cc
held_written (Some old) new held bytes is w = let e : Some (Some bytes) ≡ Some (Some held) = sym w ∙ is in cc

-- what is read of held bytes has the property
pub held_read : (limit : ℕ) (told : Told) (held : List ℕ) (P : List ℕ → Type 0) → told ≡ Some (Some held) → Reads limit told P → P held
held_read limit told held P is h = (subst (λ (t : Told). Reads limit t P) is h).1

-- ---- what both runs say
-- presolve concluded with the programs and records that the bytes give, and postsolve lifted what SOL gives by these
pub record Joined (first : PresolveNames) (wide : Bool) (way : Way) : Type 0 where
  pub ended : End
  pub concluded : Concluded (options_for first.options) (workers_for first.options) (original first way) (reduced way) (records_in way) ended
  pub taken : (options_for first.options).dual ≡ true → Continuous (meaning (original first way))
  pub printed : PrintsOffset way.printed (records_in way).offset
  pub lifted : List Number
  pub prices : Option (List Number)
  pub undoes : UndoesThem (records_in way) (duals_in wide (reduced way) way.solution)
  pub lifts : IsLifted (room_of wide) (records_in way) (reduced way) (point_in wide (reduced way) way.solution) (duals_in wide (reduced way) way.solution) lifted prices
  pub text : way.result ≡ pair_text_by (texts_of wide).writing (names_in (records_in way).columns) (names_in (records_in way).rows) lifted prices

-- the same programs and records
pub concluded_at : (options : Options) (workers : Workers) (source program left reduced : ProgramData) (undoing told : Postsolve) (ended : End) → source ≡ program → left ≡ reduced → undoing ≡ told
    → Concluded options workers source left undoing ended → Concluded options workers program reduced told ended
concluded_at options workers source program left reduced undoing told ended s l t c =
    subst (λ (x : ProgramData). Concluded options workers x reduced told ended) s
    (subst (λ (x : ProgramData). Concluded options workers source x told ended) l
    (subst (λ (x : Postsolve). Concluded options workers source left x ended) t c))

pub lifted_at : (m : Room) (undoing told : Postsolve) (left reduced : ProgramData) (xs point : List Number) (ys duals : Option (List Number)) (lifted : List Number) (prices : Option (List Number))
    → undoing ≡ told → left ≡ reduced → xs ≡ point → ys ≡ duals → IsLifted m undoing left xs ys lifted prices → IsLifted m told reduced point duals lifted prices
lifted_at m undoing told left reduced xs point ys duals lifted prices t l x y h =
    subst (λ (r : Postsolve). IsLifted m r reduced point duals lifted prices) t
    (subst (λ (r : ProgramData). IsLifted m undoing r point duals lifted prices) l
    (subst (λ (r : List Number). IsLifted m undoing left r duals lifted prices) x
    (subst (λ (r : Option (List Number)). IsLifted m undoing left xs r lifted prices) y h)))

pub undoes_at : (undoing told : Postsolve) (ys duals : Option (List Number)) → undoing ≡ told → ys ≡ duals → UndoesThem undoing ys → UndoesThem told duals
undoes_at undoing told ys duals t y h = subst (λ (r : Postsolve). UndoesThem r duals) t (subst (λ (r : Option (List Number)). UndoesThem undoing r) y h)

module _ (first : PresolveNames) (second : PostsolveNames) (way : Way) (run : AreRun first second way) (can : CanBeWritten (original first way) (duals_in second.wide (reduced way) way.solution)) where
  made : IsMadeOf first run.presolved.program run.presolved.records way.printed run.before
  made = run.presolved.made

  concluded : IsConcluded (options_for first.options) (workers_for first.options) made.outcome run.presolved.program run.presolved.records way.printed
  concluded = made.concluded

  source : made.outcome.source ≡ original first way
  source = (held_read INPUT_LIMIT (run.before.told first.input) way.input (λ text. IsProgramOf (form_of first.options) text made.outcome.source) run.input made.source).1

  output : run.presolved.program ≡ way.output
  output = held_written (run.before.told first.output) (run.left.told first.output) way.output run.presolved.program run.output_left run.presolved.program_written

  undoing : run.presolved.records ≡ way.records
  undoing = held_written (run.before.told first.records) (run.left.told first.records) way.records run.presolved.records run.records_left run.presolved.records_written

  fit : TextsFit made.outcome.program made.outcome.records way.output way.records
  fit = subst (λ (text : List ℕ). TextsFit made.outcome.program made.outcome.records way.output text) undoing
      (subst (λ (text : List ℕ). TextsFit made.outcome.program made.outcome.records text run.presolved.records) output
      (concluded.comes_back (subst Plain (sym source) can.plain)))

  left : made.outcome.program ≡ reduced way
  left = sym fit.program_text.same

  told : made.outcome.records ≡ records_in way
  told = sym fit.records_text.same

  lift : AreLifted second run.postsolved.result run.counts run.found
  lift = run.postsolved.lifted

  given : AreGiven second run.found lift.program lift.records lift.point lift.duals
  given = lift.given

  texts : AreTexts (room_of second.wide) (texts_of second.wide).writing lift.records lift.program lift.point lift.duals run.postsolved.result run.counts
  texts = lift.texts

  program_again : lift.program ≡ reduced way
  program_again = (held_read PROGRAM_LIMIT (run.found.told second.program) way.output (λ text. IsProgramOf reduced_form text lift.program) run.output_found given.read.matched.program_text).1

  records_again : lift.records ≡ records_in way
  records_again = (held_read RECORDS_LIMIT (run.found.told second.records) way.records (λ text. AreRecordsOf text lift.records) run.records_found given.read.matched.records_text).1

  pair : IsPairBy (texts_of second.wide).reading lift.program way.solution lift.point lift.duals
  pair = held_read SOLUTION_LIMIT (run.found.told second.solution) way.solution (λ text. IsPairBy (texts_of second.wide).reading lift.program text lift.point lift.duals) run.solution given.read.pair_text

  point : lift.point ≡ point_in second.wide (reduced way) way.solution
  point = pair.1 ∙ ap (λ (p : ProgramData). point_in second.wide p way.solution) program_again

  duals : lift.duals ≡ duals_in second.wide (reduced way) way.solution
  duals = pair.2 ∙ ap (λ (p : ProgramData). duals_in second.wide p way.solution) program_again

  result : run.postsolved.result ≡ way.result
  result = held_written (run.found.told second.result) (run.now.told second.result) way.result run.postsolved.result run.result run.postsolved.result_written

  pub joined : Joined first second.wide way
  joined = record {
    ended = made.outcome.report.end;
    concluded = concluded_at (options_for first.options) (workers_for first.options) made.outcome.source (original first way) made.outcome.program (reduced way) made.outcome.records (records_in way) made.outcome.report.end
        source left told concluded.concluded;
    taken = λ asked. subst (λ (p : ProgramData). Continuous (meaning p)) source (concluded.taken asked);
    printed = (made.outcome.report, concluded.texts.printed_text, concluded.texts.tells.offset ∙ ap (λ (t : Postsolve). t.offset) told);
    lifted = texts.lifted;
    prices = texts.prices;
    undoes = undoes_at lift.records (records_in way) lift.duals (duals_in second.wide (reduced way) way.solution) records_again duals given.undoes;
    lifts = lifted_at (room_of second.wide) lift.records (records_in way) lift.program (reduced way) lift.point (point_in second.wide (reduced way) way.solution) lift.duals
        (duals_in second.wide (reduced way) way.solution) texts.lifted texts.prices records_again program_again point duals texts.lifts;
    text = sym result ∙ texts.result_text ∙ ap (λ (t : Postsolve). pair_text_by (texts_of second.wide).writing (names_in t.columns) (names_in t.rows) texts.lifted texts.prices) records_again;
  }
