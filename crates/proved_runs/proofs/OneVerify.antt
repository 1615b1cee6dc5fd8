-- What verify says of the same bytes is one.
use Rattle.std.proofs.Common.{◌≡◌, ◌⊎◌, inl, inr, ℕ, ◌≤◌, List, length, Some, sym, ap, ◌∙◌, subst}
use Rattle.file_ports.specs.Ports.{Moment}
use Rattle.fractions.specs.declared.Numbers.TheVariants.{Fractions}
use Rattle.command_words.specs.Names.{VerifyNames}
use Rattle.command_words.specs.declared.words.InputFormat.{InputFormat}
use Rattle.lp_model.specs.ProgramData.{ProgramData}
use Rattle.undo_records.specs.Postsolve.{Postsolve}
use Rattle.walk_laws.specs.declared.flaw.Flaw.{Flaw}
use Rattle.walk_laws.specs.Flaws.{IsFirstFlaw}
use Rattle.walk_laws.specs.Walk.{Walk}
use Rattle.walk_laws.proofs.OneFlaw.{no_flaw, one_flaw}
use Rattle.record_reader.specs.Reading as record_texts
use Rattle.endings.specs.Forms.{form_with}
use Rattle.endings.specs.ProgramTexts.{fault_in, fault_text, IsFaultOf, IsProgramOf, program_in, SaysFaultOf}
use Rattle.endings.specs.declared.forms.Form.{Form}
use Rattle.endings.specs.declared.reads.TheConstants.{INPUT_LIMIT}
use Rattle.record_texts.specs.RecordTexts.{AreRecordsOf, SaysRecordFault}
use Rattle.record_texts.specs.declared.reading.TheConstants.{RECORDS_LIMIT}
use Rattle.verify_command.specs.Given.{output_form}
use Rattle.verify_command.specs.VerdictText.{flaw_text, yes_text}
use Rattle.verify_command.specs.Verifying.{AreGiven, IsDenied, IsProgramIn, IsReducedIn, IsVerified, RefusesProgram, RefusesRecords, SaysVerify}
use Rattle.two_runs.specs.Runs.{Holds}
use Rattle.two_runs.specs.SameAnswers.{IsOfBytes}
use Rattle.two_runs.proofs.Layers.{at_status, either, Layer, layer_same, longer_held, read_held}
use Rattle.two_runs.proofs.OneCheck.{program_over}
use Rattle.two_runs.proofs.OnePostsolve.{record_line, records_over}
use Rattle.proved_runs.specs.Verified.{VerifiesAreOne}

-- ---- of three texts
module _ (format : InputFormat) (input output undoing : List ℕ) where
  abbrev pub program : ProgramData
  program = program_in (form_with format Fractions) input

  abbrev pub reduced : ProgramData
  reduced = program_in output_form output

  abbrev pub told : Postsolve
  told = record_texts.records_of undoing

  -- the records walk, or this is the first part that fails
  abbrev pub OfWalk : ℕ → List ℕ → Type 0
  OfWalk s said = ((s ≡ 0) × Walk program reduced told × (said ≡ yes_text (length told.undos) told.offset))
      ⊎ ((s ≡ 9) × ((flaw : Flaw) × IsFirstFlaw program reduced told flaw × (said ≡ flaw_text flaw)))

  abbrev pub OfRecords : ℕ → List ℕ → Type 0
  OfRecords s said = Layer RECORDS_LIMIT undoing records_over (record_texts.first_fault undoing) record_line 7 s said (OfWalk s said)

  abbrev pub OfOutput : ℕ → List ℕ → Type 0
  OfOutput s said = Layer INPUT_LIMIT output program_over (fault_in output_form output) fault_text 2 s said (OfRecords s said)

  abbrev pub OfInput : ℕ → List ℕ → Type 0
  OfInput s said = Layer INPUT_LIMIT input program_over (fault_in (form_with format Fractions) input) fault_text 2 s said (OfOutput s said)

  module _ (s t : ℕ) (said more : List ℕ) where
    walk_same : OfWalk s said → OfWalk t more → (s ≡ t) × (said ≡ more)
    walk_same (inl a) (inl b) = (a.0 ∙ sym b.0, a.2 ∙ sym b.2)
    walk_same (inl a) (inr b) = absurd (no_flaw program reduced told b.1.0 a.1 b.1.1)
    walk_same (inr a) (inl b) = absurd (no_flaw program reduced told a.1.0 b.1 a.1.1)
    walk_same (inr a) (inr b) = (a.0 ∙ sym b.0, a.1.2 ∙ ap flaw_text (one_flaw program reduced told a.1.0 b.1.0 a.1.1 b.1.1) ∙ sym b.1.2)

    input_same : OfInput s said → OfInput t more → (s ≡ t) × (said ≡ more)
    input_same a b = layer_same INPUT_LIMIT input program_over (fault_in (form_with format Fractions) input) fault_text 2 s t said more a b
        (λ q r. layer_same INPUT_LIMIT output program_over (fault_in output_form output) fault_text 2 s t said more q r
        (λ x y. layer_same RECORDS_LIMIT undoing records_over (record_texts.first_fault undoing) record_line 7 s t said more x y walk_same))

  -- ---- what is said at a moment at which three names hold them
  module _ (input_name output_name records_name : List ℕ) (before : Moment) (at_input : Holds before input_name input) (at_output : Holds before output_name output) (at_undoing : Holds before records_name undoing) where
    abbrev names : VerifyNames
    names = record { input = input_name; output = output_name; records = records_name; format = format }

    in_input : (p : ProgramData) → IsProgramIn names before p → (length input ≤ INPUT_LIMIT) × IsProgramOf (form_with format Fractions) input p
    in_input p h = read_held INPUT_LIMIT (before.told input_name) input (λ text. IsProgramOf (form_with format Fractions) text p) at_input h

    in_output : (p : ProgramData) → IsReducedIn names before p → (length output ≤ INPUT_LIMIT) × IsProgramOf output_form output p
    in_output p h = read_held INPUT_LIMIT (before.told output_name) output (λ text. IsProgramOf output_form text p) at_output h

    module _ (s : ℕ) (said : List ℕ) where
      under_input : (p : ProgramData) → IsProgramIn names before p → OfOutput s said → OfInput s said
      under_input p h rest = let a = in_input p h in inr (a.0, a.1.0, rest)

      under_output : (p : ProgramData) → IsReducedIn names before p → OfRecords s said → OfOutput s said
      under_output p h rest = let a = in_output p h in inr (a.0, a.1.0, rest)

      -- at a text that is refused
      fault_line : (form : Form) (name bytes : List ℕ) (now : Moment) (Rest : Type 0) → Holds before name bytes → s ≡ 2 → SaysFaultOf INPUT_LIMIT form name said before now
          → Layer INPUT_LIMIT bytes program_over (fault_in form bytes) fault_text 2 s said Rest
      fault_line form name bytes now Rest held e (inl (fault, h, line)) =
          let r = read_held INPUT_LIMIT (before.told name) bytes (λ text. IsFaultOf form text fault) held h in
          inl (e, inr (r.0, (fault, r.1, line)))
      fault_line form name bytes now Rest held e (inr (over, line)) = inl (e, inl (longer_held INPUT_LIMIT (before.told name) bytes held over.0, line))

      refused_program : (now : Moment) → s ≡ 2 → RefusesProgram names said before now → OfInput s said
      refused_program now e (inl fault) = fault_line (form_with format Fractions) input_name input now (OfOutput s said) at_input e fault
      refused_program now e (inr (p, h, fault)) = under_input p h (fault_line output_form output_name output now (OfRecords s said) at_output e fault)

      records_fault : (now : Moment) → s ≡ 7 → SaysRecordFault records_name said before now → OfRecords s said
      records_fault now e (inl (fault, h, line)) =
          let r = read_held RECORDS_LIMIT (before.told records_name) undoing (λ text. record_texts.first_fault text ≡ Some (fault.kind, fault.line)) at_undoing h in
          inl (e, inr (r.0, ((fault.kind, fault.line), r.1, line)))
      records_fault now e (inr (over, line)) = inl (e, inl (longer_held RECORDS_LIMIT (before.told records_name) undoing at_undoing over.0, line))

      refused_records : (now : Moment) → s ≡ 7 → RefusesRecords names said before now → OfInput s said
      refused_records now e (p, r, h, k, fault) = under_input p h (under_output r k (records_fault now e fault))

      -- what the bytes give
      module _ (p r : ProgramData) (u : Postsolve) (given : AreGiven names before p r u) where
        in_records : (length undoing ≤ RECORDS_LIMIT) × AreRecordsOf undoing u
        in_records = read_held RECORDS_LIMIT (before.told records_name) undoing (λ text. AreRecordsOf text u) at_undoing given.records

        same_program : p ≡ program
        same_program = (in_input p given.input).1.1

        same_reduced : r ≡ reduced
        same_reduced = (in_output r given.output).1.1

        same_told : u ≡ told
        same_told = in_records.1.1

        under_records : OfWalk s said → OfInput s said
        under_records rest = under_input p given.input (under_output r given.output (inr (in_records.0, in_records.1.0, rest)))

        walk_here : Walk p r u → Walk program reduced told
        walk_here w = subst (λ (x : ProgramData). Walk x reduced told) same_program
            (subst (λ (x : ProgramData). Walk p x told) same_reduced (subst (λ (x : Postsolve). Walk p r x) same_told w))

        flaw_here : (flaw : Flaw) → IsFirstFlaw p r u flaw → IsFirstFlaw program reduced told flaw
        flaw_here flaw w = subst (λ (x : ProgramData). IsFirstFlaw x reduced told flaw) same_program
            (subst (λ (x : ProgramData). IsFirstFlaw p x told flaw) same_reduced (subst (λ (x : Postsolve). IsFirstFlaw p r x flaw) same_told w))

      verified : s ≡ 0 → IsVerified names said before → OfInput s said
      verified e v = under_records v.program v.reduced v.told v.given
          (inl (e, walk_here v.program v.reduced v.told v.given v.walks, v.said ∙ ap (λ (u : Postsolve). yes_text (length u.undos) u.offset) (same_told v.program v.reduced v.told v.given)))

      denied : s ≡ 9 → IsDenied names said before → OfInput s said
      denied e d = under_records d.program d.reduced d.told d.given (inr (e, (d.flaw, flaw_here d.program d.reduced d.told d.given d.flaw d.fails, d.said)))

      told_of : (now : Moment) → IsOfBytes s → SaysVerify names s said before now → OfInput s said
      told_of now b w0 =
          either (at_status s 0 _ _ w0) (λ h. verified h.0 h.1)
          (λ w2. either (at_status s 2 _ _ w2) (λ h. refused_program now h.0 h.1)
          (λ w3. either (at_status s 3 _ _ w3) (λ h. absurd (b.read h.0))
          (λ w5. either (at_status s 5 _ _ w5) (λ h. absurd (b.made h.0))
          (λ w7. either (at_status s 7 _ _ w7) (λ h. refused_records now h.0 h.1)
          (λ w9. either (at_status s 9 _ _ w9) (λ h. denied h.0 h.1)
          (λ none. absurd none))))))

pub bytes_told : (names : VerifyNames) (input output undoing : List ℕ) (before now : Moment) (s : ℕ) (said : List ℕ) → Holds before names.input input → Holds before names.output output
    → Holds before names.records undoing → IsOfBytes s → SaysVerify names s said before now → OfInput names.format input output undoing s said
bytes_told names input output undoing before now s said i o r b says =
    told_of names.format input output undoing names.input names.output names.records before i o r s said now b says

pub verify_same : VerifiesAreOne
verify_same names s t said more before now then later (input, i, l) (output, o, m) (undoing, r, n) b c x y =
    input_same names.format input output undoing s t said more
    (bytes_told names input output undoing before now s said i o r b x.says)
    (bytes_told names input output undoing then later t more l m n c y.says)
