-- What presolve says of the same bytes is one.
use Rattle.std.proofs.Common.{◌≡◌, ◌⊎◌, inl, inr, ℕ, ◌≤◌, true, false, List, length, Option, Some, None, IfSome, sym, ap, ◌∙◌, subst}
use Rattle.file_ports.specs.Ports.{Moment}
use Rattle.command_words.specs.Names.{PresolveNames}
use Rattle.lp_model.specs.Meaning.{meaning}
use Rattle.lp_model.specs.ProgramData.{ProgramData}
use Rattle.undo_records.specs.Postsolve.{Postsolve}
use Rattle.mps_writer.specs.MpsText.{mps_text}
use Rattle.record_values.specs.declared.version.TextVersion.TheVariants.{Second}
use Rattle.record_file.specs.RecordText.{record_text}
use Rattle.presolve_model.specs.Conclusions.{Concluded, Decided}
use Rattle.presolve_model.specs.Meanings.{says_no_point}
use Rattle.presolve_model.specs.declared.conclusion.End.{End}
use Rattle.presolve_model.specs.declared.conclusion.Options.{Options}
use Rattle.presolve_model.specs.Workers.{IsInOrder, Workers}
use Rattle.presolve_model.specs.declared.instance.Reduction.{Reduction}
use Rattle.presolve_model.specs.declared.instance.Verdict.{Verdict}
use Rattle.endings.specs.Forms.{form_of}
use Rattle.endings.specs.Ending.{infeasible_line, unbounded_line}
use Rattle.endings.specs.ProgramTexts.{fault_in, fault_text, IsFaultOf, IsProgramOf, program_in}
use Rattle.endings.specs.declared.reads.TheConstants.{INPUT_LIMIT}
use Rattle.ray_file.specs.Telling.{past_lines, StopsAt, TellsRay}
use Rattle.told_rays.proofs.OneRay.{says_more, stops_same, told_or_stopped, told_same}
use Rattle.presolve_command.specs.Presolved.{IsDoneInOrder, IsMadeOf, IsPresolved, IsProved, IsUnboundedOrInfeasible, RefusesProgram, SaysFault, SaysInfeasible, SaysNotTaken, SaysPresolve}
use Rattle.presolve_report.specs.Report.{report_text}
use Rattle.presolve_report.specs.Outcomes.{entries_of, Outcome, Tells}
use Rattle.presolve_command.specs.Texts.{IsConcluded, IsNotTaken, IsTaken, options_for, ProgramIsInfeasible, ProgramIsUnboundedOrInfeasible, TextHasRay, TextIsInfeasible, TextIsNotTaken, TextIsUnboundedOrInfeasible, TextLacksRay, workers_for}
use Rattle.two_runs.specs.Runs.{Holds}
use Rattle.two_runs.specs.SameAnswers.{IsOfBytes, LeaveTheSame, PresolvesAreOne}
use Rattle.two_runs.proofs.Joined.{held_written}
use Rattle.two_runs.proofs.Layers.{at_status, either, Layer, layer_same, longer_held, read_held}
use Rattle.two_runs.proofs.OneCheck.{program_over, whole_line_same, whole_not_continuous}

-- that there is one conclusion of a program
pub record OneConclusion : Type 0 where
  pub reduced : (options : Options) (v w : Workers) (program r s : ProgramData) (t u : Postsolve) (e f : End) → IsInOrder v → IsInOrder w
      → Concluded options v program r t e → Concluded options w program s u f → (r ≡ s) × (t ≡ u) × (e ≡ f)
  pub decided : (options : Options) (v w : Workers) (program : ProgramData) (h k : List Reduction) (x y : Verdict) → IsInOrder v → IsInOrder w
      → Decided options v program h x → Decided options w program k y → (h ≡ k) × (x ≡ y)
  pub apart : (options : Options) (v w : Workers) (program r : ProgramData) (t : Postsolve) (e : End) (h : List Reduction) (x : Verdict) → IsInOrder v → IsInOrder w
      → Concluded options v program r t e → Decided options w program h x → ⊥

-- ---- outcomes of one program
pub report_same : (o q : Outcome) → Tells o → Tells q → o.source ≡ q.source → o.program ≡ q.program → o.records ≡ q.records → o.report.end ≡ q.report.end → o.report ≡ q.report
report_same o q x y s p r e =
    let e1 = x.rows_before ∙ ap (λ (z : ProgramData). length z.rows) s ∙ sym y.rows_before in
    let e2 = x.rows_after ∙ ap (λ (z : ProgramData). length z.rows) p ∙ sym y.rows_after in
    let e3 = x.columns_before ∙ ap (λ (z : ProgramData). length z.columns) s ∙ sym y.columns_before in
    let e4 = x.columns_after ∙ ap (λ (z : ProgramData). length z.columns) p ∙ sym y.columns_after in
    let e5 = x.entries_before ∙ ap entries_of s ∙ sym y.entries_before in
    let e6 = x.entries_after ∙ ap entries_of p ∙ sym y.entries_after in
    let e7 = x.undone ∙ ap (λ (z : Postsolve). length z.undos) r ∙ sym y.undone in
    let e8 = x.offset ∙ ap (λ (z : Postsolve). z.offset) r ∙ sym y.offset in
    λ t. record {
      rows = record { before = e1 t; after = e2 t };
      columns = record { before = e3 t; after = e4 t };
      entries = record { before = e5 t; after = e6 t };
      records = e7 t;
      offset = e8 t;
      end = e t;
    }

-- an outcome of a program, and its texts
record IsOutcome (options : Options) (workers : Workers) (program : ProgramData) (output records said : List ℕ) : Type 0 where
  outcome : Outcome
  source : outcome.source ≡ program
  concluded : IsConcluded options workers outcome output records said

module _ (one : OneConclusion) (options : Options) (workers : Workers) (order : IsInOrder workers) (program : ProgramData) where
  concluded_here : (output records said : List ℕ) (o : IsOutcome options workers program output records said) → Concluded options workers program o.outcome.program o.outcome.records o.outcome.report.end
  concluded_here output records said o = subst (λ (p : ProgramData). Concluded options workers p o.outcome.program o.outcome.records o.outcome.report.end) o.source o.concluded.concluded

  outcomes_same : (a b c d e f : List ℕ) → IsOutcome options workers program a b c → IsOutcome options workers program d e f → (a ≡ d) × (b ≡ e) × (c ≡ f)
  outcomes_same a b c d e f o q =
      let same = one.reduced options workers workers program o.outcome.program q.outcome.program o.outcome.records q.outcome.records o.outcome.report.end q.outcome.report.end order order (concluded_here a b c o) (concluded_here d e f q) in (
        o.concluded.texts.program_text ∙ ap mps_text same.0 ∙ sym q.concluded.texts.program_text,
        o.concluded.texts.records_text ∙ ap (record_text Second) same.1 ∙ sym q.concluded.texts.records_text,
        o.concluded.texts.printed_text ∙ ap report_text (report_same o.outcome q.outcome o.concluded.texts.tells q.concluded.texts.tells (o.source ∙ sym q.source) same.0 same.1 same.2) ∙ sym q.concluded.texts.printed_text,
      )

  never_both : (a b c : List ℕ) → IsOutcome options workers program a b c → (h : List Reduction) (v : Verdict) → Decided options workers program h v → ⊥
  never_both a b c o h v d = one.apart options workers workers program o.outcome.program o.outcome.records o.outcome.report.end h v order order (concluded_here a b c o) d

  taken_here : (a b c : List ℕ) → IsOutcome options workers program a b c → IsTaken options program
  taken_here a b c o = subst (λ (p : ProgramData). IsTaken options p) o.source o.concluded.taken

  taken_or_not : (said : List ℕ) → IsNotTaken options program said → IsTaken options program → ⊥
  taken_or_not said n t = whole_not_continuous (meaning program) n.1.column n.1.whole (t n.0)

  two_kinds : ProgramIsInfeasible options workers program → ProgramIsUnboundedOrInfeasible options workers program → ⊥
  two_kinds a b =
      let same : a.verdict ≡ b.verdict = (one.decided options workers workers program a.history b.history a.verdict b.verdict order order a.decided b.decided).1 in
      let e : true ≡ false = sym a.says ∙ ap says_no_point same ∙ b.says in
      cc

  -- ---- two findings of one program
  found_same : (f g : ProgramIsInfeasible options workers program) → (f.history ≡ g.history) × (f.verdict ≡ g.verdict)
  found_same f g = one.decided options workers workers program f.history g.history f.verdict g.verdict order order f.decided g.decided

  tells_here : (f g : ProgramIsInfeasible options workers program) (text : List ℕ) → TellsRay program g.history g.verdict text → TellsRay program f.history f.verdict text
  tells_here f g text r =
      let same = found_same f g in
      subst (λ (v : Verdict). TellsRay program f.history v text) (sym same.1) (subst (λ (h : List Reduction). TellsRay program h g.verdict text) (sym same.0) r)

  stops_here : (f g : ProgramIsInfeasible options workers program) (k : ℕ) → StopsAt program g.history g.verdict k → StopsAt program f.history f.verdict k
  stops_here f g k r =
      let same = found_same f g in
      subst (λ (v : Verdict). StopsAt program f.history v k) (sym same.1) (subst (λ (h : List Reduction). StopsAt program h g.verdict k) (sym same.0) r)

  texts_same : (f g : ProgramIsInfeasible options workers program) (text more : List ℕ) → TellsRay program f.history f.verdict text → TellsRay program g.history g.verdict more → text ≡ more
  texts_same f g text more a b = told_same program f.decided.start f.decided.opened f.history f.verdict text more a (tells_here f g more b)

  not_both : (f g : ProgramIsInfeasible options workers program) (text : List ℕ) (k : ℕ) → TellsRay program f.history f.verdict text → StopsAt program g.history g.verdict k → ⊥
  not_both f g text k a b = told_or_stopped program f.decided.start f.decided.opened f.history f.verdict text k a (stops_here f g k b)

  -- what is said of a program that has no feasible point: that alone where no RAY is asked for, or where there is a text of its ray
  abbrev OfRay : Option (List ℕ) → ProgramIsInfeasible options workers program → List ℕ → Type 0
  OfRay None found said = said ≡ infeasible_line
  OfRay (Some ray) found said = ((text : List ℕ) × TellsRay program found.history found.verdict text × (said ≡ infeasible_line))
      ⊎ ((k : ℕ) × StopsAt program found.history found.verdict k × (said ≡ past_lines k))

  lines_same : (o : Option (List ℕ)) (f g : ProgramIsInfeasible options workers program) (said more : List ℕ) → OfRay o f said → OfRay o g more → said ≡ more
  lines_same None f g said more a b = a ∙ sym b
  lines_same (Some ray) f g said more (inl a) (inl b) = a.2 ∙ sym b.2
  lines_same (Some ray) f g said more (inl a) (inr b) = absurd (not_both f g a.0 b.0 a.1 b.1)
  lines_same (Some ray) f g said more (inr a) (inl b) = absurd (not_both g f b.0 a.0 b.1 a.1)
  lines_same (Some ray) f g said more (inr a) (inr b) =
      a.2 ∙ ap past_lines (stops_same program f.decided.start f.decided.opened f.history f.verdict a.0 b.0 a.1 (stops_here f g b.0 b.1)) ∙ sym b.2

  abbrev OfOutcome : ℕ → List ℕ → Type 0
  OfOutcome s said = (s ≡ 0) × ((output : List ℕ) × (records : List ℕ) × IsOutcome options workers program output records said)

  -- what is said of a program that was read, where this RAY is asked for, or none
  module _ (ray : Option (List ℕ)) where
    abbrev OfProgram : ℕ → List ℕ → Type 0
    OfProgram s said = ((s ≡ 2) × IsNotTaken options program said)
        ⊎ (OfOutcome s said
        ⊎ (((s ≡ 20) × ((found : ProgramIsInfeasible options workers program) × OfRay ray found said))
        ⊎ ((s ≡ 21) × ProgramIsUnboundedOrInfeasible options workers program × (said ≡ unbounded_line))))

    module _ (s t : ℕ) (said more : List ℕ) where
      program_same : OfProgram s said → OfProgram t more → (s ≡ t) × (said ≡ more)
      program_same (inl a) (inl b) = (a.0 ∙ sym b.0, whole_line_same program said more a.1.1 b.1.1)
      program_same (inl a) (inr (inl b)) = absurd (taken_or_not said a.1 (taken_here b.1.0 b.1.1 more b.1.2))
      program_same (inl a) (inr (inr (inl b))) = absurd (taken_or_not said a.1 b.1.0.taken)
      program_same (inl a) (inr (inr (inr b))) = absurd (taken_or_not said a.1 b.1.taken)
      program_same (inr (inl a)) (inl b) = absurd (taken_or_not more b.1 (taken_here a.1.0 a.1.1 said a.1.2))
      program_same (inr (inl a)) (inr (inl b)) = (a.0 ∙ sym b.0, (outcomes_same a.1.0 a.1.1 said b.1.0 b.1.1 more a.1.2 b.1.2).2)
      program_same (inr (inl a)) (inr (inr (inl b))) = absurd (never_both a.1.0 a.1.1 said a.1.2 b.1.0.history b.1.0.verdict b.1.0.decided)
      program_same (inr (inl a)) (inr (inr (inr b))) = absurd (never_both a.1.0 a.1.1 said a.1.2 b.1.history b.1.verdict b.1.decided)
      program_same (inr (inr (inl a))) (inl b) = absurd (taken_or_not more b.1 a.1.0.taken)
      program_same (inr (inr (inl a))) (inr (inl b)) = absurd (never_both b.1.0 b.1.1 more b.1.2 a.1.0.history a.1.0.verdict a.1.0.decided)
      program_same (inr (inr (inl a))) (inr (inr (inl b))) = (a.0 ∙ sym b.0, lines_same ray a.1.0 b.1.0 said more a.1.1 b.1.1)
      program_same (inr (inr (inl a))) (inr (inr (inr b))) = absurd (two_kinds a.1.0 b.1)
      program_same (inr (inr (inr a))) (inl b) = absurd (taken_or_not more b.1 a.1.taken)
      program_same (inr (inr (inr a))) (inr (inl b)) = absurd (never_both b.1.0 b.1.1 more b.1.2 a.1.history a.1.verdict a.1.decided)
      program_same (inr (inr (inr a))) (inr (inr (inl b))) = absurd (two_kinds b.1.0 a.1)
      program_same (inr (inr (inr a))) (inr (inr (inr b))) = (a.0 ∙ sym b.0, a.2 ∙ sym b.2)

-- ---- of IN's bytes
module _ (one : OneConclusion) (names : PresolveNames) (order : IsDoneInOrder names) (input : List ℕ) where
  abbrev program : ProgramData
  program = program_in (form_of names.options) input

  abbrev options : Options
  options = options_for names.options

  abbrev workers : Workers
  workers = workers_for names.options

  abbrev OfText : ℕ → List ℕ → Type 0
  OfText s said = Layer INPUT_LIMIT input program_over (fault_in (form_of names.options) input) fault_text 2 s said (OfProgram one options workers order program names.ray s said)

  module _ (before : Moment) (at_input : Holds before names.input input) where
    refused : (s : ℕ) (said : List ℕ) (now : Moment) → s ≡ 2 → SaysFault names said before now → OfText s said
    refused s said now e (inl (fault, h, line)) =
        let r = read_held INPUT_LIMIT (before.told names.input) input (λ text. IsFaultOf (form_of names.options) text fault) at_input h in
        inl (e, inr (r.0, (fault, r.1, line)))
    refused s said now e (inr (over, line)) = inl (e, inl (longer_held INPUT_LIMIT (before.told names.input) input at_input over.0, line))

    not_taken : (s : ℕ) (said : List ℕ) → s ≡ 2 → SaysNotTaken names said before → OfText s said
    not_taken s said e h = let r = read_held INPUT_LIMIT (before.told names.input) input (λ text. TextIsNotTaken names.options text said) at_input h in inr (r.0, r.1.0, inl (e, r.1.1))

    refuses : (s : ℕ) (said : List ℕ) (now : Moment) → s ≡ 2 → RefusesProgram names said before now → OfText s said
    refuses s said now e (inl h) = refused s said now e h
    refuses s said now e (inr h) = not_taken s said e h

    in_program : (p : ProgramData) (output records said : List ℕ) (m : IsMadeOf names output records said before) → (length input ≤ INPUT_LIMIT) × IsProgramOf (form_of names.options) input m.outcome.source
    in_program p output records said m = read_held INPUT_LIMIT (before.told names.input) input (λ text. IsProgramOf (form_of names.options) text m.outcome.source) at_input m.source

    made : (output records said : List ℕ) → IsMadeOf names output records said before → IsOutcome options workers program output records said
    made output records said m = record { outcome = m.outcome; source = (in_program program output records said m).1.1; concluded = m.concluded }

    presolved : (s : ℕ) (said : List ℕ) (now : Moment) → s ≡ 0 → IsPresolved names said before now → OfText s said
    presolved s said now e h =
        let r = in_program program h.program h.records said h.made in
        inr (r.0, r.1.0, inr (inl (e, (h.program, h.records, made h.program h.records said h.made))))

    of_ray : (o : Option (List ℕ)) (said : List ℕ) (now : Moment) → SaysInfeasible o names said before now
        → (length input ≤ INPUT_LIMIT) × (fault_in (form_of names.options) input ≡ None) × ((found : ProgramIsInfeasible options workers program) × OfRay one options workers order program o found said)
    of_ray None said now h =
        let r = read_held INPUT_LIMIT (before.told names.input) input (λ text. TextIsInfeasible names.options text) at_input h.0 in
        (r.0, r.1.0, (r.1.1, h.2))
    of_ray (Some ray) said now (inl h) =
        let r = read_held INPUT_LIMIT (before.told names.input) input (λ text. TextHasRay names.options text h.0.0) at_input h.0.1 in
        (r.0, r.1.0, (r.1.1.0, inl (h.0.0, r.1.1.1, h.1)))
    of_ray (Some ray) said now (inr h) =
        let r = read_held INPUT_LIMIT (before.told names.input) input (λ text. TextLacksRay names.options text h.0) at_input h.1 in
        (r.0, r.1.0, (r.1.1.0, inr (h.0, r.1.1.1, h.3)))

    infeasible : (s : ℕ) (said : List ℕ) (now : Moment) → s ≡ 20 → SaysInfeasible names.ray names said before now → OfText s said
    infeasible s said now e h = let r = of_ray names.ray said now h in inr (r.0, r.1, inr (inr (inl (e, r.2))))

    unbounded : (s : ℕ) (said : List ℕ) → s ≡ 21 → IsUnboundedOrInfeasible names before → said ≡ unbounded_line → OfText s said
    unbounded s said e h line = let r = read_held INPUT_LIMIT (before.told names.input) input (λ text. TextIsUnboundedOrInfeasible names.options text) at_input h in inr (r.0, r.1.0, inr (inr (inr (e, r.1.1, line))))

    told_of : (s : ℕ) (said : List ℕ) (now : Moment) → IsOfBytes s → SaysPresolve names s said before now → OfText s said
    told_of s said now b w0 =
        either (at_status s 0 _ _ w0) (λ h. presolved s said now h.0 h.1)
        (λ w2. either (at_status s 2 _ _ w2) (λ h. refuses s said now h.0 h.1.0)
        (λ w3. either (at_status s 3 _ _ w3) (λ h. absurd (b.read h.0))
        (λ w4. either (at_status s 4 _ _ w4) (λ h. absurd (b.written h.0))
        (λ w5. either (at_status s 5 _ _ w5) (λ h. absurd (b.made h.0))
        (λ w20. either (at_status s 20 _ _ w20) (λ h. infeasible s said now h.0 h.1)
        (λ w21. either (at_status s 21 _ _ w21) (λ h. unbounded s said h.0 h.1.0 h.1.2)
        (λ none. absurd none)))))))

    at_zero : (s : ℕ) (said : List ℕ) (now : Moment) → s ≡ 0 → SaysPresolve names s said before now → IsPresolved names said before now
    at_zero s said now e w = subst (λ (k : ℕ). SaysPresolve names k said before now) e w

    at_twenty : (s : ℕ) (said : List ℕ) (now : Moment) → s ≡ 20 → SaysPresolve names s said before now → SaysInfeasible names.ray names said before now
    at_twenty s said now e w = subst (λ (k : ℕ). SaysPresolve names k said before now) e w

-- ---- OUT and REC
module _ (one : OneConclusion) (names : PresolveNames) (order : IsDoneInOrder names) (input said more : List ℕ) (before now then later : Moment) (i : Holds before names.input input) (j : Holds then names.input input)
    (a : IsPresolved names said before now) (b : IsPresolved names more then later) where
  both_same : (a.program ≡ b.program) × (a.records ≡ b.records) × (said ≡ more)
  both_same = outcomes_same one (options_for names.options) (workers_for names.options) order (program_in (form_of names.options) input) a.program a.records said b.program b.records more
      (made one names order input before i a.program a.records said a.made) (made one names order input then j b.program b.records more b.made)

  output_same : LeaveTheSame now later names.output
  output_same xs ys x y = sym (held_written (before.told names.output) (now.told names.output) xs a.program x a.program_written) ∙ both_same.0
      ∙ held_written (then.told names.output) (later.told names.output) ys b.program y b.program_written

  records_same : LeaveTheSame now later names.records
  records_same xs ys x y = sym (held_written (before.told names.records) (now.told names.records) xs a.records x a.records_written) ∙ both_same.1
      ∙ held_written (then.told names.records) (later.told names.records) ys b.records y b.records_written

-- ---- RAY
module _ (one : OneConclusion) (names : PresolveNames) (order : IsDoneInOrder names) (input said more : List ℕ) (before now then later : Moment) (i : Holds before names.input input) (j : Holds then names.input input) where
  rays_same : (text other : List ℕ) → IsProved names text before → IsProved names other then → text ≡ other
  rays_same text other a b =
      let r = read_held INPUT_LIMIT (before.told names.input) input (λ held. TextHasRay names.options held text) i a in
      let q = read_held INPUT_LIMIT (then.told names.input) input (λ held. TextHasRay names.options held other) j b in
      texts_same one (options_for names.options) (workers_for names.options) order (program_in (form_of names.options) input) r.1.1.0 q.1.1.0 text other r.1.1.1 q.1.1.1

  ray_same : (o : Option (List ℕ)) → SaysInfeasible o names said before now → SaysInfeasible o names more then later → said ≡ infeasible_line → more ≡ infeasible_line → IfSome o (LeaveTheSame now later)
  ray_same None a b e f = tt
  ray_same (Some ray) (inl a) (inl b) e f = λ xs ys x y.
      sym (held_written (before.told ray) (now.told ray) xs a.0.0 x a.0.2) ∙ rays_same a.0.0 b.0.0 a.0.1 b.0.1 ∙ held_written (then.told ray) (later.told ray) ys b.0.0 y b.0.2
  ray_same (Some ray) (inl a) (inr b) e f = absurd (says_more b.0 (sym f ∙ b.3))
  ray_same (Some ray) (inr a) b e f = absurd (says_more a.0 (sym e ∙ a.3))

pub presolve_same : OneConclusion → PresolvesAreOne
presolve_same one names order s t said more before now then later (input, i, j) b c x y =
    let same = layer_same INPUT_LIMIT input program_over (fault_in (form_of names.options) input) fault_text 2 s t said more (told_of one names order input before i s said now b x.says) (told_of one names order input then j t more later c y.says)
    (program_same one (options_for names.options) (workers_for names.options) order (program_in (form_of names.options) input) names.ray s t said more) in
    record {
      status = same.0;
      printed = same.1;
      output = λ zero. output_same one names order input said more before now then later i j (at_zero one names order input before i s said now zero x.says) (at_zero one names order input then j t more later (sym same.0 ∙ zero) y.says);
      records = λ zero. records_same one names order input said more before now then later i j (at_zero one names order input before i s said now zero x.says) (at_zero one names order input then j t more later (sym same.0 ∙ zero) y.says);
      ray = λ twenty line. ray_same one names order input said more before now then later i j names.ray (at_twenty one names order input before i s said now twenty x.says)
          (at_twenty one names order input then j t more later (sym same.0 ∙ twenty) y.says) line (sym same.1 ∙ line);
    }
