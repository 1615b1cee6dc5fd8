-- What postsolve says of the same bytes is one.
use Rattle.std.proofs.Common.{◌≡◌, ◌⊎◌, inl, inr, ℕ, ◌≤◌, true, false, List, [], ◌∷◌, ◌++◌, codes, length, Option, Some, None, sym, ap, ap₂, ◌∙◌, subst}
use Rattle.fractions.specs.Number.{Number}
use Rattle.fractions.specs.Room.{Room}
use Rattle.exact_texts.specs.Kinds.{room_of, texts_of}
use Rattle.exact_texts.specs.Texts.{Reading}
use Rattle.file_ports.specs.Ports.{Moment}
use Rattle.command_words.specs.Names.{PostsolveNames}
use Rattle.lp_model.specs.ProgramData.{ProgramData}
use Rattle.point_text.specs.PairText.{pair_text_by}
use Rattle.record_reader.specs.Matching.{Matches}
use Rattle.record_reader.specs.Reading as record_texts
use Rattle.record_reader.specs.declared.faults.RecordFaultKind.{RecordFaultKind}
use Rattle.undo_records.specs.Postsolve.{Postsolve}
use Rattle.endings.specs.ProgramTexts.{fault_in, fault_text, IsFaultOf, IsProgramOf, program_in, SaysFaultOf}
use Rattle.endings.specs.SolutionTexts.{fault_by, IsPairBy, SaysPairFaultBy}
use Rattle.endings.specs.declared.reads.TheConstants.{SOLUTION_LIMIT}
use Rattle.postsolve_command.specs.Given.{LeavesThem, reduced_form, UndoesThem}
use Rattle.postsolve_command.specs.Lifted.{column_names, counts_text, IsLifted, row_names, Stops}
use Rattle.postsolve_command.specs.Postsolved.{AreLifted, AreMatched, AreRead, AreRecordsIn, IsPostsolved, IsProgramIn, IsStopped, RefusesDuals, RefusesPoint, RefusesRecords, RefusesTexts, SaysPostsolve}
use Rattle.record_texts.specs.RecordTexts.{AreRecordsOf, record_fault_text, SaysRecordFault}
use Rattle.record_texts.specs.declared.reading.TheConstants.{RECORDS_LIMIT}
use Rattle.postsolve_command.specs.declared.given.TheConstants.{PROGRAM_LIMIT}
use Rattle.two_runs.specs.Runs.{duals_in, Holds, point_in}
use Rattle.two_runs.specs.SameAnswers.{IsOfBytes, LeaveTheSame, PostsolvesAreOne}
use Rattle.two_runs.proofs.Joined.{held_written, lifted_at, undoes_at}
use Rattle.two_runs.proofs.Layers.{at_status, either, Layer, layer_same, longer_held, read_held}
use Rattle.two_runs.proofs.OneCheck.{program_over, solution_line, solution_over}
use Rattle.two_runs.proofs.OneLifting.{lifted_or_stopped, lifted_same, stopped_same}

abbrev pub RecordsFault : Type 0
RecordsFault = RecordFaultKind × ℕ

abbrev pub record_line : RecordsFault → List ℕ
record_line k = record_fault_text (record { kind = k.0; line = k.1 })

abbrev pub records_over : List ℕ
records_over = codes "error F8" ++ 10 ∷ []

stops_at : (m : Room) (undoing told : Postsolve) (left reduced : ProgramData) (xs point : List Number) (ys duals : Option (List Number)) (said : List ℕ)
    → undoing ≡ told → left ≡ reduced → xs ≡ point → ys ≡ duals → Stops m undoing left xs ys said → Stops m told reduced point duals said
stops_at m undoing told left reduced xs point ys duals said t l x y h =
    subst (λ (r : Postsolve). Stops m r reduced point duals said) t
    (subst (λ (r : ProgramData). Stops m undoing r point duals said) l
    (subst (λ (r : List Number). Stops m undoing left r duals said) x
    (subst (λ (r : Option (List Number)). Stops m undoing left xs r said) y h)))

leaves_at : (undoing told : Postsolve) (ys duals : Option (List Number)) → undoing ≡ told → ys ≡ duals → LeavesThem undoing ys → LeavesThem told duals
leaves_at undoing told ys duals t y h = subst (λ (r : Postsolve). LeavesThem r duals) t (subst (λ (r : Option (List Number)). LeavesThem undoing r) y h)

leaves_or_undoes : (told : Postsolve) (duals : Option (List Number)) → LeavesThem told duals → UndoesThem told duals → ⊥
leaves_or_undoes told None l u = l
leaves_or_undoes told (Some ys) l u = let e : false ≡ true = sym l ∙ u in cc

-- ---- of three texts
module _ (names : PostsolveNames) (out undoing solution : List ℕ) where
  -- the room for numbers, and what their texts mean
  abbrev room : Room
  room = room_of names.wide

  abbrev meant : Reading
  meant = (texts_of names.wide).reading

  abbrev program : ProgramData
  program = program_in reduced_form out

  abbrev told : Postsolve
  told = record_texts.records_of undoing

  abbrev point : List Number
  point = point_in names.wide program solution

  abbrev duals : Option (List Number)
  duals = duals_in names.wide program solution

  -- the lift, or where it stops
  abbrev OfLift : ℕ → List ℕ → Type 0
  OfLift s said = ((s ≡ 6) × Stops room told program point duals said)
      ⊎ ((s ≡ 0) × ((lifted : List Number) × (prices : Option (List Number)) × IsLifted room told program point duals lifted prices × (said ≡ counts_text told duals)))

  abbrev OfDuals : ℕ → List ℕ → Type 0
  OfDuals s said = ((s ≡ 7) × LeavesThem told duals × (said ≡ codes "error F7" ++ 10 ∷ [])) ⊎ (UndoesThem told duals × OfLift s said)

  abbrev OfSolution : ℕ → List ℕ → Type 0
  OfSolution s said = Layer SOLUTION_LIMIT solution solution_over (fault_by meant program solution) solution_line 8 s said (OfDuals s said)

  abbrev OfMatch : ℕ → List ℕ → Type 0
  OfMatch s said = ((s ≡ 7) × (Matches told program → ⊥) × (said ≡ codes "error F5" ++ 10 ∷ [])) ⊎ (Matches told program × OfSolution s said)

  abbrev OfRecords : ℕ → List ℕ → Type 0
  OfRecords s said = Layer RECORDS_LIMIT undoing records_over (record_texts.first_fault undoing) record_line 7 s said (OfMatch s said)

  abbrev OfTexts : ℕ → List ℕ → Type 0
  OfTexts s said = Layer PROGRAM_LIMIT out program_over (fault_in reduced_form out) fault_text 2 s said (OfRecords s said)

  module _ (s t : ℕ) (said more : List ℕ) where
    abbrev Same : Type 0
    Same = (s ≡ t) × (said ≡ more)

    lift_same : OfLift s said → OfLift t more → Same
    lift_same (inl a) (inl b) = (a.0 ∙ sym b.0, stopped_same room told program point duals said more a.1 b.1)
    lift_same (inl a) (inr b) = absurd (lifted_or_stopped room told program point duals b.1.0 b.1.1 said b.1.2 a.1)
    lift_same (inr a) (inl b) = absurd (lifted_or_stopped room told program point duals a.1.0 a.1.1 more a.1.2 b.1)
    lift_same (inr a) (inr b) = (a.0 ∙ sym b.0, a.1.3 ∙ sym b.1.3)

    duals_same : OfDuals s said → OfDuals t more → Same
    duals_same (inl a) (inl b) = (a.0 ∙ sym b.0, a.2 ∙ sym b.2)
    duals_same (inl a) (inr b) = absurd (leaves_or_undoes told duals a.1 b.0)
    duals_same (inr a) (inl b) = absurd (leaves_or_undoes told duals b.1 a.0)
    duals_same (inr a) (inr b) = lift_same a.1 b.1

    solution_same : OfSolution s said → OfSolution t more → Same
    solution_same a b = layer_same SOLUTION_LIMIT solution solution_over (fault_by meant program solution) solution_line 8 s t said more a b duals_same

    match_same : OfMatch s said → OfMatch t more → Same
    match_same (inl a) (inl b) = (a.0 ∙ sym b.0, a.2 ∙ sym b.2)
    match_same (inl a) (inr b) = absurd (a.1 b.0)
    match_same (inr a) (inl b) = absurd (b.1 a.0)
    match_same (inr a) (inr b) = solution_same a.1 b.1

    texts_same : OfTexts s said → OfTexts t more → Same
    texts_same a b = layer_same PROGRAM_LIMIT out program_over (fault_in reduced_form out) fault_text 2 s t said more a b
        (λ q r. layer_same RECORDS_LIMIT undoing records_over (record_texts.first_fault undoing) record_line 7 s t said more q r match_same)

  -- ---- what is said at a moment at which three names hold them
  module _ (before : Moment) (at_out : Holds before names.program out) (at_undoing : Holds before names.records undoing) (at_solution : Holds before names.solution solution) where
    in_program : (p : ProgramData) → IsProgramIn names before p → (length out ≤ PROGRAM_LIMIT) × IsProgramOf reduced_form out p
    in_program p h = read_held PROGRAM_LIMIT (before.told names.program) out (λ text. IsProgramOf reduced_form text p) at_out h

    in_records : (r : Postsolve) → AreRecordsIn names before r → (length undoing ≤ RECORDS_LIMIT) × AreRecordsOf undoing r
    in_records r h = read_held RECORDS_LIMIT (before.told names.records) undoing (λ text. AreRecordsOf text r) at_undoing h

    module _ (s : ℕ) (said : List ℕ) where
      under_program : (p : ProgramData) → IsProgramIn names before p → OfRecords s said → OfTexts s said
      under_program p h rest = let a = in_program p h in inr (a.0, a.1.0, rest)

      under_records : (r : Postsolve) → AreRecordsIn names before r → OfMatch s said → OfRecords s said
      under_records r h rest = let a = in_records r h in inr (a.0, a.1.0, rest)

      matched_here : (p : ProgramData) (r : Postsolve) → p ≡ program → r ≡ told → Matches r p → Matches told program
      matched_here p r e f m = subst (λ (q : ProgramData). Matches told q) e (subst (λ (q : Postsolve). Matches q p) f m)

      under_match : (p : ProgramData) (r : Postsolve) → AreMatched names before p r → OfSolution s said → OfTexts s said
      under_match p r m rest = under_program p m.program_text (under_records r m.records_text
          (inr (matched_here p r (in_program p m.program_text).1.1 (in_records r m.records_text).1.1 m.matched, rest)))

      -- SOL's point and duals
      module _ (p : ProgramData) (r : Postsolve) (xs : List Number) (ys : Option (List Number)) (read : AreRead names before p r xs ys) where
        same_program : p ≡ program
        same_program = (in_program p read.matched.program_text).1.1

        same_records : r ≡ told
        same_records = (in_records r read.matched.records_text).1.1

        in_pair : (length solution ≤ SOLUTION_LIMIT) × IsPairBy meant p solution xs ys
        in_pair = read_held SOLUTION_LIMIT (before.told names.solution) solution (λ text. IsPairBy meant p text xs ys) at_solution read.pair_text

        same_point : xs ≡ point
        same_point = in_pair.1.1 ∙ ap (λ (q : ProgramData). point_in names.wide q solution) same_program

        same_duals : ys ≡ duals
        same_duals = in_pair.1.2 ∙ ap (λ (q : ProgramData). duals_in names.wide q solution) same_program

        under_pair : OfDuals s said → OfTexts s said
        under_pair rest = under_match p r read.matched (inr (in_pair.0, subst (λ (q : ProgramData). fault_by meant q solution ≡ None) same_program in_pair.1.0, rest))

        under_duals : UndoesThem r ys → OfLift s said → OfTexts s said
        under_duals u rest = under_pair (inr (undoes_at r told ys duals same_records same_duals u, rest))

      -- at each status
      refused_program : (now : Moment) → s ≡ 2 → SaysFaultOf PROGRAM_LIMIT reduced_form names.program said before now → OfTexts s said
      refused_program now e (inl (fault, h, line)) =
          let r = read_held PROGRAM_LIMIT (before.told names.program) out (λ text. IsFaultOf reduced_form text fault) at_out h in
          inl (e, inr (r.0, (fault, r.1, line)))
      refused_program now e (inr (over, line)) = inl (e, inl (longer_held PROGRAM_LIMIT (before.told names.program) out at_out over.0, line))

      refused_records : (now : Moment) → s ≡ 7 → SaysRecordFault names.records said before now → OfRecords s said
      refused_records now e (inl (fault, h, line)) =
          let r = read_held RECORDS_LIMIT (before.told names.records) undoing (λ text. record_texts.first_fault text ≡ Some (fault.kind, fault.line)) at_undoing h in
          inl (e, inr (r.0, ((fault.kind, fault.line), r.1, line)))
      refused_records now e (inr (over, line)) = inl (e, inl (longer_held RECORDS_LIMIT (before.told names.records) undoing at_undoing over.0, line))

      refused_match : (p : ProgramData) (r : Postsolve) → s ≡ 7 → p ≡ program → AreRecordsIn names before r → (Matches r p → ⊥) → said ≡ codes "error F5" ++ 10 ∷ [] → OfRecords s said
      refused_match p r e same h unmatched line = under_records r h (inl (
        e,
        (λ m. unmatched (subst (λ (q : ProgramData). Matches r q) (sym same) (subst (λ (q : Postsolve). Matches q program) (sym (in_records r h).1.1) m))),
        line,
      ))

      refused_texts : (now : Moment) → s ≡ 7 → RefusesTexts names said before now → OfTexts s said
      refused_texts now e (p, h, inl fault) = under_program p h (refused_records now e fault)
      refused_texts now e (p, h, inr (r, k, unmatched, line)) = under_program p h (refused_match p r e (in_program p h).1.1 k unmatched line)

      refused_duals : s ≡ 7 → RefusesDuals names said before → OfTexts s said
      refused_duals e a = under_pair a.program a.records a.point a.duals a.read
          (inl (e, leaves_at a.records told a.duals duals (same_records a.program a.records a.point a.duals a.read) (same_duals a.program a.records a.point a.duals a.read) a.leaves, a.says))

      refuses_records : (now : Moment) → s ≡ 7 → RefusesRecords names said before now → OfTexts s said
      refuses_records now e (inl h) = refused_texts now e h
      refuses_records now e (inr h) = refused_duals e h

      refused_solution : (now : Moment) → s ≡ 8 → SaysPairFaultBy meant program names.solution said before now → OfSolution s said
      refused_solution now e (inl (fault, h, line)) =
          let r = read_held SOLUTION_LIMIT (before.told names.solution) solution (λ text. fault_by meant program text ≡ Some (fault.kind, fault.line)) at_solution h in
          inl (e, inr (r.0, ((fault.kind, fault.line), r.1, line)))
      refused_solution now e (inr (over, line)) = inl (e, inl (longer_held SOLUTION_LIMIT (before.told names.solution) solution at_solution over.0, line))

      refuses_point : (now : Moment) → s ≡ 8 → RefusesPoint names said before now → OfTexts s said
      refuses_point now e (p, r, m, h) = under_match p r m (refused_solution now e (subst (λ (q : ProgramData). SaysPairFaultBy meant q names.solution said before now) (in_program p m.program_text).1.1 h))

      stopped : s ≡ 6 → IsStopped names said before → OfTexts s said
      stopped e a =
          let read = a.given.read in
          under_duals a.program a.records a.point a.duals read a.given.undoes (inl (
            e,
            stops_at room a.records told a.program program a.point point a.duals duals said
                (same_records a.program a.records a.point a.duals read) (same_program a.program a.records a.point a.duals read)
                (same_point a.program a.records a.point a.duals read) (same_duals a.program a.records a.point a.duals read) a.stops,
          ))

      -- the lift by the bytes
      lifted : (result : List ℕ) (a : AreLifted names result said before) → IsLifted room told program point duals a.texts.lifted a.texts.prices
      lifted result a =
          let read = a.given.read in
          lifted_at room a.records told a.program program a.point point a.duals duals a.texts.lifted a.texts.prices
          (same_records a.program a.records a.point a.duals read) (same_program a.program a.records a.point a.duals read)
          (same_point a.program a.records a.point a.duals read) (same_duals a.program a.records a.point a.duals read) a.texts.lifts

      lifted_text : (result : List ℕ) (a : AreLifted names result said before) → result ≡ pair_text_by (texts_of names.wide).writing (column_names told) (row_names told) a.texts.lifted a.texts.prices
      lifted_text result a = a.texts.result_text
          ∙ ap (λ (r : Postsolve). pair_text_by (texts_of names.wide).writing (column_names r) (row_names r) a.texts.lifted a.texts.prices) (same_records a.program a.records a.point a.duals a.given.read)

      postsolved : (result : List ℕ) → s ≡ 0 → AreLifted names result said before → OfTexts s said
      postsolved result e a =
          let read = a.given.read in
          under_duals a.program a.records a.point a.duals read a.given.undoes (inr (
            e,
            (
              a.texts.lifted,
              a.texts.prices,
              lifted result a,
              a.texts.printed_text ∙ ap₂ (λ (r : Postsolve) (ys : Option (List Number)). counts_text r ys)
                  (same_records a.program a.records a.point a.duals read) (same_duals a.program a.records a.point a.duals read),
            ),
          ))

      told_of : (now : Moment) → IsOfBytes s → SaysPostsolve names s said before now → OfTexts s said
      told_of now b w0 =
          either (at_status s 0 _ _ w0) (λ h. postsolved h.1.result h.0 h.1.lifted)
          (λ w2. either (at_status s 2 _ _ w2) (λ h. refused_program now h.0 h.1.0)
          (λ w3. either (at_status s 3 _ _ w3) (λ h. absurd (b.read h.0))
          (λ w4. either (at_status s 4 _ _ w4) (λ h. absurd (b.written h.0))
          (λ w5. either (at_status s 5 _ _ w5) (λ h. absurd (b.made h.0))
          (λ w6. either (at_status s 6 _ _ w6) (λ h. stopped h.0 h.1.0)
          (λ w7. either (at_status s 7 _ _ w7) (λ h. refuses_records now h.0 h.1.0)
          (λ w8. either (at_status s 8 _ _ w8) (λ h. refuses_point now h.0 h.1.0)
          (λ none. absurd none))))))))

-- ---- RESULT
at_zero : (names : PostsolveNames) (s : ℕ) (said : List ℕ) (before now : Moment) → s ≡ 0 → SaysPostsolve names s said before now → IsPostsolved names said before now
at_zero names s said before now e w = subst (λ (k : ℕ). SaysPostsolve names k said before now) e w

results_same : (names : PostsolveNames) (out undoing solution : List ℕ) (s t : ℕ) (said more : List ℕ) (before now then later : Moment)
    → Holds before names.program out → Holds before names.records undoing → Holds before names.solution solution
    → Holds then names.program out → Holds then names.records undoing → Holds then names.solution solution
    → IsPostsolved names said before now → IsPostsolved names more then later → LeaveTheSame now later names.result
results_same names out undoing solution s t said more before now then later i j k l m n a b bytes others x y =
    let p : ProgramData = program_in reduced_form out in
    let r : Postsolve = record_texts.records_of undoing in
    let same = lifted_same (room_of names.wide) r p (point_in names.wide p solution) (duals_in names.wide p solution) a.lifted.texts.lifted b.lifted.texts.lifted a.lifted.texts.prices b.lifted.texts.prices
    (lifted names out undoing solution before i j k s said a.result a.lifted) (lifted names out undoing solution then l m n t more b.result b.lifted) in
    sym (held_written (before.told names.result) (now.told names.result) bytes a.result x a.result_written)
    ∙ lifted_text names out undoing solution before i j k s said a.result a.lifted
    ∙ ap₂ (λ (xs : List Number) (ys : Option (List Number)). pair_text_by (texts_of names.wide).writing (column_names r) (row_names r) xs ys) same.0 same.1
    ∙ sym (lifted_text names out undoing solution then l m n t more b.result b.lifted)
    ∙ held_written (then.told names.result) (later.told names.result) others b.result y b.result_written

pub postsolve_same : PostsolvesAreOne
postsolve_same names s t said more before now then later (out, i, l) (undoing, j, m) (solution, k, n) b c x y =
    let same = texts_same names out undoing solution s t said more (told_of names out undoing solution before i j k s said now b x.says) (told_of names out undoing solution then l m n t more later c y.says) in
    record {
      status = same.0;
      printed = same.1;
      result = λ zero. results_same names out undoing solution s t said more before now then later i j k l m n (at_zero names s said before now zero x.says) (at_zero names t more then later (sym same.0 ∙ zero) y.says);
    }
