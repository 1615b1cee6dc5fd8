-- What check says of the same bytes is one.
use Rattle.std.specs.Prelude.{IsSome, IsTrue, is_some}
use Rattle.std.proofs.Common.{◌≡◌, ◌⊎◌, inl, inr, ℕ, ◌<◌, ◌≤◌, Bool, true, false, cond, List, [], ◌∷◌, ◌++◌, codes, length, Option, Some, None, sym, ap, ◌∙◌, subst, arith}
use Rattle.std.proofs.lemmas.Bool.{cases_lt}
use Rattle.fractions.specs.Number.{Number}
use Rattle.fractions.specs.Room.{Room}
use Rattle.exact_texts.specs.Kinds.{room_of, texts_of}
use Rattle.exact_texts.specs.Texts.{Reading, Writing}
use Rattle.file_ports.specs.Ports.{Moment}
use Rattle.command_words.specs.Names.{CheckNames}
use Rattle.lp_model.specs.LinearProgram.{LinearProgram}
use Rattle.lp_model.specs.Meaning.{meaning}
use Rattle.lp_model.specs.Optimality.{Continuous}
use Rattle.lp_model.specs.ProgramData.{ProgramData}
use Rattle.lp_model.specs.Vectors.{vector_of}
use Rattle.lp_check.specs.Deciding.{DecidesIn}
use Rattle.lp_check.specs.DecidingPairs.{DecidesPairIn}
use Rattle.lp_check.specs.FirstNotContinuous.{IsFirstNotContinuous}
use Rattle.lp_check.specs.declared.pair_verdicts.PairVerdict.{PairVerdict}
use Rattle.lp_check.specs.declared.verdicts.Verdict.{Verdict}
use Rattle.lp_check.proofs.OnePairVerdict.{pair_same}
use Rattle.lp_check.proofs.OneVerdict.{one_verdict}
use Rattle.lp_rays.specs.Ray.{Weights}
use Rattle.lp_rays.specs.RayData.{RayData, weights_of}
use Rattle.ray_check.specs.Deciding.{DecidesRay}
use Rattle.ray_check.specs.declared.verdict.RayChecked.{RayChecked}
use Rattle.point_text.specs.declared.faults.SolFaultKind.{SolFaultKind}
use Rattle.ray_text.specs.RayLines.{is_ray_text}
use Rattle.endings.specs.Continuity.{NamesFirstNotContinuous, not_continuous_text}
use Rattle.endings.specs.Moments.{Reads}
use Rattle.endings.specs.ProgramTexts.{fault_in, fault_text, IsFaultOf, IsProgramOf, program_in, SaysFaultOf}
use Rattle.endings.specs.SolutionTexts.{fault_by, solution_fault_text}
use Rattle.endings.specs.declared.reads.TheConstants.{INPUT_LIMIT, SOLUTION_LIMIT}
use Rattle.check_command.specs.Checked.{check_form, IsChecked, IsJudged, IsNotContinuous, IsProgramIn, RefusesProgram, RefusesSolution, SaysCheck}
use Rattle.check_command.specs.GivenTexts.{given_fault, IsRayOf, IsSolutionOf, NeedsContinuous, ray_fault_of, ray_of, SaysGivenFault}
use Rattle.check_command.specs.RayVerdictText.{ray_verdict_text, status_of_ray_verdict}
use Rattle.check_command.specs.VerdictText.{pair_verdict_text, status_of_pair_verdict, status_of_verdict, verdict_text}
use Rattle.two_runs.specs.Runs.{duals_in, Holds, point_in}
use Rattle.two_runs.specs.SameAnswers.{ChecksAreOne, IsOfBytes}
use Rattle.two_runs.proofs.Layers.{at_status, either, Layer, layer_same, longer_held, read_held}

abbrev pub SolutionFault : Type 0
SolutionFault = SolFaultKind × ℕ

abbrev pub solution_line : SolutionFault → List ℕ
solution_line k = solution_fault_text (record { kind = k.0; line = k.1 })

abbrev pub program_over : List ℕ
program_over = codes "error M17" ++ 10 ∷ []

abbrev pub solution_over : List ℕ
solution_over = codes "error S6" ++ 10 ∷ []

-- ---- the first column that has to be whole or is semi-continuous
of_a_kind : (M : LinearProgram) (j : ℕ) → IsTrue (M.whole j) ⊎ IsSome (M.gap j) → (M.whole j ≡ false) × (M.gap j ≡ None) → ⊥
of_a_kind M j (inl w) n = absurd (let e : false ≡ true = sym n.0 ∙ w in cc)
of_a_kind M j (inr s) n = absurd (let e : false ≡ true = ap is_some (sym n.1) ∙ s in cc)

pub whole_same : (M : LinearProgram) (j k : ℕ) → IsFirstNotContinuous M j → IsFirstNotContinuous M k → j ≡ k
whole_same M j k a b = by (cases_lt j k) (cases_lt k j)
  where
    by : (j < k) ⊎ (k ≤ j) → (k < j) ⊎ (j ≤ k) → j ≡ k
    by (inl l) m = absurd (of_a_kind M j a.kind (b.first j l))
    by (inr n) (inl m) = absurd (of_a_kind M k b.kind (a.first k m))
    by (inr n) (inr m) = omega (arith, n, m)

pub whole_line_same : (program : ProgramData) (said more : List ℕ) → NamesFirstNotContinuous program said → NamesFirstNotContinuous program more → said ≡ more
whole_line_same program said more a b = a.line ∙ ap (not_continuous_text program) (whole_same (meaning program) a.column b.column a.whole b.whole) ∙ sym b.line

pub whole_not_continuous : (M : LinearProgram) (j : ℕ) → IsFirstNotContinuous M j → Continuous M → ⊥
whole_not_continuous M j a c = of_a_kind M j a.kind (c j a.column)

-- ---- the first fault of a text, by what starts it
solution_sound : (r : Reading) (program : ProgramData) (text : List ℕ) → is_ray_text text ≡ false → fault_by r program text ≡ None → given_fault r program text ≡ None
solution_sound r program text other none = ap (λ (b : Bool). cond b (ray_fault_of program text) (fault_by r program text)) other ∙ none

ray_sound : (r : Reading) (program : ProgramData) (text : List ℕ) → is_ray_text text ≡ true → ray_fault_of program text ≡ None → given_fault r program text ≡ None
ray_sound r program text starts none = ap (λ (b : Bool). cond b (ray_fault_of program text) (fault_by r program text)) starts ∙ none

ray_or_not : (text : List ℕ) → is_ray_text text ≡ false → is_ray_text text ≡ true → ⊥
ray_or_not text other starts = let e : false ≡ true = sym other ∙ starts in cc

-- ---- a verdict, by numbers of any width or not
module _ (wide : Bool) (program : ProgramData) (solution : List ℕ) where
  -- the room for numbers, and their texts
  abbrev room : Room
  room = room_of wide

  abbrev text_of : Writing
  text_of = (texts_of wide).writing

  abbrev point : List Number
  point = point_in wide program solution

  abbrev duals : Option (List Number)
  duals = duals_in wide program solution

  abbrev ray : RayData
  ray = ray_of program solution

  -- on the point
  record OfPoint (s : ℕ) (said : List ℕ) : Type 0 where
    other : is_ray_text solution ≡ false
    alone : duals ≡ None
    verdict : Verdict Number
    decides : DecidesIn room (meaning program) (vector_of point) verdict
    answers : status_of_verdict verdict ≡ s
    line : said ≡ verdict_text text_of program verdict

  -- on the point with its duals
  record OfPair (s : ℕ) (said : List ℕ) : Type 0 where
    other : is_ray_text solution ≡ false
    prices : List Number
    given : duals ≡ Some prices
    continuous : Continuous (meaning program)
    verdict : PairVerdict Number
    decides : DecidesPairIn room program.sense (meaning program) (vector_of point) (vector_of prices) verdict
    answers : status_of_pair_verdict verdict ≡ s
    line : said ≡ pair_verdict_text text_of program verdict

  -- on the ray
  record OfRay (s : ℕ) (said : List ℕ) : Type 0 where
    starts : is_ray_text solution ≡ true
    continuous : Continuous (meaning program)
    verdict : RayChecked
    decides : DecidesRay program (weights_of ray) verdict
    answers : status_of_ray_verdict verdict ≡ s
    line : said ≡ ray_verdict_text program verdict

  -- duals or a ray are there
  abbrev IsAsked : Type 0
  IsAsked = ((is_ray_text solution ≡ false) × ((prices : List Number) × (duals ≡ Some prices))) ⊎ (is_ray_text solution ≡ true)

  -- none, since a column has to be whole
  record OfWhole (s : ℕ) (said : List ℕ) : Type 0 where
    asked : IsAsked
    refused : s ≡ 2
    names : NamesFirstNotContinuous program said

  abbrev Told : ℕ → List ℕ → Type 0
  Told s said = OfPoint s said ⊎ (OfPair s said ⊎ (OfRay s said ⊎ OfWhole s said))

  none_or_some : (ys : List Number) → duals ≡ None → duals ≡ Some ys → ⊥
  none_or_some ys a b = let e : None ≡ Some ys = sym a ∙ b in cc

  some_same : (ys zs : List Number) → duals ≡ Some ys → duals ≡ Some zs → ys ≡ zs
  some_same ys zs a b = let e : Some ys ≡ Some zs = sym a ∙ b in cc

  not_asked : is_ray_text solution ≡ false → duals ≡ None → IsAsked → ⊥
  not_asked other alone (inl (still, (prices, given))) = none_or_some prices alone given
  not_asked other alone (inr starts) = ray_or_not solution other starts

  module _ (one_ray_verdict : (d : ProgramData) (x : Weights) (v w : RayChecked) → DecidesRay d x v → DecidesRay d x w → v ≡ w) (s t : ℕ) (said more : List ℕ) where
    points_same : OfPoint s said → OfPoint t more → (s ≡ t) × (said ≡ more)
    points_same a b =
        let e : a.verdict ≡ b.verdict = one_verdict room (meaning program) (vector_of point) a.verdict b.verdict a.decides b.decides in
        (sym a.answers ∙ ap status_of_verdict e ∙ b.answers, a.line ∙ ap (verdict_text text_of program) e ∙ sym b.line)

    pairs_same : OfPair s said → OfPair t more → (s ≡ t) × (said ≡ more)
    pairs_same a b =
        let same : b.prices ≡ a.prices = some_same b.prices a.prices b.given a.given in
        let e : a.verdict ≡ b.verdict = pair_same room (one_verdict room) program.sense (meaning program) (vector_of point) (vector_of a.prices) a.verdict b.verdict a.decides
        (subst (λ (ys : List Number). DecidesPairIn room program.sense (meaning program) (vector_of point) (vector_of ys) b.verdict) same b.decides) in
        (sym a.answers ∙ ap status_of_pair_verdict e ∙ b.answers, a.line ∙ ap (pair_verdict_text text_of program) e ∙ sym b.line)

    rays_same : OfRay s said → OfRay t more → (s ≡ t) × (said ≡ more)
    rays_same a b =
        let e : a.verdict ≡ b.verdict = one_ray_verdict program (weights_of ray) a.verdict b.verdict a.decides b.decides in
        (sym a.answers ∙ ap status_of_ray_verdict e ∙ b.answers, a.line ∙ ap (ray_verdict_text program) e ∙ sym b.line)

    told_same : Told s said → Told t more → (s ≡ t) × (said ≡ more)
    told_same (inl a) (inl b) = points_same a b
    told_same (inl a) (inr (inl b)) = absurd (none_or_some b.prices a.alone b.given)
    told_same (inl a) (inr (inr (inl b))) = absurd (ray_or_not solution a.other b.starts)
    told_same (inl a) (inr (inr (inr b))) = absurd (not_asked a.other a.alone b.asked)
    told_same (inr (inl a)) (inl b) = absurd (none_or_some a.prices b.alone a.given)
    told_same (inr (inl a)) (inr (inl b)) = pairs_same a b
    told_same (inr (inl a)) (inr (inr (inl b))) = absurd (ray_or_not solution a.other b.starts)
    told_same (inr (inl a)) (inr (inr (inr b))) = absurd (whole_not_continuous (meaning program) b.names.column b.names.whole a.continuous)
    told_same (inr (inr (inl a))) (inl b) = absurd (ray_or_not solution b.other a.starts)
    told_same (inr (inr (inl a))) (inr (inl b)) = absurd (ray_or_not solution b.other a.starts)
    told_same (inr (inr (inl a))) (inr (inr (inl b))) = rays_same a b
    told_same (inr (inr (inl a))) (inr (inr (inr b))) = absurd (whole_not_continuous (meaning program) b.names.column b.names.whole a.continuous)
    told_same (inr (inr (inr a))) (inl b) = absurd (not_asked b.other b.alone a.asked)
    told_same (inr (inr (inr a))) (inr (inl b)) = absurd (whole_not_continuous (meaning program) a.names.column a.names.whole b.continuous)
    told_same (inr (inr (inr a))) (inr (inr (inl b))) = absurd (whole_not_continuous (meaning program) a.names.column a.names.whole b.continuous)
    told_same (inr (inr (inr a))) (inr (inr (inr b))) = (a.refused ∙ sym b.refused, whole_line_same program said more a.names b.names)

-- ---- of two texts
module _ (names : CheckNames) (input solution : List ℕ) where
  abbrev program : ProgramData
  program = program_in (check_form names) input

  -- what texts of SOL's numbers mean
  abbrev meant : Reading
  meant = (texts_of names.wide).reading

  abbrev OfSolution : ℕ → List ℕ → Type 0
  OfSolution s said = Layer SOLUTION_LIMIT solution solution_over (given_fault meant program solution) solution_line 8 s said (Told names.wide program solution s said)

  abbrev OfTexts : ℕ → List ℕ → Type 0
  OfTexts s said = Layer INPUT_LIMIT input program_over (fault_in (check_form names) input) fault_text 2 s said (OfSolution s said)

  module _ (before : Moment) (at_input : Holds before names.input input) (at_solution : Holds before names.solution solution) where
    -- IN's program is the program
    in_program : (p : ProgramData) → IsProgramIn names before p → (length input ≤ INPUT_LIMIT) × IsProgramOf (check_form names) input p
    in_program p h = read_held INPUT_LIMIT (before.told names.input) input (λ text. IsProgramOf (check_form names) text p) at_input h

    under : (s : ℕ) (said : List ℕ) (P : ProgramData → Type 0) → (p : ProgramData) × IsProgramIn names before p × P p → (P program → OfSolution s said) → OfTexts s said
    under s said P (p, h, q) f = let r = in_program p h in inr (r.0, r.1.0, f (subst P r.1.1 q))

    refused_input : (s : ℕ) (said : List ℕ) (now : Moment) → s ≡ 2 → SaysFaultOf INPUT_LIMIT (check_form names) names.input said before now → OfTexts s said
    refused_input s said now e (inl (fault, h, line)) =
        let r = read_held INPUT_LIMIT (before.told names.input) input (λ text. IsFaultOf (check_form names) text fault) at_input h in
        inl (e, inr (r.0, (fault, r.1, line)))
    refused_input s said now e (inr (over, line)) = inl (e, inl (longer_held INPUT_LIMIT (before.told names.input) input at_input over.0, line))

    refused_solution : (s : ℕ) (said : List ℕ) (now : Moment) → s ≡ 8 → SaysGivenFault meant program names.solution said before now → OfSolution s said
    refused_solution s said now e (inl (fault, h, line)) =
        let r = read_held SOLUTION_LIMIT (before.told names.solution) solution (λ text. given_fault meant program text ≡ Some (fault.kind, fault.line)) at_solution h in
        inl (e, inr (r.0, ((fault.kind, fault.line), r.1, line)))
    refused_solution s said now e (inr (over, line)) = inl (e, inl (longer_held SOLUTION_LIMIT (before.told names.solution) solution at_solution over.0, line))

    -- SOL's point and duals, or its ray
    in_pair : (xs : List Number) (ys : Option (List Number)) → Reads SOLUTION_LIMIT (before.told names.solution) (λ text. IsSolutionOf meant program text xs ys)
        → (length solution ≤ SOLUTION_LIMIT) × IsSolutionOf meant program solution xs ys
    in_pair xs ys h = read_held SOLUTION_LIMIT (before.told names.solution) solution (λ text. IsSolutionOf meant program text xs ys) at_solution h

    in_ray : (x : RayData) → Reads SOLUTION_LIMIT (before.told names.solution) (λ text. IsRayOf program text x) → (length solution ≤ SOLUTION_LIMIT) × IsRayOf program solution x
    in_ray x h = read_held SOLUTION_LIMIT (before.told names.solution) solution (λ text. IsRayOf program text x) at_solution h

    judged : (k s : ℕ) (said : List ℕ) → s ≡ k → IsJudged (room_of names.wide) (texts_of names.wide) program (before.told names.solution) k said → OfSolution s said
    judged k s said e (inl a) =
        let r = in_pair a.point None a.given in
        inr (
          r.0,
          solution_sound meant program solution r.1.0 r.1.1.0,
          inl (record {
            other = r.1.0;
            alone = sym r.1.1.2;
            verdict = a.verdict;
            decides = subst (λ (xs : List Number). DecidesIn (room_of names.wide) (meaning program) (vector_of xs) a.verdict) r.1.1.1 a.decides;
            answers = a.answers ∙ sym e;
            line = a.said;
          }),
        )
    judged k s said e (inr (inl a)) =
        let r = in_pair a.point (Some a.duals) a.given in
        inr (
          r.0,
          solution_sound meant program solution r.1.0 r.1.1.0,
          inr (inl (record {
            other = r.1.0;
            prices = a.duals;
            given = sym r.1.1.2;
            continuous = a.continuous;
            verdict = a.verdict;
            decides = subst (λ (xs : List Number). DecidesPairIn (room_of names.wide) program.sense (meaning program) (vector_of xs) (vector_of a.duals) a.verdict) r.1.1.1 a.decides;
            answers = a.answers ∙ sym e;
            line = a.said;
          })),
        )
    judged k s said e (inr (inr a)) =
        let r = in_ray a.ray a.given in
        inr (
          r.0,
          ray_sound meant program solution r.1.0 r.1.1,
          inr (inr (inl (record {
            starts = r.1.0;
            continuous = a.continuous;
            verdict = a.verdict;
            decides = subst (λ (x : RayData). DecidesRay program (weights_of x) a.verdict) r.1.2 a.decides;
            answers = a.answers ∙ sym e;
            line = a.said;
          }))),
        )

    not_continuous : (s : ℕ) (said : List ℕ) → s ≡ 2 → IsNotContinuous meant program (before.told names.solution) said → OfSolution s said
    not_continuous s said e a =
        let r = read_held SOLUTION_LIMIT (before.told names.solution) solution (λ text. NeedsContinuous meant program text) at_solution a.given in by r.0 r.1
      where
        whole : IsAsked names.wide program solution → OfWhole names.wide program solution s said
        whole asked = record { asked = asked; refused = e; names = a.names }

        by : length solution ≤ SOLUTION_LIMIT → NeedsContinuous meant program solution → OfSolution s said
        by most (inl (x, ys, h)) = inr (most, solution_sound meant program solution h.0 h.1.0, inr (inr (inr (whole (inl (h.0, (ys, sym h.1.2)))))))
        by most (inr (x, h)) = inr (most, ray_sound meant program solution h.0 h.1, inr (inr (inr (whole (inr h.0)))))

    -- at each status
    checked : (k s : ℕ) (said : List ℕ) → s ≡ k → IsChecked names k said before → OfTexts s said
    checked k s said e h = under s said (λ p. IsJudged (room_of names.wide) (texts_of names.wide) p (before.told names.solution) k said) h (judged k s said e)

    refuses_program : (s : ℕ) (said : List ℕ) (now : Moment) → s ≡ 2 → RefusesProgram names said before now → OfTexts s said
    refuses_program s said now e (inl h) = refused_input s said now e h
    refuses_program s said now e (inr h) = under s said (λ p. IsNotContinuous meant p (before.told names.solution) said) h (not_continuous s said e)

    refuses_solution : (s : ℕ) (said : List ℕ) (now : Moment) → s ≡ 8 → RefusesSolution names said before now → OfTexts s said
    refuses_solution s said now e h = under s said (λ p. SaysGivenFault meant p names.solution said before now) h (refused_solution s said now e)

    told_of : (s : ℕ) (said : List ℕ) (now : Moment) → IsOfBytes s → SaysCheck names s said before now → OfTexts s said
    told_of s said now b w0 =
        either (at_status s 0 _ _ w0) (λ h. checked 0 s said h.0 h.1)
        (λ w2. either (at_status s 2 _ _ w2) (λ h. refuses_program s said now h.0 h.1)
        (λ w3. either (at_status s 3 _ _ w3) (λ h. absurd (b.read h.0))
        (λ w5. either (at_status s 5 _ _ w5) (λ h. absurd (b.made h.0))
        (λ w6. either (at_status s 6 _ _ w6) (λ h. checked 6 s said h.0 h.1)
        (λ w8. either (at_status s 8 _ _ w8) (λ h. refuses_solution s said now h.0 h.1)
        (λ w9. either (at_status s 9 _ _ w9) (λ h. checked 9 s said h.0 h.1)
        (λ none. absurd none)))))))

pub check_same : ((d : ProgramData) (x : Weights) (v w : RayChecked) → DecidesRay d x v → DecidesRay d x w → v ≡ w) → ChecksAreOne
check_same on_ray names s t said more before now then later (input, i, j) (solution, k, l) b c x y =
    let p : ProgramData = program_in (check_form names) input in
    layer_same INPUT_LIMIT input program_over (fault_in (check_form names) input) fault_text 2 s t said more
    (told_of names input solution before i k s said now b x.says) (told_of names input solution then j l t more later c y.says)
    (λ q r. layer_same SOLUTION_LIMIT solution solution_over (given_fault (texts_of names.wide).reading p solution) solution_line 8 s t said more q r (told_same names.wide p solution on_ray s t said more))
