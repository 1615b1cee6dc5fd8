-- What solve says of the same bytes is one.
use Rattle.std.proofs.Common.{◌≡◌, ◌⊎◌, inl, inr, ℕ, ◌≤◌, List, [], length, Some, refl, sym, ap, ◌∙◌, subst}
use Rattle.file_ports.specs.Ports.{Moment}
use Rattle.command_words.specs.Names.{SolveNames}
use Rattle.lp_model.specs.Meaning.{meaning}
use Rattle.lp_model.specs.Names.{names_of_columns, names_of_rows}
use Rattle.lp_model.specs.Optimality.{Continuous}
use Rattle.lp_model.specs.ProgramData.{ProgramData}
use Rattle.point_text.specs.PairText.{pair_text}
use Rattle.endings.specs.Continuity.{NamesFirstNotContinuous}
use Rattle.endings.specs.Ending.{endless_line, infeasible_line, spent_line}
use Rattle.endings.specs.ProgramTexts.{fault_in, fault_text, IsFaultOf, IsProgramOf, program_in}
use Rattle.endings.specs.declared.reads.TheConstants.{INPUT_LIMIT}
use Rattle.exact_simplex.specs.Answers.{IsAnswer}
use Rattle.exact_simplex.specs.declared.solving.Solved.{Solved}
use Rattle.exact_simplex.specs.declared.solving.Solved.TheVariants.{Optimal, Infeasible, Unbounded, Spent, Past}
use Rattle.exact_simplex.proofs.OneAnswer.{answer_one}
use Rattle.solve_command.specs.AnswerText.{optimal_text, past_text}
use Rattle.solve_command.specs.Solving.{IsBest, IsProgramIn, IsSolved, Of, RefusesProgram, SaysSolve, solve_form}
use Rattle.two_runs.specs.Runs.{Holds}
use Rattle.two_runs.specs.SameAnswers.{IsOfBytes, LeaveTheSame}
use Rattle.two_runs.proofs.Joined.{held_written}
use Rattle.two_runs.proofs.Layers.{at_status, either, Layer, layer_same, longer_held, read_held}
use Rattle.two_runs.proofs.OneCheck.{program_over, whole_line_same, whole_not_continuous}
use Rattle.proved_runs.specs.Solved.{SolvesAreOne}

-- ---- an answer with its status, its text and what is written
abbrev status_of : Solved → ℕ
status_of (Optimal pair cost k) = 0
status_of Infeasible = 20
status_of Unbounded = 22
status_of Spent = 10
status_of (Past k) = 6

abbrev text_of : Solved → List ℕ
text_of (Optimal pair cost k) = optimal_text cost k
text_of Infeasible = infeasible_line
text_of Unbounded = endless_line
text_of Spent = spent_line
text_of (Past k) = past_text k

abbrev written_of : ProgramData → Solved → List ℕ
written_of p (Optimal pair cost k) = pair_text (names_of_columns p.columns) (names_of_rows p.rows) pair.point pair.duals
written_of p other = []

-- ---- of a text
module _ (names : SolveNames) (input : List ℕ) where
  abbrev program : ProgramData
  program = program_in (solve_form names) input

  abbrev OfAnswer : ℕ → List ℕ → Type 0
  OfAnswer s said = (a : Solved) × IsAnswer program names.pivots a × (s ≡ status_of a) × (said ≡ text_of a)

  abbrev OfProgram : ℕ → List ℕ → Type 0
  OfProgram s said = ((s ≡ 2) × NamesFirstNotContinuous program said) ⊎ (Continuous (meaning program) × OfAnswer s said)

  abbrev OfInput : ℕ → List ℕ → Type 0
  OfInput s said = Layer INPUT_LIMIT input program_over (fault_in (solve_form names) input) fault_text 2 s said (OfProgram s said)

  module _ (s t : ℕ) (said more : List ℕ) where
    answer_same : OfAnswer s said → OfAnswer t more → (s ≡ t) × (said ≡ more)
    answer_same (a, h, e, f) (b, k, g, i) =
        let same = answer_one program names.pivots a b h k in
        (e ∙ ap status_of same ∙ sym g, f ∙ ap text_of same ∙ sym i)

    program_same : OfProgram s said → OfProgram t more → (s ≡ t) × (said ≡ more)
    program_same (inl a) (inl b) = (a.0 ∙ sym b.0, whole_line_same program said more a.1 b.1)
    program_same (inl a) (inr b) = absurd (whole_not_continuous (meaning program) a.1.column a.1.whole b.0)
    program_same (inr a) (inl b) = absurd (whole_not_continuous (meaning program) b.1.column b.1.whole a.0)
    program_same (inr a) (inr b) = answer_same a.1 b.1

    input_same : OfInput s said → OfInput t more → (s ≡ t) × (said ≡ more)
    input_same a b = layer_same INPUT_LIMIT input program_over (fault_in (solve_form names) input) fault_text 2 s t said more a b program_same

  -- ---- what is said at a moment at which IN holds it
  module _ (before : Moment) (at_input : Holds before names.input input) where
    in_input : (p : ProgramData) → IsProgramIn names before p → (length input ≤ INPUT_LIMIT) × IsProgramOf (solve_form names) input p
    in_input p h = read_held INPUT_LIMIT (before.told names.input) input (λ text. IsProgramOf (solve_form names) text p) at_input h

    -- a best point as an answer
    module _ (text printed : List ℕ) (b : Of names before (λ p. IsBest p names.pivots text printed)) where
      here : IsBest program names.pivots text printed
      here = subst (λ (p : ProgramData). IsBest p names.pivots text printed) (in_input b.0 b.1).1.1 b.3

      abbrev best_answer : Solved
      best_answer = Optimal (record { point = here.point; duals = Some here.duals }) here.cost here.pivots

      is_answer : IsAnswer program names.pivots best_answer
      is_answer = (here.duals, refl, here.columns, here.rows, here.run)

      written_is : text ≡ written_of program best_answer
      written_is = here.text

      printed_is : printed ≡ text_of best_answer
      printed_is = here.said

    module _ (s : ℕ) (said : List ℕ) where
      under_program : (p : ProgramData) → IsProgramIn names before p → OfProgram s said → OfInput s said
      under_program p h rest = let a = in_input p h in inr (a.0, a.1.0, rest)

      -- an answer of IN's program
      under_answer : (P : ProgramData → Type 0) → Of names before P → ((p : ProgramData) → p ≡ program → P p → OfAnswer s said) → OfInput s said
      under_answer P o f =
          let same : o.0 ≡ program = (in_input o.0 o.1).1.1 in
          under_program o.0 o.1 (inr (subst (λ (p : ProgramData). Continuous (meaning p)) same o.2, f o.0 same o.3))

      solved : s ≡ 0 → (now : Moment) → IsSolved names said before now → OfInput s said
      solved e now h = under_program h.best.0 h.best.1 (inr (
        subst (λ (p : ProgramData). Continuous (meaning p)) (in_input h.best.0 h.best.1).1.1 h.best.2,
        (best_answer h.text said h.best, is_answer h.text said h.best, e, printed_is h.text said h.best),
      ))

      refused : (now : Moment) → s ≡ 2 → RefusesProgram names said before now → OfInput s said
      refused now e (inl (inl (fault, h, line))) =
          let r = read_held INPUT_LIMIT (before.told names.input) input (λ text. IsFaultOf (solve_form names) text fault) at_input h in
          inl (e, inr (r.0, (fault, r.1, line)))
      refused now e (inl (inr (over, line))) = inl (e, inl (longer_held INPUT_LIMIT (before.told names.input) input at_input over.0, line))
      refused now e (inr (p, h, line)) = under_program p h (inl (e, subst (λ (q : ProgramData). NamesFirstNotContinuous q said) (in_input p h).1.1 line))

      told_of : (now : Moment) → IsOfBytes s → SaysSolve names s said before now → OfInput s said
      told_of now b w0 =
          either (at_status s 0 _ _ w0) (λ h. solved h.0 now h.1)
          (λ w2. either (at_status s 2 _ _ w2) (λ h. refused now h.0 h.1.0)
          (λ w3. either (at_status s 3 _ _ w3) (λ h. absurd (b.read h.0))
          (λ w4. either (at_status s 4 _ _ w4) (λ h. absurd (b.written h.0))
          (λ w5. either (at_status s 5 _ _ w5) (λ h. absurd (b.made h.0))
          (λ w6. either (at_status s 6 _ _ w6) (λ h. under_answer _ h.1.0 (λ p is k. (Past k.0, subst (λ (q : ProgramData). IsAnswer q names.pivots (Past k.0)) is k.1, h.0, k.2)))
          (λ w10. either (at_status s 10 _ _ w10) (λ h. under_answer _ h.1.0 (λ p is k. (Spent, subst (λ (q : ProgramData). IsAnswer q names.pivots Spent) is k, h.0, h.1.2)))
          (λ w20. either (at_status s 20 _ _ w20) (λ h. under_answer _ h.1.0 (λ p is k. (Infeasible, subst (λ (q : ProgramData). IsAnswer q names.pivots Infeasible) is k.0, h.0, h.1.2)))
          (λ w22. either (at_status s 22 _ _ w22) (λ h. under_answer _ h.1.0 (λ p is k. (Unbounded, subst (λ (q : ProgramData). IsAnswer q names.pivots Unbounded) is k.0, h.0, h.1.2)))
          (λ none. absurd none)))))))))

-- ---- SOL
at_zero : (names : SolveNames) (s : ℕ) (said : List ℕ) (before now : Moment) → s ≡ 0 → SaysSolve names s said before now → IsSolved names said before now
at_zero names s said before now e w = subst (λ (k : ℕ). SaysSolve names k said before now) e w

written_same : (names : SolveNames) (input : List ℕ) (said more : List ℕ) (before now then later : Moment) → Holds before names.input input → Holds then names.input input
    → IsSolved names said before now → IsSolved names more then later → LeaveTheSame now later names.solution
written_same names input said more before now then later i j a b bytes others x y =
    sym (held_written (before.told names.solution) (now.told names.solution) bytes a.text x a.text_written)
    ∙ written_is names input before i a.text said a.best
    ∙ ap (written_of (program names input)) (answer_one (program names input) names.pivots (best_answer names input before i a.text said a.best) (best_answer names input then j b.text more b.best)
    (is_answer names input before i a.text said a.best) (is_answer names input then j b.text more b.best))
    ∙ sym (written_is names input then j b.text more b.best)
    ∙ held_written (then.told names.solution) (later.told names.solution) others b.text y b.text_written

pub solve_same : SolvesAreOne
solve_same names s t said more before now then later (input, i, j) b c x y =
    let same = input_same names input s t said more (told_of names input before i s said now b x.says) (told_of names input then j t more later c y.says) in
    record {
      status = same.0;
      printed = same.1;
      solution = λ zero. written_same names input said more before now then later i j (at_zero names s said before now zero x.says) (at_zero names t more then later (sym same.0 ∙ zero) y.says);
    }
