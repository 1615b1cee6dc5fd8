-- What a presolve wrote as RAY is taken by a check.
use Rattle.std.proofs.Common.{◌≡◌, ◌≢◌, inl, inr, ℕ, ◌≤◌, Bool, true, false, List, length, Option, Some, None, refl, sym, ap, ◌∙◌, subst, arith, if◌then◌else◌}
use Rattle.fractions.specs.Number.{Number}
use Rattle.exact_texts.specs.Kinds.{room_of, texts_of}
use Rattle.exact_texts.specs.Texts.{Reading}
use Rattle.fractions.specs.declared.Numbers.TheVariants.{Fractions}
use Rattle.command_words.specs.Names.{CheckNames, PresolveNames}
use Rattle.command_words.specs.declared.words.InputFormat.{InputFormat}
use Rattle.lp_check.specs.FirstNotContinuous.{IsFirstNotContinuous}
use Rattle.lp_model.specs.Meaning.{meaning}
use Rattle.lp_model.specs.Names.{names_of_columns, names_of_rows, WellNamed}
use Rattle.lp_model.specs.Optimality.{Continuous}
use Rattle.lp_model.specs.ProgramData.{ProgramData}
use Rattle.lp_rays.specs.Ray.{Ray, Weights}
use Rattle.lp_rays.specs.RayData.{IsSized, RayData, weights_of}
use Rattle.ray_check.specs.Deciding.{ColumnsFit, DecidesRay}
use Rattle.ray_check.specs.Room.{TotalFits}
use Rattle.ray_check.specs.declared.verdict.RayChecked.{RayChecked}
use Rattle.ray_check.specs.declared.verdict.RayChecked.TheVariants.{Yes, NoRow, NoColumn, NoTotal, PastColumn, PastTotal}
use Rattle.ray_text.specs.RayLines.{is_ray_text}
use Rattle.ray_text.specs.RayText.{HasRoom, ray_text}
use Rattle.ray_text.specs.Reading.{ray_fault, ray_in}
use Rattle.endings.specs.Ending.{infeasible_line}
use Rattle.endings.specs.Forms.{form_of, form_with, numbers_of}
use Rattle.endings.specs.Moments.{Reads}
use Rattle.endings.specs.ProgramTexts.{fault_in, HasNoFault, IsFaultOf, IsProgramOf, program_in, SaysFaultOf}
use Rattle.endings.specs.SolutionTexts.{fault_by}
use Rattle.endings.specs.declared.reads.TheConstants.{INPUT_LIMIT, SOLUTION_LIMIT}
use Rattle.ray_file.specs.Telling.{TellsRay}
use Rattle.told_rays.proofs.OneRay.{says_more}
use Rattle.presolve_command.specs.Presolved.{SaysInfeasible, WritesRay}
use Rattle.presolve_command.specs.Texts.{options_for, ProgramIsInfeasible, TextHasRay, workers_for}
use Rattle.check_command.specs.Checked.{check_form, IsChecked, IsJudged, IsProgramIn, RefusesProgram, RefusesSolution, SaysCheck}
use Rattle.check_command.specs.GivenTexts.{given_fault, IsRayOf, IsSolutionOf, ray_fault_of, ray_of, SaysGivenFault}
use Rattle.check_command.specs.JudgedRay.{IsRayJudged}
use Rattle.check_command.specs.RayVerdictText.{ray_verdict_text, status_of_ray_verdict}
use Rattle.two_runs.proofs.Joined.{held_written}
use Rattle.two_runs.proofs.Layers.{at_status, either, longer_held, read_held}
use Rattle.two_runs.proofs.OneCheck.{whole_not_continuous}
use Rattle.proved_runs.proofs.Forms.{well_named, with_fractions}
use Rattle.proved_runs.specs.Rays.{IsGivenToCheck, IsTaken, WrittenRaysAreTaken}

-- that what is written of a ray is read again
pub record RaysAgain : Type 0 where
  pub starts : (rows columns : List (List ℕ)) (r : RayData) → is_ray_text (ray_text rows columns r) ≡ true
  pub fault : (p : ProgramData) (r : RayData) → WellNamed p.objective p.rows p.columns → IsSized (length p.rows) (length p.columns) r → HasRoom r
      → ray_fault (names_of_rows p.rows) (names_of_columns p.columns) (ray_text (names_of_rows p.rows) (names_of_columns p.columns) r) ≡ None
  pub ray : (p : ProgramData) (r : RayData) → WellNamed p.objective p.rows p.columns → IsSized (length p.rows) (length p.columns) r → HasRoom r
      → ray_in (names_of_rows p.rows) (names_of_columns p.columns) (ray_text (names_of_rows p.rows) (names_of_columns p.columns) r) ≡ r

-- that a ray isn't said to be none, and past is said only where a sum has no room
pub record RaysPass : Type 0 where
  pub row : (d : ProgramData) (w : Weights) (i : ℕ) → DecidesRay d w (NoRow i) → Ray (meaning d) w → ⊥
  pub column : (d : ProgramData) (w : Weights) (j : ℕ) → DecidesRay d w (NoColumn j) → Ray (meaning d) w → ⊥
  pub total : (d : ProgramData) (w : Weights) (t : Number) → DecidesRay d w (NoTotal t) → Ray (meaning d) w → ⊥
  pub past_column : (d : ProgramData) (w : Weights) (j : ℕ) → DecidesRay d w (PastColumn j) → ColumnsFit d w → ⊥
  pub past_total : (d : ProgramData) (w : Weights) → DecidesRay d w PastTotal → TotalFits (meaning d) w → ⊥

none_or_some : {A : Type 0} (o : Option A) (a : A) → o ≡ None → o ≡ Some a → ⊥
none_or_some o a e f = let g : None ≡ Some a = sym e ∙ f in cc

-- ---- a verdict on a ray
module _ (pass : RaysPass) (program : ProgramData) (w : Weights) (is : Ray (meaning program) w) (ray : List ℕ) (same : w ≡ weights_of (ray_of program ray)) (status : ℕ) (said : List ℕ) where
  by_verdict : (v : RayChecked) → status_of_ray_verdict v ≡ status → said ≡ ray_verdict_text program v → DecidesRay program w v → IsTaken program ray status said
  by_verdict Yes e f d = record { answer = inl (sym e, f); yes = λ columns total. sym e }
  by_verdict (NoRow i) e f d = absurd (pass.row program w i d is)
  by_verdict (NoColumn j) e f d = absurd (pass.column program w j d is)
  by_verdict (NoTotal t) e f d = absurd (pass.total program w t d is)
  by_verdict (PastColumn j) e f d = record {
    answer = inr (sym e, inl (j, f));
    yes = λ columns total. absurd (pass.past_column program w j d (subst (ColumnsFit program) (sym same) columns));
  }
  by_verdict PastTotal e f d = record {
    answer = inr (sym e, inr f);
    yes = λ columns total. absurd (pass.past_total program w d (subst (TotalFits (meaning program)) (sym same) total));
  }

module _ (again : RaysAgain) (pass : RaysPass) (first : PresolveNames) (name : List ℕ) (second : CheckNames) (status : ℕ) (said : List ℕ) (given : IsGivenToCheck first name second status said) where
  abbrev program : ProgramData
  program = program_in (form_of first.options) given.input

  -- ---- what presolve says of RAY
  wrote : WritesRay first name given.before given.left
  wrote = by (subst (λ (o : Option (List ℕ)). SaysInfeasible o first infeasible_line given.before given.left) given.named given.presolved.says)
    where
      by : SaysInfeasible (Some name) first infeasible_line given.before given.left → WritesRay first name given.before given.left
      by (inl a) = a.0
      by (inr a) = absurd (says_more a.0 a.3)

  abbrev text : List ℕ
  text = wrote.0

  told : (length given.input ≤ INPUT_LIMIT) × TextHasRay first.options given.input text
  told = read_held INPUT_LIMIT (given.before.told first.input) given.input (λ held. TextHasRay first.options held text) given.input_read wrote.1

  abbrev infeasible : ProgramIsInfeasible (options_for first.options) (workers_for first.options) program
  infeasible = told.1.1.0

  abbrev tells : TellsRay program infeasible.history infeasible.verdict text
  tells = told.1.1.1

  continuous : Continuous (meaning program)
  continuous = infeasible.taken given.dual

  named : WellNamed program.objective program.rows program.columns
  named = well_named (form_of first.options) given.input told.0 told.1.0

  written : given.ray ≡ ray_text (names_of_rows program.rows) (names_of_columns program.columns) tells.ray
  written = sym (held_written (given.before.told name) (given.left.told name) given.ray text given.ray_left wrote.2) ∙ tells.written

  starts : is_ray_text given.ray ≡ true
  starts = ap is_ray_text written ∙ again.starts (names_of_rows program.rows) (names_of_columns program.columns) tells.ray

  sound : ray_fault_of program given.ray ≡ None
  sound = ap (ray_fault_of program) written ∙ again.fault program tells.ray named tells.sized tells.room

  same_ray : ray_of program given.ray ≡ tells.ray
  same_ray = ap (ray_of program) written ∙ again.ray program tells.ray named tells.sized tells.room

  is_ray : Ray (meaning program) (weights_of (ray_of program given.ray))
  is_ray = subst (λ (r : RayData). Ray (meaning program) (weights_of r)) (sym same_ray) tells.proves

  -- ---- IN with fractions
  abbrev Here : InputFormat → Type 0
  Here format = HasNoFault (form_with format Fractions) given.input × (program_in (form_with format Fractions) given.input ≡ program)

  here : Here second.format
  here = subst Here (sym given.format) (with_fractions first.options.format (numbers_of first.options) given.input told.1.0)

  in_program : (p : ProgramData) → IsProgramIn second given.found p → p ≡ program
  in_program p h = (read_held INPUT_LIMIT (given.found.told second.input) given.input (λ held. IsProgramOf (check_form second) held p) given.input_found h).1.1 ∙ here.1

  -- ---- what check says of it
  abbrev Taken : Type 0
  Taken = IsTaken program given.ray status said

  -- what texts of a solution's numbers would mean
  abbrev meant : Reading
  meant = (texts_of second.wide).reading

  no_solution : (xs : List Number) (ys : Option (List Number)) → Reads SOLUTION_LIMIT (given.found.told second.solution) (λ held. IsSolutionOf meant program held xs ys) → ⊥
  no_solution xs ys h =
      let r = read_held SOLUTION_LIMIT (given.found.told second.solution) given.ray (λ held. IsSolutionOf meant program held xs ys) given.ray_found h in
      let e : true ≡ false = sym starts ∙ r.1.0 in
      cc

  ray_judged : (k : ℕ) → status ≡ k → IsRayJudged program (given.found.told second.solution) k said → Taken
  ray_judged k e a =
      let r = read_held SOLUTION_LIMIT (given.found.told second.solution) given.ray (λ held. IsRayOf program held a.ray) given.ray_found a.given in
      by_verdict pass program (weights_of (ray_of program given.ray)) is_ray given.ray refl status said a.verdict (a.answers ∙ sym e) a.said
      (subst (λ (q : RayData). DecidesRay program (weights_of q) a.verdict) r.1.2 a.decides)

  judged : (k : ℕ) → status ≡ k → IsJudged (room_of second.wide) (texts_of second.wide) program (given.found.told second.solution) k said → Taken
  judged k e (inl a) = absurd (no_solution a.point None a.given)
  judged k e (inr (inl a)) = absurd (no_solution a.point (Some a.duals) a.given)
  judged k e (inr (inr a)) = ray_judged k e a

  checked : (k : ℕ) → status ≡ k → IsChecked second k said given.found → Taken
  checked k e (p, h, a) = judged k e (subst (λ (q : ProgramData). IsJudged (room_of second.wide) (texts_of second.wide) q (given.found.told second.solution) k said) (in_program p h) a)

  -- ---- it refuses neither text
  not_refused : SaysFaultOf INPUT_LIMIT (check_form second) second.input said given.found given.now → ⊥
  not_refused (inl (fault, h, line)) =
      let r = read_held INPUT_LIMIT (given.found.told second.input) given.input (λ held. IsFaultOf (check_form second) held fault) given.input_found h in
      none_or_some (fault_in (check_form second) given.input) fault here.0 r.1
  not_refused (inr (over, line)) =
      let l = longer_held INPUT_LIMIT (given.found.told second.input) given.input given.input_found over.0 in
      let m = told.0 in
      omega (arith, l, m)

  program_passes : RefusesProgram second said given.found given.now → ⊥
  program_passes (inl h) = not_refused h
  program_passes (inr (p, h, n)) =
      whole_not_continuous (meaning program) n.names.column (subst (λ (q : ProgramData). IsFirstNotContinuous (meaning q) n.names.column) (in_program p h) n.names.whole) continuous

  no_given_fault : given_fault meant program given.ray ≡ None
  no_given_fault = ap (λ (b : Bool). if b then ray_fault_of program given.ray else fault_by meant program given.ray) starts ∙ sound

  ray_read : SaysGivenFault meant program second.solution said given.found given.now → ⊥
  ray_read (inl (fault, h, line)) =
      let r = read_held SOLUTION_LIMIT (given.found.told second.solution) given.ray (λ held. given_fault meant program held ≡ Some (fault.kind, fault.line)) given.ray_found h in
      none_or_some (given_fault meant program given.ray) (fault.kind, fault.line) no_given_fault r.1
  ray_read (inr (over, line)) =
      let l = longer_held SOLUTION_LIMIT (given.found.told second.solution) given.ray given.ray_found over.0 in
      let m = given.ray_fits in
      omega (arith, l, m)

  ray_passes : RefusesSolution second said given.found given.now → ⊥
  ray_passes (p, h, fault) = ray_read (subst (λ (q : ProgramData). SaysGivenFault meant q second.solution said given.found given.now) (in_program p h) fault)

  pub taken : status ≢ 3 → status ≢ 5 → SaysCheck second status said given.found given.now → Taken
  taken read made w0 =
      either (at_status status 0 _ _ w0) (λ h. checked 0 h.0 h.1)
      (λ w2. either (at_status status 2 _ _ w2) (λ h. absurd (program_passes h.1))
      (λ w3. either (at_status status 3 _ _ w3) (λ h. absurd (read h.0))
      (λ w5. either (at_status status 5 _ _ w5) (λ h. absurd (made h.0))
      (λ w6. either (at_status status 6 _ _ w6) (λ h. checked 6 h.0 h.1)
      (λ w8. either (at_status status 8 _ _ w8) (λ h. absurd (ray_passes h.1))
      (λ w9. either (at_status status 9 _ _ w9) (λ h. checked 9 h.0 h.1)
      (λ none. absurd none)))))))

pub rays_taken : RaysAgain → RaysPass → WrittenRaysAreTaken
rays_taken again pass first name second status said given read made = taken again pass first name second status said given read made given.checked.says
