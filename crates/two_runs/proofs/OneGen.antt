-- What gen says of the same numbers is one.
use Rattle.std.proofs.Common.{◌≡◌, ◌++◌, inl, ℕ, List, refl, sym, ap₂, ◌∙◌, subst}
use Rattle.command_words.specs.declared.words.GenNumbers.{GenNumbers}
use Rattle.gen_command.specs.Generating.{default_options, generated_line, IsGenerated, SaysGen}
use Rattle.lp_gen.specs.Generated.{generated}
use Rattle.lp_model.specs.ProgramData.{ProgramData}
use Rattle.presolve_model.specs.Conclusions.{Concluded}
use Rattle.presolve_model.specs.Workers.{one_worker}
use Rattle.presolve_report.specs.declared.report.Report.{Report}
use Rattle.presolve_report.specs.Report.{report_text}
use Rattle.two_runs.specs.SameAnswers.{GensAreOne}
use Rattle.two_runs.proofs.Layers.{at_status, either}
use Rattle.two_runs.proofs.OnePresolve.{OneConclusion, report_same}

module _ (numbers : GenNumbers) where
  abbrev program : ProgramData
  program = generated numbers.seed numbers.rows numbers.columns

  -- memory did not run out, so the program was reduced
  generated_of : (s : ℕ) (said : List ℕ) → (s ≡ 5 → ⊥) → SaysGen numbers s said → (s ≡ 0) × IsGenerated numbers said
  generated_of s said made w0 =
      either (at_status s 0 _ _ w0) (λ h. h)
      (λ w5. either (at_status s 5 _ _ w5) (λ h. absurd (made h.0))
      (λ none. absurd none))

  concluded_here : (said : List ℕ) (a : IsGenerated numbers said) → Concluded default_options one_worker program a.outcome.program a.outcome.records a.outcome.report.end
  concluded_here said a = subst (λ (p : ProgramData). Concluded default_options one_worker p a.outcome.program a.outcome.records a.outcome.report.end) a.source a.concluded

  text_same : OneConclusion → (said more : List ℕ) → IsGenerated numbers said → IsGenerated numbers more → said ≡ more
  text_same one said more a b =
      let same = one.reduced default_options one_worker one_worker program a.outcome.program b.outcome.program a.outcome.records b.outcome.records a.outcome.report.end b.outcome.report.end
      (inl refl) (inl refl) (concluded_here said a) (concluded_here more b) in
      let sources = a.source ∙ sym b.source in
      let reports = report_same a.outcome b.outcome a.tells b.tells sources same.0 same.1 same.2 in
      a.text ∙ ap₂ (λ (p : ProgramData) (r : Report). generated_line p ++ report_text r) sources reports ∙ sym b.text

pub gen_same : OneConclusion → GensAreOne
gen_same one numbers s t said more before now then later made remade x y =
    let a = generated_of numbers s said made x.says in
    let b = generated_of numbers t more remade y.says in
    (a.0 ∙ sym b.0, text_same numbers one said more a.1 b.1)
