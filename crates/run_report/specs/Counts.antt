-- How often each rule was applied in a run, was refused at its end, and was left over.
use Rattle.std.specs.Prelude.{◌≡◌, ℕ, ◌+◌, not, List, [], ◌∷◌, ◌++◌, map, Option, Some, None}
use Rattle.std.specs.List.{count_by, filter, sum_by}
use Rattle.presolve_model.specs.declared.conclusion.End.{End}
use Rattle.presolve_model.specs.declared.conclusion.End.TheVariants.{Fixpoint, LimitReached}
use Rattle.presolve_model.specs.declared.instance.Instance.{Instance}
use Rattle.presolve_model.specs.declared.instance.Instance.TheVariants as at
use Rattle.presolve_model.specs.declared.instance.Rule.{Rule}
use Rattle.presolve_model.specs.declared.instance.Verdict.{Verdict}
use Rattle.presolve_model.specs.Instances.{rule_at}
use Rattle.presolve_model.specs.Ledger.{instance_count, Ledger}
use Rattle.presolve_model.specs.Stuck.{skipped_on}
use Rattle.presolve_model.specs.Tallies.{open_on}
use Rattle.place_laws.specs.Marks.{is_refusal}
use Rattle.run_report.specs.declared.look.Held.{Held}
use Rattle.run_report.specs.declared.counts.RuleCount.{RuleCount}
use Rattle.run_report.specs.Rules.{all_rules, is_same}

-- how many of these are instances of the rule
abbrev pub count_of : Rule → List Instance → ℕ
count_of rule es = count_by (λ e. is_same rule (rule_at e)) es

-- the verdict that closed a book
abbrev pub closing : Option Verdict → List Instance
closing None = []
closing (Some v) = at.Verdict v ∷ []

-- what was applied to a book: its reductions, and the verdict that closed it
abbrev pub applied_in : Ledger → List Instance
applied_in b = map at.Reduction b.history ++ closing b.verdict

-- those that were refused for a number, and the others
abbrev pub refused_in : List Held → List Instance
refused_in hs = map (λ h. h.instance) (filter (λ h. is_refusal h.answer) hs)

abbrev pub left_in : List Held → List Instance
left_in hs = map (λ h. h.instance) (filter (λ h. not (is_refusal h.answer)) hs)

abbrev pub rule_count : List Instance → List Instance → List Instance → Rule → RuleCount
rule_count applied refused left rule = record { rule = rule; applied = count_of rule applied; refused = count_of rule refused; left = count_of rule left }

-- of each rule
abbrev pub counts_of : Ledger → List Held → List RuleCount
counts_of b hs = map (rule_count (applied_in b) (refused_in hs) (left_in hs)) all_rules

-- all together
abbrev pub applied_sum : List RuleCount → ℕ
applied_sum cs = sum_by (λ c. c.applied) cs

abbrev pub refused_sum : List RuleCount → ℕ
refused_sum cs = sum_by (λ c. c.refused) cs

abbrev pub left_sum : List RuleCount → ℕ
left_sum cs = sum_by (λ c. c.left) cs

-- at a fixpoint as many were refused as the report says are skipped, and none is left; at another end none was refused
abbrev pub SkipsAs : Option End → List RuleCount → Type 0
SkipsAs (Some (Fixpoint skipped)) cs = (refused_sum cs ≡ skipped) × (left_sum cs ≡ 0)
SkipsAs (Some LimitReached) cs = refused_sum cs ≡ 0
SkipsAs None cs = refused_sum cs ≡ 0

-- What is counted adds up: as many were applied as there are reductions in the history, and one more where a verdict closed it; as many were
-- refused or left as there are open reductions that are enabled; and it is as the end says.
pub record AddsUp (b : Ledger) (ended : Option End) (cs : List RuleCount) : Type 0 where
  pub applied : applied_sum cs ≡ instance_count b
  pub held : refused_sum cs + left_sum cs ≡ skipped_on (open_on b.tally) b.problem
  pub skips : SkipsAs ended cs
