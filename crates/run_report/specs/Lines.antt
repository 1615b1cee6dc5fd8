-- The lines of rules and sizes.
use Rattle.std.specs.Prelude.{ℕ, List, [], ◌∷◌, ◌++◌, codes}
use Rattle.std.specs.Fmt.{decimal}
use Rattle.run_report.specs.declared.counts.RuleCount.{RuleCount}
use Rattle.run_report.specs.declared.sizes.Size.{Size}
use Rattle.run_report.specs.Rules.{code_of, name_of}

-- how often a rule was applied, refused and left over
abbrev pub rule_line : RuleCount → List ℕ
rule_line count = code_of count.rule ++ 32 ∷ (name_of count.rule ++ (codes ": " ++ (decimal count.applied ++ (codes " applied, " ++ (decimal count.refused ++ (codes " refused, " ++ (decimal count.left ++ (codes " left" ++ 10 ∷ []))))))))

-- the size of something
abbrev pub size_line : List ℕ → Size → List ℕ
size_line what size = what ++ (codes ": " ++ (decimal size.rows ++ (codes " rows, " ++ (decimal size.columns ++ (codes " columns, " ++ (decimal size.entries ++ (codes " entries" ++ 10 ∷ [])))))))
