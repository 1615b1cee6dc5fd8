-- What a presolve prints.
use Rattle.std.specs.Prelude.{ℕ, List, [], ◌∷◌, ◌++◌, codes}
use Rattle.std.specs.Fmt.{decimal}
use Rattle.fractions.specs.Number.{Number}
use Rattle.number_texts.specs.Written.{written}
use Rattle.presolve_report.specs.declared.report.Change.{Change}
use Rattle.presolve_model.specs.declared.conclusion.End.{End}
use Rattle.presolve_model.specs.declared.conclusion.End.TheVariants.{Fixpoint, LimitReached}
use Rattle.presolve_report.specs.declared.report.Report.{Report}

-- how many there were, and how many are left
abbrev pub change_line : List ℕ → Change → List ℕ
change_line what change = what ++ 32 ∷ (decimal change.before ++ (codes " -> " ++ (decimal change.after ++ 10 ∷ [])))

abbrev pub count_line : List ℕ → ℕ → List ℕ
count_line what count = what ++ 32 ∷ (decimal count ++ 10 ∷ [])

abbrev pub offset_line : Number → List ℕ
offset_line offset = (codes "offset " ++ written offset) ++ 10 ∷ []

abbrev pub end_lines : End → List ℕ
end_lines (Fixpoint skipped) = codes "end fixpoint" ++ (10 ∷ codes "skipped " ++ (decimal skipped ++ 10 ∷ []))
end_lines LimitReached = codes "end limit" ++ 10 ∷ []

-- lines one after the other, behind a text
abbrev pub behind : List ℕ → List (List ℕ) → List ℕ
behind text [] = text
behind text (line ∷ lines) = behind (text ++ line) lines

abbrev pub report_text : Report → List ℕ
report_text report = behind []
    (change_line (codes "rows") report.rows
    ∷ change_line (codes "columns") report.columns
    ∷ change_line (codes "entries") report.entries
    ∷ count_line (codes "records") report.records
    ∷ offset_line report.offset
    ∷ end_lines report.end
    ∷ [])
