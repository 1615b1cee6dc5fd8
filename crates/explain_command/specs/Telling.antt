-- The text that tells of a run.
use Rattle.std.specs.Prelude.{◌≡◌, ◌≢◌, ℕ, zero, suc, ◌<◌, Bool, if◌then◌else◌, ◌||◌, nat_lt, List, [], ◌∷◌, ◌++◌, length, slice_index_or, Option, Some, None, MatchOption, All, codes}
use Rattle.std.specs.Fmt.{decimal}
use Rattle.std.specs.List.{filter, flat_map}
use Rattle.lp_model.specs.declared.program.ColumnDef.{ColumnDef}
use Rattle.lp_model.specs.declared.program.RowDef.{RowDef}
use Rattle.lp_model.specs.ProgramData.{ProgramData}
use Rattle.undo_records.specs.declared.undo.Undo.{Undo}
use Rattle.problem_model.specs.Programs.{IsProblemOf}
use Rattle.problem_model.specs.Sparse.{Sparse}
use Rattle.presolve_model.specs.declared.conclusion.End.{End}
use Rattle.presolve_model.specs.declared.conclusion.End.TheVariants.{Fixpoint, LimitReached}
use Rattle.presolve_model.specs.declared.conclusion.Options.{Options}
use Rattle.presolve_model.specs.declared.instance.Instance.TheVariants as at
use Rattle.presolve_model.specs.declared.instance.Reduction.{Reduction}
use Rattle.presolve_model.specs.declared.instance.Verdict.{Verdict}
use Rattle.presolve_model.specs.Ledger.{Ledger}
use Rattle.presolve_model.specs.Meanings.{says_no_point}
use Rattle.presolve_model.specs.Ordered.{RunsTo}
use Rattle.run_report.specs.declared.counts.Account.{Account}
use Rattle.run_report.specs.declared.counts.RuleCount.{RuleCount}
use Rattle.run_report.specs.declared.look.Held.{Held}
use Rattle.run_report.specs.declared.named.Subject.{Subject}
use Rattle.run_report.specs.declared.named.Subject.TheVariants.{Row, Column}
use Rattle.run_report.specs.declared.sizes.RoundSize.{RoundSize}
use Rattle.run_report.specs.declared.sizes.Size.{Size}
use Rattle.run_report.specs.Counts.{counts_of}
use Rattle.run_report.specs.Holding.{AreHeld}
use Rattle.run_report.specs.Lines.{rule_line, size_line}
use Rattle.run_report.specs.Naming.{instance_text}
use Rattle.run_report.specs.Reasons.{IsHeldLine}
use Rattle.run_report.specs.Sizes.{size_at_start, size_in}
use Rattle.run_report.specs.Story.{story_text}
use Rattle.explain_command.specs.declared.words.Words.{Words}

-- ---- rules and sizes
-- something of it was applied, refused or left
abbrev pub is_used : RuleCount → Bool
is_used count = nat_lt 0 count.applied || (nat_lt 0 count.refused || nat_lt 0 count.left)

abbrev pub rules_text : List RuleCount → List ℕ
rules_text counts = flat_map rule_line (filter is_used counts)

abbrev pub round_line : RoundSize → List ℕ
round_line one = size_line (codes "round " ++ decimal one.round) one.size

-- at the start, after rounds, and at the end
abbrev pub sizes_text : Size → List RoundSize → Size → List ℕ
sizes_text start rounds last = size_line (codes "start") start ++ (flat_map round_line rounds ++ size_line (codes "end") last)

-- ---- what is refused or left
abbrev pub more_line : ℕ → List ℕ
more_line count = codes "and " ++ (decimal count ++ (codes " more" ++ 10 ∷ []))

-- a line of each, up to so many, and how many more there are
abbrev pub IsHeldText : ProgramData → Sparse → ℕ → List Held → List ℕ → Type 0
IsHeldText program p most [] text = text ≡ []
IsHeldText program p zero (h ∷ hs) text = text ≡ more_line (length (h ∷ hs))
IsHeldText program p (suc most) (h ∷ hs) text = (line rest : List ℕ) × IsHeldLine program p h line × IsHeldText program p most hs rest × (text ≡ line ++ rest)

-- ---- the end
-- a verdict with the row or column that it names
abbrev pub verdict_text : ProgramData → Option Verdict → List ℕ
verdict_text program None = []
verdict_text program (Some v) = 32 ∷ instance_text program (at.Verdict v)

abbrev pub end_line : ProgramData → Option End → Option Verdict → List ℕ
end_line program (Some (Fixpoint skipped)) verdict = codes "end fixpoint" ++ 10 ∷ []
end_line program (Some LimitReached) verdict = codes "end limit" ++ 10 ∷ []
end_line program None verdict = codes "end verdict" ++ (verdict_text program verdict ++ 10 ∷ [])

abbrev pub status_of : Option Verdict → ℕ
status_of None = 0
status_of (Some v) = if says_no_point v then 20 else 21

-- ---- a row or a column
-- the column of this name; none where no column has it
abbrev pub IsColumnNamed : List ColumnDef → List ℕ → Option Subject → Type 0
IsColumnNamed columns name None = All (λ column. column.name ≢ name) columns
IsColumnNamed columns name (Some (Column j)) = (j < length columns) × ((d : ColumnDef) → (slice_index_or columns j d).name ≡ name)
IsColumnNamed columns name (Some (Row i)) = ⊥

abbrev pub IsRowNamed : List RowDef → List ℕ → Option Subject → Type 0
IsRowNamed rows name None = All (λ row. row.name ≢ name) rows
IsRowNamed rows name (Some (Row i)) = (i < length rows) × ((d : RowDef) → (slice_index_or rows i d).name ≡ name)
IsRowNamed rows name (Some (Column j)) = ⊥

-- where there are no lines, that there are none
abbrev pub or_none : List ℕ → List ℕ
or_none [] = codes "no reduction names or changes it" ++ 10 ∷ []
or_none (c ∷ cs) = c ∷ cs

-- of what the lines that follow tell
abbrev pub heading : List ℕ → List ℕ → List ℕ
heading what name = what ++ (32 ∷ (name ++ (codes ":" ++ 10 ∷ [])))

-- that there is none of this name
abbrev pub missing : List ℕ → List ℕ → List ℕ
missing what name = codes "no " ++ (what ++ (32 ∷ (name ++ 10 ∷ [])))

-- of the one that is found under a name, from this problem on
abbrev pub named_story : ProgramData → Sparse → List Reduction → List Undo → List ℕ → List ℕ → Option Subject → List ℕ
named_story program p rs us what name None = missing what name
named_story program p rs us what name (Some s) = heading what name ++ or_none (story_text program p rs us s)

-- the same of a column, or a row, of this name
abbrev pub IsColumnStory : ProgramData → Sparse → List Reduction → List Undo → List ℕ → List ℕ → Type 0
IsColumnStory program p rs us name text = (found : Option Subject) × IsColumnNamed program.columns name found × (text ≡ named_story program p rs us (codes "column") name found)

abbrev pub IsRowStory : ProgramData → Sparse → List Reduction → List Undo → List ℕ → List ℕ → Type 0
IsRowStory program p rs us name text = (found : Option Subject) × IsRowNamed program.rows name found × (text ≡ named_story program p rs us (codes "row") name found)

-- what is told of the column, and of the row, that is asked for; nothing where none is
abbrev pub IsAskedColumn : ProgramData → Sparse → List Reduction → List Undo → Words → List ℕ → Type 0
IsAskedColumn program p rs us words text = MatchOption words.column (text ≡ []) (λ name. IsColumnStory program p rs us name.now text)

abbrev pub IsAskedRow : ProgramData → Sparse → List Reduction → List Undo → Words → List ℕ → Type 0
IsAskedRow program p rs us words text = MatchOption words.row (text ≡ []) (λ name. IsRowStory program p rs us name.now text)

-- ---- the whole
-- how many that are refused or left are named
abbrev pub most_named : Bool → ℕ → ℕ
most_named all held = if all then held else 20

-- the rules that were used, the sizes from the start to the end, what is refused or left, and the end
pub record IsReport (program : ProgramData) (all : Bool) (rounds : List RoundSize) (told : Account) (text : List ℕ) : Type 0 where
  pub left : List ℕ
  pub left_is : IsHeldText program told.ended.problem (most_named all (length told.held.items)) told.held.items left
  pub lines : text ≡ rules_text told.counts.items ++ (sizes_text (size_at_start program) rounds (size_in told.ended.problem) ++ (left ++ end_line program told.end told.ended.verdict))

-- the report, and what happened to the column and the row that are asked for, from this problem on
pub record IsWholeText (program : ProgramData) (words : Words) (p : Sparse) (rounds : List RoundSize) (told : Account) (text : List ℕ) : Type 0 where
  pub report : List ℕ
  pub column : List ℕ
  pub row : List ℕ
  pub report_is : IsReport program words.all rounds told report
  pub column_is : IsAskedColumn program p told.ended.history.items told.ended.records.items words column
  pub row_is : IsAskedRow program p told.ended.history.items told.ended.records.items words row
  pub whole : text ≡ report ++ (column ++ row)

-- a book as it was closed, with what is held back in it and what is counted
pub record IsAccountOf (b : Ledger) (told : Account) : Type 0 where
  pub problem : told.ended.problem ≡ b.problem
  pub history : told.ended.history.items ≡ b.history
  pub verdict : told.ended.verdict ≡ b.verdict
  pub records : told.ended.records.items ≡ b.records
  pub held : AreHeld b told.held.items
  pub counts : told.counts.items ≡ counts_of b told.held.items

-- The run of the program ended so, with this book. What is told is its account, from the program's problem on, and the status is that of its
-- verdict.
pub record Tells (options : Options) (words : Words) (program : ProgramData) (status : ℕ) (text : List ℕ) : Type 0 where
  pub book : Ledger
  pub told : Account
  pub rounds : List RoundSize
  pub runs : RunsTo options program told.end book
  pub opened : IsProblemOf program book.start
  pub account : IsAccountOf book told
  pub status_is : status ≡ status_of book.verdict
  pub text_is : IsWholeText program words book.start rounds told text
