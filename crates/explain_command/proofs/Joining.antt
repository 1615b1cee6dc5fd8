-- Texts that are made part by part.
use Rattle.std.proofs.Common.{◌≡◌, ◌≢◌, ℕ, zero, suc, ◌-◌, ◌<◌, ◌≤◌, List, [], ◌∷◌, ◌++◌, length, Option, Some, refl, sym, ap, ◌∙◌, subst, append_assoc, append-nil, arith}
use Rattle.lp_model.specs.ProgramData.{ProgramData}
use Rattle.undo_records.specs.declared.undo.Undo.{Undo}
use Rattle.problem_model.specs.Programs.{IsProblemOf}
use Rattle.problem_model.specs.Sparse.{Sparse}
use Rattle.presolve_model.specs.declared.conclusion.End.{End}
use Rattle.presolve_model.specs.declared.conclusion.Options.{Options}
use Rattle.presolve_model.specs.declared.instance.Reduction.{Reduction}
use Rattle.presolve_model.specs.Ledger.{Ledger}
use Rattle.presolve_model.specs.Ordered.{RunsTo}
use Rattle.run_report.specs.declared.counts.Account.{Account}
use Rattle.run_report.specs.declared.look.Held.{Held}
use Rattle.run_report.specs.declared.named.Subject.{Subject}
use Rattle.run_report.specs.declared.sizes.RoundSize.{RoundSize}
use Rattle.run_report.specs.Counts.{counts_of}
use Rattle.run_report.specs.Holding.{AreHeld}
use Rattle.run_report.specs.Reasons.{Adds, IsHeldLine}
use Rattle.run_report.specs.Story.{IsReplayed, story_text}
use Rattle.explain_command.specs.declared.words.Words.{Words}
use Rattle.explain_command.specs.Telling.{heading, IsAskedColumn, IsAskedRow, IsHeldText, IsReport, IsWholeText, more_line, named_story, or_none, status_of, Tells}

-- ---- what is refused or left
module _ (program : ProgramData) (p : Sparse) where
  -- there is no room for a line
  pub held_full : (room : ℕ) (rest : List Held) (old new : List ℕ) → 1 ≤ length rest → room ≡ 0 → new ≡ old ++ more_line (length rest) → Adds (IsHeldText program p room rest) old new
  held_full room rest old new some full adds = record { line = more_line (length rest); is = subst (λ (n : ℕ). IsHeldText program p n rest (more_line (length rest))) (sym full) (at_zero rest some); added = adds }
    where
      at_zero : (hs : List Held) → 1 ≤ length hs → IsHeldText program p 0 hs (more_line (length hs))
      at_zero [] some = absurd (omega (arith, some))
      at_zero (h ∷ hs) some = refl

  -- there is nothing left
  pub held_none : (room : ℕ) (rest : List Held) (old : List ℕ) → length rest < 1 → Adds (IsHeldText program p room rest) old old
  held_none room [] old none = record { line = []; is = refl; added = sym (append-nil old) }
  held_none room (h ∷ hs) old none = absurd (omega (arith, none))

  -- a line, and then the others
  pub held_next : (room : ℕ) (h : Held) (rest after : List Held) (old mid new : List ℕ) → h ∷ after ≡ rest → room ≢ 0 → Adds (IsHeldLine program p h) old mid → Adds (IsHeldText program p (room - 1) after) mid new → Adds (IsHeldText program p room rest) old new
  held_next zero h rest after old mid new split some line more = absurd (some refl)
  held_next (suc n) h rest after old mid new split some line more =
      let less : suc n - 1 ≡ n = omega arith in
      record {
        line = line.line ++ more.line;
        is = subst (λ (hs : List Held). IsHeldText program p (suc n) hs (line.line ++ more.line)) split (line.line, more.line, line.is, subst (λ (k : ℕ). IsHeldText program p k after more.line) less more.is, refl);
        added = more.added ∙ ap (λ (xs : List ℕ). xs ++ more.line) line.added ∙ append_assoc old line.line more.line;
      }

-- ---- a row or a column
pub story_found : (options : Options) (program : ProgramData) (rs : List Reduction) (us : List Undo) (what name : List ℕ) (found : Option Subject) (s : Subject) (old mid new : List ℕ) → found ≡ Some s → mid ≡ old ++ heading what name
    → ((start : Sparse) → IsReplayed options program rs start → new ≡ mid ++ or_none (story_text program start rs us s))
    → (start : Sparse) → IsReplayed options program rs start → new ≡ old ++ named_story program start rs us what name found
story_found options program rs us what name found s old mid new is heads adds start replayed =
    adds start replayed
    ∙ ap (λ (xs : List ℕ). xs ++ or_none (story_text program start rs us s)) heads
    ∙ append_assoc old (heading what name) (or_none (story_text program start rs us s))
    ∙ ap (λ (it : Option Subject). old ++ named_story program start rs us what name it) (sym is)

-- ---- the whole
pub whole_text : (program : ProgramData) (words : Words) (p : Sparse) (rounds : List RoundSize) (told : Account) (first second third : List ℕ)
    → IsReport program words.all rounds told first
    → Adds (IsAskedColumn program p told.ended.history.items told.ended.records.items words) first second
    → Adds (IsAskedRow program p told.ended.history.items told.ended.records.items words) second third
    → IsWholeText program words p rounds told third
whole_text program words p rounds told first second third is column row = record {
  report = first;
  column = column.line;
  row = row.line;
  report_is = is;
  column_is = column.is;
  row_is = row.is;
  whole = row.added ∙ ap (λ (xs : List ℕ). xs ++ row.line) column.added ∙ append_assoc first column.line row.line;
}

pub run_told : (options : Options) (words : Words) (program : ProgramData) (b : Ledger) (o : Option End) (held : List Held) (told : Account) (rounds : List RoundSize) (status : ℕ) (text : List ℕ)
    → RunsTo options program o b → IsProblemOf program b.start → IsReplayed options program b.history b.start → AreHeld b held
    → told.end ≡ o → told.ended.problem ≡ b.problem → told.ended.history.items ≡ b.history → told.ended.verdict ≡ b.verdict → told.ended.records.items ≡ b.records → told.held.items ≡ held → told.counts.items ≡ counts_of b held
    → status ≡ status_of told.ended.verdict
    → ((start : Sparse) → IsReplayed options program told.ended.history.items start → IsWholeText program words start rounds told text)
    → Tells options words program status text
run_told options words program b o held told rounds status text runs opened replayed are end problem history verdict records kept counts ended whole = record {
  book = b;
  told = told;
  rounds = rounds;
  runs = subst (λ (x : Option End). RunsTo options program x b) (sym end) runs;
  opened = opened;
  account = record {
    problem = problem;
    history = history;
    verdict = verdict;
    records = records;
    held = subst (AreHeld b) (sym kept) are;
    counts = counts ∙ ap (counts_of b) (sym kept);
  };
  status_is = ended ∙ ap status_of verdict;
  text_is = whole b.start (subst (λ (rs : List Reduction). IsReplayed options program rs b.start) (sym history) replayed);
}
