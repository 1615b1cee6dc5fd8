-- What is told along a book to which a history is applied once more.
use Rattle.std.proofs.Common.{◌≡◌, ℕ, ◌+◌, ◌<◌, ◌≤◌, Bool, true, false, get_or, List, [], ◌∷◌, ◌++◌, length, None, refl, sym, ap, ◌∙◌, subst, append_assoc, append-nil, arith}
use Rattle.std.proofs.lemmas.List.{length_push}
use Rattle.fractions.specs.declared.Numbers.{Numbers}
use Rattle.lp_model.specs.ProgramData.{ProgramData}
use Rattle.undo_records.specs.declared.undo.Undo.{Undo}
use Rattle.problem_model.specs.Programs.{IsProblemOf}
use Rattle.problem_model.specs.Sparse.{Sparse}
use Rattle.presolve_model.specs.declared.conclusion.Options.{Options}
use Rattle.presolve_model.specs.declared.instance.Reduction.{Reduction}
use Rattle.presolve_model.specs.Changes.{changed}
use Rattle.presolve_model.specs.Ledger.{Ledger}
use Rattle.presolve_model.specs.Ordered.{new_book}
use Rattle.presolve_model.specs.Replay.{CanApply, Replays}
use Rattle.run_laws.proofs.OneProblem.{one_problem}
use Rattle.run_report.specs.declared.named.Subject.{Subject}
use Rattle.run_report.specs.declared.story.View.{View}
use Rattle.run_report.specs.Story.{Steps, story_text, told_of}
use Rattle.run_report.specs.Views.{view_of}

-- The book holds what was applied so far, and those that are left can be applied to it if all can to the first problem; what is told so far
-- and what is to be told of them is the whole.
pub record IsAlong (program : ProgramData) (all : List Reduction) (records : List Undo) (s : Subject) (first : Ledger) (start : List ℕ) (left : List Reduction) (rest : List Undo) (b : Ledger) (text : List ℕ) : Type 0 where
  pub undecided : b.verdict ≡ None
  pub numbers : b.numbers ≡ first.numbers
  pub limit : b.limit ≡ first.limit
  pub count : length b.history + length left ≡ length all
  pub replays : Replays first.numbers first.problem all → Replays first.numbers b.problem left
  pub told : text ++ story_text program b.problem left rest s ≡ start ++ story_text program first.problem all records s

-- a book that was opened anew
pub along_first : (options : Options) (program : ProgramData) (all : List Reduction) (records : List Undo) (s : Subject) (first : Ledger) (start : List ℕ) → first ≡ new_book options first.start → IsAlong program all records s first start all records first start
along_first options program all records s first start new =
    let none : length first.history ≡ 0 = ap (λ (b : Ledger). length b.history) new in
    record {
      undecided = ap (λ (b : Ledger). b.verdict) new;
      numbers = refl;
      limit = refl;
      count = omega (arith, none);
      replays = λ h. h;
      told = refl;
    }

module _ (program : ProgramData) (all : List Reduction) (records : List Undo) (s : Subject) (first : Ledger) (start : List ℕ) where
  -- a reduction that was applied, and told
  pub along_next : (r : Reduction) (rs : List Reduction) (u : Undo) (us : List Undo) (b c : Ledger) (old new : List ℕ) (before : View) (p : Sparse) → Steps b r true c → before ≡ view_of b.problem s → p ≡ c.problem → new ≡ old ++ told_of program before p r u s
      → IsAlong program all records s first start (r ∷ rs) (u ∷ us) b old → IsAlong program all records s first start rs us c new
  along_next r rs u us b c old new before p steps was is adds along =
      let left : c.problem ≡ changed r b.problem = ap (λ (d : Ledger). d.problem) steps in
      let there : p ≡ changed r b.problem = is ∙ left in
      let line : told_of program before p r u s ≡ told_of program (view_of b.problem s) (changed r b.problem) r u s = λ t. told_of program (was t) (there t) r u s in
      let now : new ≡ old ++ told_of program (view_of b.problem s) (changed r b.problem) r u s = adds ∙ ap (λ l. old ++ l) line in
      let long : length c.history ≡ length b.history + 1 = ap (λ (d : Ledger). length d.history) steps ∙ length_push b.history r in
      let count = along.count in
      record {
        undecided = ap (λ (d : Ledger). d.verdict) steps ∙ along.undecided;
        numbers = ap (λ (d : Ledger). d.numbers) steps ∙ along.numbers;
        limit = ap (λ (d : Ledger). d.limit) steps ∙ along.limit;
        count = omega (arith, long, count);
        replays = λ h. subst (λ (q : Sparse). Replays first.numbers q rs) (sym left) (along.replays h).1;
        told = (λ t. now t ++ story_text program (left t) rs us s) ∙ append_assoc old (told_of program (view_of b.problem s) (changed r b.problem) r u s) (story_text program (changed r b.problem) rs us s) ∙ along.told;
      }

  module _ (options : Options) (p : Sparse) (is : IsProblemOf program first.start) (opened : first ≡ new_book options first.start) (other : IsProblemOf program p) where
    -- a program's problem is the one that its book was opened with
    opened_with : first.problem ≡ p
    opened_with = ap (λ (d : Ledger). d.problem) opened ∙ one_problem program first.start p is other

    told_all : (text : List ℕ) → text ++ [] ≡ start ++ story_text program first.problem all records s → text ≡ start ++ story_text program p all records s
    told_all text told = sym (append-nil text) ∙ told ∙ ap (λ (q : Sparse). start ++ story_text program q all records s) opened_with

    -- no reduction is left
    pub along_none : (left : List Reduction) (rest : List Undo) (b : Ledger) (text : List ℕ) → length left < 1 → IsAlong program all records s first start left rest b text → text ≡ start ++ story_text program p all records s
    along_none [] rest b text none along = told_all text along.told
    along_none (r ∷ rs) rest b text none along = absurd (omega (arith, none))

    -- no record is left
    pub along_untold : (left : List Reduction) (rest : List Undo) (b : Ledger) (text : List ℕ) → length rest < 1 → IsAlong program all records s first start left rest b text → text ≡ start ++ story_text program p all records s
    along_untold [] rest b text none along = told_all text along.told
    along_untold (r ∷ rs) [] b text none along = told_all text along.told
    along_untold (r ∷ rs) (u ∷ us) b text none along = absurd (omega (arith, none))

    -- a history that replays on the problem within the limit is applied to its end
    pub along_goes_on : (r : Reduction) (rs : List Reduction) (rest : List Undo) (b c : Ledger) (text : List ℕ) → Steps b r false c → Replays options.numbers p all → length all ≤ options.limit → IsAlong program all records s first start (r ∷ rs) rest b text → ⊥
    along_goes_on r rs rest b c text steps replays within along =
        let n : first.numbers ≡ options.numbers = ap (λ (d : Ledger). d.numbers) opened in
        let l : first.limit ≡ options.limit = ap (λ (d : Ledger). d.limit) opened in
        let from : Replays first.numbers first.problem all = subst (λ (q : Sparse). Replays first.numbers q all) (sym opened_with) (subst (λ (m : Numbers). Replays m p all) (sym n) replays) in
        let can : CanApply b.numbers b.problem r = subst (λ (m : Numbers). CanApply m b.problem r) (sym along.numbers) (along.replays from).0 in
        let count = along.count in
        let limit = along.limit in
        steps.1 along.undecided (omega (arith, within, count, limit, l)) can

    pub along_stops : (left : List Reduction) (d : Reduction) (rest : List Undo) (b c : Ledger) (text : List ℕ) (applied : Bool) → 1 ≤ length left → applied ≡ false → Steps b (get_or left 0 d) applied c → Replays options.numbers p all → length all ≤ options.limit
        → IsAlong program all records s first start left rest b text → ⊥
    along_stops [] d rest b c text applied some off steps replays within along = absurd (omega (arith, some))
    along_stops (r ∷ rs) d rest b c text true some off steps replays within along = absurd (let f = off in cc)
    along_stops (r ∷ rs) d rest b c text false some off steps replays within along = along_goes_on r rs rest b c text steps replays within along
