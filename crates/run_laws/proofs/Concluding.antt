-- What is concluded of a program is one.
use Rattle.std.proofs.Common.{◌≡◌, Bool, ℕ, List, [], ◌∷◌, true, Option, Some, None, sym, refl, ap, ap₂, ◌∙◌, subst}
use Rattle.lp_model.specs.ProgramData.{ProgramData}
use Rattle.undo_records.specs.declared.label.Label.{Label}
use Rattle.undo_records.specs.Postsolve.{Postsolve}
use Rattle.undo_records.specs.Walk.{lives}
use Rattle.problem_model.specs.Programs.{written_program}
use Rattle.problem_model.specs.Sparse.{Sparse}
use Rattle.presolve_model.specs.declared.conclusion.End.{End}
use Rattle.presolve_model.specs.declared.conclusion.Options.{Options}
use Rattle.presolve_model.specs.declared.instance.Reduction.{Reduction}
use Rattle.presolve_model.specs.declared.instance.Verdict.{Verdict}
use Rattle.presolve_model.specs.Conclusions.{Concluded, Decided, IsDecidedInOrder}
use Rattle.presolve_model.specs.Ledger.{Ledger}
use Rattle.presolve_model.specs.Ordered.{IsMadeInOrder, new_book, Ordered, RunsTo}
use Rattle.presolve_model.specs.Telling.{IsToldOf, names_in}
use Rattle.presolve_model.specs.Workers.{IsInOrder, Workers}
use Rattle.run_laws.proofs.OneProblem.{one_problem}
use Rattle.run_laws.proofs.Runs.{ordered_same}

-- ---- one run
pub runs_same : (options : Options) (program : ProgramData) (e f : Option End) (b c : Ledger) → RunsTo options program e b → RunsTo options program f c → (e ≡ f) × (b ≡ c)
runs_same options program e f b c x y =
    let start : y.start ≡ x.start = one_problem program y.start x.start y.opened x.opened in
    ordered_same (new_book options x.start) b c e f x.run (subst (λ (p : Sparse). Ordered (new_book options p) f c) start y.run)

-- ---- what is told of one book is one
labels_same : (xs ys : List Label) → names_in xs ≡ names_in ys → lives xs ≡ lives ys → xs ≡ ys
labels_same [] [] e f = refl
labels_same [] (y ∷ ys) e f = absurd (let g = e in cc)
labels_same (x ∷ xs) [] e f = absurd (let g = e in cc)
labels_same (x ∷ xs) (y ∷ ys) e f = ap₂ ◌∷◌ (label_same x y (ap (first_of []) e) (ap (first_of true) f)) (labels_same xs ys (ap rest_of e) (ap rest_of f))
  where
    first_of : {X : Type 0} → X → List X → X
    first_of d [] = d
    first_of d (z ∷ zs) = z

    rest_of : {X : Type 0} → List X → List X
    rest_of [] = []
    rest_of (z ∷ zs) = zs

    label_same : (x y : Label) → x.name ≡ y.name → x.live ≡ y.live → x ≡ y
    label_same x y e f = ap₂ (λ (n : List ℕ) (b : Bool). let l : Label = record { name = n; live = b } in l) e f

told_same : (dual : Bool) (program : ProgramData) (b : Ledger) (t u : Postsolve) → IsToldOf dual program b t → IsToldOf dual program b u → t ≡ u
told_same dual program b t u x y =
    let e1 = x.sense ∙ sym y.sense in
    let e2 = labels_same t.columns u.columns (x.column_names ∙ sym y.column_names) (x.columns ∙ sym y.columns) in
    let e3 = labels_same t.rows u.rows (x.row_names ∙ sym y.row_names) (x.rows ∙ sym y.rows) in
    let e4 = x.offset ∙ sym y.offset in
    let e5 = x.undos ∙ sym y.undos in
    let e6 = x.duals ∙ sym y.duals in
    let e7 = x.transactions ∙ sym y.transactions in
    λ i. record { sense = e1 i; duals = e6 i; columns = e2 i; rows = e3 i; offset = e4 i; undos = e5 i; transactions = e7 i }

some_same : (e f : End) → Some e ≡ Some f → e ≡ f
some_same e f h = cc

-- ---- one conclusion
pub concluded_same : (options : Options) (v w : Workers) (program r s : ProgramData) (t u : Postsolve) (e f : End) → IsInOrder v → IsInOrder w
    → Concluded options v program r t e → Concluded options w program s u f → (r ≡ s) × (t ≡ u) × (e ≡ f)
concluded_same options v w program r s t u e f first second x y =
    let a : IsMadeInOrder options program r t e = x.ordered first in
    let b : IsMadeInOrder options program s u f = y.ordered second in
    let k = runs_same options program (Some e) (Some f) a.book b.book a.runs b.runs in (
      a.written ∙ ap (λ (c : Ledger). written_program program c.problem) k.1 ∙ sym b.written,
      told_same options.dual program a.book t u a.tells (subst (λ (c : Ledger). IsToldOf options.dual program c u) (sym k.1) b.tells),
      some_same e f k.0,
    )

pub decided_same : (options : Options) (v w : Workers) (program : ProgramData) (h k : List Reduction) (d e : Verdict) → IsInOrder v → IsInOrder w
    → Decided options v program h d → Decided options w program k e → (h ≡ k) × (d ≡ e)
decided_same options v w program h k d e first second x y =
    let a : IsDecidedInOrder options program h d = x.ordered first in
    let b : IsDecidedInOrder options program k e = y.ordered second in
    let same = (runs_same options program None None a.book b.book a.runs b.runs).1 in (
      sym a.applied ∙ ap (λ (c : Ledger). c.history) same ∙ b.applied,
      let some : Some d ≡ Some e = sym a.closed ∙ ap (λ (c : Ledger). c.verdict) same ∙ b.closed in cc,
    )

-- a program is reduced or decided, and not both
pub not_both : (options : Options) (v w : Workers) (program r : ProgramData) (t : Postsolve) (e : End) (h : List Reduction) (d : Verdict) → IsInOrder v → IsInOrder w
    → Concluded options v program r t e → Decided options w program h d → ⊥
not_both options v w program r t e h d first second x y =
    let a : IsMadeInOrder options program r t e = x.ordered first in
    let b : IsDecidedInOrder options program h d = y.ordered second in
    let k = (runs_same options program (Some e) None a.book b.book a.runs b.runs).0 in cc
