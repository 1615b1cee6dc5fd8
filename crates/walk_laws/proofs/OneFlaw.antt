-- Records that walk have no flaw, and others no two.
use Rattle.std.proofs.Common.{◌≡◌, ℕ, zero, suc, List, [], ◌∷◌, refl, sym, ap, ap₂, ◌∙◌, subst}
use Rattle.lp_model.specs.ProgramData.{ProgramData}
use Rattle.lp_model.specs.Turning.{signed}
use Rattle.transactions.specs.declared.transactions.PartRead.{PartRead}
use Rattle.transactions.specs.Transactions.{Transaction}
use Rattle.undo_records.specs.declared.undo.Undo.{Undo}
use Rattle.undo_records.specs.Postsolve.{Postsolve}
use Rattle.problem_model.specs.Programs.{IsProblemOf, written_program}
use Rattle.problem_model.specs.Sparse.{Sparse}
use Rattle.presolve_model.specs.Changes.{changed}
use Rattle.run_laws.proofs.OneProblem.{one_problem}
use Rattle.walk_laws.specs.declared.flaw.Flaw.{Flaw}
use Rattle.walk_laws.specs.declared.flaw.Flaw.TheVariants.{Header, Step, Program, Offset}
use Rattle.walk_laws.specs.declared.flaw.StepFlaw.{StepFlaw}
use Rattle.walk_laws.specs.declared.flaw.StepFlaw.TheVariants.{NotEnabled, Reading, Past, Fields}
use Rattle.walk_laws.specs.Flaws.{FailsBy, FailsFrom, IsFirstFlaw, StopsAfter}
use Rattle.walk_laws.specs.Walk.{AreSteps, HasHeader, IsStep, reduction_of, Walk, walked_to}

-- ---- a record
no_fail : (f : StepFlaw) (p : Sparse) (u : Undo) (reads : List PartRead) → IsStep p u reads → FailsBy f p u reads → ⊥
no_fail NotEnabled p u reads s h = h s.enabled
no_fail Reading p u reads s h = h.1 s.reading
no_fail Past p u reads s h = h.2 s.change
no_fail Fields p u reads s h = h.3 s.fields

one_fail : (f g : StepFlaw) (p : Sparse) (u : Undo) (reads : List PartRead) → FailsBy f p u reads → FailsBy g p u reads → f ≡ g
one_fail NotEnabled NotEnabled p u reads a b = refl
one_fail NotEnabled Reading p u reads a b = absurd (a b.0)
one_fail NotEnabled Past p u reads a b = absurd (a b.0)
one_fail NotEnabled Fields p u reads a b = absurd (a b.0)
one_fail Reading NotEnabled p u reads a b = absurd (b a.0)
one_fail Reading Reading p u reads a b = refl
one_fail Reading Past p u reads a b = absurd (a.1 b.1)
one_fail Reading Fields p u reads a b = absurd (a.1 b.1)
one_fail Past NotEnabled p u reads a b = absurd (b a.0)
one_fail Past Reading p u reads a b = absurd (b.1 a.1)
one_fail Past Past p u reads a b = refl
one_fail Past Fields p u reads a b = absurd (a.2 b.2)
one_fail Fields NotEnabled p u reads a b = absurd (b a.0)
one_fail Fields Reading p u reads a b = absurd (b.1 a.1)
one_fail Fields Past p u reads a b = absurd (b.2 a.2)
one_fail Fields Fields p u reads a b = refl

-- ---- records
no_stop : (n : ℕ) (f : StepFlaw) (p : Sparse) (us : List Undo) (ts : List Transaction) → AreSteps p us ts → StopsAfter n f p us ts → ⊥
no_stop n f p [] ts a h = h
no_stop n f p (u ∷ us) [] a h = h
no_stop zero f p (u ∷ us) (t ∷ ts) a h = no_fail f p u t.reads a.0 h
no_stop (suc n) f p (u ∷ us) (t ∷ ts) a h = no_stop n f (changed (reduction_of u) p) us ts a.1 h.1

one_stop : (n m : ℕ) (f g : StepFlaw) (p : Sparse) (us : List Undo) (ts : List Transaction) → StopsAfter n f p us ts → StopsAfter m g p us ts → (n ≡ m) × (f ≡ g)
one_stop n m f g p [] ts a b = absurd a
one_stop n m f g p (u ∷ us) [] a b = absurd a
one_stop zero zero f g p (u ∷ us) (t ∷ ts) a b = (refl, one_fail f g p u t.reads a b)
one_stop zero (suc m) f g p (u ∷ us) (t ∷ ts) a b = absurd (no_fail f p u t.reads b.0 a)
one_stop (suc n) zero f g p (u ∷ us) (t ∷ ts) a b = absurd (no_fail g p u t.reads a.0 b)
one_stop (suc n) (suc m) f g p (u ∷ us) (t ∷ ts) a b = let h = one_stop n m f g (changed (reduction_of u) p) us ts a.1 b.1 in (ap suc h.0, h.1)

-- ---- from a problem on
module _ (p : Sparse) (program reduced : ProgramData) (told : Postsolve) where
  abbrev Fails : Flaw → Type 0
  Fails flaw = FailsFrom p program reduced told flaw

  same_steps : (k l : ℕ) (f g : StepFlaw) → Fails (Step k f) → Fails (Step l g) → Step k f ≡ Step l g
  same_steps k l f g (n, e, a) (m, d, b) =
      let h = one_stop n m f g p told.undos told.transactions a b in
      ap₂ (λ (i : ℕ) (x : StepFlaw). Step i x) (e ∙ ap suc h.0 ∙ sym d) h.1

  not_both : (k : ℕ) (f : StepFlaw) → Fails (Step k f) → AreSteps p told.undos told.transactions → ⊥
  not_both k f (n, e, a) s = no_stop n f p told.undos told.transactions s a

  one_from : (x y : Flaw) → Fails x → Fails y → x ≡ y
  one_from Header y a b = absurd a
  one_from (Step k f) Header a b = absurd b
  one_from (Step k f) (Step l g) a b = same_steps k l f g a b
  one_from (Step k f) Program a b = absurd (not_both k f a b.0)
  one_from (Step k f) Offset a b = absurd (not_both k f a b.0)
  one_from Program Header a b = absurd b
  one_from Program (Step l g) a b = absurd (not_both l g b a.0)
  one_from Program Program a b = refl
  one_from Program Offset a b = absurd (a.1 b.1)
  one_from Offset Header a b = absurd b
  one_from Offset (Step l g) a b = absurd (not_both l g b a.0)
  one_from Offset Program a b = absurd (b.1 a.1)
  one_from Offset Offset a b = refl

-- ---- from a program on
-- a flaw behind the header
abbrev Behind : ProgramData → ProgramData → Postsolve → Flaw → Type 0
Behind program reduced told flaw = HasHeader program told × (start : Sparse) × IsProblemOf program start × FailsFrom start program reduced told flaw

one_behind : (program reduced : ProgramData) (told : Postsolve) (x y : Flaw) → Behind program reduced told x → Behind program reduced told y → x ≡ y
one_behind program reduced told x y (h, p, o, a) (k, q, r, b) =
    one_from p program reduced told x y a (subst (λ (z : Sparse). FailsFrom z program reduced told y) (one_problem program q p r o) b)

pub one_flaw : (program reduced : ProgramData) (told : Postsolve) (x y : Flaw) → IsFirstFlaw program reduced told x → IsFirstFlaw program reduced told y → x ≡ y
one_flaw program reduced told Header Header a b = refl
one_flaw program reduced told Header (Step l g) a b = absurd (a b.0)
one_flaw program reduced told Header Program a b = absurd (a b.0)
one_flaw program reduced told Header Offset a b = absurd (a b.0)
one_flaw program reduced told (Step k f) Header a b = absurd (b a.0)
one_flaw program reduced told (Step k f) (Step l g) a b = one_behind program reduced told (Step k f) (Step l g) a b
one_flaw program reduced told (Step k f) Program a b = one_behind program reduced told (Step k f) Program a b
one_flaw program reduced told (Step k f) Offset a b = one_behind program reduced told (Step k f) Offset a b
one_flaw program reduced told Program Header a b = absurd (b a.0)
one_flaw program reduced told Program (Step l g) a b = one_behind program reduced told Program (Step l g) a b
one_flaw program reduced told Program Program a b = refl
one_flaw program reduced told Program Offset a b = one_behind program reduced told Program Offset a b
one_flaw program reduced told Offset Header a b = absurd (b a.0)
one_flaw program reduced told Offset (Step l g) a b = one_behind program reduced told Offset (Step l g) a b
one_flaw program reduced told Offset Program a b = one_behind program reduced told Offset Program a b
one_flaw program reduced told Offset Offset a b = refl

-- ---- none
none_from : (p : Sparse) (program reduced : ProgramData) (told : Postsolve) (w : Walk program reduced told) → w.start ≡ p → (x : Flaw) → FailsFrom p program reduced told x → ⊥
none_from p program reduced told w e Header a = a
none_from p program reduced told w e (Step k f) a = not_both p program reduced told k f a (subst (λ (z : Sparse). AreSteps z told.undos told.transactions) e w.steps)
none_from p program reduced told w e Program a = a.1 (subst (λ (z : Sparse). reduced ≡ written_program program (walked_to z told.undos)) e w.written)
none_from p program reduced told w e Offset a = a.2 (subst (λ (z : Sparse). told.offset ≡ signed program.sense (walked_to z told.undos).offset) e w.offset)

none_behind : (program reduced : ProgramData) (told : Postsolve) (x : Flaw) → Walk program reduced told → Behind program reduced told x → ⊥
none_behind program reduced told x w (h, p, o, a) = none_from p program reduced told w (one_problem program w.start p w.opened o) x a

pub no_flaw : (program reduced : ProgramData) (told : Postsolve) (x : Flaw) → Walk program reduced told → IsFirstFlaw program reduced told x → ⊥
no_flaw program reduced told Header w a = a w.header
no_flaw program reduced told (Step k f) w a = none_behind program reduced told (Step k f) w a
no_flaw program reduced told Program w a = none_behind program reduced told Program w a
no_flaw program reduced told Offset w a = none_behind program reduced told Offset w a
