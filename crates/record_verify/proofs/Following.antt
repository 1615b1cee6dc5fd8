-- Records followed from a problem on: what is left of them says what is said of all.
use Rattle.std.proofs.Common.{◌≡◌, true, ℕ, zero, suc, ◌+◌, ◌<◌, List, [], ◌∷◌, length, drop, take, get_or, le_refl, take_all, ◌-◌, ◌≤◌, Some, None, refl, sym, ap, ◌∙◌, subst, arith}
use Rattle.std.specs.List.{slice_get}
use Rattle.std.proofs.Math.Seq.{drop-cons}
use Rattle.std.proofs.lemmas.Option.{get_or_from_slice_get, slice_get_within}
use Rattle.transactions.specs.declared.transactions.PartRead.{PartRead}
use Rattle.transactions.specs.Transactions.{Transaction}
use Rattle.undo_records.specs.declared.undo.Undo.{Undo}
use Rattle.problem_model.specs.Sparse.{Sparse}
use Rattle.presolve_model.specs.declared.instance.Instance.TheVariants as at
use Rattle.presolve_model.specs.declared.instance.Reduction.{Reduction}
use Rattle.presolve_model.specs.Changes.{changed}
use Rattle.presolve_model.specs.Enabled.{enabled_on}
use Rattle.presolve_model.specs.Tables.{record_of}
use Rattle.walk_laws.specs.declared.flaw.StepFlaw.{StepFlaw}
use Rattle.walk_laws.specs.Flaws.{FailsBy, StopsAfter}
use Rattle.walk_laws.specs.Walk.{AreSteps, HasChange, IsReadingOf, IsStep, reduction_of, walked_to}
use Rattle.record_verify.specs.Stepping.{Follows, Makes}

-- a record of what was applied is a step
pub step_made : (p q : Sparse) (u made : Undo) (reads : List PartRead) (r : Reduction) → r ≡ reduction_of u → enabled_on p (at.Reduction r) ≡ true → IsReadingOf p r reads
    → Makes p r (Some made) q → made ≡ u → Follows p u reads None q
step_made p q u made reads r is enabled reading makes same = (
  record {
    enabled = subst (λ (x : Reduction). enabled_on p (at.Reduction x) ≡ true) is enabled;
    reading = subst (λ (x : Reduction). IsReadingOf p x reads) is reading;
    change = subst (HasChange p) is makes.0;
    fields = ap (λ (x : Reduction). record_of x p) (sym is) ∙ sym makes.1 ∙ same;
  },
  makes.2 ∙ ap (λ (x : Reduction). changed x p) is,
)

-- k records were followed from the first problem to the present one, and the rest are left
pub record Leads (first : Sparse) (us : List Undo) (ts : List Transaction) (now : Sparse) (rest : List Undo) (k : ℕ) : Type 0 where
  pub steps : AreSteps now rest (drop k ts) → AreSteps first us ts
  pub end : walked_to now rest ≡ walked_to first us
  pub stops : (n : ℕ) (f : StepFlaw) → StopsAfter n f now rest (drop k ts) → StopsAfter (k + n) f first us ts
  pub long : length rest + k ≡ length ts

pub leads_first : (p : Sparse) (us : List Undo) (ts : List Transaction) → length ts ≡ length us → Leads p us ts p us 0
leads_first p us ts e = record { steps = λ h. h; end = refl; stops = λ n f h. subst (λ (m : ℕ). StopsAfter m f p us ts) (omega arith) h; long = omega (arith, e) }

-- the transaction at a place stands first among those from there on
from_place : (ts : List Transaction) (k : ℕ) (t : Transaction) → slice_get ts k ≡ Some t → drop k ts ≡ t ∷ drop (suc k) ts
from_place ts k t e = drop-cons ts k t (slice_get_within ts k t e) ∙ ap (λ (x : Transaction). x ∷ drop (suc k) ts) (get_or_from_slice_get ts k t t e)

pub leads_on : (p : Sparse) (us : List Undo) (ts : List Transaction) (now : Sparse) (u : Undo) (rest : List Undo) (k : ℕ) (t : Transaction)
    → Leads p us ts now (u ∷ rest) k → slice_get ts k ≡ Some t → IsStep now u t.reads → Leads p us ts (changed (reduction_of u) now) rest (suc k)
leads_on p us ts now u rest k t h e s = record {
  steps = λ a. h.steps (subst (AreSteps now (u ∷ rest)) (sym (from_place ts k t e)) (s, a));
  end = h.end;
  stops = λ n f a. subst (λ (m : ℕ). StopsAfter m f p us ts) (omega arith)
      (h.stops (suc n) f (subst (StopsAfter (suc n) f now (u ∷ rest)) (sym (from_place ts k t e)) (s, a)));
  long = omega (arith, h.long);
}

-- the same, by what the code holds
pub leads_next : (p : Sparse) (us : List Undo) (ts : List Transaction) (now next : Sparse) (u : Undo) (rest later : List Undo) (k j : ℕ) (t : Transaction) (reads : List PartRead)
    → Leads p us ts now rest k → rest ≡ u ∷ later → slice_get ts k ≡ Some t → reads ≡ t.reads → j ≡ suc k → Follows now u reads None next → Leads p us ts next later j
leads_next p us ts now next u rest later k j t reads h is e same count f =
    let from : Leads p us ts now (u ∷ later) k = subst (λ (l : List Undo). Leads p us ts now l k) is h in
    let on : Leads p us ts (changed (reduction_of u) now) later (suc k) = leads_on p us ts now u later k t from e (subst (λ (l : List PartRead). IsStep now u l) same f.0) in
    subst (λ (n : ℕ). Leads p us ts next later n) (sym count) (subst (λ (q : Sparse). Leads p us ts q later (suc k)) (sym f.1) on)

-- a list with something in it is its first item and the others
pub first_and_rest : (us : List Undo) (d : Undo) → 1 ≤ length us → get_or us 0 d ∷ take (length us - 1) (drop 1 us) ≡ us
first_and_rest [] d l = absurd (omega (arith, l))
first_and_rest (u ∷ us) d l = ap (λ (vs : List Undo). u ∷ vs) (let e : length (u ∷ us) - 1 ≡ length us = omega arith in ap (λ (n : ℕ). take n us) e ∙ take_all (length us) us (le_refl (length us)))

pub leads_to_end : (p : Sparse) (us : List Undo) (ts : List Transaction) (now : Sparse) (k : ℕ) → Leads p us ts now [] k → AreSteps p us ts × (now ≡ walked_to p us)
leads_to_end p us ts now k h = (h.steps tt, h.end)

pub leads_to_stop : (p : Sparse) (us : List Undo) (ts : List Transaction) (now : Sparse) (u : Undo) (rest : List Undo) (k : ℕ) (t : Transaction) (f : StepFlaw)
    → Leads p us ts now (u ∷ rest) k → slice_get ts k ≡ Some t → FailsBy f now u t.reads → StopsAfter k f p us ts
leads_to_stop p us ts now u rest k t f h e a = subst (λ (m : ℕ). StopsAfter m f p us ts) (omega arith)
    (h.stops zero f (subst (StopsAfter zero f now (u ∷ rest)) (sym (from_place ts k t e)) a))

-- while a record is left, so is its transaction
pub transaction_left : (p : Sparse) (us : List Undo) (ts : List Transaction) (now : Sparse) (u : Undo) (rest : List Undo) (k : ℕ) → Leads p us ts now (u ∷ rest) k → k < length ts
transaction_left p us ts now u rest k h = omega (arith, h.long)
