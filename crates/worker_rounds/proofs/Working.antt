-- What workers find.
use Rattle.std.proofs.Common.{◌≡◌, ◌⊎◌, inl, inr, ℕ, ◌<◌, List, [], ◌∷◌, ◌++◌, length, get_or, take, refl, sym, ap, ◌∙◌, subst, append_assoc}
use Rattle.std.specs.Prelude.{Ok}
use Rattle.std.specs.List.{Contains}
use Rattle.std.proofs.lemmas.List.{get_or_default}
use Rattle.std.proofs.lemmas.List.Elements.{Contains-append_cases, Contains-append_right}
use Rattle.shared_book.specs.declared.call.Call.TheVariants.{Freeze}
use Rattle.shared_book.specs.History.{HasFrozen, Known, StartsWith}
use Rattle.presolve_model.specs.declared.instance.Instance.{Instance}
use Rattle.presolve_model.specs.Ledger.{Ledger}
use Rattle.presolve_model.specs.Worlds.{Version}
use Rattle.place_laws.proofs.ShortLists.{first_or_behind, none_in}
use Rattle.book_turns.specs.Turns.{Turn}
use Rattle.worker_tasks.specs.Tasks.{found_of, TaskData}
use Rattle.worker_tasks.specs.Work.{instances_in, WorkData}
use Rattle.worker_rounds.specs.Workers.{HasFound}

-- a version that was frozen stays so
pub frozen_on : (p q : Known Ledger Turn) (v : Version) → StartsWith q.seen p.seen → HasFrozen p v → HasFrozen q v
frozen_on p q v (rest, e) (before, after, seen) = (before, after ++ rest, e ∙ ap (λ (cs : List Turn). cs ++ rest) seen ∙ append_assoc before (Freeze (Ok v) ∷ after) rest)

-- a pass that is cut from one has frozen what that has
pub frozen_too : (p q : Known Ledger Turn) (v : Version) → q.seen ≡ p.seen → HasFrozen p v → HasFrozen q v
frozen_too p q v e (before, after, seen) = (before, after, e ∙ seen)

-- what was written through a slice of a whole list
pub written : {X : Type 0} (xs zs : List X) (n : ℕ) → n ≡ length xs → take n (xs ++ zs) ≡ xs
written {X} xs zs n e = ap (λ (k : ℕ). take k (xs ++ zs)) e ∙ front xs
  where
    front : (ys : List X) → take (length ys) (ys ++ zs) ≡ ys
    front [] = refl
    front (y ∷ ys) = ap (λ (l : List X). y ∷ l) (front ys)

-- ---- of tasks that are done all was found
pub found_none : (v : Version) (ts : List TaskData) (w : WorkData) → w ≡ record { done = []; found = [] } → HasFound v ts w
found_none v ts w e i t c at x d = absurd (none_in i (subst (λ (u : WorkData). Contains u.done i) e c))

pub found_still : (v : Version) (ts : List TaskData) (w u : WorkData) → u.done ≡ w.done → ((e : Instance) → Contains w.found e → Contains u.found e) → HasFound v ts w → HasFound v ts u
found_still v ts w u same kept h i t c at x d = kept x (h i t (subst (λ (ns : List ℕ). Contains ns i) same c) at x d)

pub found_more : (v : Version) (ts : List TaskData) (w u x : WorkData) (number : ℕ) (t d : TaskData) → number < length ts → t ≡ get_or ts number d → HasFound v ts w → u.done ≡ w.done → ((e : Instance) → Contains w.found e → Contains u.found e)
    → u.found ≡ w.found ++ instances_in (found_of v t) → x.done ≡ u.done ++ number ∷ [] → x.found ≡ u.found → HasFound v ts x
found_more v ts w u x number t d inside is h same kept found done still i s c at e among = subst (λ (es : List Instance). Contains es e) (sym still) (by (Contains-append_cases u.done (number ∷ []) i (subst (λ (ns : List ℕ). Contains ns i) done c)))
  where
    here : number ≡ i → Contains u.found e
    here n =
        let task : t ≡ s = is ∙ get_or_default ts number d s inside ∙ ap (λ (k : ℕ). get_or ts k s) n ∙ at.is in
        subst (λ (es : List Instance). Contains es e) (sym found) (Contains-append_right w.found (instances_in (found_of v t)) e (subst (λ (r : TaskData). Contains (instances_in (found_of v r)) e) (sym task) among))

    last : Contains (number ∷ []) i → Contains u.found e
    last k = only (first_or_behind number [] i k)
      where
        only : (number ≡ i) ⊎ Contains [] i → Contains u.found e
        only (inl n) = here n
        only (inr n) = absurd (none_in i n)

    by : Contains u.done i ⊎ Contains (number ∷ []) i → Contains u.found e
    by (inl k) = kept e (h i s (subst (λ (ns : List ℕ). Contains ns i) same k) at e among)
    by (inr k) = last k
