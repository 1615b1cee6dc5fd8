-- Lines without a fault, and what they lead to.
use Rattle.std.proofs.Common.{◌≡◌, ℕ, ◌+◌, Bool, true, cond, List, [], ◌∷◌, ◌++◌, Option, Some, None, sym, ap, ◌∙◌, subst}
use Rattle.text_lines.specs.Faults.{or_later}
use Rattle.undo_records.specs.Postsolve.{Postsolve}
use Rattle.lp_model.specs.Flags.{Flags}
use Rattle.record_values.specs.declared.version.TextVersion.{TextVersion}
use Rattle.record_reader.specs.Progress.{Progress, moved, moved_at}
use Rattle.record_reader.specs.Faults.{line_fault, fault_at}
use Rattle.record_reader.specs.Reading.{is_over, fault_from, progress_from}
use Rattle.record_reader.specs.declared.stages.Stage.{Stage}
use Rattle.record_reader.specs.declared.faults.RecordFaultKind.{RecordFaultKind}
use Rattle.record_reader.specs.declared.faults.RecordFaultKind.TheVariants.{Cut}

-- from one progress these lines, none of which has a fault, lead to another
abbrev pub Passes : Progress → List (List ℕ) → Progress → Type 0
Passes p [] q = q ≡ p
Passes p (l ∷ ls) q = (line_fault p l ≡ None) × Passes (moved p l) ls q

abbrev pub state : TextVersion → Stage → Postsolve → Flags → Progress
state v s g f = record { stage = s; version = v; given = g; live = f }

pub passes_line : (p q r : Progress) (l : List ℕ) (ls : List (List ℕ)) → fault_at p.stage p l ≡ None → moved_at p.stage p l ≡ q → Passes q ls r → Passes p (l ∷ ls) r
unfolding line_fault moved
passes_line p q r l ls e h k = (e, subst (λ s. Passes s ls r) (sym h) k)

pub passes_on : (p q r : Progress) (xs ys : List (List ℕ)) → Passes p xs q → Passes q ys r → Passes p (xs ++ ys) r
passes_on p q r [] ys h k = subst (λ s. Passes s ys r) h k
passes_on p q r (x ∷ xs) ys h k = (h.0, passes_on (moved p x) q r xs ys h.1 k)

pub no_fault : (p q : Progress) (n : ℕ) (ls : List (List ℕ)) → Passes p ls q → is_over q.stage ≡ true → fault_from p n ls ≡ None
no_fault p q n [] h o =
    ap (λ (s : Progress). cond (is_over s.stage) None (Some (Cut, n + 1))) (sym h) ∙ ap (λ (b : Bool). cond b None (Some (Cut, n + 1))) o
no_fault p q n (l ∷ ls) h o = ap (λ (k : Option RecordFaultKind). or_later k (n + 1) (fault_from (moved p l) (n + 1) ls)) h.0 ∙ no_fault (moved p l) q (n + 1) ls h.1 o

pub led : (p q : Progress) (ls : List (List ℕ)) → Passes p ls q → progress_from p ls ≡ q
led p q [] h = sym h
led p q (l ∷ ls) h = led (moved p l) q ls h.1
