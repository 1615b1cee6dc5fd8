-- Reductions that are applied once more, and ends that are compared.
use Rattle.std.proofs.Common.{◌≡◌, ◌≢◌, ◌↔◌, ℕ, Bool, true, false, Option, sym, refl, ◌∙◌, IsTrue, arith}
use Rattle.std.proofs.lemmas.Option.{none-some}
use Rattle.fractions.specs.Number.{Number}
use Rattle.fractions.specs.Ends.{same_end}
use Rattle.fractions.proofs.EndLaws.{same_end-is}
use Rattle.presolve_model.specs.declared.instance.Instance.TheVariants as at
use Rattle.presolve_model.specs.declared.instance.Reduction.{Reduction}
use Rattle.presolve_model.specs.declared.outcome.Outcome.{Outcome}
use Rattle.presolve_model.specs.declared.outcome.Outcome.TheVariants.{Closed, Full, Stale, Past, NotDecimal, Applied, NoMemory}
use Rattle.presolve_model.specs.Commits.{Allows, left_by}
use Rattle.presolve_model.specs.Enabled.{reading_of}
use Rattle.presolve_model.specs.Ledger.{Ledger}
use Rattle.presolve_model.specs.Scans.{proposal_of}
use Rattle.presolve_model.proofs.Readings.{reading_agrees}
use Rattle.round_laws.proofs.Committing.{differs}
use Rattle.run_report.specs.Story.{Steps}

same_bools : (a b : Bool) → (IsTrue a → IsTrue b) → (IsTrue b → IsTrue a) → a ≡ b
same_bools true b f g = sym (f refl)
same_bools false true f g = g refl
same_bools false false f g = refl

pub same_end_told : (a b : Option Number) (r : Bool) → IsTrue r ↔ (a ≡ b) → r ≡ same_end a b
same_end_told a b r h = same_bools r (same_end a b) (λ t. (same_end-is a b).1 (h.0 t)) (λ t. h.1 ((same_end-is a b).0 t))

-- an answer other than that it was applied leaves the book, to which it can't be
pub not_stepped : (b c : Ledger) (w : ℕ) (r : Reduction) (o : Outcome) → o ≢ NoMemory → ((k : ℕ) → o ≢ Applied k) → Allows b (proposal_of b.problem w (at.Reduction r)) o → c ≡ left_by b 0 (proposal_of b.problem w (at.Reduction r)) o → Steps b r false c
not_stepped b c w r (Closed v) n m a l = (l, λ none room can. absurd (none-some v (sym none ∙ a)))
not_stepped b c w r Full n m a l = (l, λ none room can. let f = a.1 in absurd (omega (arith, room, f)))
not_stepped b c w r (Stale k) n m a l = (l, λ none room can. absurd (differs b.problem (reading_of b.problem (at.Reduction r)) k a.2 (reading_agrees b.problem (at.Reduction r))))
not_stepped b c w r Past n m a l = (l, λ none room can. a.1 can.fits)
not_stepped b c w r NotDecimal n m a l = (l, λ none room can. a.2 can.written)
not_stepped b c w r (Applied k) n m a l = absurd (m k refl)
not_stepped b c w r NoMemory n m a l = absurd (n refl)
