-- Ids cut into pieces.
use Rattle.std.proofs.Common.{◌≡◌, ℕ, zero, suc, List, [], ◌∷◌, ◌++◌, take, drop, refl, sym, ap, ap₂, ◌∙◌, append_assoc}
use Rattle.std.proofs.lemmas.List.{append-nil}
use Rattle.problem_model.specs.Sparse.{Sparse}
use Rattle.presolve_model.specs.declared.instance.Instance.{Instance}
use Rattle.presolve_model.specs.declared.instance.Rule.{Rule}
use Rattle.presolve_model.specs.Instances.{instances_from}
use Rattle.presolve_model.specs.Scans.{instances_at}
use Rattle.presolve_model.specs.Tallies.{Open}
use Rattle.threaded_passes.specs.Pieces.{instances_in, of_pieces, PieceData}
use Rattle.threaded_passes.proofs.InOrder.{flat_append}

pub halves : {X : Type 0} (k : ℕ) (xs : List X) → take k xs ++ drop k xs ≡ xs
halves zero xs = refl
halves (suc k) [] = refl
halves (suc k) (x ∷ xs) = ap (λ ys. x ∷ ys) (halves k xs)

-- a piece more, of the first ids that are left
pub one_cut : (opens : Open) (p : Sparse) (rule : Rule) (k : ℕ) (ids fs bs : List ℕ) (ps qs : List PieceData) → fs ≡ take k ids → bs ≡ drop k ids → qs ≡ ps ++ record { rule = rule; ids = fs } ∷ []
    → of_pieces opens p qs ++ instances_at opens p rule bs ≡ of_pieces opens p ps ++ instances_at opens p rule ids
one_cut opens p rule k ids fs bs ps qs ef eb eq =
    ap (λ (ts : List PieceData). of_pieces opens p ts ++ instances_at opens p rule bs) eq
    ∙ ap (λ (es : List Instance). es ++ instances_at opens p rule bs) (flat_append (instances_in opens p) ps (record { rule = rule; ids = fs } ∷ []) ∙ ap (λ (es : List Instance). of_pieces opens p ps ++ es) (append-nil (instances_at opens p rule fs)))
    ∙ append_assoc (of_pieces opens p ps) (instances_at opens p rule fs) (instances_at opens p rule bs)
    ∙ ap (λ (es : List Instance). of_pieces opens p ps ++ es) joined
  where
    joined : instances_at opens p rule fs ++ instances_at opens p rule bs ≡ instances_at opens p rule ids
    joined = sym (flat_append (instances_from opens p rule) fs bs) ∙ ap (instances_at opens p rule) (ap₂ (λ (xs ys : List ℕ). xs ++ ys) ef eb ∙ halves k ids)
