-- Names that are the same, name by name.
use Rattle.std.proofs.Common.{◌≡◌, ◌↔◌, ℕ, List, [], ◌∷◌, Bool, true, false, IsTrue, refl, ap₂, subst}
use Rattle.std.specs.Prelude.{◌&&◌}
use Rattle.std.specs.Str.{bytes_eq}
use Rattle.std.proofs.lemmas.Slice.Eq.{bytes_eq-Decides}
use Rattle.number_texts.proofs.Cutting.{both_true}
use Rattle.lp_model.specs.ProgramData.{ProgramData}
use Rattle.lp_model.specs.Names.{names_of_rows, names_of_columns}
use Rattle.undo_records.specs.Postsolve.{Postsolve}
use Rattle.undo_records.specs.Named.{live_names}
use Rattle.record_reader.specs.Matching.{same_names, Matches}

same_in : (vs ws : List (List ℕ)) → same_names vs ws ≡ true → vs ≡ ws
same_in [] [] h = refl
same_in [] (w ∷ ws) h = cc
same_in (v ∷ vs) [] h = cc
same_in (v ∷ vs) (w ∷ ws) h =
    let q = both_true (bytes_eq v w) (same_names vs ws) h in
    ap₂ (λ x xs. x ∷ xs) ((bytes_eq-Decides v w).0 q.0) (same_in vs ws q.1)

same_here : (ws : List (List ℕ)) → same_names ws ws ≡ true
same_here [] = refl
same_here (w ∷ ws) = rw ((bytes_eq-Decides w w).1 refl) (same_here ws)

same_out : (vs ws : List (List ℕ)) → vs ≡ ws → same_names vs ws ≡ true
same_out vs ws e = subst (λ us. same_names vs us ≡ true) e (same_here vs)

and-is : (a b : Bool) → a ≡ true → b ≡ true → (a && b) ≡ true
and-is true b e h = h
and-is false b e h = e

pub matches_is : (p : Postsolve) (q : ProgramData) → IsTrue (same_names (live_names p.columns) (names_of_columns q.columns) && same_names (live_names p.rows) (names_of_rows q.rows)) ↔ Matches p q
matches_is p q = (
  λ h. let l = both_true (same_names (live_names p.columns) (names_of_columns q.columns)) (same_names (live_names p.rows) (names_of_rows q.rows)) h in
      record { columns = same_in _ _ l.0; rows = same_in _ _ l.1 },
  λ h. and-is _ _ (same_out _ _ h.columns) (same_out _ _ h.rows),
)
