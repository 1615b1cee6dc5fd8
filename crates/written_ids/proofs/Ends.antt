-- The columns that terms name, and the two ends of each, at new ids.
use Rattle.std.proofs.Common.{◌≡◌, ℕ, true, List, [], ◌∷◌, get_or, map, refl, ap, ◌∙◌}
use Rattle.std.specs.List.{All}
use Rattle.std.proofs.lemmas.List.Elements.{All-map}
use Rattle.lp_model.specs.declared.terms.Term.{Term}
use Rattle.undo_records.specs.declared.side.Side.{Side}
use Rattle.undo_records.specs.declared.side.Side.TheVariants.{Lower, Upper}
use Rattle.problem_model.specs.Problems.{column_at, row_entries}
use Rattle.problem_model.specs.Sparse.{Sparse}
use Rattle.problem_laws.proofs.Entries.{row_entries-live}
use Rattle.activity_laws.specs.BoundTightening.{bounds_of}
use Rattle.written_ids.specs.NewIds.{term_at, terms_at}
use Rattle.written_ids.proofs.Lists.{all_flat, all_two, flat_across, map_across}

-- ---- columns
abbrev pub ids_in : List Term → List ℕ
ids_in ts = map (λ t. t.id) ts

pub ids_in_at : (f : ℕ → ℕ) (ts : List Term) → ids_in (terms_at f ts) ≡ map f (ids_in ts)
ids_in_at f ts = map_across (term_at f) (λ t. t.id) f (λ t. t.id) (λ t. refl) ts

-- items for each column: those of the new ids are the old ones at new ids
pub at_ids : {X Y : Type 0} (f : ℕ → ℕ) (old : ℕ → X) (g : X → Y) (new : ℕ → Y) → ((j : ℕ) → new (f j) ≡ g (old j))
    → (ts : List Term) → map new (ids_in (terms_at f ts)) ≡ map g (map old (ids_in ts))
at_ids f old g new e ts = ap (map new) (ids_in_at f ts) ∙ map_across f old g new e (ids_in ts)

pub all_ids : (P : ℕ → Type 0) (ts : List Term) → All (λ t. P t.id) ts → All P (ids_in ts)
all_ids P ts h = All-map P (λ t. t.id) ts h

pub all_ids_live : (p : Sparse) (i : ℕ) → All (λ j. (column_at p j).live ≡ true) (ids_in (row_entries p i))
all_ids_live p i = all_ids (λ j. (column_at p j).live ≡ true) (row_entries p i) (row_entries-live p i)

-- ---- their ends
abbrev pub side_at : (ℕ → ℕ) → ℕ × Side → ℕ × Side
side_at f x = (f x.0, x.1)

pub bounds_of_at : (f : ℕ → ℕ) (ts : List Term) → bounds_of (terms_at f ts) ≡ map (side_at f) (bounds_of ts)
bounds_of_at f ts = flat_across (term_at f) (λ t. (t.id, Lower) ∷ (t.id, Upper) ∷ []) (side_at f) (λ t. (t.id, Lower) ∷ (t.id, Upper) ∷ []) (λ t. refl) ts

pub at_bounds : {X Y : Type 0} (f : ℕ → ℕ) (old : ℕ × Side → X) (g : X → Y) (new : ℕ × Side → Y) → ((x : ℕ × Side) → new (side_at f x) ≡ g (old x))
    → (ts : List Term) → map new (bounds_of (terms_at f ts)) ≡ map g (map old (bounds_of ts))
at_bounds f old g new e ts = ap (map new) (bounds_of_at f ts) ∙ map_across (side_at f) old g new e (bounds_of ts)

-- what holds of each column that is named holds of the column of each end
pub all_bounds : (P : ℕ → Type 0) (ts : List Term) → All (λ t. P t.id) ts → All (λ (x : ℕ × Side). P x.0) (bounds_of ts)
all_bounds P ts h = all_flat (λ (x : ℕ × Side). P x.0) (λ t. (t.id, Lower) ∷ (t.id, Upper) ∷ []) ts
    (λ a d l. let t = get_or ts a d in all_two (λ (x : ℕ × Side). P x.0) (t.id, Lower) (t.id, Upper) (h a d l) (h a d l))

pub all_bounds_live : (p : Sparse) (i : ℕ) → All (λ (x : ℕ × Side). (column_at p x.0).live ≡ true) (bounds_of (row_entries p i))
all_bounds_live p i = all_bounds (λ j. (column_at p j).live ≡ true) (row_entries p i) (row_entries-live p i)
