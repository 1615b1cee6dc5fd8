-- The pairs of columns that terms name, at new ids.
use Rattle.std.proofs.Common.{◌≡◌, ℕ, List, get_or, map, refl, ap, ◌∙◌}
use Rattle.std.specs.List.{All}
use Rattle.std.proofs.lemmas.List.Elements.{All-map}
use Rattle.lp_model.specs.declared.terms.Term.{Term}
use Rattle.dual_laws.specs.DominatedColumn.{pairs_of}
use Rattle.written_ids.specs.NewIds.{term_at, terms_at}
use Rattle.written_ids.proofs.Lists.{all_flat, flat_across, map_across}

abbrev pub pair_at : (ℕ → ℕ) → ℕ × ℕ → ℕ × ℕ
pair_at f x = (f x.0, f x.1)

pub pairs_of_at : (f : ℕ → ℕ) (ts : List Term) → pairs_of (terms_at f ts) ≡ map (pair_at f) (pairs_of ts)
pairs_of_at f ts = flat_across (term_at f) (λ t. map (λ u. (t.id, u.id)) ts) (pair_at f) (λ t. map (λ u. (t.id, u.id)) (terms_at f ts))
    (λ t. map_across (term_at f) (λ u. (t.id, u.id)) (pair_at f) (λ u. (f t.id, u.id)) (λ u. refl) ts) ts

-- items for each pair: those of the new pairs are the old ones at new ids
pub at_pairs : {X Y : Type 0} (f : ℕ → ℕ) (old : ℕ × ℕ → X) (g : X → Y) (new : ℕ × ℕ → Y) → ((x : ℕ × ℕ) → new (pair_at f x) ≡ g (old x))
    → (ts : List Term) → map new (pairs_of (terms_at f ts)) ≡ map g (map old (pairs_of ts))
at_pairs f old g new e ts = ap (map new) (pairs_of_at f ts) ∙ map_across (pair_at f) old g new e (pairs_of ts)

-- what holds of each column that is named holds of both columns of each pair
pub all_pairs : (P : ℕ → Type 0) (ts : List Term) → All (λ t. P t.id) ts → All (λ (x : ℕ × ℕ). P x.0 × P x.1) (pairs_of ts)
all_pairs P ts h = all_flat (λ (x : ℕ × ℕ). P x.0 × P x.1) (λ t. map (λ u. (t.id, u.id)) ts) ts
    (λ a d l. let t = get_or ts a d in All-map (λ (x : ℕ × ℕ). P x.0 × P x.1) (λ u. (t.id, u.id)) ts (λ b e m. (h a d l, h b e m)))
