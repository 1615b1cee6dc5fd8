-- Pairs from what was set in them.
use Rattle.std.proofs.Common.{◌≡◌, ℕ, List, sym, ap, ◌∙◌, subst}
use Rattle.fractions.specs.Number.{Number, neg_ℚ, ◌+ℚ◌, ◌-ℚ◌, ◌*ℚ◌}
use Rattle.fractions.specs.Division.{◌/ℚ◌}
use Rattle.fractions.specs.Total.{put}
use Rattle.lp_model.specs.declared.terms.Term.{Term}
use Rattle.lp_model.specs.Vectors.{vector_of}
use Rattle.lp_model.specs.Sparse.{dense}
use Rattle.lp_model.specs.Turning.{turned}
use Rattle.lp_model.specs.declared.program.Sense.{Sense}
use Rattle.lp_model.specs.declared.program.Sense.TheVariants.{Max}
use Rattle.lp_rows.specs.ForcingRow.{set_for_row}
use Rattle.lp_rows.specs.BoundTightening.{handed_to_row}
use Rattle.undo_pairs.specs.Numbers.{PairNumbers, priced_of, turned_for}

-- t times the row is taken, and then row i has the dual t
pub forced_is : (old mid new : PairNumbers) (i : ℕ) (ts : List Term) (t u : Number) → t ≡ u → mid.point ≡ old.point → mid.duals ≡ old.duals
    → vector_of mid.reduced_costs ≡ (λ k. vector_of old.reduced_costs k -ℚ dense ts k *ℚ t)
    → new.point ≡ mid.point → new.reduced_costs ≡ mid.reduced_costs → vector_of new.duals ≡ put (vector_of mid.duals) i t
    → priced_of new ≡ set_for_row i (dense ts) u (priced_of old)
forced_is old mid new i ts t u et mp md mz np nz ny = subst (λ q. priced_of new ≡ set_for_row i (dense ts) q (priced_of old)) et (λ w. record {
  x = ap (λ (xs : List Number). vector_of xs) (np ∙ mp) w;
  y = (ny ∙ ap (λ (ys : List Number). put (vector_of ys) i t) md) w;
  z = (ap (λ (zs : List Number). vector_of zs) nz ∙ mz) w;
})

-- d times the row is taken, and then the dual of row i grows by d
abbrev grown : PairNumbers → ℕ → List Term → Number → PairNumbers → Type 0
grown new i ts d old = priced_of new ≡ record { x = vector_of old.point; y = put (vector_of old.duals) i (vector_of old.duals i +ℚ d); z = λ k. vector_of old.reduced_costs k -ℚ dense ts k *ℚ d }

pub handed_is : (old mid new : PairNumbers) (i j : ℕ) (ts : List Term) (d r g b s : Number) → r ≡ vector_of old.reduced_costs j → g ≡ dense ts j → d ≡ r /ℚ g → b ≡ vector_of old.duals i → s ≡ b +ℚ d
    → mid.point ≡ old.point → mid.duals ≡ old.duals
    → vector_of mid.reduced_costs ≡ (λ k. vector_of old.reduced_costs k -ℚ dense ts k *ℚ d)
    → new.point ≡ mid.point → new.reduced_costs ≡ mid.reduced_costs → vector_of new.duals ≡ put (vector_of mid.duals) i s
    → priced_of new ≡ handed_to_row i j (dense ts) (priced_of old)
handed_is old mid new i j ts d r g b s er eg ed eb es mp md mz np nz ny = subst (λ q. grown new i ts q old) (ed ∙ ap (λ q. q /ℚ g) er ∙ ap (λ q. vector_of old.reduced_costs j /ℚ q) eg) (λ w. record {
  x = ap (λ (xs : List Number). vector_of xs) (np ∙ mp) w;
  y = (ny ∙ ap (λ (ys : List Number). put (vector_of ys) i s) md ∙ ap (put (vector_of old.duals) i) (es ∙ ap (λ q. q +ℚ d) eb)) w;
  z = (ap (λ (zs : List Number). vector_of zs) nz ∙ mz) w;
})

-- duals and reduced costs are negated
pub turned_is : (s : Sense) (old : PairNumbers) (xs ds cs ys zs : List Number) → s ≡ Max → ◌≡◌ {A = PairNumbers} (record { point = xs; duals = ds; reduced_costs = cs }) old
    → vector_of ys ≡ (λ k. neg_ℚ (vector_of ds k)) → vector_of zs ≡ (λ k. neg_ℚ (vector_of cs k))
    → priced_of (record { point = xs; duals = ys; reduced_costs = zs }) ≡ turned_for s (priced_of old)
turned_is s old xs ds cs ys zs es eo ey ez =
    subst (λ d. priced_of (record { point = xs; duals = ys; reduced_costs = zs }) ≡ turned_for d (priced_of old)) (sym es)
    (subst (λ q. priced_of (record { point = xs; duals = ys; reduced_costs = zs }) ≡ turned (priced_of q)) eo (λ w. record {
      x = vector_of xs;
      y = ey w;
      z = ez w;
    }))
