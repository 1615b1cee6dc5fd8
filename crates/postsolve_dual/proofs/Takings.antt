-- Numbers from which terms are taken, one after another.
use Rattle.std.proofs.Common.{◌≡◌, ◌≢◌, ◌↔◌, ℕ, suc, ◌<◌, ◌≤◌, List, [], ◌∷◌, length, refl, sym, ap, ◌∙◌, subst, arith}
use Rattle.fractions.specs.Ring.{ring, v, num, ◌:-◌, ◌:*◌}
use Rattle.std.specs.Prelude.{pos}
use Rattle.fractions.specs.Number.{Number, rational, ◌-ℚ◌, ◌*ℚ◌}
use Rattle.fractions.specs.Total.{put}
use Rattle.fractions.proofs.Totals.{put-same, put-other, at_or_off}
use Rattle.fractions.specs.Room.{Room}
use Rattle.lp_model.specs.declared.terms.Term.{Term}
use Rattle.lp_model.specs.Vectors.{Vector}
use Rattle.lp_model.specs.Sparse.{Ascends, dense}
use Rattle.lp_theory.proofs.SparseSums.{dense-below}
use Rattle.undo_records.specs.Fitting.{LessFits}
use Rattle.postsolve_dual.specs.PairRoom.{TakenFits}

-- the terms before the rest, times t, are taken from the numbers old: now is left
pub record Taking (room : Room) (size first : ℕ) (ts rest : List Term) (t : Number) (old now : Vector) : Type 0 where
  pub next : ℕ
  pub same : size ≡ first
  pub ascends : Ascends next first rest
  pub later : (k : ℕ) → next ≤ k → now k ≡ old k
  pub value : (k : ℕ) → now k -ℚ dense rest k *ℚ t ≡ old k -ℚ dense ts k *ℚ t
  pub fits : TakenFits room ts t old ↔ TakenFits room rest t old

pub taking_none : (room : Room) (m : ℕ) (ts : List Term) (t : Number) (old : Vector) → Ascends 0 m ts → Taking room m m ts ts t old old
taking_none room m ts t old a = record {
  next = 0;
  same = refl;
  ascends = a;
  later = λ k l. refl;
  value = λ k. refl;
  fits = (λ h. h, λ h. h);
}

-- the terms that are left have ids of the numbers
pub taking_id : (room : Room) (s m : ℕ) (ts rest : List Term) (e : Term) (es : List Term) (t : Number) (old now : Vector) → rest ≡ e ∷ es → Taking room s m ts rest t old now → e.id < s
taking_id room s m ts rest e es t old now is h = by (subst (λ us. Taking room s m ts us t old now) is h)
  where
    by : Taking room s m ts (e ∷ es) t old now → e.id < s
    by g = omega (arith, g.same, g.ascends.1)

taken_here : (e : Term) (es : List Term) (m : ℕ) (t : Number) (now : Vector) → Ascends (suc e.id) m es
    → put now e.id (now e.id -ℚ e.value *ℚ t) e.id -ℚ dense es e.id *ℚ t ≡ now e.id -ℚ dense (e ∷ es) e.id *ℚ t
taken_here e es m t now a =
    ap (λ p. p -ℚ dense es e.id *ℚ t) (put-same now e.id (now e.id -ℚ e.value *ℚ t))
    ∙ ap (λ c. now e.id -ℚ e.value *ℚ t -ℚ c *ℚ t) (dense-below es (suc e.id) m e.id a (omega arith))
    ∙ ring rational (now e.id ∷ e.value ∷ t ∷ []) (v 0 :- v 1 :* v 2 :- num (pos 0) :* v 2) (v 0 :- v 1 :* v 2) refl
    ∙ ap (λ c. now e.id -ℚ c *ℚ t) (sym (put-same (dense es) e.id e.value))

taken_there : (e : Term) (es : List Term) (t : Number) (now : Vector) (k : ℕ) → k ≢ e.id
    → put now e.id (now e.id -ℚ e.value *ℚ t) k -ℚ dense es k *ℚ t ≡ now k -ℚ dense (e ∷ es) k *ℚ t
taken_there e es t now k n =
    ap (λ p. p -ℚ dense es k *ℚ t) (put-other now e.id (now e.id -ℚ e.value *ℚ t) k n)
    ∙ ap (λ c. now k -ℚ c *ℚ t) (sym (put-other (dense es) e.id e.value k n))

-- one term more
pub taking_more : (room : Room) (s q m : ℕ) (ts rest : List Term) (e : Term) (es : List Term) (t r w : Number) (old now new : Vector) → rest ≡ e ∷ es → q ≡ s → w ≡ now e.id → r ≡ w -ℚ e.value *ℚ t → new ≡ put now e.id r
    → LessFits room w e.value t → Taking room s m ts rest t old now → Taking room q m ts es t old new
taking_more room s q m ts rest e es t r w old now new is size ew er en fits h = by (subst (λ us. Taking room s m ts us t old now) is h)
  where
    by : Taking room s m ts (e ∷ es) t old now → Taking room q m ts es t old new
    by g = subst (λ w. Taking room q m ts es t old w) (sym (en ∙ ap (λ c. put now e.id c) (er ∙ ap (λ c. c -ℚ e.value *ℚ t) ew))) (record {
      next = suc e.id;
      same = size ∙ g.same;
      ascends = g.ascends.3;
      later = λ k l. let apart : k ≢ e.id = omega (arith, l) in put-other now e.id (now e.id -ℚ e.value *ℚ t) k apart ∙ g.later k (omega (arith, l, g.ascends.0));
      value = λ k. at_or_off (λ k. put now e.id (now e.id -ℚ e.value *ℚ t) k -ℚ dense es k *ℚ t ≡ now k -ℚ dense (e ∷ es) k *ℚ t) e.id (taken_here e es m t now g.ascends.3) (taken_there e es t now) k ∙ g.value k;
      fits = (λ a. (g.fits.0 a).1, λ b. g.fits.1 (subst (λ z. LessFits room z e.value t) (ew ∙ g.later e.id g.ascends.0) fits, b));
    })

-- a term without room
pub taking_stops : (room : Room) (s m : ℕ) (ts rest : List Term) (e : Term) (es : List Term) (t w : Number) (old now : Vector) → rest ≡ e ∷ es → w ≡ now e.id → (LessFits room w e.value t → ⊥) → Taking room s m ts rest t old now → TakenFits room ts t old → ⊥
taking_stops room s m ts rest e es t w old now is ew none h f = by (subst (λ us. Taking room s m ts us t old now) is h)
  where
    by : Taking room s m ts (e ∷ es) t old now → ⊥
    by g = none (subst (λ z. LessFits room z e.value t) (sym (ew ∙ g.later e.id g.ascends.0)) (g.fits.0 f).0)

-- no term is left
pub taking_all : (room : Room) (s m : ℕ) (ts rest : List Term) (t : Number) (old now : Vector) → length rest ≡ 0 → Taking room s m ts rest t old now → (now ≡ (λ k. old k -ℚ dense ts k *ℚ t)) × TakenFits room ts t old
taking_all room s m ts [] t old now none g = (
  (λ i k. (ring rational (now k ∷ t ∷ []) (v 0) (v 0 :- num (pos 0) :* v 1) refl ∙ g.value k) i),
  g.fits.1 tt,
)
taking_all room s m ts (e ∷ es) t old now none g = absurd (omega (arith, none))
