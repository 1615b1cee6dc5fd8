-- Ids of terms, and their numbers.
use Rattle.std.proofs.Common.{◌≡◌, ◌≢◌, ◌⊎◌, inl, inr, ℕ, zero, suc, ◌<◌, true, List, [], ◌∷◌, refl, sym, ap, ◌∙◌, arith, true≢false}
use Rattle.std.specs.List.{All}
use Rattle.std.proofs.lemmas.Bool.{cases_eq, ne_eqb}
use Rattle.fractions.specs.Number.{zero_ℚ}
use Rattle.fractions.specs.Total.{put}
use Rattle.fractions.proofs.Totals.{put-same, put-other}
use Rattle.lp_model.specs.declared.terms.Term.{Term}
use Rattle.lp_model.specs.Sparse.{Ascends, dense, has}

ids_from : (m n : ℕ) (ts : List Term) → Ascends m n ts → All (λ t. t.id < n) ts
ids_from m n [] h k d l = absurd (omega arith)
ids_from m n (t ∷ ts) h zero d l = h.1
ids_from m n (t ∷ ts) h (suc k) d l = ids_from (suc t.id) n ts h.3 k d (omega arith)

-- ids that ascend below n are below n
pub ids_below : (n : ℕ) (ts : List Term) → Ascends 0 n ts → All (λ t. t.id < n) ts
ids_below n ts h = ids_from 0 n ts h

has_other : (j : ℕ) (t : Term) (ts : List Term) → t.id ≢ j → has j (t ∷ ts) ≡ has j ts
has_other j t ts n = rw (ne_eqb t.id j n) refl

-- the number at an id that a term has isn't 0
number_from : (m n j : ℕ) (ts : List Term) → Ascends m n ts → has j ts ≡ true → dense ts j ≢ zero_ℚ
number_from m n j [] h e = absurd (true≢false (sym e))
number_from m n j (t ∷ ts) h e = by (cases_eq t.id j) (number_from (suc t.id) n j ts h.3)
  where
    by : (t.id ≡ j) ⊎ (t.id ≢ j) → (has j ts ≡ true → dense ts j ≢ zero_ℚ) → dense (t ∷ ts) j ≢ zero_ℚ
    by (inl q) ih z = h.2 (sym (ap (put (dense ts) t.id t.value) (sym q) ∙ put-same (dense ts) t.id t.value) ∙ z)
    by (inr q) ih z = ih (sym (has_other j t ts q) ∙ e) (sym (put-other (dense ts) t.id t.value j (λ f. q (sym f))) ∙ z)

pub number_there : (n j : ℕ) (ts : List Term) → Ascends 0 n ts → has j ts ≡ true → dense ts j ≢ zero_ℚ
number_there n j ts h e = number_from 0 n j ts h e
