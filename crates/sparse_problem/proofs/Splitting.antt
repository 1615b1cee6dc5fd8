-- Terms in two pieces with the one of an id between them, and their spans.
use Rattle.std.proofs.Common.{◌≡◌, ◌≢◌, ℕ, suc, ◌<◌, arith, true, false, List, [], ◌∷◌, ◌++◌, map, refl, sym, ap, ap₂, ◌∙◌, ◌⊎◌, inl, inr}
use Rattle.std.proofs.lemmas.Bool.{cases_eq}
use Rattle.fractions.specs.Number.{Number}
use Rattle.lp_model.specs.declared.terms.Term.{Term}
use Rattle.lp_model.specs.Sparse.{Ascends, dense, has, without}
use Rattle.problem_model.specs.Sparse.{Sparse}
use Rattle.row_spans.specs.declared.span.Span.{Span}
use Rattle.row_spans.specs.Spans.{span_of}
use Rattle.problem_laws.proofs.Terms.{not_both, has-cons_same, has-cons_other, without-cons_same, without-cons_other, without-absent, dense-cons_same, dense-cons_other, has-below}

abbrev pub term_at : ℕ → Number → Term
term_at k a = record { id = k; value = a }

pub record IsSplit (k : ℕ) (a : Number) (ts before after : List Term) : Type 0 where
  pub all : ts ≡ before ++ term_at k a ∷ after
  pub others : without k ts ≡ before ++ after
  pub none_before : has k before ≡ false
  pub none_after : has k after ≡ false

pub record Split (k : ℕ) (a : Number) (ts : List Term) : Type 0 where
  pub before : List Term
  pub after : List Term
  pub split : IsSplit k a ts before after

pub split : (k : ℕ) (ts : List Term) (m n : ℕ) → Ascends m n ts → has k ts ≡ true → Split k (dense ts k) ts
split k [] m n a h = cc
split k (t ∷ ts) m n a h = by (cases_eq t.id k) (split k ts (suc t.id) n a.3)
  where
    by : (t.id ≡ k) ⊎ (t.id ≢ k) → (has k ts ≡ true → Split k (dense ts k) ts) → Split k (dense (t ∷ ts) k) (t ∷ ts)
    by (inl e) ih =
        let none : has k ts ≡ false = has-below ts (suc t.id) n k a.3 (next t.id k e) in
        record {
          before = [];
          after = ts;
          split = record {
            all = λ z. term_at (e z) (sym (dense-cons_same t ts k e) z) ∷ ts;
            others = without-cons_same k t ts e ∙ without-absent k ts none;
            none_before = refl;
            none_after = none;
          };
        }
      where
        next : (x y : ℕ) → x ≡ y → y < suc x
        next x y f = omega (arith, f)
    by (inr o) ih =
        let r = ih (sym (has-cons_other k t ts o) ∙ h) in
        record {
          before = t ∷ r.before;
          after = r.after;
          split = record {
            all = ap (λ (us : List Term). t ∷ us) (r.split.all ∙ ap (λ a. r.before ++ term_at k a ∷ r.after) (sym (dense-cons_other t ts k o)));
            others = without-cons_other k t ts o ∙ ap (λ (us : List Term). t ∷ us) r.split.others;
            none_before = has-cons_other k t r.before o ∙ r.split.none_before;
            none_after = r.split.none_after;
          };
        }

pub map-++ : {X Y : Type 0} (f : X → Y) (a b : List X) → map f (a ++ b) ≡ map f a ++ map f b
map-++ f [] b = refl
map-++ f (x ∷ a) b = ap (λ ys. f x ∷ ys) (map-++ f a b)

-- spans of terms that name other columns than j are the same where only that column has other bounds
pub spans_same : (p q : Sparse) (j : ℕ) → ((k : ℕ) → k ≢ j → (value : Number) → span_of q (term_at k value) ≡ span_of p (term_at k value)) → (ts : List Term) → has j ts ≡ false → map (span_of q) ts ≡ map (span_of p) ts
spans_same p q j f [] h = refl
spans_same p q j f (t ∷ ts) h = by (cases_eq t.id j) (spans_same p q j f ts)
  where
    by : (t.id ≡ j) ⊎ (t.id ≢ j) → (has j ts ≡ false → map (span_of q) ts ≡ map (span_of p) ts) → map (span_of q) (t ∷ ts) ≡ map (span_of p) (t ∷ ts)
    by (inl e) ih = absurd (not_both (has-cons_same j t ts e) h)
    by (inr o) ih = ap₂ (λ (s : Span) (ss : List Span). s ∷ ss) (f t.id o t.value) (ih (sym (has-cons_other j t ts o) ∙ h))
