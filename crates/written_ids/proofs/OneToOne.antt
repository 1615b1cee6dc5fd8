-- New ids of which no two are the same: terms have the same ids among them, and tell the same numbers at them.
use Rattle.std.proofs.Common.{◌≡◌, ◌≢◌, ◌⊎◌, inl, inr, ℕ, Bool, not, ◌||◌, nat_eq, List, [], ◌∷◌, get_or, refl, sym, ap, ap₂, ◌∙◌}
use Rattle.std.specs.List.{All}
use Rattle.std.proofs.lemmas.Bool.{cases_eq, eq-eqb, ne_eqb}
use Rattle.std.proofs.lemmas.List.Elements.{All-head, All-tail}
use Rattle.lp_model.specs.declared.terms.Term.{Term}
use Rattle.lp_model.specs.Sparse.{dense, has, without}
use Rattle.problem_model.specs.declared.line.Line.{Line}
use Rattle.problem_laws.proofs.Terms.{dense-cons_other, dense-cons_same}
use Rattle.written_ids.specs.NewIds.{term_at, terms_at}
use Rattle.written_ids.specs.Standing.{IsLive, IsOneToOne}
use Rattle.written_ids.proofs.Lists.{filter_across}

abbrev pub NamesLive : List Line → Term → Type 0
NamesLive lines t = IsLive lines t.id

module _ (f : ℕ → ℕ) (lines : List Line) (o : IsOneToOne f lines) where
  pub equal_at : (i k : ℕ) → IsLive lines i → IsLive lines k → nat_eq (f i) (f k) ≡ nat_eq i k
  equal_at i k h g = by (cases_eq i k)
    where
      by : (i ≡ k) ⊎ (i ≢ k) → nat_eq (f i) (f k) ≡ nat_eq i k
      by (inl e) = eq-eqb (f i) (f k) (ap f e) ∙ sym (eq-eqb i k e)
      by (inr d) = ne_eqb (f i) (f k) (λ e. d (o i k h g e)) ∙ sym (ne_eqb i k d)

  pub has_at : (k : ℕ) (ts : List Term) → IsLive lines k → All (NamesLive lines) ts → has (f k) (terms_at f ts) ≡ has k ts
  has_at k [] h g = refl
  has_at k (t ∷ ts) h g = ap₂ (λ (a b : Bool). a || b) (equal_at t.id k (All-head (NamesLive lines) t ts g) h) (has_at k ts h (All-tail (NamesLive lines) t ts g))

  pub dense_at : (k : ℕ) (ts : List Term) → IsLive lines k → All (NamesLive lines) ts → dense (terms_at f ts) (f k) ≡ dense ts k
  dense_at k [] h g = refl
  dense_at k (t ∷ ts) h g = by (cases_eq t.id k) (dense_at k ts h (All-tail (NamesLive lines) t ts g))
    where
      by : (t.id ≡ k) ⊎ (t.id ≢ k) → dense (terms_at f ts) (f k) ≡ dense ts k → dense (terms_at f (t ∷ ts)) (f k) ≡ dense (t ∷ ts) k
      by (inl e) ih = dense-cons_same (term_at f t) (terms_at f ts) (f k) (ap f e) ∙ sym (dense-cons_same t ts k e)
      by (inr d) ih = dense-cons_other (term_at f t) (terms_at f ts) (f k) (λ e. d (o t.id k (All-head (NamesLive lines) t ts g) h e)) ∙ ih ∙ sym (dense-cons_other t ts k d)

  pub without_at : (k : ℕ) (ts : List Term) → IsLive lines k → All (NamesLive lines) ts → without (f k) (terms_at f ts) ≡ terms_at f (without k ts)
  without_at k ts h g = filter_across (term_at f) (λ t. not (nat_eq t.id k)) (λ t. not (nat_eq t.id (f k))) ts (λ a d l. ap not (equal_at (get_or ts a d).id k (g a d l) h))
