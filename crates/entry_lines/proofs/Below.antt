-- The place of a term by its id.
use Rattle.std.proofs.Common.{◌≡◌, ℕ, ◌+◌, ◌<◌, List, [], ◌∷◌, ◌++◌, length, get_or, take, drop, sym, ap, ◌∙◌, subst, append_assoc}
use Rattle.std.specs.List.{All}
use Rattle.std.proofs.lemmas.List.Elements.{All-append, All-nil, All-cons}
use Rattle.std.proofs.lemmas.List.{take_more, at_drop_more}
use Rattle.fractions.specs.Number.{Number}
use Rattle.lp_model.specs.declared.terms.Term.{Term}
use Rattle.problem_model.specs.Entries.{put_term}
use Rattle.problem_laws.proofs.PutTerms.{put_term-past}

pub below_step : (ts : List Term) (k at : ℕ) (d : Term) → at < length ts → (get_or ts at d).id < k → All (λ t. t.id < k) (take at ts) → All (λ t. t.id < k) (take (at + 1) ts)
below_step ts k at d l b h = subst (All (λ (t : Term). t.id < k)) (sym (take_more ts at d l))
    (All-append (λ (t : Term). t.id < k) (take at ts) (get_or ts at d ∷ []) h (All-cons (λ (t : Term). t.id < k) (get_or ts at d) [] b (All-nil (λ (t : Term). t.id < k))))

pub place_step : (ts : List Term) (k at : ℕ) (d : Term) (c : Number) → at < length ts → (get_or ts at d).id < k
    → put_term k c ts ≡ take at ts ++ put_term k c (drop at ts) → put_term k c ts ≡ take (at + 1) ts ++ put_term k c (drop (at + 1) ts)
place_step ts k at d c l b e =
    e
    ∙ ap (λ (xs : List Term). take at ts ++ xs) (at_drop_more (put_term k c) ts at d l ∙ put_term-past k c (get_or ts at d) (drop (at + 1) ts) b)
    ∙ sym (ap (λ (xs : List Term). xs ++ put_term k c (drop (at + 1) ts)) (take_more ts at d l) ∙ simp append_assoc)
