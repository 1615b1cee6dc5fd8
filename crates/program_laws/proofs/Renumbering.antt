-- Terms at live lines, by the lines' new ids.
use Rattle.std.proofs.Common.{◌≡◌, ◌≢◌, ℕ, suc, ◌<◌, Bool, true, false, cond, List, [], ◌∷◌, length, map, slice_index, sym, refl, ap, ◌∙◌, subst, arith, ◌⊎◌, inl, inr}
use Rattle.std.specs.List.{All}
use Rattle.std.proofs.lemmas.Bool.{cases_eq}
use Rattle.std.proofs.lemmas.List.Elements.{All-nil, All-cons, All-head, All-tail}
use Rattle.fractions.specs.Number.{Number}
use Rattle.lp_model.specs.declared.terms.Term.{Term}
use Rattle.lp_model.specs.Sparse.{Ascends, dense}
use Rattle.problem_model.specs.declared.line.Line.{Line}
use Rattle.problem_model.specs.Matrices.{line_at, live_only}
use Rattle.problem_model.specs.Programs.{rank, renumbered, live_ids}
use Rattle.problem_laws.proofs.Terms.{dense-cons_same, dense-cons_other, ascends-wider}
use Rattle.program_laws.proofs.Ranks.{rank-zero, rank-≤, rank-suc, rank-inside, rank-id, id_rank}

-- a term with its line's new id
abbrev moved : List Line → Term → Term
moved ls t = record { id = rank ls t.id; value = t.value }

-- a term more, if its line is live
abbrev term_if : Bool → Term → List Term → List Term
term_if b t ts = cond b (t ∷ ts) ts

pub dense-renumbered : (ls : List Line) (a : ℕ) → a < length (live_ids ls) → (ts : List Term) → dense (renumbered ls ts) a ≡ dense (live_only ls ts) (slice_index (live_ids ls) a)
dense-renumbered ls a l [] = refl
dense-renumbered ls a l (t ∷ ts) = by (line_at ls t.id).live refl (dense-renumbered ls a l ts)
  where
    at : (line_at ls t.id).live ≡ true → (t.id ≡ slice_index (live_ids ls) a) ⊎ (t.id ≢ slice_index (live_ids ls) a)
        → dense (renumbered ls ts) a ≡ dense (live_only ls ts) (slice_index (live_ids ls) a)
        → dense (moved ls t ∷ renumbered ls ts) a ≡ dense (t ∷ live_only ls ts) (slice_index (live_ids ls) a)
    at g (inl e) ih = dense-cons_same (moved ls t) (renumbered ls ts) a (ap (rank ls) e ∙ id_rank ls a l) ∙ sym (dense-cons_same t (live_only ls ts) (slice_index (live_ids ls) a) e)
    at g (inr n) ih = dense-cons_other (moved ls t) (renumbered ls ts) a (λ e. n (sym (rank-id ls t.id g) ∙ ap (slice_index (live_ids ls)) e))
        ∙ ih ∙ sym (dense-cons_other t (live_only ls ts) (slice_index (live_ids ls) a) n)

    by : (b : Bool) → (line_at ls t.id).live ≡ b → dense (renumbered ls ts) a ≡ dense (live_only ls ts) (slice_index (live_ids ls) a)
        → dense (map (moved ls) (term_if b t (live_only ls ts))) a ≡ dense (term_if b t (live_only ls ts)) (slice_index (live_ids ls) a)
    by true g ih = at g (cases_eq t.id (slice_index (live_ids ls) a)) ih
    by false g ih = ih

ascends-moved : (ls : List Line) (ts : List Term) (m : ℕ) → Ascends m (length ls) ts → Ascends (rank ls m) (length (live_ids ls)) (renumbered ls ts)
ascends-moved ls [] m a = tt
ascends-moved ls (t ∷ ts) m a = by (line_at ls t.id).live refl (ascends-moved ls ts (suc t.id) a.3)
  where
    by : (b : Bool) → (line_at ls t.id).live ≡ b → Ascends (rank ls (suc t.id)) (length (live_ids ls)) (renumbered ls ts)
        → Ascends (rank ls m) (length (live_ids ls)) (map (moved ls) (term_if b t (live_only ls ts)))
    by true g ih = (rank-≤ ls m t.id a.0, rank-inside ls t.id g, a.2, subst (λ (k : ℕ). Ascends k (length (live_ids ls)) (renumbered ls ts)) (rank-suc ls t.id g) ih)
    by false g ih = ascends-wider (renumbered ls ts) (rank ls (suc t.id)) (rank ls m) (length (live_ids ls)) (rank-≤ ls m (suc t.id) (omega (arith, a.0))) ih

pub ascends-renumbered : (ls : List Line) (ts : List Term) → Ascends 0 (length ls) ts → Ascends 0 (length (live_ids ls)) (renumbered ls ts)
ascends-renumbered ls ts a = subst (λ (k : ℕ). Ascends k (length (live_ids ls)) (renumbered ls ts)) (rank-zero ls) (ascends-moved ls ts 0 a)

-- the numbers stay
pub numbers_stay : (P : Number → Type 0) (ls : List Line) (ts : List Term) → All (λ t. P t.value) ts → All (λ t. P t.value) (renumbered ls ts)
numbers_stay P ls [] h = All-nil (λ t. P t.value)
numbers_stay P ls (t ∷ ts) h = by (line_at ls t.id).live (numbers_stay P ls ts (All-tail (λ t. P t.value) t ts h))
  where
    by : (b : Bool) → All (λ t. P t.value) (renumbered ls ts) → All (λ t. P t.value) (map (moved ls) (term_if b t (live_only ls ts)))
    by true ih = All-cons (λ t. P t.value) (moved ls t) (renumbered ls ts) (All-head (λ t. P t.value) t ts h) ih
    by false ih = ih
