-- The ids of live lines, and their places among them.
use Rattle.std.proofs.Common.{◌≡◌, ℕ, zero, suc, ◌+◌, ◌<◌, ◌≤◌, Bool, true, false, cond, List, [], ◌∷◌, length, take, slice_index, sym, refl, ap, ◌∙◌, subst, arith, add-one}
use Rattle.std.specs.Prelude.{if◌then◌else◌}
use Rattle.std.proofs.lemmas.List.Sums.{sum_by-cons}
use Rattle.lp_passages.specs.Renumbering.{IdsFrom, IsLeftOut}
use Rattle.problem_model.specs.declared.line.Line.{Line}
use Rattle.problem_model.specs.Matrices.{line_at}
use Rattle.problem_model.specs.Programs.{rank, live_ids_from, live_ids}
use Rattle.problem_laws.proofs.AtIds.{live_inside}
use Rattle.problem_laws.proofs.Terms.{not_both}

-- an id more, if its line is live
abbrev pub id_if : Bool → ℕ → List ℕ → List ℕ
id_if b k ids = if b then k ∷ ids else ids

pub none_before : (i : ℕ) → 0 + i ≡ i
none_before i = omega arith

one_before : (i : ℕ) → 1 + i ≡ suc i
one_before i = omega arith

pub shift : (k i : ℕ) → (k + 1) + i ≡ k + suc i
shift k i = omega arith

-- ---- ranks
pub rank-zero : (ls : List Line) → rank ls 0 ≡ 0
rank-zero [] = refl
rank-zero (l ∷ ls) = refl

pub rank-cons : (l : Line) (ls : List Line) (k : ℕ) → rank (l ∷ ls) (suc k) ≡ cond l.live 1 0 + rank ls k
rank-cons l ls k = sum_by-cons (λ (y : Line). cond y.live 1 0) l (take k ls)

pub rank-live : (l : Line) (ls : List Line) (k : ℕ) → l.live ≡ true → rank (l ∷ ls) (suc k) ≡ suc (rank ls k)
rank-live l ls k h = rank-cons l ls k ∙ ap (λ (b : Bool). cond b 1 0 + rank ls k) h ∙ one_before (rank ls k)

pub rank-dead : (l : Line) (ls : List Line) (k : ℕ) → l.live ≡ false → rank (l ∷ ls) (suc k) ≡ rank ls k
rank-dead l ls k h = rank-cons l ls k ∙ ap (λ (b : Bool). cond b 1 0 + rank ls k) h ∙ none_before (rank ls k)

pub rank-≤ : (ls : List Line) (m n : ℕ) → m ≤ n → rank ls m ≤ rank ls n
rank-≤ ls zero n l = let a = rank-zero ls in omega (arith, a)
rank-≤ ls (suc m) zero l = absurd (omega (arith, l))
rank-≤ [] (suc m) (suc n) l = omega arith
rank-≤ (y ∷ ls) (suc m) (suc n) l = let a = rank-cons y ls m in let b = rank-cons y ls n in let h = rank-≤ ls m n (omega (arith, l)) in omega (arith, a, b, h)

pub rank-suc : (ls : List Line) (k : ℕ) → (line_at ls k).live ≡ true → rank ls (suc k) ≡ suc (rank ls k)
rank-suc [] k h = absurd (not_both h refl)
rank-suc (l ∷ ls) zero h = rank-live l ls 0 h ∙ ap suc (rank-zero ls)
rank-suc (l ∷ ls) (suc k) h = let a = rank-cons l ls (suc k) in let b = rank-cons l ls k in let c = rank-suc ls k h in omega (arith, a, b, c)

-- ---- the ids ascend
ids_wider : (ids : List ℕ) (m p n : ℕ) → p ≤ m → IdsFrom m n ids → IdsFrom p n ids
ids_wider [] m p n l h = tt
ids_wider (i ∷ ids) m p n l h = (omega (arith, l, h.0), h.1, h.2)

pub ids_ascend : (k n : ℕ) (ls : List Line) → k + length ls ≤ n → IdsFrom k n (live_ids_from k ls)
ids_ascend k n [] h = tt
ids_ascend k n (l ∷ ls) h = by l.live (subst (λ m. IdsFrom m n (live_ids_from (k + 1) ls)) (add-one k) (ids_ascend (k + 1) n ls (omega (arith, h))))
  where
    by : (b : Bool) → IdsFrom (suc k) n (live_ids_from (k + 1) ls) → IdsFrom k n (id_if b k (live_ids_from (k + 1) ls))
    by true ih = (omega arith, omega (arith, h), ih)
    by false ih = ids_wider (live_ids_from (k + 1) ls) (suc k) k n (omega arith) ih

pub live_ids_ascend : (ls : List Line) → IdsFrom 0 (length ls) (live_ids ls)
live_ids_ascend ls = ids_ascend 0 (length ls) ls (omega arith)

-- ---- a live line has the id at its rank
pub rank-place : (k : ℕ) (ls : List Line) (i : ℕ) → (line_at ls i).live ≡ true → (rank ls i < length (live_ids_from k ls)) × (slice_index (live_ids_from k ls) (rank ls i) ≡ k + i)
rank-place k [] i h = absurd (not_both h refl)
rank-place k (l ∷ ls) zero h = by l.live h
  where
    by : (b : Bool) → b ≡ true → (0 < length (id_if b k (live_ids_from (k + 1) ls))) × (slice_index (id_if b k (live_ids_from (k + 1) ls)) 0 ≡ k + 0)
    by true g = (omega arith, omega arith)
    by false g = absurd (not_both g refl)
rank-place k (l ∷ ls) (suc i) h = by l.live refl (rank-place (k + 1) ls i h)
  where
    by : (b : Bool) → l.live ≡ b → (rank ls i < length (live_ids_from (k + 1) ls)) × (slice_index (live_ids_from (k + 1) ls) (rank ls i) ≡ (k + 1) + i)
        → (rank (l ∷ ls) (suc i) < length (id_if b k (live_ids_from (k + 1) ls))) × (slice_index (id_if b k (live_ids_from (k + 1) ls)) (rank (l ∷ ls) (suc i)) ≡ k + suc i)
    by true g ih = subst (λ r. (r < length (k ∷ live_ids_from (k + 1) ls)) × (slice_index (k ∷ live_ids_from (k + 1) ls) r ≡ k + suc i)) (sym (rank-live l ls i g)) (omega (arith, ih.0), ih.1 ∙ shift k i)
    by false g ih = subst (λ r. (r < length (live_ids_from (k + 1) ls)) × (slice_index (live_ids_from (k + 1) ls) r ≡ k + suc i)) (sym (rank-dead l ls i g)) (ih.0, ih.1 ∙ shift k i)

pub rank-inside : (ls : List Line) (i : ℕ) → (line_at ls i).live ≡ true → rank ls i < length (live_ids ls)
rank-inside ls i h = (rank-place 0 ls i h).0

pub rank-id : (ls : List Line) (i : ℕ) → (line_at ls i).live ≡ true → slice_index (live_ids ls) (rank ls i) ≡ i
rank-id ls i h = (rank-place 0 ls i h).1 ∙ none_before i

-- what is left out is not live
pub left_out-dead : (ls : List Line) (i : ℕ) → IsLeftOut i (live_ids ls) → (line_at ls i).live ≡ false
left_out-dead ls i h = by (line_at ls i).live refl
  where
    by : (b : Bool) → (line_at ls i).live ≡ b → b ≡ false
    by true g = absurd (h (rank ls i) (rank-inside ls i g) (rank-id ls i g))
    by false g = refl

-- ---- each id is that of a live line, whose rank is its place
abbrev pub IdAt : List ℕ → ℕ → List Line → ℕ → Type 0
IdAt ids k ls a = (i : ℕ) × (slice_index ids a ≡ k + i) × ((line_at ls i).live ≡ true) × (rank ls i ≡ a)

pub id_at : (k : ℕ) (ls : List Line) (a : ℕ) → a < length (live_ids_from k ls) → IdAt (live_ids_from k ls) k ls a
id_at k [] a l = absurd (omega (arith, l))
id_at k (y ∷ ls) a l = by y.live refl a l (id_at (k + 1) ls)
  where
    by : (b : Bool) → y.live ≡ b → (a : ℕ) → a < length (id_if b k (live_ids_from (k + 1) ls))
        → ((c : ℕ) → c < length (live_ids_from (k + 1) ls) → IdAt (live_ids_from (k + 1) ls) (k + 1) ls c)
        → IdAt (id_if b k (live_ids_from (k + 1) ls)) k (y ∷ ls) a
    by true g zero l ih = (0, omega arith, g, refl)
    by true g (suc c) l ih = let h = ih c (omega (arith, l)) in (suc h.0, h.1 ∙ shift k h.0, h.2, rank-live y ls h.0 g ∙ ap suc h.3)
    by false g c l ih = let h = ih c l in (suc h.0, h.1 ∙ shift k h.0, h.2, rank-dead y ls h.0 g ∙ h.3)

pub id_live : (ls : List Line) (a : ℕ) → a < length (live_ids ls) → (line_at ls (slice_index (live_ids ls) a)).live ≡ true
id_live ls a l = let h = id_at 0 ls a l in subst (λ (i : ℕ). (line_at ls i).live ≡ true) (sym (h.1 ∙ none_before h.0)) h.2

pub id_rank : (ls : List Line) (a : ℕ) → a < length (live_ids ls) → rank ls (slice_index (live_ids ls) a) ≡ a
id_rank ls a l = let h = id_at 0 ls a l in ap (rank ls) (h.1 ∙ none_before h.0) ∙ h.3

pub id_inside : (ls : List Line) (a : ℕ) → a < length (live_ids ls) → slice_index (live_ids ls) a < length ls
id_inside ls a l = live_inside ls (slice_index (live_ids ls) a) (id_live ls a l)
