-- Where all lines are live, each keeps its id.
use Rattle.std.proofs.Common.{◌≡◌, ℕ, zero, suc, ◌<◌, ◌≤◌, true, List, [], ◌∷◌, length, refl, ap, ap₂, ◌∙◌, arith}
use Rattle.lp_model.specs.declared.terms.Term.{Term}
use Rattle.lp_model.specs.Sparse.{Ascends}
use Rattle.problem_model.specs.declared.line.Line.{Line}
use Rattle.problem_model.specs.Matrices.{line_at}
use Rattle.problem_model.specs.Programs.{rank, renumbered}
use Rattle.program_laws.proofs.Ranks.{rank-zero, rank-suc}

abbrev pub AreLive : List Line → Type 0
AreLive ls = (k : ℕ) → k < length ls → (line_at ls k).live ≡ true

pub live_after : (l : Line) (ls : List Line) → AreLive (l ∷ ls) → AreLive ls
live_after l ls a k m = a (suc k) (omega (arith, m))

pub rank_live : (ls : List Line) → AreLive ls → (k : ℕ) → k ≤ length ls → rank ls k ≡ k
rank_live ls a zero l = rank-zero ls
rank_live ls a (suc k) l = rank-suc ls k (a k (omega (arith, l))) ∙ ap suc (rank_live ls a k (omega (arith, l)))

pub renumbered-all : (ls : List Line) → AreLive ls → (m : ℕ) (ts : List Term) → Ascends m (length ls) ts → renumbered ls ts ≡ ts
renumbered-all ls a m [] h = refl
renumbered-all ls a m (t ∷ ts) h =
    rw (a t.id h.1) (ap₂ (λ (k : ℕ) (us : List Term). record { id = k; value = t.value } ∷ us) (rank_live ls a t.id (omega (arith, h.1))) (renumbered-all ls a (suc t.id) ts h.3))
