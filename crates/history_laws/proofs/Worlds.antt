-- Whatever workers do, the book stands.
use Rattle.std.proofs.Common.{◌≡◌, ℕ, Bool, true, false, List, [], ◌∷◌, ◌++◌, Option, Some, None, sym, refl, ◌∙◌, subst, nat_eq, if◌then◌else◌}
use Rattle.std.specs.Prelude.{⊤}
use Rattle.fractions.specs.Total.{put}
use Rattle.presolve_model.specs.declared.outcome.Outcome.{Outcome}
use Rattle.presolve_model.specs.declared.outcome.Outcome.TheVariants.{Closed, Full, Stale, Past, NotDecimal, Applied, NoMemory}
use Rattle.presolve_model.specs.declared.instance.Instance.{Instance}
use Rattle.presolve_model.specs.declared.instance.Instance.TheVariants as at
use Rattle.problem_model.specs.Sparse.{Sparse}
use Rattle.presolve_model.specs.Given.{Proposed}
use Rattle.presolve_model.specs.Enabled.{Enabled}
use Rattle.presolve_model.specs.Ledger.{Ledger, Stands}
use Rattle.presolve_model.specs.Commits.{left_by, with_instance}
use Rattle.presolve_model.specs.Worlds.{State, Happening, Freeze, Propose, Commit, Steps, Commits, Runs, IsProposal, AreProposals, opened}
use Rattle.history_laws.specs.Meanings.{Means}
use Rattle.history_laws.proofs.Books.{book_means, stands_left}

abbrev AllEnabled : List Proposed → Type 0
AllEnabled [] = ⊤
AllEnabled (p ∷ ps) = Enabled p.instance p.reading × AllEnabled ps

all_more : (ps : List Proposed) (p : Proposed) → AllEnabled ps → Enabled p.instance p.reading → AllEnabled (ps ++ p ∷ [])
all_more [] p h e = (e, tt)
all_more (q ∷ ps) p h e = (h.0, all_more ps p h.1 e)

-- what holds at each moment
record Fine (first : Sparse) (s : State) : Type 0 where
  stands : Stands s.book
  start : s.book.start ≡ first
  pending : (w : ℕ) → AllEnabled (s.pending w)

put_all : (f : ℕ → List Proposed) (w : ℕ) (ps : List Proposed) → ((v : ℕ) → AllEnabled (f v)) → AllEnabled ps → (v : ℕ) → AllEnabled (put f w ps v)
unfolding put
put_all f w ps h k v = by (nat_eq v w)
  where
    by : (b : Bool) → AllEnabled (if b then ps else f v)
    by true = k
    by false = h v

same_start : (b : Ledger) (w : ℕ) (p : Proposed) (o : Outcome) → (left_by b w p o).start ≡ b.start
same_start b w p (Applied k) = with_start p.instance
  where
    with_start : (e : Instance) → (with_instance b w p.version e).start ≡ b.start
    with_start (at.Reduction r) = refl
    with_start (at.Verdict v) = refl
same_start b w p (Closed v) = refl
same_start b w p Full = refl
same_start b w p (Stale k) = refl
same_start b w p Past = refl
same_start b w p NotDecimal = refl
same_start b w p NoMemory = refl

fine_commit : (start : Sparse) (s : State) (w : ℕ) (ps : List Proposed) (o : Option Outcome) (t : State) → Fine start s → AllEnabled ps → Commits s w ps o t → Fine start t
fine_commit start s w [] None t f on c = subst (Fine start) (sym c) f
fine_commit start s w [] (Some o) t f on c = absurd c
fine_commit start s w (p ∷ ps) None t f on c = absurd c
fine_commit start s w (p ∷ ps) (Some o) t f on c = subst (Fine start) (sym c.1) (record {
  stands = stands_left s.book w p o f.stands on.0 c.0;
  start = same_start s.book w p o ∙ f.start;
  pending = put_all s.pending w ps f.pending on.1;
})

fine_step : (start : Sparse) (s : State) (h : Happening) (o : Option Outcome) (t : State) → Fine start s → IsProposal h → Steps s h o t → Fine start t
fine_step start s (Freeze w) o t f i st = subst (Fine start) (sym st.1) (record { stands = f.stands; start = f.start; pending = f.pending })
fine_step start s (Propose w p) o t f i st = subst (Fine start) (sym st.1) (record {
  stands = f.stands;
  start = f.start;
  pending = put_all s.pending w (s.pending w ++ p ∷ []) f.pending (all_more (s.pending w) p (f.pending w) i);
})
fine_step start s (Commit w) o t f i st = fine_commit start s w (s.pending w) o t f (f.pending w) st

fine_runs : (start : Sparse) (s : State) (hs : List (Happening × Option Outcome)) (t : State) → Fine start s → AreProposals hs → Runs s hs t → Fine start t
fine_runs start s [] t f i r = subst (Fine start) (sym r) f
fine_runs start s ((h, o) ∷ hs) t f i r = fine_runs start r.0 hs t (fine_step start s h o r.0 f i.0 r.1) i.1 r.2

pub world_stands : (b : Ledger) (hs : List (Happening × Option Outcome)) (t : State) → Stands b → AreProposals hs → Runs (opened b) hs t → Stands t.book × (t.book.start ≡ b.start) × Means t.book
world_stands b hs t s i r = let f = fine_runs b.start (opened b) hs t (record { stands = s; start = refl; pending = λ w. tt }) i r in (f.stands, f.start, book_means t.book f.stands)
