-- A run that goes on.
use Rattle.std.proofs.Common.{◌≡◌, inr, ℕ, suc, ◌+◌, ◌<◌, add-one, subst, sym, arith}
use Rattle.lp_model.specs.LinearProgram.{LinearProgram}
use Rattle.tableau_laws.specs.Tableaus.{Tableau, start}
use Rattle.tableau_laws.specs.Room.{StartFits}
use Rattle.simplex_laws.specs.Runs.{Asks, Makes, Reaches, Comes, NoneCrossed, EndsPast}
use Rattle.simplex_steps.specs.Steps.{IsStepPast}

pub comes_none : (M : LinearProgram) (N : ℕ) (t : Tableau) → NoneCrossed M → StartFits M → t ≡ start M → Comes M N 0 t
comes_none M N t n r e = record { in_order = n; room = r; few = omega arith; reached = e }

pub comes_more : (M : LinearProgram) (N k : ℕ) (t next : Tableau) → k < N → Comes M N k t → (asked : Asks M t) → Makes M t asked next → Comes M N (k + 1) next
comes_more M N k t next l c asked m = record {
  in_order = c.in_order;
  room = c.room;
  few = omega arith;
  reached = let r : Reaches M (suc k) next = (t, c.reached, asked, m) in subst (λ n. Reaches M n next) (sym (add-one k)) r;
}

pub run_past : (M : LinearProgram) (N k : ℕ) (t : Tableau) → k < N → Comes M N k t → IsStepPast M t → EndsPast M N k
run_past M N k t l c p = inr (t, c, l, p.0, p.1)
