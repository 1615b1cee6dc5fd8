-- Numbers of changes alone tell whether what was read of an earlier problem of a book stands.
use Rattle.std.proofs.Common.{◌≡◌, ◌⊎◌, inl, inr, ℕ, zero, suc, ◌+◌, ◌-◌, ◌^◌, ◌<◌, ◌≤◌, List, [], ◌∷◌, length, map, take, drop, refl, sym, ap, ap₂, ◌∙◌, subst, arith}
use Rattle.std.specs.Prelude.{Err, IfErr, Ok, OnOk, Result}
use Rattle.std.proofs.lemmas.Bool.{cases_lt}
use mathlib.Core.List.{head-eq_of_cons-eq, tail-eq_of_cons-eq}
use Rattle.fractions.specs.declared.Numbers.{Numbers}
use Rattle.problem_model.specs.declared.part.Part.{Part}
use Rattle.problem_model.specs.declared.part.Read.{Read}
use Rattle.problem_model.specs.Parts.{changes_of}
use Rattle.problem_model.specs.Reading.{Agrees, DiffersAt, read_of}
use Rattle.problem_model.specs.Sparse.{Sparse}
use Rattle.edit_laws.specs.Telling.{IsTold}
use Rattle.presolve_model.specs.declared.instance.Reduction.{Reduction}
use Rattle.presolve_model.specs.Changes.{changed}
use Rattle.presolve_model.specs.Enabled.{reads}
use Rattle.presolve_model.specs.Given.{Proposed}
use Rattle.presolve_model.specs.Ledger.{Ledger, Stands}
use Rattle.presolve_model.specs.Replay.{replay, Replays}
use Rattle.presolve_model.proofs.Histories.{counted_along, told_along}
use Rattle.history_laws.proofs.Keeping.{sparse_replay}
use Rattle.instances.specs.Moved.{NumberDiffersAt, NumbersStand}
use Rattle.txn_book.specs.Sharing.{IsFrom, past_problem}

-- ---- a history in two parts
pub replay_parts : (p : Sparse) (n : ℕ) (rs : List Reduction) → replay p rs ≡ replay (replay p (take n rs)) (drop n rs)
replay_parts p zero rs = refl
replay_parts p (suc n) [] = refl
replay_parts p (suc n) (r ∷ rs) = replay_parts (changed r p) n rs

pub replays_front : (numbers : Numbers) (p : Sparse) (n : ℕ) (rs : List Reduction) → Replays numbers p rs → Replays numbers p (take n rs)
replays_front numbers p zero rs h = tt
replays_front numbers p (suc n) [] h = tt
replays_front numbers p (suc n) (r ∷ rs) h = (h.0, replays_front numbers (changed r p) n rs h.1)

pub replays_rest : (numbers : Numbers) (p : Sparse) (n : ℕ) (rs : List Reduction) → Replays numbers p rs → Replays numbers (replay p (take n rs)) (drop n rs)
replays_rest numbers p zero rs h = h
replays_rest numbers p (suc n) [] h = tt
replays_rest numbers p (suc n) (r ∷ rs) h = replays_rest numbers (changed r p) n rs h.1

pub long_parts : (n : ℕ) (rs : List Reduction) → length (take n rs) + length (drop n rs) ≡ length rs
long_parts zero rs = omega arith
long_parts (suc n) [] = refl
long_parts (suc n) (r ∷ rs) = let h = long_parts n rs in omega (arith, h)

none_left : (rs : List Reduction) → length rs ≡ 0 → rs ≡ []
none_left [] e = refl
none_left (r ∷ rs) e = absurd (omega (arith, e))

-- ---- readings of one problem, where what has changed as often holds what it held
module _ (old now : Sparse) (stands : (a : Part) → changes_of now a ≡ changes_of old a → read_of now a ≡ read_of old a) where
  all_agree : (ps : List Part) → NumbersStand now (map (read_of old) ps) → Agrees now (map (read_of old) ps)
  all_agree [] h = refl
  all_agree (a ∷ ps) h = ap₂ (λ (x : Read) (xs : List Read). x ∷ xs) (stands a (head-eq_of_cons-eq h)) (all_agree ps (tail-eq_of_cons-eq h))

  some_agree : (k : ℕ) (ps : List Part) → NumbersStand now (take k (map (read_of old) ps)) → Agrees now (take k (map (read_of old) ps))
  some_agree zero ps h = refl
  some_agree (suc k) [] h = refl
  some_agree (suc k) (a ∷ ps) h = ap₂ (λ (x : Read) (xs : List Read). x ∷ xs) (stands a (head-eq_of_cons-eq h)) (some_agree k ps (tail-eq_of_cons-eq h))

-- ---- what was read of an earlier problem of the book
module _ (b : Ledger) (p : Proposed) (s : Stands b) (short : b.limit < 2 ^ 64) (t : IsFrom b p) where
  now_is : b.problem ≡ replay (past_problem b p.version) (drop p.version b.history)
  now_is = s.problem ∙ replay_parts b.start p.version b.history

  told : (a : Part) → IsTold (past_problem b p.version) b.problem a
  told a = subst (λ (q : Sparse). IsTold (past_problem b p.version) q a) (sym now_is)
      (told_along b.numbers (past_problem b p.version) (drop p.version b.history) a
      (sparse_replay b.numbers b.start (take p.version b.history) s.sound (replays_front b.numbers b.start p.version b.history s.replays))
      (replays_rest b.numbers b.start p.version b.history s.replays))

  few : (a : Part) → changes_of (past_problem b p.version) a ≤ length (take p.version b.history)
  few a =
      let up : changes_of (past_problem b p.version) a ≤ changes_of b.start a + length (take p.version b.history) =
      counted_along b.numbers b.start (take p.version b.history) a s.sound (replays_front b.numbers b.start p.version b.history s.replays) in
      omega (arith, up, s.unchanged a)

  -- at the end of the type of its number nothing is left of the history
  same_problem : 2 ^ 64 - 1 ≤ length (take p.version b.history) → b.problem ≡ past_problem b p.version
  same_problem full =
      let left : length (drop p.version b.history) ≡ 0 = (let long = long_parts p.version b.history in omega (arith, full, long, short, s.within)) in
      now_is ∙ ap (replay (past_problem b p.version)) (none_left (drop p.version b.history) left)

  stands_still : (a : Part) → changes_of b.problem a ≡ changes_of (past_problem b p.version) a → read_of b.problem a ≡ read_of (past_problem b p.version) a
  stands_still a e = by (cases_lt (changes_of (past_problem b p.version) a) (2 ^ 64 - 1))
    where
      by : (changes_of (past_problem b p.version) a < 2 ^ 64 - 1) ⊎ (2 ^ 64 - 1 ≤ changes_of (past_problem b p.version) a) → read_of b.problem a ≡ read_of (past_problem b p.version) a
      by (inl l) = let c = told a l e in λ i. record { part = a; changes = e i; contents = c i }
      by (inr g) = let f = few a in ap (λ (q : Sparse). read_of q a) (same_problem (omega (arith, g, f)))

  pub agrees_now : NumbersStand b.problem p.reading → Agrees b.problem p.reading
  agrees_now h = subst (Agrees b.problem) (sym t.reading)
      (all_agree (past_problem b p.version) b.problem stands_still (reads (past_problem b p.version) p.instance) (subst (NumbersStand b.problem) t.reading h))

  pub differs_now : (k : ℕ) → NumberDiffersAt b.problem p.reading k → DiffersAt b.problem p.reading k
  differs_now k d = record {
    within = d.within;
    before = subst (λ (rs : List Read). Agrees b.problem (take k rs)) (sym t.reading)
        (some_agree (past_problem b p.version) b.problem stands_still k (reads (past_problem b p.version) p.instance) (subst (λ (rs : List Read). NumbersStand b.problem (take k rs)) t.reading d.before));
    here = λ r at same. d.here r at (ap (λ (x : Read). x.changes) same);
  }

-- what a comparison of numbers answers, one of contents would
pub agrees_too : {X E : Type 0} (b : Ledger) (p : Proposed) (r : Result X E) → Stands b → b.limit < 2 ^ 64 → IsFrom b p → OnOk r (NumbersStand b.problem p.reading) → OnOk r (Agrees b.problem p.reading)
agrees_too b p (Ok x) s short t h = agrees_now b p s short t h
agrees_too b p (Err e) s short t h = tt

pub differs_too : {X E : Type 0} (place : E → ℕ) (b : Ledger) (p : Proposed) (r : Result X E) → Stands b → b.limit < 2 ^ 64 → IsFrom b p → IfErr r (λ e. NumberDiffersAt b.problem p.reading (place e)) → IfErr r (λ e. DiffersAt b.problem p.reading (place e))
differs_too place b p (Ok x) s short t h = tt
differs_too place b p (Err e) s short t h = differs_now b p s short t (place e) h
