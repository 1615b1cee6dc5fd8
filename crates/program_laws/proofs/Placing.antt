-- Points of the written program at the ids of the original columns.
use Rattle.std.proofs.Common.{◌≡◌, ◌≢◌, ℕ, zero, suc, ◌+◌, Bool, true, false, List, [], ◌∷◌, length, map, drop, get_or, sym, refl, ap, ◌∙◌, arith}
use Rattle.std.specs.Prelude.{if◌then◌else◌}
use Rattle.fractions.specs.Number.{Number, zero_ℚ}
use Rattle.fractions.proofs.Totals.{put-same, put-other}
use Rattle.lp_model.specs.Vectors.{Vector, vector_of}
use Rattle.lp_passages.specs.Renumbering.{IsLeftOut, spread}
use Rattle.lp_passages.proofs.Ids.{ids-at, spread-off}
use Rattle.undo_records.specs.declared.label.Label.{Label}
use Rattle.undo_records.specs.Lift.{placed}
use Rattle.problem_model.specs.declared.line.Line.{Line}
use Rattle.problem_model.specs.Programs.{live_ids_from, live_ids}
use Rattle.program_laws.proofs.Ranks.{id_if, none_before, shift, ids_ascend}

-- the numbers after the first
rest_of : (xs : List Number) → vector_of (drop 1 xs) ≡ (λ a. vector_of xs (suc a))
rest_of [] = refl
rest_of (x ∷ xs) = refl

-- a smaller id is left out
below_out : (k : ℕ) (ls : List Line) → IsLeftOut k (live_ids_from (k + 1) ls)
below_out k ls a l e = let p = ids-at (live_ids_from (k + 1) ls) (k + 1) ((k + 1) + length ls) a (ids_ascend (k + 1) ((k + 1) + length ls) ls (omega arith)) l in absurd (omega (arith, p.0, e))

-- the first of a list of flags, and the others
first_same : (c : Label) (cs : List Label) (y : Line) (ls : List Line) → map (λ (c : Label). c.live) (c ∷ cs) ≡ map (λ (l : Line). l.live) (y ∷ ls) → c.live ≡ y.live
first_same c cs y ls e = ap (λ (bs : List Bool). get_or bs 0 false) e

others_same : (c : Label) (cs : List Label) (y : Line) (ls : List Line) → map (λ (c : Label). c.live) (c ∷ cs) ≡ map (λ (l : Line). l.live) (y ∷ ls) → map (λ (c : Label). c.live) cs ≡ map (λ (l : Line). l.live) ls
others_same c cs y ls e = ap (drop 1) e

placed-at : (k : ℕ) (cs : List Label) (ls : List Line) (xs : List Number) → map (λ (c : Label). c.live) cs ≡ map (λ (l : Line). l.live) ls
    → (i : ℕ) → vector_of (placed cs xs) i ≡ spread (live_ids_from k ls) (vector_of xs) (k + i)
placed-at k [] [] xs e i = refl
placed-at k [] (y ∷ ls) xs e i = absurd (let h : 0 ≡ suc (length (map (λ (l : Line). l.live) ls)) = ap length e in omega (arith, h))
placed-at k (c ∷ cs) [] xs e i = absurd (let h : suc (length (map (λ (c : Label). c.live) cs)) ≡ 0 = ap length e in omega (arith, h))
placed-at k (c ∷ cs) (y ∷ ls) xs e i =
    ap (λ (b : Bool). vector_of (if b then vector_of xs 0 ∷ placed cs (drop 1 xs) else zero_ℚ ∷ placed cs xs) i) (first_same c cs y ls e)
    ∙ by y.live i (λ ys m. placed-at (k + 1) cs ls ys (others_same c cs y ls e) m ∙ ap (spread (live_ids_from (k + 1) ls) (vector_of ys)) (shift k m))
  where
    here : k ≡ k + 0
    here = omega arith

    -- from the numbers after the first on
    by : (b : Bool) (i : ℕ) → ((ys : List Number) (m : ℕ) → vector_of (placed cs ys) m ≡ spread (live_ids_from (k + 1) ls) (vector_of ys) (k + suc m))
        → vector_of (if b then vector_of xs 0 ∷ placed cs (drop 1 xs) else zero_ℚ ∷ placed cs xs) i ≡ spread (id_if b k (live_ids_from (k + 1) ls)) (vector_of xs) (k + i)
    by true zero next = sym (put-same (spread (live_ids_from (k + 1) ls) (λ a. vector_of xs (suc a))) k (vector_of xs 0)) ∙ ap (spread (k ∷ live_ids_from (k + 1) ls) (vector_of xs)) here
    by true (suc m) next =
        let other : k + suc m ≢ k = omega arith in
        next (drop 1 xs) m ∙ ap (λ (x : Vector). spread (live_ids_from (k + 1) ls) x (k + suc m)) (rest_of xs)
        ∙ sym (put-other (spread (live_ids_from (k + 1) ls) (λ a. vector_of xs (suc a))) k (vector_of xs 0) (k + suc m) other)
    by false zero next = sym (spread-off (live_ids_from (k + 1) ls) k (vector_of xs) (below_out k ls)) ∙ ap (spread (live_ids_from (k + 1) ls) (vector_of xs)) here
    by false (suc m) next = next xs m

pub placed_spread : (cs : List Label) (ls : List Line) (xs : List Number) → map (λ (c : Label). c.live) cs ≡ map (λ (l : Line). l.live) ls → vector_of (placed cs xs) ≡ spread (live_ids ls) (vector_of xs)
placed_spread cs ls xs e t i = (placed-at 0 cs ls xs e i ∙ ap (spread (live_ids ls) (vector_of xs)) (none_before i)) t
