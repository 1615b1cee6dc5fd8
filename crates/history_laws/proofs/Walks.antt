-- What was walked reduces the program, with duals too where no column has to be whole, and its records are sound.
use Rattle.std.proofs.Common.{◌≡◌, ℕ, suc, nat_eq, ◌+◌, ◌<◌, Bool, true, false, All, List, [], ◌∷◌, length, map, replicate, sym, refl, ap, ap₂, ◌∙◌, subst, pos, if◌then◌else◌, drop, get_or, arith}
use Rattle.std.proofs.lemmas.List.{length-map}
use Rattle.std.proofs.lemmas.Bool.{true≢false}
use Rattle.fractions.specs.Ring.{ring, v, num, ◌:+◌, ◌:-◌}
use Rattle.fractions.specs.Number.{Number, rational, zero_ℚ, neg_ℚ, ◌+ℚ◌, ◌-ℚ◌}
use Rattle.fractions.specs.Total.{put}
use Rattle.fractions.specs.declared.Numbers.{Numbers}
use Rattle.lp_model.specs.declared.program.Sense.{Sense}
use Rattle.lp_model.specs.declared.program.Sense.TheVariants.{Min, Max}
use Rattle.lp_model.specs.declared.program.ColumnDef.{ColumnDef}
use Rattle.lp_model.specs.ProgramData.{ProgramData}
use Rattle.lp_model.specs.Meaning.{meaning}
use Rattle.lp_model.specs.LinearProgram.{LinearProgram}
use Rattle.lp_model.specs.Vectors.{Vector}
use Rattle.lp_model.specs.Optimality.{Continuous}
use Rattle.lp_model.specs.Reductions.{Priced, Reduces, ReducesPairs}
use Rattle.lp_model.specs.Writable.{EntriesAscend}
use Rattle.lp_model.specs.Turning.{in_sense, minimizing, turned}
use Rattle.lp_passages.specs.Renumbering.{spread, spread_pair}
use Rattle.lp_theory.proofs.Steps.{compose, compose_pairs}
use Rattle.lp_passages.proofs.Turns.{pairs_in, reduces_in}
use Rattle.pair_laws.proofs.SenseLaws.{agreeing}
use Rattle.undo_records.specs.Postsolve.{Postsolve}
use Rattle.undo_records.specs.Lift.{lift}
use Rattle.undo_pairs.specs.LiftPair.{lift_pair}
use Rattle.undo_records.specs.Sound.{IsSound}
use Rattle.lp_model.specs.Flags.{Flags}
use Rattle.undo_records.specs.Walk.{Walks, AreSound, all_live, flags_of as told_flags}
use Rattle.undo_records.specs.declared.label.Label.{Label}
use Rattle.undo_records.specs.declared.undo.Undo.{Undo}
use Rattle.problem_model.specs.Flags.{flags_of}
use Rattle.problem_model.specs.Matrices.{line_at}
use Rattle.problem_model.specs.Sparse.{Sparse}
use Rattle.problem_model.specs.declared.line.Line.{Line}
use Rattle.problem_model.specs.Problems.{IsSparse}
use Rattle.problem_model.specs.Programs.{IsProblemOf, line_of, written_program, live_ids, live_ids_from}
use Rattle.problem_model.specs.Showing.{shown}
use Rattle.presolve_model.specs.Replay.{replay, records}
use Rattle.presolve_model.specs.Accounts.{Walked, ReducesPairsTo, ReducesTo, at_original_ids, live_labels_from, postsolved}
use Rattle.program_laws.specs.Shapes.{IsOf}
use Rattle.program_laws.proofs.ProblemsShow.{problem_shows_program}
use Rattle.program_laws.proofs.Negating.{neg_zero}
use Rattle.program_laws.proofs.WrittenShow.{written_pairs, written_points}
use Rattle.history_laws.proofs.Histories.{history_pairs, history_reduces}
use Rattle.history_laws.proofs.Keeping.{records_sound, records_walk, sparse_replay}
use Rattle.history_laws.proofs.Sizes.{replay_size}

-- labels and lines that are live alike have the same live ids
pub same_ids : (k : ℕ) (labels : List Label) (lines : List Line) → map (λ l. l.live) labels ≡ map (λ l. l.live) lines → live_labels_from k labels ≡ live_ids_from k lines
same_ids k [] [] e = refl
same_ids k [] (l ∷ ls) e = absurd (let f = ap length e in omega (arith, f))
same_ids k (a ∷ bs) [] e = absurd (let f = ap length e in omega (arith, f))
same_ids k (a ∷ bs) (l ∷ ls) e = by a.live l.live refl refl (ap (λ xs. get_or xs 0 false) e) (same_ids (k + 1) bs ls (ap (drop 1) e))
  where
    by : (b c : Bool) → a.live ≡ b → l.live ≡ c → a.live ≡ l.live → live_labels_from (k + 1) bs ≡ live_ids_from (k + 1) ls → live_labels_from k (a ∷ bs) ≡ live_ids_from k (l ∷ ls)
    by true true p q h r = rw (p, q) (ap (λ ids. k ∷ ids) r)
    by false false p q h r = rw (p, q) r
    by true false p q h r = absurd (true≢false (sym p ∙ h ∙ q))
    by false true p q h r = absurd (true≢false (sym q ∙ sym h ∙ p))

pub is_of : (program : ProgramData) (p : Sparse) (q : Sparse) → IsProblemOf program p → length q.matrix.rows ≡ length p.matrix.rows → length q.matrix.columns ≡ length p.matrix.columns → q.constant ≡ p.constant → IsOf program q
is_of program p q o er ec ek = record { rows = er ∙ o.rows; columns = ec ∙ ap length o.columns ∙ length-map program.columns _; constant = ek ∙ o.constant }

-- the steps in the minimizing sense, with the ids of what was deleted left out at the end
in_min : (numbers : Numbers) (program reduced : ProgramData) (told : Postsolve) → EntriesAscend program → (w : Walked numbers program reduced told)
    → Reduces Min (minimizing program.sense (meaning program)) (minimizing program.sense (meaning reduced)) (postsolved told) (replay w.start w.history).offset
in_min numbers program reduced told asc w =
    let p : Sparse = w.start in
    let q : Sparse = replay p w.history in
    let ids : List ℕ = live_ids q.matrix.columns in
    let first : LinearProgram = minimizing program.sense (meaning program) in
    let last : LinearProgram = minimizing program.sense (meaning (written_program program q)) in
    let size = replay_size p w.history in
    let sparse : IsSparse q = sparse_replay numbers p w.history w.opened.sound w.replays in
    let whole = compose Min (shown p) (shown q) last (lift (records p w.history)) (spread ids) (q.offset -ℚ p.offset) zero_ℚ
    (history_reduces numbers p w.history w.opened.sound w.replays)
    (written_points program q sparse (is_of program p q w.opened size.rows size.columns size.constant)) in
    let here = subst (λ k. Reduces Min (shown p) last (λ x. lift (records p w.history) (spread ids x)) k)
    (ap (λ o. (q.offset -ℚ o) +ℚ zero_ℚ) w.opened.offset ∙ ring rational (q.offset ∷ []) ((v 0 :- num (pos 0)) :+ num (pos 0)) (v 0) refl) whole in
    let from = subst (λ M. Reduces Min M last (λ x. lift (records p w.history) (spread ids x)) q.offset) (problem_shows_program program p w.opened) here in
    let to = subst (λ r. Reduces Min first (minimizing program.sense (meaning r)) (λ x. lift (records p w.history) (spread ids x)) q.offset) (sym w.written) from in
    let named = subst (λ us. Reduces Min first (minimizing program.sense (meaning reduced)) (λ x. lift us (spread ids x)) q.offset) (sym w.undos) to in
    subst (λ ks. Reduces Min first (minimizing program.sense (meaning reduced)) (λ x. lift told.undos (spread ks x)) q.offset)
    (sym (same_ids 0 told.columns q.matrix.columns w.columns)) named

pub walked_reduces : (numbers : Numbers) (program reduced : ProgramData) (told : Postsolve) → EntriesAscend program → Walked numbers program reduced told → ReducesTo program reduced told
walked_reduces numbers program reduced told asc w =
    subst (λ k. Reduces program.sense (meaning program) (meaning reduced) (postsolved told) k) (sym w.offset)
    (reduces_in program.sense (meaning program) (meaning reduced) (postsolved told) _
    (in_min numbers program reduced told asc w))

-- ---- pairs
-- a program without whole columns has none as it is minimized
continuous_minimizing : (d : Sense) (M : LinearProgram) → Continuous M → Continuous (minimizing d M)
continuous_minimizing Min M h = h
continuous_minimizing Max M h = h

-- numbers negated and placed are placed and negated
put_negated : (f : Vector) (i : ℕ) (a : Number) (k : ℕ) → put (λ j. neg_ℚ (f j)) i (neg_ℚ a) k ≡ neg_ℚ (put f i a k)
unfolding put
put_negated f i a k = by (nat_eq k i)
  where
    by : (b : Bool) → (if b then neg_ℚ a else neg_ℚ (f k)) ≡ neg_ℚ (if b then a else f k)
    by true = refl
    by false = refl

spread_negated : (ids : List ℕ) (x : Vector) (k : ℕ) → spread ids (λ j. neg_ℚ (x j)) k ≡ neg_ℚ (spread ids x k)
spread_negated [] x k = sym neg_zero
spread_negated (i ∷ ids) x k =
    ap (λ (f : Vector). put f i (neg_ℚ (x 0)) k) (λ t j. spread_negated ids (λ a. x (suc a)) j t) ∙ put_negated (spread ids (λ a. x (suc a))) i (x 0) k

turned_placed : (rows columns : List ℕ) (p : Priced) → spread_pair rows columns (turned p) ≡ turned (spread_pair rows columns p)
turned_placed rows columns p = λ t. record { x = spread columns p.x; y = λ i. spread_negated rows p.y i t; z = λ j. spread_negated columns p.z j t }

-- placed in the file's sense, or in the minimizing one
placed_in : (d : Sense) (us : List Undo) (rows columns : List ℕ) (p : Priced)
    → in_sense d (lift_pair us) (spread_pair rows columns p) ≡ in_sense d (λ q. lift_pair us (spread_pair rows columns q)) p
placed_in Min us rows columns p = refl
placed_in Max us rows columns p = ap (λ (q : Priced). turned (lift_pair us q)) (sym (turned_placed rows columns p))

pairs_in_min : (numbers : Numbers) (program reduced : ProgramData) (told : Postsolve) (w : Walked numbers program reduced told) → Continuous (meaning program)
    → ReducesPairs Min (minimizing program.sense (meaning program)) (minimizing program.sense (meaning reduced)) (λ p. lift_pair told.undos (at_original_ids told p))
pairs_in_min numbers program reduced told w continuous =
    let p : Sparse = w.start in
    let q : Sparse = replay p w.history in
    let rows : List ℕ = live_ids q.matrix.rows in
    let columns : List ℕ = live_ids q.matrix.columns in
    let first : LinearProgram = minimizing program.sense (meaning program) in
    let last : LinearProgram = minimizing program.sense (meaning (written_program program q)) in
    let size = replay_size p w.history in
    let sparse : IsSparse q = sparse_replay numbers p w.history w.opened.sound w.replays in
    let shows : shown p ≡ first = problem_shows_program program p w.opened in
    let whole = compose_pairs Min (shown p) (shown q) last (lift_pair (records p w.history)) (spread_pair rows columns)
    (history_pairs numbers p w.history w.opened.sound w.replays (subst Continuous (sym shows) (continuous_minimizing program.sense (meaning program) continuous)))
    (written_pairs program q sparse (is_of program p q w.opened size.rows size.columns size.constant)) in
    let from = subst (λ (M : LinearProgram). ReducesPairs Min M last (λ x. lift_pair (records p w.history) (spread_pair rows columns x))) shows whole in
    let to = subst (λ (r : ProgramData). ReducesPairs Min first (minimizing program.sense (meaning r)) (λ x. lift_pair (records p w.history) (spread_pair rows columns x))) (sym w.written) from in
    let named = subst (λ (us : List Undo). ReducesPairs Min first (minimizing program.sense (meaning reduced)) (λ x. lift_pair us (spread_pair rows columns x))) (sym w.undos) to in
    subst (λ (ks : List ℕ). ReducesPairs Min first (minimizing program.sense (meaning reduced)) (λ x. lift_pair told.undos (spread_pair ks (live_labels_from 0 told.columns) x)))
    (sym (same_ids 0 told.rows q.matrix.rows w.rows))
    (subst (λ (ks : List ℕ). ReducesPairs Min first (minimizing program.sense (meaning reduced)) (λ x. lift_pair told.undos (spread_pair rows ks x)))
    (sym (same_ids 0 told.columns q.matrix.columns w.columns)) named)

pub walked_pairs : (numbers : Numbers) (program reduced : ProgramData) (told : Postsolve) → Walked numbers program reduced told → told.sense ≡ program.sense → Continuous (meaning program) → ReducesPairsTo program reduced told
walked_pairs numbers program reduced told w same continuous =
    subst (λ (d : Sense). ReducesPairs program.sense (meaning program) (meaning reduced) (λ p. in_sense d (lift_pair told.undos) (at_original_ids told p))) (sym same)
    (agreeing program.sense (meaning program) (meaning reduced)
    (λ p. in_sense program.sense (lift_pair told.undos) (at_original_ids told p)) (in_sense program.sense (λ q. lift_pair told.undos (at_original_ids told q)))
    (placed_in program.sense told.undos (live_labels_from 0 told.rows) (live_labels_from 0 told.columns))
    (pairs_in program.sense (meaning program) (meaning reduced) (λ q. lift_pair told.undos (at_original_ids told q))
    (pairs_in_min numbers program reduced told w continuous)))

-- ---- the records are sound
rows_on : (lines : List Line) → ((i : ℕ) → i < length lines → (line_at lines i).live ≡ true) → map (λ l. l.live) lines ≡ replicate (length lines) true
rows_on [] h = refl
rows_on (l ∷ ls) h = ap₂ (λ b bs. b ∷ bs) (h 0 (omega arith)) (rows_on ls (λ i lt. h (suc i) (omega (arith, lt))))

columns_on : (cs : List ColumnDef) → map (λ l. l.live) (map (λ c. line_of c.entries) cs) ≡ replicate (length (map (λ c. line_of c.entries) cs)) true
columns_on [] = refl
columns_on (c ∷ cs) = ap (λ bs. true ∷ bs) (columns_on cs)

-- all of a program's problem is live
start_on : (program : ProgramData) (p : Sparse) → IsProblemOf program p → flags_of p ≡ all_live (length p.matrix.rows) (length p.matrix.columns)
start_on program p o = ap₂ {A = List Bool} {B = List Bool} {C = Flags} (λ rs cs. record { rows = rs; columns = cs })
    (rows_on p.matrix.rows (λ i lt. ap (λ l. l.live) (o.live i (subst (λ n. i < n) o.rows lt))))
    (subst (λ ls. map (λ l. l.live) ls ≡ replicate (length ls) true) (sym o.columns) (columns_on program.columns))

-- labels and lines that are live alike are as many
as_many : (labels : List Label) (lines : List Line) → map (λ l. l.live) labels ≡ map (λ l. l.live) lines → length lines ≡ length labels
as_many labels lines e = sym (length-map lines _) ∙ sym (ap length e) ∙ length-map labels _

pub walked_sound : (numbers : Numbers) (program reduced : ProgramData) (told : Postsolve) → Walked numbers program reduced told → AreSound told
walked_sound numbers program reduced told w =
    let p : Sparse = w.start in
    let q : Sparse = replay p w.history in
    let m : ℕ = length told.rows in
    let n : ℕ = length told.columns in
    let size = replay_size p w.history in
    let em : length p.matrix.rows ≡ m = sym size.rows ∙ as_many told.rows q.matrix.rows w.rows in
    let en : length p.matrix.columns ≡ n = sym size.columns ∙ as_many told.columns q.matrix.columns w.columns in
    let from : flags_of p ≡ all_live m n = start_on program p w.opened ∙ ap₂ all_live em en in
    let to : flags_of q ≡ told_flags told = sym (ap₂ {A = List Bool} {B = List Bool} {C = Flags} (λ rs cs. record { rows = rs; columns = cs }) w.rows w.columns) in
    let walk = subst (λ f. Walks f (records p w.history) (told_flags told)) from
    (subst (λ g. Walks (flags_of p) (records p w.history) g) to (records_walk numbers p w.history w.opened.sound w.replays)) in
    record {
      records = subst (λ us. All (IsSound m n) us) (sym w.undos) (records_sound numbers p w.history m n w.opened.sound w.replays em en);
      walk = subst (λ us. Walks (all_live m n) us (told_flags told)) (sym w.undos) walk;
    }
