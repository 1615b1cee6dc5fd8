-- What a book means, and that a commit keeps what a book keeps.
use Rattle.std.proofs.Common.{◌≡◌, ℕ, ◌+◌, ◌<◌, true, List, [], ◌∷◌, ◌++◌, length, Option, Some, None, IfSome, sym, ap, ap₂, ◌∙◌, subst, arith, length-append}
use Rattle.fractions.specs.Number.{◌-ℚ◌}
use Rattle.lp_model.specs.declared.program.Sense.TheVariants.{Min}
use Rattle.lp_model.specs.Optimality.{Continuous}
use Rattle.lp_model.specs.Reductions.{Reduces, ReducesPairs}
use Rattle.undo_records.specs.Lift.{lift}
use Rattle.undo_records.specs.declared.undo.Undo.{Undo}
use Rattle.undo_pairs.specs.LiftPair.{lift_pair}
use Rattle.problem_model.specs.Showing.{shown}
use Rattle.problem_model.specs.Sparse.{Sparse}
use Rattle.problem_model.specs.declared.part.Read.{Read}
use Rattle.presolve_model.specs.declared.instance.Reduction.{Reduction}
use Rattle.presolve_model.specs.declared.instance.Verdict.{Verdict}
use Rattle.presolve_model.specs.declared.instance.Instance.{Instance}
use Rattle.presolve_model.specs.declared.instance.Instance.TheVariants as at
use Rattle.presolve_model.specs.declared.outcome.Outcome.{Outcome}
use Rattle.presolve_model.specs.declared.outcome.Outcome.TheVariants.{Closed, Full, Stale, Past, NotDecimal, Applied, NoMemory}
use Rattle.presolve_model.specs.Given.{Proposed}
use Rattle.presolve_model.specs.Enabled.{enabled_on, Enabled}
use Rattle.problem_model.specs.Reading.{Agrees}
use Rattle.presolve_model.specs.Changes.{changed}
use Rattle.presolve_model.specs.Tables.{record_of}
use Rattle.presolve_model.specs.Meanings.{Meant}
use Rattle.presolve_model.specs.Replay.{replay, CanApply}
use Rattle.presolve_model.specs.Ledger.{Ledger, Stands}
use Rattle.presolve_model.specs.Commits.{Allows, left_by, with_instance, HasRoom, Fits, CanWrite}
use Rattle.presolve_model.specs.Tallies.{AreCountsOf}
use Rattle.presolve_model.proofs.ByCases.{records_tallied, tallied_long}
use Rattle.presolve_model.proofs.Tabled.{enabled_by, same_size}
use Rattle.history_laws.specs.Meanings.{Means}
use Rattle.history_laws.proofs.Histories.{history_reduces, history_pairs, replay_grows, replays_grow, records_grow}
use Rattle.history_laws.proofs.Keeping.{verdict_means}
use Rattle.history_laws.proofs.Telling.{tells_grow}

-- one reduction more
pub stands_reduction : (b : Ledger) (w version : ℕ) (r : Reduction) → Stands b → b.verdict ≡ None → length b.history < b.limit → CanApply b.numbers b.problem r → Stands (with_instance b w version (at.Reduction r))
stands_reduction b w version r s undecided room can = record {
  sound = s.sound;
  writable = s.writable;
  unchanged = s.unchanged;
  replays = replays_grow b.numbers b.start b.history r s.replays (subst (λ q. CanApply b.numbers q r) s.problem can);
  problem = ap (changed r) s.problem ∙ sym (replay_grows b.start b.history r);
  records = ap₂ (λ us q. us ++ record_of r q ∷ []) s.records s.problem ∙ sym (records_grow b.start b.history r);
  transactions = tells_grow b w version r s;
  counts = tallied_long r b.tally (length (changed r b.problem).matrix.columns) (subst (λ (n : ℕ). AreCountsOf n b.tally) (sym (same_size b.problem r).columns) s.counts);
  tally = records_tallied b.problem r b.tally b.records can.enabled s.counts s.tally;
  verdict = subst (λ v. IfSome v (λ w. enabled_on (changed r b.problem) (at.Verdict w) ≡ true)) (sym undecided) tt;
  within = let e : length (b.history ++ r ∷ []) ≡ length b.history + 1 = length-append _ _ in omega (arith, room, e);
}

-- a verdict that closes it
pub stands_verdict : (b : Ledger) (w version : ℕ) (v : Verdict) → Stands b → enabled_on b.problem (at.Verdict v) ≡ true → Stands (with_instance b w version (at.Verdict v))
stands_verdict b w version v s e = record { sound = s.sound; writable = s.writable; unchanged = s.unchanged; replays = s.replays; problem = s.problem; records = s.records; transactions = s.transactions; counts = s.counts; tally = s.tally; verdict = e; within = s.within }

pub stands_with : (b : Ledger) (w version : ℕ) (e : Instance) (rs : List Read) → Stands b → Enabled e rs → b.verdict ≡ None → HasRoom b e → Agrees b.problem rs → Fits e b.problem → CanWrite b e → Stands (with_instance b w version e)
stands_with b w version (at.Reduction r) rs s on undecided room agrees fits writes =
    stands_reduction b w version r s undecided room (record { enabled = enabled_by b.problem (at.Reduction r) rs agrees on; fits = fits; written = writes })
stands_with b w version (at.Verdict v) rs s on undecided room agrees fits writes = stands_verdict b w version v s (enabled_by b.problem (at.Verdict v) rs agrees on)

pub stands_left : (b : Ledger) (w : ℕ) (p : Proposed) (o : Outcome) → Stands b → Enabled p.instance p.reading → Allows b p o → Stands (left_by b w p o)
stands_left b w p (Applied k) s on a = stands_with b w p.version p.instance p.reading s on a.0.undecided a.0.room a.0.agrees a.1 a.2
stands_left b w p (Closed v) s on a = s
stands_left b w p Full s on a = s
stands_left b w p (Stale k) s on a = s
stands_left b w p Past s on a = s
stands_left b w p NotDecimal s on a = s
stands_left b w p NoMemory s on a = s

-- ---- what a book means
reduces_of : (b : Ledger) → Stands b → Reduces Min (shown b.start) (shown b.problem) (lift b.records) (b.problem.offset -ℚ b.start.offset)
reduces_of b s = subst (λ q. Reduces Min (shown b.start) (shown q) (lift b.records) (q.offset -ℚ b.start.offset)) (sym s.problem)
    (subst (λ us. Reduces Min (shown b.start) (shown (replay b.start b.history)) (lift us) ((replay b.start b.history).offset -ℚ b.start.offset)) (sym s.records)
    (history_reduces b.numbers b.start b.history s.sound s.replays))

pairs_of : (b : Ledger) → Stands b → Continuous (shown b.start) → ReducesPairs Min (shown b.start) (shown b.problem) (lift_pair b.records)
pairs_of b s continuous = subst (λ (q : Sparse). ReducesPairs Min (shown b.start) (shown q) (lift_pair b.records)) (sym s.problem)
    (subst (λ (us : List Undo). ReducesPairs Min (shown b.start) (shown (replay b.start b.history)) (lift_pair us)) (sym s.records)
    (history_pairs b.numbers b.start b.history s.sound s.replays continuous))

verdict_of : (b : Ledger) → Stands b → IfSome b.verdict (λ v. Meant v Min (shown b.start))
verdict_of b s = by b.verdict s.verdict
  where
    by : (o : Option Verdict) → IfSome o (λ v. enabled_on b.problem (at.Verdict v) ≡ true) → IfSome o (λ v. Meant v Min (shown b.start))
    by None e = tt
    by (Some v) e = verdict_means b.numbers b.start b.history v s.sound s.replays (subst (λ q. enabled_on q (at.Verdict v) ≡ true) s.problem e)

pub book_means : (b : Ledger) → Stands b → Means b
book_means b s = record { reduces = reduces_of b s; pairs = pairs_of b s; verdict = verdict_of b s }
