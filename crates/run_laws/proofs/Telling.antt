-- What a book that was opened with a program's problem says of the program.
use Rattle.std.proofs.Common.{◌≡◌, All, Bool, true, false, ℕ, suc, List, [], ◌∷◌, length, map, sym, refl, ap, ◌∙◌, subst, arith, Option, Some, None, IfSome}
use Rattle.std.specs.List.{Contains}
use Rattle.std.proofs.lemmas.List.{length-map}
use Rattle.std.proofs.lemmas.List.Elements.{All-cons, All-nil}
use Rattle.std.specs.Prelude.{not, if◌then◌else◌}
use Rattle.fractions.specs.Number.{Number}
use Rattle.fractions.specs.declared.Numbers.{Numbers}
use Rattle.fractions.specs.Compare.{le_ℚ}
use Rattle.lp_model.specs.declared.program.Sense.TheVariants.{Min}
use Rattle.lp_model.specs.ProgramData.{ProgramData}
use Rattle.lp_model.specs.Meaning.{meaning}
use Rattle.lp_model.specs.Writable.{EntriesAscend, Writable}
use Rattle.lp_model.specs.Turning.{signed}
use Rattle.transactions.specs.declared.transactions.PartRead.{PartRead}
use Rattle.transactions.specs.Transactions.{IsPartOf, Transaction}
use Rattle.undo_records.specs.declared.label.Label.{Label}
use Rattle.undo_records.specs.Named.{AreTold}
use Rattle.undo_records.specs.Postsolve.{Postsolve}
use Rattle.undo_records.specs.Walk.{AreSound}
use Rattle.problem_model.specs.declared.part.Contents.TheVariants as holds
use Rattle.presolve_model.specs.declared.instance.Instance.TheVariants as at
use Rattle.presolve_model.specs.declared.instance.Verdict.{Verdict}
use Rattle.presolve_model.specs.declared.instance.Verdict.TheVariants as verdict
use Rattle.problem_model.specs.declared.line.Line.{Line}
use Rattle.problem_model.specs.declared.part.Part.{Part}
use Rattle.presolve_model.specs.declared.instance.Reduction.{Reduction}
use Rattle.presolve_model.specs.Accounts.{Walked}
use Rattle.presolve_model.specs.Changes.{changed}
use Rattle.presolve_model.specs.Transactions.{numbered, numbers_along, numbers_read, TellReadings}
use Rattle.presolve_model.proofs.Tabled.{same_size}
use Rattle.history_laws.proofs.Telling.{told_long}
use Rattle.place_laws.proofs.Parts.{reads_parts}
use Rattle.singleton_laws.specs.CrossedSides.{are_crossed}
use Rattle.presolve_model.specs.Conclusions.{Decided}
use Rattle.presolve_model.specs.Enabled.{enabled_on, reads}
use Rattle.presolve_model.specs.Meanings.{Meant}
use Rattle.presolve_model.proofs.ByCases.{meant_in}
use Rattle.lp_model.specs.EndTests.{is_in_order}
use Rattle.presolve_model.specs.Ledger.{Ledger, Stands}
use Rattle.problem_model.specs.Problems.{IsSparse, row_at, sides_at}
use Rattle.problem_model.specs.Programs.{IsProblemOf, written_program}
use Rattle.presolve_model.specs.Ordered.{options_of, RunsTo}
use Rattle.presolve_model.specs.Replay.{records, replay, Replays}
use Rattle.problem_model.specs.Sparse.{Sparse}
use Rattle.presolve_model.specs.Stuck.{IsUndecided}
use Rattle.problem_model.specs.Writing.{IsWritable}
use Rattle.program_laws.specs.Shapes.{IsOf, NoCrossedSides}
use Rattle.program_laws.proofs.ProblemsShow.{problem_shows_program}
use Rattle.program_laws.proofs.WrittenShow.{written_ascends}
use Rattle.program_laws.proofs.Writing.{written_writable}
use Rattle.history_laws.proofs.Keeping.{sparse_replay, verdict_means, writable_replay}
use Rattle.history_laws.proofs.Sizes.{replay_size}
use Rattle.history_laws.proofs.Walks.{is_of, walked_sound}
use Rattle.presolve_model.specs.Telling.{IsToldOf, are_live}
use Rattle.presolve_model.specs.Workers.{IsInOrder, Workers}

-- ---- the walk
abbrev pub walked : (dual : Bool) (program : ProgramData) (b : Ledger) (told : Postsolve) → IsProblemOf program b.start → Stands b → IsToldOf dual program b told → Walked b.numbers program (written_program program b.problem) told
walked dual program b told o s t = record {
  start = b.start;
  history = b.history;
  opened = o;
  replays = s.replays;
  undos = t.undos ∙ s.records;
  transactions = subst (TellReadings b.start b.history) (sym t.transactions) s.transactions;
  written = ap (written_program program) s.problem;
  offset = t.offset ∙ ap (λ (q : Sparse). signed program.sense q.offset) s.problem;
  rows = t.rows ∙ ap (λ (q : Sparse). are_live q.matrix.rows) s.problem;
  columns = t.columns ∙ ap (λ (q : Sparse). are_live q.matrix.columns) s.problem;
}

pub told_sound : (dual : Bool) (program : ProgramData) (b : Ledger) (told : Postsolve) → IsProblemOf program b.start → Stands b → IsToldOf dual program b told → AreSound told
told_sound dual program b told o s t = walked_sound b.numbers program (written_program program b.problem) told (walked dual program b told o s t)

-- ---- the transactions
numbered_parts : (m n : ℕ) (p : Sparse) (ps : List Part) → ((a : Part) → Contains ps a → IsPartOf m n a) → All (λ (x : PartRead). IsPartOf m n x.part) (map (numbered p) ps)
numbered_parts m n p [] h = All-nil (λ (x : PartRead). IsPartOf m n x.part)
numbered_parts m n p (a ∷ ps) h = All-cons (λ (x : PartRead). IsPartOf m n x.part) (numbered p a) (map (numbered p) ps) (h a (0, omega arith, refl)) (numbered_parts m n p ps (λ b (k, l, e). h b (suc k, omega (arith, l), e)))

records_long : (p : Sparse) (rs : List Reduction) → length (records p rs) ≡ length rs
records_long p [] = refl
records_long p (r ∷ rs) = ap suc (records_long (changed r p) rs)

-- they read parts of the program, since reductions that are applied are enabled
parts_along : (numbers : Numbers) (m n : ℕ) (p : Sparse) (rs : List Reduction) (ts : List Transaction) → Replays numbers p rs → length p.matrix.rows ≡ m → length p.matrix.columns ≡ n → map (λ t. t.reads) ts ≡ numbers_along p rs
    → All (λ t. All (λ r. IsPartOf m n r.part) t.reads) ts
parts_along numbers m n p rs [] h em en e = All-nil (λ (t : Transaction). All (λ r. IsPartOf m n r.part) t.reads)
parts_along numbers m n p [] (t ∷ ts) h em en e = absurd (let f = e in cc)
parts_along numbers m n p (r ∷ rs) (t ∷ ts) h em en e =
    let size = same_size p r in
    All-cons (λ (t : Transaction). All (λ r. IsPartOf m n r.part) t.reads) t ts first (parts_along numbers m n (changed r p) rs ts h.1 (size.rows ∙ em) (size.columns ∙ en) (let f = e in cc))
  where
    here : (a : Part) → Contains (reads p (at.Reduction r)) a → IsPartOf m n a
    here a c = subst (λ (k : ℕ). IsPartOf k n a) em (subst (λ (k : ℕ). IsPartOf (length p.matrix.rows) k a) en (reads_parts p (at.Reduction r) h.0.enabled a c))

    first : All (λ r. IsPartOf m n r.part) t.reads
    first = subst (All (λ (x : PartRead). IsPartOf m n x.part)) (let f : t.reads ∷ map (λ (u : Transaction). u.reads) ts ≡ numbers_read p (at.Reduction r) ∷ numbers_along (changed r p) rs = e in cc) (numbered_parts m n p (reads p (at.Reduction r)) here)

pub are_told : (dual : Bool) (program : ProgramData) (b : Ledger) (told : Postsolve) → IsProblemOf program b.start → Stands b → IsToldOf dual program b told → AreTold told
are_told dual program b told o s t =
    let w = walked dual program b told o s t in
    let size = replay_size b.start b.history in
    let rows : length b.start.matrix.rows ≡ length told.rows = sym size.rows ∙ sym (length-map (replay b.start b.history).matrix.rows (λ (l : Line). l.live)) ∙ sym (ap length w.rows) ∙ length-map told.rows (λ (l : Label). l.live) in
    let columns : length b.start.matrix.columns ≡ length told.columns = sym size.columns ∙ sym (length-map (replay b.start b.history).matrix.columns (λ (l : Line). l.live)) ∙ sym (ap length w.columns) ∙ length-map told.columns (λ (l : Label). l.live) in
    record {
      count = told_long b.start b.history told.transactions w.transactions ∙ sym (records_long b.start b.history) ∙ sym (ap length w.undos);
      versions = w.transactions.versions;
      parts = parts_along b.numbers (length told.rows) (length told.columns) b.start b.history told.transactions s.replays rows columns w.transactions.reads;
    }

-- ---- the program that is written
pub problem_is_of : (program : ProgramData) (b : Ledger) → IsProblemOf program b.start → Stands b → IsOf program b.problem
problem_is_of program b o s =
    let size = replay_size b.start b.history in
    subst (IsOf program) (sym s.problem) (is_of program b.start (replay b.start b.history) o size.rows size.columns size.constant)

problem_sparse : (b : Ledger) → Stands b → IsSparse b.problem
problem_sparse b s = subst IsSparse (sym s.problem) (sparse_replay b.numbers b.start b.history s.sound s.replays)

by_not : (a : Bool) → not a ≡ false → a ≡ true
by_not true e = refl
by_not false e = absurd (let f = e in cc)

uncrossed : (on : Bool) (l u : Option Number) → on ≡ true → are_crossed (if on then holds.Sides l u else holds.Gone) ≡ false → is_in_order l u ≡ true
uncrossed true None u live e = refl
uncrossed true (Some l) None live e = refl
uncrossed true (Some l) (Some u) live e = by_not (le_ℚ l u) e
uncrossed false l u live e = absurd (let f = live in cc)

pub no_crossed_sides : (q : Sparse) → IsUndecided q → NoCrossedSides q
no_crossed_sides q h i live = uncrossed (row_at q i).live (sides_at q i).lower (sides_at q i).upper live (h (verdict.CrossedSides i))

pub program_written : (program : ProgramData) (b : Ledger) → Writable b.numbers program → IsProblemOf program b.start → Stands b → IsUndecided b.problem → Writable b.numbers (written_program program b.problem)
program_written program b w o s h =
    written_writable b.numbers program b.problem (problem_sparse b s) (problem_is_of program b o s)
    (subst (IsWritable b.numbers) (sym s.problem) (writable_replay b.numbers b.start b.history s.sound s.writable s.replays))
    (no_crossed_sides b.problem h) w.constant

pub program_ascends : (program : ProgramData) (b : Ledger) → IsProblemOf program b.start → Stands b → EntriesAscend (written_program program b.problem)
program_ascends program b o s = written_ascends program b.problem (problem_sparse b s) (problem_is_of program b o s)

-- ---- a verdict
verdict_says : (program : ProgramData) (b : Ledger) (v : Verdict) → IsProblemOf program b.start → Stands b → enabled_on b.problem (at.Verdict v) ≡ true → Meant v program.sense (meaning program)
verdict_says program b v o s e =
    meant_in v program.sense (meaning program) (subst (Meant v Min) (problem_shows_program program b.start o)
    (verdict_means b.numbers b.start b.history v s.sound s.replays (subst (λ (q : Sparse). enabled_on q (at.Verdict v) ≡ true) s.problem e)))

pub decided : (dual : Bool) (workers : Workers) (program : ProgramData) (b : Ledger) (v : Verdict) → IsProblemOf program b.start → Stands b → b.verdict ≡ Some v → (IsInOrder workers → RunsTo (options_of dual b) program None b)
    → Decided (options_of dual b) workers program b.history v
decided dual workers program b v o s h runs =
    let e : enabled_on b.problem (at.Verdict v) ≡ true = subst (λ (x : Option Verdict). IfSome x (λ w. enabled_on b.problem (at.Verdict w) ≡ true)) h s.verdict in
    record {
      start = b.start;
      opened = o;
      replays = s.replays;
      within = s.within;
      enabled = subst (λ (q : Sparse). enabled_on q (at.Verdict v) ≡ true) s.problem e;
      means = verdict_says program b v o s e;
      ordered = λ on. record { book = b; runs = runs on; applied = refl; closed = h };
    }
