-- Records that walk are those of a history, so they reduce the program.
use Rattle.std.proofs.Common.{◌≡◌, ℕ, suc, Bool, List, [], ◌∷◌, length, map, refl, sym, ap, ap₂, ◌∙◌, subst, arith}
use Rattle.std.proofs.lemmas.List.{length-map}
use Rattle.fractions.specs.declared.Numbers.TheVariants.{Fractions}
use Rattle.lp_model.specs.Flags.{Flags}
use Rattle.lp_model.specs.Meaning.{meaning}
use Rattle.lp_model.specs.Optimality.{Continuous}
use Rattle.lp_model.specs.ProgramData.{ProgramData}
use Rattle.lp_model.specs.Writable.{EntriesAscend}
use Rattle.lp_model.specs.declared.program.ColumnDef.{ColumnDef}
use Rattle.lp_model.specs.declared.program.RowDef.{RowDef}
use Rattle.transactions.specs.Transactions.{Transaction, VersionsBelow}
use Rattle.undo_records.specs.declared.label.Label.{Label}
use Rattle.undo_records.specs.declared.undo.Undo.{Undo}
use Rattle.undo_records.specs.Named.{AreRecords}
use Rattle.undo_records.specs.Postsolve.{Postsolve}
use Rattle.undo_records.specs.Walk.{after, all_live, AreSound, flags_of, lives, Walks}
use Rattle.problem_model.specs.declared.line.Line.{Line}
use Rattle.problem_model.specs.Programs.{line_of}
use Rattle.problem_model.specs.Sparse.{Sparse}
use Rattle.presolve_model.specs.declared.instance.Instance.TheVariants as at
use Rattle.presolve_model.specs.declared.instance.Reduction.{Reduction}
use Rattle.presolve_model.specs.Accounts.{ReducesPairsTo, ReducesTo, Walked}
use Rattle.presolve_model.specs.Changes.{changed}
use Rattle.presolve_model.specs.Replay.{records, replay, Replays}
use Rattle.presolve_model.specs.Telling.{are_live}
use Rattle.presolve_model.specs.Transactions.{numbers_along, numbers_read, TellReadings}
use Rattle.history_laws.proofs.Sizes.{replay_size}
use Rattle.history_laws.proofs.Walks.{walked_pairs, walked_reduces, walked_sound}
use Rattle.walk_laws.specs.Walk.{AreSteps, reduction_of, Walk}

-- ---- the history
steps_replay : (p : Sparse) (us : List Undo) (ts : List Transaction) → AreSteps p us ts → Replays Fractions p (map reduction_of us)
steps_replay p [] ts h = tt
steps_replay p (u ∷ us) [] h = absurd h
steps_replay p (u ∷ us) (t ∷ ts) h =
    (record { enabled = h.0.enabled; fits = h.0.change.fits; written = h.0.change.written }, steps_replay (changed (reduction_of u) p) us ts h.1)

steps_records : (p : Sparse) (us : List Undo) (ts : List Transaction) → AreSteps p us ts → us ≡ records p (map reduction_of us)
steps_records p [] ts h = refl
steps_records p (u ∷ us) [] h = absurd h
steps_records p (u ∷ us) (t ∷ ts) h = ap₂ (λ (x : Undo) (xs : List Undo). x ∷ xs) (sym h.0.fields) (steps_records (changed (reduction_of u) p) us ts h.1)

-- ---- transactions that tell all that is read
abbrev telling : Sparse → List Reduction → List Transaction
telling p [] = []
telling p (r ∷ rs) = record { by = 0; version = 0; reads = numbers_read p (at.Reduction r) } ∷ telling (changed r p) rs

telling_reads : (p : Sparse) (rs : List Reduction) → map (λ t. t.reads) (telling p rs) ≡ numbers_along p rs
telling_reads p [] = refl
telling_reads p (r ∷ rs) = ap (λ xs. numbers_read p (at.Reduction r) ∷ xs) (telling_reads (changed r p) rs)

telling_below : (place : ℕ) (p : Sparse) (rs : List Reduction) → VersionsBelow (suc place) (telling p rs)
telling_below place p [] = tt
telling_below place p (r ∷ rs) = (omega arith, telling_below (suc place) (changed r p) rs)

tells : (p : Sparse) (rs : List Reduction) → TellReadings p rs (telling p rs)
tells p rs = record { reads = telling_reads p rs; versions = telling_below 0 p rs }

-- ---- what is live
-- records lead to one set of flags
walks_one : (f : Flags) (us : List Undo) (g h : Flags) → Walks f us g → Walks f us h → g ≡ h
walks_one f [] g h a b = a ∙ sym b
walks_one f (u ∷ us) g h a b = walks_one (after u f) us g h a.1 b.1

-- a label that is live as the line is
abbrev label_of : Line → Label
label_of line = record { name = []; live = line.live }

lives_of : (lines : List Line) → lives (map label_of lines) ≡ are_live lines
lives_of [] = refl
lives_of (l ∷ ls) = ap (λ (bs : List Bool). l.live ∷ bs) (lives_of ls)

module _ (program reduced : ProgramData) (told : Postsolve) (w : Walk program reduced told) where
  abbrev history : List Reduction
  history = map reduction_of told.undos

  abbrev left : Sparse
  left = replay w.start history

  -- the records with these labels, and with all that is read
  abbrev whole : List Label → List Label → Postsolve
  whole rows columns = record told { rows = rows; columns = columns; transactions = telling w.start history }

  walked : (rows columns : List Label) → lives rows ≡ are_live left.matrix.rows → lives columns ≡ are_live left.matrix.columns → Walked Fractions program reduced (whole rows columns)
  walked rows columns er ec = record {
    start = w.start;
    history = history;
    opened = w.opened;
    replays = steps_replay w.start told.undos told.transactions w.steps;
    undos = steps_records w.start told.undos told.transactions w.steps;
    transactions = tells w.start history;
    written = w.written;
    offset = w.offset;
    rows = er;
    columns = ec;
  }

  abbrev labelled : Postsolve
  labelled = whole (map label_of left.matrix.rows) (map label_of left.matrix.columns)

  left_sound : AreSound labelled
  left_sound = walked_sound Fractions program reduced labelled (walked (map label_of left.matrix.rows) (map label_of left.matrix.columns) (lives_of left.matrix.rows) (lives_of left.matrix.columns))

  rows_long : length labelled.rows ≡ length told.rows
  rows_long =
      length-map left.matrix.rows label_of ∙ (replay_size w.start history).rows ∙ w.opened.rows
      ∙ sym (length-map program.rows (λ (r : RowDef). r.name)) ∙ sym (ap length w.header.rows) ∙ length-map told.rows (λ (l : Label). l.name)

  columns_long : length labelled.columns ≡ length told.columns
  columns_long =
      length-map left.matrix.columns label_of ∙ (replay_size w.start history).columns ∙ ap length w.opened.columns ∙ length-map program.columns (λ (c : ColumnDef). line_of c.entries)
      ∙ sym (length-map program.columns (λ (c : ColumnDef). c.name)) ∙ sym (ap length w.header.columns) ∙ length-map told.columns (λ (l : Label). l.name)

  same_flags : AreSound told → flags_of told ≡ flags_of labelled
  same_flags s = walks_one (all_live (length told.rows) (length told.columns)) told.undos (flags_of told) (flags_of labelled) s.walk
      (subst (λ (m : ℕ). Walks (all_live m (length told.columns)) told.undos (flags_of labelled)) rows_long
      (subst (λ (n : ℕ). Walks (all_live (length labelled.rows) n) told.undos (flags_of labelled)) columns_long left_sound.walk))

  rows_live : AreSound told → lives told.rows ≡ are_live left.matrix.rows
  rows_live s = ap (λ (f : Flags). f.rows) (same_flags s) ∙ lives_of left.matrix.rows

  columns_live : AreSound told → lives told.columns ≡ are_live left.matrix.columns
  columns_live s = ap (λ (f : Flags). f.columns) (same_flags s) ∙ lives_of left.matrix.columns

  told_walked : AreSound told → Walked Fractions program reduced (whole told.rows told.columns)
  told_walked s = walked told.rows told.columns (rows_live s) (columns_live s)

pub walk_reduces : (program reduced : ProgramData) (told : Postsolve) → EntriesAscend program → AreRecords told → Walk program reduced told → ReducesTo program reduced told
walk_reduces program reduced told asc r w =
    walked_reduces Fractions program reduced (whole program reduced told w told.rows told.columns) asc (told_walked program reduced told w r.sound)

pub walk_pairs : (program reduced : ProgramData) (told : Postsolve) → AreRecords told → Walk program reduced told → Continuous (meaning program) → ReducesPairsTo program reduced told
walk_pairs program reduced told r w continuous =
    walked_pairs Fractions program reduced (whole program reduced told w told.rows told.columns) (told_walked program reduced told w r.sound) w.header.sense continuous
