-- The changes of what a problem holds, one at a time. The numbers of changes of its parts stay as they are.
use Rattle.std.specs.Prelude.{ℕ, ◌+◌, ◌-◌, ◌*◌, pred, nat_lt, false, List, [], length, map, slice_set, Option, if◌then◌else◌}
use Rattle.fractions.specs.Number.{Number}
use Rattle.lp_model.specs.Sparse.{has}
use Rattle.problem_model.specs.declared.line.Line.{Line}
use Rattle.problem_model.specs.declared.line.Sides.{Sides}
use Rattle.problem_model.specs.declared.line.Bounds.{Bounds}
use Rattle.problem_model.specs.Matrices.{line_at, live_only}
use Rattle.problem_model.specs.Problems.{sides_at, bounds_at}
use Rattle.problem_model.specs.Entries.{put_term}
use Rattle.problem_model.specs.Sparse.{Sparse}

-- a deleted line holds no entries
abbrev pub deleted : Line → Line
deleted l = record l { live = false; entries = []; live_entries = 0 }

-- a line of which fewer than half of the entries are live keeps the live ones alone
abbrev pub thinned : List Line → Line → Line
thinned others l = if nat_lt (2 * l.live_entries) (length l.entries) then record l { entries = live_only others l.entries } else l

-- a line when k, one of the others, is deleted: the entry at k no longer counts. The others are those after the deletion.
abbrev pub losing : List Line → ℕ → Line → Line
losing others k l = if has k l.entries then thinned others (record l { live_entries = pred l.live_entries }) else l

-- one line is deleted
abbrev pub lines_without : List Line → ℕ → List Line
lines_without lines k = slice_set lines k (deleted (line_at lines k))

-- and each of the lines that cross it loses its entry there, where others are as they are after the deletion
abbrev pub lines_losing : List Line → List Line → ℕ → List Line
lines_losing others lines k = map (losing others k) lines

-- row i is deleted with its sides
abbrev pub row_deleted : Sparse → ℕ → Sparse
row_deleted p i =
    let rows : List Line = lines_without p.matrix.rows i in
    record p { matrix = record { rows = rows; columns = lines_losing rows p.matrix.columns i } }

-- column j is deleted with its bounds and its cost
abbrev pub column_deleted : Sparse → ℕ → Sparse
column_deleted p j =
    let columns : List Line = lines_without p.matrix.columns j in
    record p { matrix = record { rows = lines_losing columns p.matrix.rows j; columns = columns } }

-- sides with the ends l and u
abbrev pub sides_moved : Sides → Option Number → Option Number → Sides
sides_moved s l u = record s { lower = l; upper = u }

abbrev pub bounds_moved : Bounds → Option Number → Option Number → Bounds
bounds_moved b l u = record b { lower = l; upper = u }

-- row i gets these sides
abbrev pub sides_set : Sparse → ℕ → Option Number → Option Number → Sparse
sides_set p i l u = record p { sides = slice_set p.sides i (sides_moved (sides_at p i) l u) }

-- column j gets these bounds
abbrev pub bounds_set : Sparse → ℕ → Option Number → Option Number → Sparse
bounds_set p j l u = record p { bounds = slice_set p.bounds j (bounds_moved (bounds_at p j) l u) }

-- what was added to the cost
abbrev pub offset_set : Sparse → Number → Sparse
offset_set p k = record p { offset = k }

-- column j gets this cost
abbrev pub cost_set : Sparse → ℕ → Number → Sparse
cost_set p j c = record p { costs = slice_set p.costs j c }

-- a line with the number a at k, which is live; its live entries become more or fewer as its entries do
abbrev pub line_put : ℕ → Number → Line → Line
line_put k a l = record l { entries = put_term k a l.entries; live_entries = l.live_entries + length (put_term k a l.entries) - length l.entries }

abbrev pub lines_put : List Line → ℕ → ℕ → Number → List Line
lines_put lines m k a = slice_set lines m (line_put k a (line_at lines m))

-- the coefficient of row i and column j becomes a: both lines that cross there tell it
abbrev pub entry_set : Sparse → ℕ → ℕ → Number → Sparse
entry_set p i j a = record p { matrix = record { rows = lines_put p.matrix.rows i j a; columns = lines_put p.matrix.columns j i a } }
