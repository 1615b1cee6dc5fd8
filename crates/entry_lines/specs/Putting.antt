-- Terms and lines with other numbers at ids, and what stood there before.
use Rattle.std.specs.Prelude.{◌≡◌, ℕ, suc, ◌<◌, ◌≤◌, nat_eq, List, [], ◌∷◌, length, map, slice_set, if◌then◌else◌}
use Rattle.std.specs.List.{All}
use Rattle.fractions.specs.Number.{Number}
use Rattle.lp_model.specs.declared.terms.Term.{Term}
use Rattle.problem_model.specs.declared.line.Line.{Line}
use Rattle.problem_model.specs.Edits.{entry_set, line_put}
use Rattle.problem_model.specs.Entries.{led_by}
use Rattle.problem_model.specs.Matrices.{line_at}
use Rattle.problem_model.specs.Sparse.{Sparse}
use Rattle.entry_lines.specs.declared.entries.Held.{Held}
use Rattle.entry_lines.specs.declared.entries.Replaced.{Replaced}

-- the number a at k before terms from k on
abbrev pub put_first : ℕ → Number → List Term → List Term
put_first k a [] = led_by k a []
put_first k a (t ∷ ts) = if nat_eq t.id k then led_by k a ts else led_by k a (t ∷ ts)

-- the ids ascend from m on
abbrev pub IdsAscend : ℕ → List Term → Type 0
IdsAscend m [] = Unit {0}
IdsAscend m (t ∷ ts) = (m ≤ t.id) × IdsAscend (suc t.id) ts

-- of no line more entries are live than there are
abbrev pub AreWithin : List Line → Type 0
AreWithin lines = (k : ℕ) → (line_at lines k).live_entries ≤ length (line_at lines k).entries

-- a line with the number of each term at its id, one after the other
abbrev pub line_puts : List Term → Line → Line
line_puts [] l = l
line_puts (t ∷ ts) l = line_puts ts (line_put t.id t.value l)

-- column j with the number of each term in the row that it names, one after the other
abbrev pub entries_set : Sparse → ℕ → List Term → Sparse
entries_set p j [] = p
entries_set p j (t ∷ ts) = entries_set (entry_set p t.id j t.value) j ts

-- the entries of line k
abbrev pub held_of : ℕ → Line → Held
held_of k l = record { line = k; entries = l.entries; live_entries = l.live_entries }

-- those of each line that the terms name, with its term's number at j
abbrev pub rows_held : List Line → ℕ → List Term → List Held
rows_held lines j ts = map (λ t. held_of t.id (line_put j t.value (line_at lines t.id))) ts

abbrev pub line_given : Held → Line → Line
line_given h l = record l { entries = h.entries; live_entries = h.live_entries }

-- a line gets entries
abbrev pub one_given : Held → List Line → List Line
one_given h lines = slice_set lines h.line (line_given h (line_at lines h.line))

-- lines get entries, the first one first
abbrev pub all_given : List Held → List Line → List Line
all_given [] lines = lines
all_given (h ∷ hs) lines = all_given hs (one_given h lines)

-- what each had before it got them
abbrev pub all_held : List Held → List Line → List Held
all_held [] lines = []
all_held (h ∷ hs) lines = held_of h.line (line_at lines h.line) ∷ all_held hs (one_given h lines)

-- lines get entries, the last one first
abbrev pub given_back : List Held → List Line → List Line
given_back [] lines = lines
given_back (h ∷ hs) lines = one_given h (given_back hs lines)

-- each is of one of the lines
abbrev pub AreInside : List Held → List Line → Type 0
AreInside hs lines = All (λ h. h.line < length lines) hs

-- rows and a column with these entries
abbrev pub entries_given : Sparse → Replaced → Sparse
entries_given p c = record p { matrix = record { rows = given_back c.in_rows.items p.matrix.rows; columns = one_given c.in_column p.matrix.columns } }

-- what was replaced leads from q back to p
pub record GivesBack (c : Replaced) (q p : Sparse) : Type 0 where
  pub rows : AreInside c.in_rows.items q.matrix.rows
  pub column : c.in_column.line < length q.matrix.columns
  pub back : entries_given q c ≡ p
