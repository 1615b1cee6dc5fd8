-- Lines that get other entries.
use Rattle.std.proofs.Common.{◌≡◌, ◌≢◌, ℕ, suc, ◌+◌, ◌-◌, ◌<◌, ◌≤◌, Bool, true, false, cond, List, [], ◌∷◌, ◌++◌, length, take, drop, get_or, set, refl, sym, ap, ap₂, ◌∙◌, subst, arith, append_assoc}
use Rattle.std.specs.Prelude.{⊤, if◌then◌else◌}
use Rattle.std.specs.List.{All}
use Rattle.std.proofs.lemmas.List.{get_or_default, take_all, length-drop, get_or-set_same, set-set, set-get_or, length-set, length-append, take_more_set, drop_more, drop-set-lt}
use Rattle.std.proofs.lemmas.List.Elements.{All-nil, All-cons, All-head, All-tail, All-append, All-same, All-set, All-weaker, All-get_or}
use Rattle.fractions.specs.Number.{Number, zero_ℚ}
use Rattle.fractions.specs.Compare.{eq_ℚ}
use Rattle.lp_model.specs.declared.terms.Term.{Term}
use Rattle.problem_model.specs.declared.line.Line.{Line}
use Rattle.problem_model.specs.Edits.{line_put, lines_put, entry_set}
use Rattle.problem_model.specs.Entries.{led_by, put_term}
use Rattle.problem_model.specs.Matrices.{no_line, line_at, live_only, Crosses}
use Rattle.problem_model.specs.Problems.{row_at, column_at, IsSparse}
use Rattle.problem_model.specs.Sparse.{Sparse}
use Rattle.problem_laws.proofs.AtIds.{live_inside}
use Rattle.problem_laws.proofs.EntriesKept.{put-same_line, put-other_line, put_long, put_row_live, put_column_live, entry_set_sparse}
use Rattle.problem_laws.proofs.PutTerms.{put_term-past}
use Rattle.entry_lines.specs.declared.entries.Held.{Held}
use Rattle.entry_lines.specs.declared.entries.Replaced.{Replaced}
use Rattle.entry_lines.specs.Putting.{put_first, IdsAscend, AreWithin, line_puts, entries_set, held_of, rows_held, line_given, one_given, all_given, all_held, given_back, AreInside, entries_given, GivesBack}

-- no more entries are live than there are
pub counted_within : (lines others : List Line) → Crosses lines others → AreWithin lines
counted_within lines others h x = subst (λ (n : ℕ). n ≤ length (line_at lines x).entries) (sym (h.counted x)) (fewer (line_at lines x).entries)
  where
    fewer : (ts : List Term) → length (live_only others ts) ≤ length ts
    fewer [] = omega arith
    fewer (t ∷ ts) = by (line_at others t.id).live (fewer ts)
      where
        by : (b : Bool) → length (live_only others ts) ≤ length ts → length (cond b (t ∷ live_only others ts) (live_only others ts)) ≤ suc (length ts)
        by true h = omega (arith, h)
        by false h = omega (arith, h)

-- ---- a term put behind those that were passed
put_term-behind : (k : ℕ) (a : Number) (xs ys : List Term) → All (λ (t : Term). t.id < k) xs → put_term k a (xs ++ ys) ≡ xs ++ put_term k a ys
put_term-behind k a [] ys h = refl
put_term-behind k a (t ∷ ts) ys h = put_term-past k a t (ts ++ ys) (All-head (λ (t : Term). t.id < k) t ts h) ∙ ap (λ (us : List Term). t ∷ us) (put_term-behind k a ts ys (All-tail (λ (t : Term). t.id < k) t ts h))

pub passed_whole : (k : ℕ) (a : Number) (old left new after : List Term) (n : ℕ) → All (λ (t : Term). t.id < k) old → put_term k a left ≡ take n left ++ put_first k a (drop n left)
    → put_first k a (take (length left - n) (drop n left)) ≡ led_by k a [] ++ after
    → new ≡ (old ++ take n left) ++ led_by k a [] → put_term k a (old ++ left) ≡ new ++ after
passed_whole k a old left new after n h e f g =
    put_term-behind k a old left h ∙ ap (λ (us : List Term). old ++ us) (e ∙ ap (λ (us : List Term). take n left ++ put_first k a us) (sym (take_all (length left - n) (drop n left) (omega (arith, length-drop n left)))) ∙ ap (λ (us : List Term). take n left ++ us) f)
    ∙ sym (ap (λ (us : List Term). us ++ after) g ∙ simp append_assoc)

led_below : (k : ℕ) (a : Number) → All (λ (t : Term). t.id < suc k) (led_by k a [])
led_below k a = by (eq_ℚ a zero_ℚ)
  where
    by : (b : Bool) → All (λ (t : Term). t.id < suc k) (if b then [] else record { id = k; value = a } ∷ [])
    by true = All-nil (λ (t : Term). t.id < suc k)
    by false = All-cons (λ (t : Term). t.id < suc k) (record { id = k; value = a }) [] (omega arith) (All-nil (λ (t : Term). t.id < suc k))

pub passed_below : (k : ℕ) (a : Number) (old ts new : List Term) → All (λ (t : Term). t.id < k) old → All (λ (t : Term). t.id < k) ts → new ≡ (old ++ ts) ++ led_by k a [] → All (λ (t : Term). t.id < suc k) new
passed_below k a old ts new h i e = All-same (λ (t : Term). t.id < suc k) new ((old ++ ts) ++ led_by k a []) e
    (All-append (λ (t : Term). t.id < suc k) (old ++ ts) (led_by k a [])
    (All-weaker (λ (t : Term). t.id < k) (λ (t : Term). t.id < suc k) (λ t l. omega (arith, l)) (old ++ ts) (All-append (λ (t : Term). t.id < k) old ts h i)) (led_below k a))

-- ---- terms put one after the other
-- those that are left to put come behind the items
abbrev pub AreAfter : List Term → List Term → Type 0
AreAfter items [] = ⊤
AreAfter items (t ∷ ts) = All (λ (x : Term). x.id < t.id) items × IdsAscend (suc t.id) ts

after_none : (ts : List Term) → IdsAscend 0 ts → AreAfter [] ts
after_none [] h = tt
after_none (t ∷ ts) h = (All-nil (λ (x : Term). x.id < t.id), h.1)

after_more : (k : ℕ) (items ts : List Term) → All (λ (x : Term). x.id < suc k) items → IdsAscend (suc k) ts → AreAfter items ts
after_more k items [] h i = tt
after_more k items (t ∷ ts) h i = (All-weaker (λ (x : Term). x.id < suc k) (λ (x : Term). x.id < t.id) (λ x l. omega (arith, l, i.0)) items h, i.1)

-- where putting stands: the items are made, some entries are left, and some terms are to be put
pub record Passing (line : Line) (terms items left rest : List Term) (live : ℕ) : Type 0 where
  pub same : line_puts rest (record line { entries = items ++ left; live_entries = live }) ≡ line_puts terms line
  pub counted : live ≤ length items + length left
  pub after : AreAfter items rest

pub passing_first : (line : Line) (terms items left : List Term) → items ≡ [] → left ≡ line.entries → line.live_entries ≤ length line.entries → IdsAscend 0 terms → Passing line terms items left terms line.live_entries
passing_first line terms items left e f h i = record {
  same = λ t. line_puts terms (record line { entries = e t ++ f t; live_entries = line.live_entries });
  counted = omega (arith, h, ap length e, ap length f);
  after = subst (λ (xs : List Term). AreAfter xs terms) (sym e) (after_none terms i);
}

pub passing_below : (line : Line) (terms items left rest after : List Term) (live : ℕ) (t : Term) → Passing line terms items left rest live → rest ≡ t ∷ after → All (λ (x : Term). x.id < t.id) items
passing_below line terms items left rest after live t p e = (subst (AreAfter items) e p.after).0

pub passing_step : (line : Line) (terms items left rest new more after : List Term) (live next : ℕ) (t : Term) → Passing line terms items left rest live → rest ≡ t ∷ after
    → put_term t.id t.value (items ++ left) ≡ new ++ more → All (λ (x : Term). x.id < suc t.id) new → next ≡ live + (length new + length more) - (length items + length left) → Passing line terms new more after next
passing_step line terms items left rest new more after live next t p e f g h =
    let long : length (new ++ more) ≡ length new + length more = length-append new more in
    let was : length (items ++ left) ≡ length items + length left = length-append items left in
    let count : next ≡ live + length (put_term t.id t.value (items ++ left)) - length (items ++ left) = h ∙ sym (ap₂ (λ (n m : ℕ). live + n - m) (ap length f ∙ long) was) in
    let here = subst (AreAfter items) e p.after in
    record {
      same = (λ i. line_puts after (record line { entries = sym f i; live_entries = count i })) ∙ ap (λ (us : List Term). line_puts us (record line { entries = items ++ left; live_entries = live })) (sym e) ∙ p.same;
      counted = omega (arith, h, p.counted);
      after = after_more t.id new after g here.1;
    }

pub passing_last : (line : Line) (terms items left rest new : List Term) (live id : ℕ) → Passing line terms items left rest live → rest ≡ [] → new ≡ items ++ left → record { line = id; entries = new; live_entries = live } ≡ held_of id (line_puts terms line)
passing_last line terms items left rest new live id p e f =
    (λ i. record { line = id; entries = f i; live_entries = live }) ∙ ap (held_of id) (ap (λ (us : List Term). line_puts us (record line { entries = items ++ left; live_entries = live })) (sym e) ∙ p.same)

-- ---- lines read by their ids
pub line_read : (lines : List Line) (k : ℕ) (x d : Line) → k < length lines → x ≡ get_or lines k d → x ≡ line_at lines k
line_read lines k x d l e = e ∙ get_or_default lines k d no_line l

pub one_within : (lines : List Line) (k : ℕ) (x : Line) → AreWithin lines → x ≡ line_at lines k → x.live_entries ≤ length x.entries
one_within lines k x h e = subst (λ (y : Line). y.live_entries ≤ length y.entries) (sym e) (h k)

-- ---- lines that are given entries
All-left : {X : Type 0} (P : X → Type 0) (xs ys : List X) → All P (xs ++ ys) → All P xs
All-left P [] ys a = All-nil P
All-left P (x ∷ xs) ys a = All-cons P x xs (All-head P x (xs ++ ys) a) (All-left P xs ys (All-tail P x (xs ++ ys) a))

given_long : (h : Held) (lines : List Line) → length (one_given h lines) ≡ length lines
given_long h lines = length-set lines h.line (line_given h (line_at lines h.line))

all_given-long : (hs : List Held) (lines : List Line) → length (all_given hs lines) ≡ length lines
all_given-long [] lines = refl
all_given-long (h ∷ hs) lines = all_given-long hs (one_given h lines) ∙ given_long h lines

pub inside_long : (hs : List Held) (lines new : List Line) → length new ≡ length lines → AreInside hs lines → AreInside hs new
inside_long hs lines new e a = subst (λ (n : ℕ). All (λ (h : Held). h.line < n) hs) (sym e) a

pub exchange_step : (items next : List Held) (lines new : List Line) (i : ℕ) (h g d : Held) → i < length items → h ≡ get_or items i d → new ≡ one_given h lines → g ≡ held_of h.line (line_at lines h.line) → next ≡ set items i g
    → (all_given (drop (i + 1) next) new ≡ all_given (drop i items) lines) × (take (i + 1) next ++ all_held (drop (i + 1) next) new ≡ take i items ++ all_held (drop i items) lines)
exchange_step items next lines new i h g d l e f j k =
    let left : drop (i + 1) next ≡ drop (i + 1) items = ap (drop (i + 1)) k ∙ drop-set-lt (i + 1) items i g (omega arith) in
    let all : drop i items ≡ h ∷ drop (i + 1) items = drop_more items i d l ∙ ap (λ (x : Held). x ∷ drop (i + 1) items) (sym e) in
    let done : take (i + 1) next ≡ take i items ++ g ∷ [] = ap (take (i + 1)) k ∙ take_more_set items i g l in
    let after : List Held = all_held (drop (i + 1) items) (one_given h lines) in
    let joined : (take i items ++ g ∷ []) ++ after ≡ take i items ++ g ∷ after = simp append_assoc in (
      ap₂ all_given left f ∙ sym (ap (λ (hs : List Held). all_given hs lines) all),
      ap₂ (λ (xs ys : List Held). xs ++ ys) done (ap₂ all_held left f) ∙ joined
          ∙ ap (λ (x : Held). take i items ++ x ∷ after) j
          ∙ sym (ap (λ (hs : List Held). take i items ++ all_held hs lines) all),
    )

pub exchange_inside : (items next : List Held) (lines new : List Line) (i : ℕ) (h g d : Held) → i < length items → h ≡ get_or items i d → new ≡ one_given h lines → g ≡ held_of h.line (line_at lines h.line) → next ≡ set items i g
    → AreInside items lines → AreInside next new
exchange_inside items next lines new i h g d l e f j k a = inside_long next lines new (ap length f ∙ given_long h lines)
    (All-same (λ (x : Held). x.line < length lines) next (set items i g) k (All-set (λ (x : Held). x.line < length lines) items i g
    (subst (λ (n : ℕ). n < length lines) (sym (ap (λ (x : Held). x.line) j ∙ ap (λ (x : Held). x.line) e)) (All-get_or (λ (x : Held). x.line < length lines) items i d l a)) a))

pub held_inside : (items : List Held) (lines : List Line) (i : ℕ) (h d : Held) → i < length items → h ≡ get_or items i d → AreInside items lines → h.line < length lines
held_inside items lines i h d l e a = subst (λ (x : Held). x.line < length lines) (sym e) (All-get_or (λ (x : Held). x.line < length lines) items i d l a)

-- ---- and given back
pub given_back-last : (hs all : List Held) (h : Held) (lines new : List Line) → all ≡ hs ++ h ∷ [] → new ≡ one_given h lines → given_back hs new ≡ given_back all lines
given_back-last hs all h lines new e f = ap (given_back hs) f ∙ sym (ap (λ (xs : List Held). given_back xs lines) e ∙ last hs)
  where
    last : (hs : List Held) → given_back (hs ++ h ∷ []) lines ≡ given_back hs (one_given h lines)
    last [] = refl
    last (x ∷ hs) = ap (one_given x) (last hs)

pub last_inside : (hs all : List Held) (h : Held) (lines new : List Line) → all ≡ hs ++ h ∷ [] → new ≡ one_given h lines → AreInside all lines → AreInside hs new
last_inside hs all h lines new e f a = inside_long hs lines new (ap length f ∙ given_long h lines)
    (All-left (λ (x : Held). x.line < length lines) hs (h ∷ []) (subst (λ (xs : List Held). AreInside xs lines) e a))

one_back : (h : Held) (lines : List Line) → h.line < length lines → one_given (held_of h.line (line_at lines h.line)) (one_given h lines) ≡ lines
one_back h lines l =
    ap (λ (x : Line). set (one_given h lines) h.line (line_given (held_of h.line (line_at lines h.line)) x)) (get_or-set_same lines h.line (line_given h (line_at lines h.line)) no_line l)
    ∙ set-set lines h.line (line_given h (line_at lines h.line)) (line_at lines h.line) ∙ set-get_or lines h.line no_line

all_back : (hs : List Held) (lines : List Line) → AreInside hs lines → given_back (all_held hs lines) (all_given hs lines) ≡ lines
all_back [] lines a = refl
all_back (h ∷ hs) lines a =
    ap (one_given (held_of h.line (line_at lines h.line))) (all_back hs (one_given h lines) (inside_long hs lines (one_given h lines) (given_long h lines) (All-tail (λ (x : Held). x.line < length lines) h hs a)))
    ∙ one_back h lines (All-head (λ (x : Held). x.line < length lines) h hs a)

all_held-inside : (hs : List Held) (lines : List Line) (n : ℕ) → All (λ (h : Held). h.line < n) hs → All (λ (h : Held). h.line < n) (all_held hs lines)
all_held-inside [] lines n a = All-nil (λ (h : Held). h.line < n)
all_held-inside (h ∷ hs) lines n a = All-cons (λ (x : Held). x.line < n) (held_of h.line (line_at lines h.line)) (all_held hs (one_given h lines)) (All-head (λ (x : Held). x.line < n) h hs a)
    (all_held-inside hs (one_given h lines) n (All-tail (λ (x : Held). x.line < n) h hs a))

rows_held-inside : (lines : List Line) (j : ℕ) (ts : List Term) (n : ℕ) → All (λ (t : Term). t.id < n) ts → All (λ (h : Held). h.line < n) (rows_held lines j ts)
rows_held-inside lines j [] n a = All-nil (λ (h : Held). h.line < n)
rows_held-inside lines j (t ∷ ts) n a = All-cons (λ (x : Held). x.line < n) (held_of t.id (line_put j t.value (line_at lines t.id))) (rows_held lines j ts) (All-head (λ (x : Term). x.id < n) t ts a)
    (rows_held-inside lines j ts n (All-tail (λ (x : Term). x.id < n) t ts a))

pub held_there : (hs : List Held) (lines seen : List Line) (j : ℕ) (ts : List Term) → hs ≡ rows_held seen j ts → seen ≡ lines → All (λ (t : Term). t.id < length lines) ts → AreInside hs lines
held_there hs lines seen j ts e f a = subst (λ (xs : List Held). AreInside xs lines) (sym e) (rows_held-inside seen j ts (length lines) a)

-- ---- entries of a column
abbrev rows_set : List Line → ℕ → List Term → List Line
rows_set lines j [] = lines
rows_set lines j (t ∷ ts) = rows_set (lines_put lines t.id j t.value) j ts

abbrev column_set : List Line → ℕ → List Term → List Line
column_set lines j [] = lines
column_set lines j (t ∷ ts) = column_set (lines_put lines j t.id t.value) j ts

set_apart : (p : Sparse) (j : ℕ) (ts : List Term) → entries_set p j ts ≡ record p { matrix = record { rows = rows_set p.matrix.rows j ts; columns = column_set p.matrix.columns j ts } }
set_apart p j [] = refl
set_apart p j (t ∷ ts) = set_apart (entry_set p t.id j t.value) j ts

-- rows that are named once are set from what they were before all
rows_given : (lines seen : List Line) (j m : ℕ) (ts : List Term) → IdsAscend m ts → ((k : ℕ) → m ≤ k → line_at lines k ≡ line_at seen k) → all_given (rows_held seen j ts) lines ≡ rows_set lines j ts
rows_given lines seen j m [] a same = refl
rows_given lines seen j m (t ∷ ts) a same =
    ap (λ (x : Line). all_given (rows_held seen j ts) (set lines t.id (line_given (held_of t.id (line_put j t.value x)) (line_at lines t.id)))) (sym (same t.id a.0))
    ∙ rows_given (lines_put lines t.id j t.value) seen j (suc t.id) ts a.1 (λ k l. let d : k ≢ t.id = omega (arith, l) in let n : m ≤ k = omega (arith, l, a.0) in put-other_line lines t.id j t.value k d ∙ same k n)

given_puts : (ts : List Term) (l : Line) (j : ℕ) → line_given (held_of j (line_puts ts l)) l ≡ line_puts ts l
given_puts [] l j = refl
given_puts (t ∷ ts) l j = given_puts ts (line_put t.id t.value l) j

column_puts : (lines : List Line) (j : ℕ) (ts : List Term) → j < length lines → set lines j (line_puts ts (line_at lines j)) ≡ column_set lines j ts
column_puts lines j [] l = set-get_or lines j no_line
column_puts lines j (t ∷ ts) l =
    sym (set-set lines j (line_put t.id t.value (line_at lines j)) (line_puts ts (line_put t.id t.value (line_at lines j))))
    ∙ ap (λ (x : Line). set (lines_put lines j t.id t.value) j (line_puts ts x)) (sym (put-same_line lines j t.id t.value l))
    ∙ column_puts (lines_put lines j t.id t.value) j ts (subst (λ (n : ℕ). j < n) (sym (put_long lines j t.id t.value)) l)

column_given : (lines : List Line) (j : ℕ) (ts : List Term) → j < length lines → one_given (held_of j (line_puts ts (line_at lines j))) lines ≡ column_set lines j ts
column_given lines j ts l = ap (set lines j) (given_puts ts (line_at lines j) j) ∙ column_puts lines j ts l

entries_set-sparse : (p : Sparse) (j : ℕ) (ts : List Term) → IsSparse p → All (λ (t : Term). (row_at p t.id).live ≡ true) ts → (column_at p j).live ≡ true → IsSparse (entries_set p j ts)
entries_set-sparse p j [] s rows column = s
entries_set-sparse p j (t ∷ ts) s rows column =
    let row = All-head (λ (x : Term). (row_at p x.id).live ≡ true) t ts rows in
    entries_set-sparse (entry_set p t.id j t.value) j ts (entry_set_sparse p t.id j t.value s row column)
    (All-weaker (λ (x : Term). (row_at p x.id).live ≡ true) (λ (x : Term). (row_at (entry_set p t.id j t.value) x.id).live ≡ true) (λ x e. put_row_live p t.id j t.value row x.id ∙ e) ts
    (All-tail (λ (x : Term). (row_at p x.id).live ≡ true) t ts rows))
    (put_column_live p t.id j t.value column j ∙ column)

pub rows_inside : (p : Sparse) (ts : List Term) → All (λ (t : Term). (row_at p t.id).live ≡ true) ts → All (λ (t : Term). t.id < length p.matrix.rows) ts
rows_inside p ts a = All-weaker (λ (x : Term). (row_at p x.id).live ≡ true) (λ (x : Term). x.id < length p.matrix.rows) (λ x e. live_inside p.matrix.rows x.id e) ts a

pub all_rows_live : (p q : Sparse) (ts : List Term) → p ≡ q → All (λ (t : Term). (row_at q t.id).live ≡ true) ts → All (λ (t : Term). (row_at p t.id).live ≡ true) ts
all_rows_live p q ts e a = subst (λ (x : Sparse). All (λ (t : Term). (row_at x t.id).live ≡ true) ts) (sym e) a

module _ (p : Sparse) (j : ℕ) (ts : List Term) (s : IsSparse p) (live : All (λ (t : Term). (row_at p t.id).live ≡ true) ts) (column : (column_at p j).live ≡ true) (a : IdsAscend 0 ts) where
  -- the new lists, put in place
  pub all_set : (rows columns : List Line) (h : Held) (hs : List Held) → rows ≡ all_given hs p.matrix.rows → columns ≡ one_given h p.matrix.columns → hs ≡ rows_held p.matrix.rows j ts → h ≡ held_of j (line_puts ts (column_at p j))
      → record p { matrix = record { rows = rows; columns = columns } } ≡ entries_set p j ts
  all_set rows columns h hs e f g i =
      let r : rows ≡ rows_set p.matrix.rows j ts = e ∙ ap (λ (xs : List Held). all_given xs p.matrix.rows) g ∙ rows_given p.matrix.rows p.matrix.rows j 0 ts a (λ k l. refl) in
      let c : columns ≡ column_set p.matrix.columns j ts = f ∙ ap (λ (x : Held). one_given x p.matrix.columns) i ∙ column_given p.matrix.columns j ts (live_inside p.matrix.columns j column) in
      (λ t. record p { matrix = record { rows = r t; columns = c t } }) ∙ sym (set_apart p j ts)

  pub all_sound : (rows columns : List Line) (h : Held) (hs : List Held) → rows ≡ all_given hs p.matrix.rows → columns ≡ one_given h p.matrix.columns → hs ≡ rows_held p.matrix.rows j ts → h ≡ held_of j (line_puts ts (column_at p j))
      → IsSparse (record p { matrix = record { rows = rows; columns = columns } })
  all_sound rows columns h hs e f g i = subst IsSparse (sym (all_set rows columns h hs e f g i)) (entries_set-sparse p j ts s live column)

  -- and taken out again
  pub all_gives_back : (q : Sparse) (c : Replaced) (h : Held) (hs : List Held) → q ≡ record p { matrix = record { rows = all_given hs p.matrix.rows; columns = one_given h p.matrix.columns } } → hs ≡ rows_held p.matrix.rows j ts
      → h ≡ held_of j (line_puts ts (column_at p j)) → c.in_rows.items ≡ all_held hs p.matrix.rows → c.in_column ≡ held_of h.line (line_at p.matrix.columns h.line) → GivesBack c q p
  all_gives_back q c h hs e g i r k =
      let inside : AreInside hs p.matrix.rows = subst (λ (xs : List Held). AreInside xs p.matrix.rows) (sym g) (rows_held-inside p.matrix.rows j ts (length p.matrix.rows) (rows_inside p ts live)) in
      let there : h.line < length p.matrix.columns = subst (λ (x : Held). x.line < length p.matrix.columns) (sym i) (live_inside p.matrix.columns j column) in
      let long : length q.matrix.rows ≡ length p.matrix.rows = ap (λ (x : Sparse). length x.matrix.rows) e ∙ all_given-long hs p.matrix.rows in
      let wide : length q.matrix.columns ≡ length p.matrix.columns = ap (λ (x : Sparse). length x.matrix.columns) e ∙ given_long h p.matrix.columns in
      record {
        rows = subst (λ (n : ℕ). All (λ (x : Held). x.line < n) c.in_rows.items) (sym long)
            (subst (λ (xs : List Held). All (λ (x : Held). x.line < length p.matrix.rows) xs) (sym r) (all_held-inside hs p.matrix.rows (length p.matrix.rows) inside));
        column = subst (λ (n : ℕ). c.in_column.line < n) (sym wide) (subst (λ (x : Held). x.line < length p.matrix.columns) (sym k) there);
        back = ap (λ (x : Sparse). entries_given x c) e
            ∙ (λ t. record p { matrix = record { rows = given_back (r t) (all_given hs p.matrix.rows); columns = one_given (k t) (one_given h p.matrix.columns) } })
            ∙ (λ t. record p { matrix = record { rows = all_back hs p.matrix.rows inside t; columns = one_back h p.matrix.columns there t } });
      }
