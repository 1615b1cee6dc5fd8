-- Those of some instances that are enabled on the present problem are met in place of all of them: what is left out would be stale at its turn.
use Rattle.std.proofs.Common.{◌≡◌, ◌≢◌, ◌⊎◌, inl, inr, ℕ, zero, suc, ◌-◌, ◌^◌, ◌<◌, ◌≤◌, Bool, true, false, List, [], ◌∷◌, ◌++◌, length, map, Option, Some, None, refl, sym, ap, ap₂, ◌∙◌, subst, arith, true≢false}
use Rattle.std.specs.Prelude.{if◌then◌else◌}
use Rattle.std.specs.List.{Contains, filter}
use Rattle.std.proofs.lemmas.Bool.{cases_lt}
use Rattle.std.proofs.lemmas.List.Elements.{Contains-append_cases, Contains-append_left, Contains-append_right}
use Rattle.std.proofs.lemmas.Simd.{map-map}
use Rattle.fractions.specs.declared.Numbers.{Numbers}
use Rattle.problem_model.specs.declared.part.Part.{Part}
use Rattle.problem_model.specs.declared.part.Read.{Read}
use Rattle.problem_model.specs.Parts.{changes_of}
use Rattle.problem_model.specs.Reading.{read_of}
use Rattle.problem_model.specs.Sparse.{Sparse}
use Rattle.presolve_model.specs.declared.instance.Instance.{Instance}
use Rattle.presolve_model.specs.declared.instance.Instance.TheVariants as at
use Rattle.presolve_model.specs.declared.instance.Rule.{Rule}
use Rattle.presolve_model.specs.declared.outcome.Outcome.{Outcome}
use Rattle.presolve_model.specs.declared.instance.Verdict.{Verdict}
use Rattle.presolve_model.specs.declared.outcome.Outcome.TheVariants.{Closed, Full, Past, NotDecimal, NoMemory}
use Rattle.presolve_model.specs.Changes.{changed}
use Rattle.presolve_model.specs.Commits.{Allows, CanWrite, Fits, IsOpen, left_by, with_instance}
use Rattle.presolve_model.specs.Enabled.{enabled_on, reading_of, reads}
use Rattle.presolve_model.specs.Given.{Proposed}
use Rattle.presolve_model.specs.Instances.{goes_by_form, id_at, instances_from, is_open, reach_of, rule_at}
use Rattle.presolve_model.proofs.Readings.{enabled_same}
use Rattle.presolve_model.specs.Ledger.{Ledger}
use Rattle.presolve_model.specs.Ordered.{Committed}
use Rattle.presolve_model.specs.Scans.{proposal_of}
use Rattle.presolve_model.proofs.Tabled.{counted_changed}
use Rattle.presolve_model.specs.Tallies.{Open, open_on}
use Rattle.place_laws.specs.Choosing.{proposals}
use Rattle.place_laws.specs.Marks.{IsMarked, IsRefused, Marks, RestsOnReading}
use Rattle.place_laws.specs.Standing.{IsFresh, IsLaterAt}
use Rattle.round_laws.specs.Passing.{Follows, IsTracked, Passed, Tracks}
use Rattle.place_laws.proofs.Alike.{IsAlikeFrom, NoneStands}
use Rattle.round_laws.proofs.Committing.{committed_append, committed_same, fresh_enables, fresh_parts, fresh_reads, left_how, left_open, passed_over, proposals_append, refused_how, stays_or_differs}
use Rattle.place_laws.proofs.Places.{enabled_listed, from_is, from_stand}
use Rattle.place_laws.proofs.ShortLists.{passes_still}
use Rattle.round_laws.proofs.Tracking.{noted_count, passed_none, passed_on}
use Rattle.round_laws.proofs.Turns.{Moved, follows_applied, met_over, moved}
use Rattle.problem_model.specs.Reading.{Agrees, DiffersAt}

-- ---- what has changed since f stays so
-- a part that the instance reads on f has changed more often on p
abbrev pub HasMoved : Sparse → Sparse → List Part → Type 0
HasMoved f p ps = (a : Part) × Contains ps a × (changes_of f a < changes_of p a)

moved_or_same : (f p : Sparse) (ps : List Part) → ((a : Part) → IsLaterAt f p a) → HasMoved f p ps ⊎ (map (read_of p) ps ≡ map (read_of f) ps)
moved_or_same f p [] later = inr refl
moved_or_same f p (a ∷ ps) later = by (later a) (moved_or_same f p ps later)
  where
    by : IsLaterAt f p a → HasMoved f p ps ⊎ (map (read_of p) ps ≡ map (read_of f) ps) → HasMoved f p (a ∷ ps) ⊎ (map (read_of p) (a ∷ ps) ≡ map (read_of f) (a ∷ ps))
    by (inr l) x = inl (a, (0, omega arith, refl), l)
    by (inl e) (inl (b, (k, l, h), m)) = inl (b, (suc k, omega (arith, l), h), m)
    by (inl e) (inr g) = inr (ap₂ (λ (x : Read) (xs : List Read). x ∷ xs) e g)

fresh_by : (f p : Sparse) (e : Instance) → map (read_of p) (reads f e) ≡ map (read_of f) (reads f e) → IsFresh f p e
fresh_by f p e g = map-map (λ (r : Read). read_of p r.part) (read_of f) (reads f e) ∙ g

pub moved_differs : (f p : Sparse) (ps : List Part) → HasMoved f p ps → map (read_of p) ps ≡ map (read_of f) ps → ⊥
moved_differs f p [] (a, c, l) e = omega (arith, c.1)
moved_differs f p (b ∷ ps) (a, (zero, l, h), m) e =
    let same : read_of p b ≡ read_of f b = let g = e in cc in
    let n : changes_of p a ≡ changes_of f a = sym (ap (changes_of p) h) ∙ ap (λ (r : Read). r.changes) same ∙ ap (changes_of f) h in omega (arith, m, n)
moved_differs f p (b ∷ ps) (a, (suc k, l, h), m) e = moved_differs f p ps (a, (k, omega (arith, l), h), m) (let g = e in cc)

pub moved_stale : (f p : Sparse) (e : Instance) → HasMoved f p (reads f e) → IsFresh f p e → ⊥
moved_stale f p e h fresh = moved_differs f p (reads f e) h (fresh_parts f p e fresh)

-- what is enabled on f and not on p reads a part that has changed
not_enabled_moved : (f p : Sparse) (e : Instance) → ((a : Part) → IsLaterAt f p a) → enabled_on f e ≡ true → enabled_on p e ≡ false → HasMoved f p (reads f e)
not_enabled_moved f p e later on off = by (moved_or_same f p (reads f e) later)
  where
    by : HasMoved f p (reads f e) ⊎ (map (read_of p) (reads f e) ≡ map (read_of f) (reads f e)) → HasMoved f p (reads f e)
    by (inl h) = h
    by (inr g) = absurd (true≢false (sym on ∙ sym (fresh_enables f p e (fresh_by f p e g)) ∙ off))

still_moved : (f p q : Sparse) (a : Part) (h : ℕ) → changes_of p a ≤ h → h < 2 ^ 64 - 1 → changes_of f a < changes_of p a → Moved p q a → changes_of f a < changes_of q a
still_moved f p q a h few low l (inl g) = let m : changes_of q a ≡ changes_of p a = ap (λ (r : Read). r.changes) g in omega (arith, l, m)
still_moved f p q a h few low l (inr g) = omega (arith, l, g, few, low)

-- ---- from a book to the one that a commit leaves
record GoesTo (opens : Open) (f : Sparse) (b c : Ledger) : Type 0 where
  follows : Follows opens f c
  moved : (ps : List Part) → HasMoved f b.problem ps → HasMoved f c.problem ps
  numbers : c.numbers ≡ b.numbers

module _ (opens : Open) (f : Sparse) (b : Ledger) (h : Follows opens f b) where
  goes_on : (v : ℕ) (e : Instance) → enabled_on b.problem e ≡ true → IsOpen b (proposal_of f v e) → GoesTo opens f b (with_instance b 0 v e)
  goes_on v (at.Verdict x) on k = record { follows = record { later = h.later; counted = h.counted; short = h.short; sparse = h.sparse; size = h.size; moves = h.moves }; moved = λ ps x. x; numbers = refl }
  goes_on v (at.Reduction r) on k = record { follows = follows_applied opens f b v r h on k.room; moved = λ ps (a, c, l). (a, c, by a l); numbers = refl }
    where
      by : (a : Part) → changes_of f a < changes_of b.problem a → changes_of f a < changes_of (changed r b.problem) a
      by a l = still_moved f b.problem (changed r b.problem) a (length b.history) (h.counted a) (let room : length b.history < b.limit = k.room in omega (arith, room, h.short)) l (moved b.problem (changed r b.problem) a (counted_changed b.problem r h.sparse on a))

  goes_to : (v : ℕ) (e : Instance) (o : Outcome) → enabled_on f e ≡ true → o ≢ NoMemory → Allows b (proposal_of f v e) o → GoesTo opens f b (left_by b 0 (proposal_of f v e) o)
  goes_to v e o on n a = by (left_how b (proposal_of f v e) o a)
    where
      by : (left_by b 0 (proposal_of f v e) o ≡ b) ⊎ (IsOpen b (proposal_of f v e) × Fits e b.problem × CanWrite b e) → GoesTo opens f b (left_by b 0 (proposal_of f v e) o)
      by (inl same) = subst (GoesTo opens f b) (sym same) (record { follows = h; moved = λ ps x. x; numbers = refl })
      by (inr k) = subst (GoesTo opens f b) (sym (left_open b (proposal_of f v e) o n a k.0 k.1 k.2))
          (goes_on v e (fresh_enables f b.problem e k.0.agrees ∙ on) k.0)

-- ---- lists of proposals
proposals_with : (f : Sparse) (v : ℕ) (e : Instance) (es : List Instance) → enabled_on f e ≡ true → proposals f v (e ∷ es) ≡ proposal_of f v e ∷ proposals f v es
proposals_with f v e es on = ap (λ (t : Bool). map (proposal_of f v) (if t then e ∷ filter (enabled_on f) es else filter (enabled_on f) es)) on

proposals_without : (f : Sparse) (v : ℕ) (e : Instance) (es : List Instance) → enabled_on f e ≡ false → proposals f v (e ∷ es) ≡ proposals f v es
proposals_without f v e es off = ap (λ (t : Bool). map (proposal_of f v) (if t then e ∷ filter (enabled_on f) es else filter (enabled_on f) es)) off

-- ---- what is left out reads a part that has changed, or is refused as long as it reads what it read on f: its commits change nothing
abbrev pub IsIdle : Sparse → Ledger → Instance → Type 0
IsIdle f b e = HasMoved f b.problem (reads f e) ⊎ RestsOnReading b.numbers f e

abbrev StaysBy : Ledger → Proposed → Type 0
StaysBy b p = (o : Outcome) × (o ≢ NoMemory) × Allows b p o × (left_by b 0 p o ≡ b)

module _ (f : Sparse) (v : ℕ) (b : Ledger) where
  -- its numbers are refused, if a verdict or the limit does not come first
  refused_for : (e : Instance) → IsFresh f b.problem e → IsRefused b.numbers b.problem e → StaysBy b (proposal_of f v e)
  refused_for (at.Verdict x) fresh refused = absurd refused
  refused_for (at.Reduction r) fresh refused = by b.verdict refl (cases_lt (length b.history) b.limit) refused
    where
      by : (x : Option Verdict) → b.verdict ≡ x → (length b.history < b.limit) ⊎ (b.limit ≤ length b.history) → IsRefused b.numbers b.problem (at.Reduction r) → StaysBy b (proposal_of f v (at.Reduction r))
      by (Some x) e room n = (Closed x, (λ y. cc), e, refl)
      by None e (inr full) n = (Full, (λ y. cc), (e, full), refl)
      by None e (inl room) (inl past) = (Past, (λ y. cc), (record { undecided = e; room = room; agrees = fresh }, past), refl)
      by None e (inl room) (inr (fits, unwritten)) = (NotDecimal, (λ y. cc), (record { undecided = e; room = room; agrees = fresh }, fits, unwritten), refl)

  idle_stays : (e : Instance) → ((a : Part) → IsLaterAt f b.problem a) → IsIdle f b e → StaysBy b (proposal_of f v e)
  idle_stays e later idle = by idle (stays_or_differs f b.problem (reads f e) later)
    where
      by : IsIdle f b e → Agrees b.problem (reading_of f e) ⊎ ((n : ℕ) × DiffersAt b.problem (reading_of f e) n) → StaysBy b (proposal_of f v e)
      by (inl moved) (inl fresh) = absurd (moved_stale f b.problem e moved fresh)
      by (inr rests) (inl fresh) = refused_for e fresh (rests b.problem (fresh_reads f b.problem e fresh))
      by either (inr d) = refused_how b (proposal_of f v e) d

module _ (opens : Open) (f : Sparse) (v : ℕ) (c : Ledger) (keep : Instance → Bool) where
  abbrev LeftOut : List Instance → Ledger → Type 0
  LeftOut es b = (e : Instance) → Contains es e → enabled_on f e ≡ true → keep e ≡ false → IsIdle f b e

  abbrev More : List Instance → Type 0
  More es = (b : Ledger) → Follows opens f b → LeftOut es b → Committed b (proposals f v (filter keep es)) c → Committed b (proposals f v es) c

  left_out_on : (es : List Instance) (b d : Ledger) → GoesTo opens f b d → LeftOut es b → LeftOut es d
  left_out_on es b d g out e there on off = by (out e there on off)
    where
      by : IsIdle f b e → IsIdle f d e
      by (inl m) = inl (g.moved (reads f e) m)
      by (inr rests) = inr (subst (λ (k : Numbers). RestsOnReading k f e) (sym g.numbers) rests)

  behind_out : (e : Instance) (es : List Instance) (b : Ledger) → LeftOut (e ∷ es) b → LeftOut es b
  behind_out e es b out x (k, l, h) on off = out x (suc k, omega (arith, l), h) on off

  pub committed_more : (es : List Instance) → More es
  committed_more [] b h out k = k
  committed_more (e ∷ es) b h out k = by (committed_more es) (keep e) refl (enabled_on f e) refl k
    where
      met : More es → enabled_on f e ≡ true → Committed b (proposal_of f v e ∷ proposals f v (filter keep es)) c → Committed b (proposal_of f v e ∷ proposals f v es) c
      met more on (o, n, a, rest) = let g = goes_to opens f b h v e o on n a in (o, n, a, more (left_by b 0 (proposal_of f v e) o) g.follows (left_out_on es b (left_by b 0 (proposal_of f v e) o) g (behind_out e es b out)) rest)

      over : Committed b (proposals f v es) c → IsIdle f b e → Committed b (proposal_of f v e ∷ proposals f v es) c
      over rest m = let r = idle_stays f v b e h.later m in (r.0, r.1, r.2, subst (λ (x : Ledger). Committed x (proposals f v es) c) (sym r.3) rest)

      with_it : enabled_on f e ≡ true → Committed b (proposal_of f v e ∷ proposals f v es) c → Committed b (proposals f v (e ∷ es)) c
      with_it on x = subst (λ (ps : List Proposed). Committed b ps c) (sym (proposals_with f v e es on)) x

      without_it : enabled_on f e ≡ false → Committed b (proposals f v es) c → Committed b (proposals f v (e ∷ es)) c
      without_it off x = subst (λ (ps : List Proposed). Committed b ps c) (sym (proposals_without f v e es off)) x

      by : More es → (s : Bool) → keep e ≡ s → (t : Bool) → enabled_on f e ≡ t → Committed b (proposals f v (if s then e ∷ filter keep es else filter keep es)) c → Committed b (proposals f v (e ∷ es)) c
      by more true x true y d = with_it y (met more y (subst (λ (ps : List Proposed). Committed b ps c) (proposals_with f v e (filter keep es) y) d))
      by more true x false y d = without_it y (more b h (behind_out e es b out) (subst (λ (ps : List Proposed). Committed b ps c) (proposals_without f v e (filter keep es) y) d))
      by more false x true y d = with_it y (over (more b h (behind_out e es b out) d) (out e (0, omega arith, refl) y x))
      by more false x false y d = without_it y (more b h (behind_out e es b out) d)

-- ---- a pass over those that are enabled is one over all
passed_all : (opens : Open) (f : Sparse) (v : ℕ) (es : List Instance) (n m : Marks) (b c : Ledger) → Follows opens f b → Passed opens f v (filter (enabled_on b.problem) es) n b m c → Passed opens f v es n b m c
passed_all opens f v es n m b c h k = record {
  book = k.book;
  before = k.before;
  committed = committed_more opens f v c (enabled_on b.problem) es b h (λ e there on off. inl (not_enabled_moved f b.problem e h.later on off)) k.committed;
  follows = k.follows;
  tracks = λ rest t. k.tracks rest (fewer rest t);
  moved = k.moved;
  grows = k.grows;
}
  where
    fewer : (rest : List Instance) → Tracks n (es ++ rest) b → Tracks n (filter (enabled_on b.problem) es ++ rest) b
    fewer rest t none room x on free = by (t none room x on free)
      where
        by : IsTracked n (es ++ rest) b x → IsTracked n (filter (enabled_on b.problem) es ++ rest) b x
        by (inl a) = inl a
        by (inr among) = inr (passes_still (enabled_on b.problem) es rest x on among)

-- ---- of two lists of which none is enabled and fresh, either is passed over
module _ (opens : Open) (f : Sparse) (b : Ledger) (h : Follows opens f b) (v : ℕ) where
  none_commits : (es : List Instance) → NoneStands f b.problem es → Committed b (proposals f v es) b
  none_commits [] none = refl
  none_commits (e ∷ es) none = subst (λ (ps : List Proposed). Committed b ps b) (sym (proposals_append f v (e ∷ []) es))
      (committed_append b b b (proposals f v (e ∷ [])) (proposals f v es) (passed_over f b v e h.later (λ on fresh. none e (0, omega arith, refl) on fresh)) (none_commits es (λ x (k, l, d). none x (suc k, omega (arith, l), d))))

  none_left : (c : Ledger) (es : List Instance) → NoneStands f b.problem es → Committed b (proposals f v es) c → c ≡ b
  none_left c es none k = committed_same b c b (proposals f v es) k (none_commits es none)

passed_either : (opens : Open) (f : Sparse) (v : ℕ) (es fs : List Instance) (n m : Marks) (b c : Ledger) → Follows opens f b → NoneStands f b.problem es → NoneStands f b.problem fs → ((x : Instance) → enabled_on b.problem x ≡ true → is_open (open_on b.tally) x ≡ true → Contains es x → Contains fs x) → Passed opens f v fs n b m c → Passed opens f v es n b m c
passed_either opens f v es fs n m b c h none nor still k = record {
  book = k.book;
  before = k.before;
  committed = subst (Committed b (proposals f v es)) (sym (none_left opens f b h v c fs nor k.committed)) (none_commits opens f b h v es none);
  follows = k.follows;
  tracks = λ rest t. k.tracks rest (other rest t);
  moved = k.moved;
  grows = k.grows;
}
  where
    other : (rest : List Instance) → Tracks n (es ++ rest) b → Tracks n (fs ++ rest) b
    other rest t none' room x on free = by (t none' room x on free)
      where
        behind : Contains es x ⊎ Contains rest x → IsTracked n (fs ++ rest) b x
        behind (inl c) = inr (Contains-append_left fs rest x (still x on free c))
        behind (inr c) = inr (Contains-append_right fs rest x c)

        by : IsTracked n (es ++ rest) b x → IsTracked n (fs ++ rest) b x
        by (inl a) = inl a
        by (inr among) = behind (Contains-append_cases es rest x among)

-- ---- the instances of a rule with a first id, those of the present problem in place of those of f
pub passed_found : (opens : Open) (f : Sparse) (v : ℕ) (r : Rule) (k : ℕ) (n m : Marks) (b c : Ledger) → Follows opens f b → Passed opens f v (filter (enabled_on b.problem) (instances_from (open_on b.tally) b.problem r k)) n b m c → Passed opens f v (instances_from opens f r k) n b m c
passed_found opens f v r k n m b c h passed = by (from_stand opens (open_on b.tally) f b.problem h.moves h.size h.later r k) (passed_all opens f v now n m b c h passed)
  where
    now : List Instance
    now = instances_from (open_on b.tally) b.problem r k

    -- what is enabled and open now is among the present ones
    still : (x : Instance) → enabled_on b.problem x ≡ true → is_open (open_on b.tally) x ≡ true → Contains (instances_from opens f r k) x → Contains now x
    still x on free c =
        let is = from_is opens f r k x c in
        subst (λ (i : ℕ). Contains (instances_from (open_on b.tally) b.problem r i) x) is.1 (subst (λ (s : Rule). Contains (instances_from (open_on b.tally) b.problem s (id_at x)) x) is.0 (enabled_listed (open_on b.tally) b.problem x free on).there)

    by : IsAlikeFrom f b.problem (instances_from opens f r k) now → Passed opens f v now n b m c → Passed opens f v (instances_from opens f r k) n b m c
    by (inl same) x = subst (λ (es : List Instance). Passed opens f v es n b m c) (sym same) x
    by (inr (none, nor)) x = passed_either opens f v (instances_from opens f r k) now n m b c h none nor still x

-- ---- some in place of all, where each that is enabled on f is among both, and each part that has changed since f is noted
pub passed_beside : (opens : Open) (f : Sparse) (v : ℕ) (es fs : List Instance) (n m : Marks) (b c : Ledger) → Follows opens f b → filter (enabled_on f) fs ≡ filter (enabled_on f) es → ((x : Instance) → Contains es x → enabled_on f x ≡ true → Contains fs x)
    → ((x : Instance) → Contains es x → goes_by_form (reach_of (rule_at x)) ≡ false) → ((a : Part) → (changes_of b.problem a ≡ changes_of f a) ⊎ Contains n.noted a) → Passed opens f v fs n b m c → Passed opens f v es n b m c
passed_beside opens f v es fs n m b c h same among by_value noted k = record {
  book = k.book;
  before = k.before;
  committed = subst (λ (ps : List Proposed). Committed b ps c) (ap (map (proposal_of f v)) same) k.committed;
  follows = k.follows;
  tracks = λ rest t. k.tracks rest (other rest t);
  moved = k.moved;
  grows = k.grows;
}
  where
    -- one that is not among them reads a part that has changed
    told : (x : Instance) → Contains es x → HasMoved f b.problem (reads b.problem x) → IsMarked b.numbers b.problem n x
    told x there (a, r, l) = by (noted a)
      where
        by : (changes_of b.problem a ≡ changes_of f a) ⊎ Contains n.noted a → IsMarked b.numbers b.problem n x
        by (inl e) = absurd (omega (arith, l, e))
        by (inr c) = inl (a, r, subst (λ (ps : List Part). Contains ps a) (sym (noted_count n (reach_of (rule_at x)) (by_value x there))) c)

    other : (rest : List Instance) → Tracks n (es ++ rest) b → Tracks n (fs ++ rest) b
    other rest t none room x on free = by (t none room x on free)
      where
        stands : Contains es x → HasMoved f b.problem (reads b.problem x) ⊎ (map (read_of b.problem) (reads b.problem x) ≡ map (read_of f) (reads b.problem x)) → IsTracked n (fs ++ rest) b x
        stands there (inl moved) = inl (told x there moved)
        stands there (inr still) = inr (Contains-append_left fs rest x (among x there (enabled_same b.problem f x (sym still) ∙ on)))

        behind : Contains es x ⊎ Contains rest x → IsTracked n (fs ++ rest) b x
        behind (inl there) = stands there (moved_or_same f b.problem (reads b.problem x) h.later)
        behind (inr there) = inr (Contains-append_right fs rest x there)

        by : IsTracked n (es ++ rest) b x → IsTracked n (fs ++ rest) b x
        by (inl a) = inl a
        by (inr c) = behind (Contains-append_cases es rest x c)

-- ---- those that are enabled on f in place of all, where the present problem is f
twice : (P : Instance → Bool) (es : List Instance) → filter P (filter P es) ≡ filter P es
twice P [] = refl
twice P (e ∷ es) = by (P e) refl (twice P es)
  where
    by : (t : Bool) → P e ≡ t → filter P (filter P es) ≡ filter P es → filter P (if t then e ∷ filter P es else filter P es) ≡ (if t then e ∷ filter P es else filter P es)
    by true on ih = ap (λ (s : Bool). if s then e ∷ filter P (filter P es) else filter P (filter P es)) on ∙ ap (λ (xs : List Instance). e ∷ xs) ih
    by false on ih = ih

pub passed_listed : (opens : Open) (f : Sparse) (v : ℕ) (es : List Instance) (n m : Marks) (b c : Ledger) → b.problem ≡ f → Passed opens f v (filter (enabled_on f) es) n b m c → Passed opens f v es n b m c
passed_listed opens f v es n m b c here k = record {
  book = k.book;
  before = k.before;
  committed = subst (λ (xs : List Instance). Committed b (map (proposal_of f v) xs) c) (twice (enabled_on f) es) k.committed;
  follows = k.follows;
  tracks = λ rest t. k.tracks rest (λ none room e on free. by rest e (ap (λ (p : Sparse). enabled_on p e) (sym here) ∙ on) (t none room e on free));
  moved = k.moved;
  grows = k.grows;
}
  where
    by : (rest : List Instance) (e : Instance) → enabled_on f e ≡ true → IsTracked n (es ++ rest) b e → IsTracked n (filter (enabled_on f) es ++ rest) b e
    by rest e on (inl marked) = inl marked
    by rest e on (inr among) = inr (passes_still (enabled_on f) es rest e on among)

-- ---- of some of which none is enabled any more
pub passed_gone : (opens : Open) (f : Sparse) (v : ℕ) (n : Marks) (b : Ledger) → Follows opens f b → (es : List Instance) → ((x : Instance) → Contains es x → enabled_on b.problem x ≡ true → ⊥) → Passed opens f v es n b n b
passed_gone opens f v n b h [] off = passed_none opens f v n b h
passed_gone opens f v n b h (e ∷ es) off = passed_on opens f v (e ∷ []) es n n n b b b (met_over opens f v e n b h (off e (0, omega arith, refl))) (passed_gone opens f v n b h es (λ x (k, l, g). off x (suc k, omega (arith, l), g)))
