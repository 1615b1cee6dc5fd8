-- An instance at its turn: what it leaves of the book, and what is noted.
use Rattle.std.proofs.Common.{◌≡◌, ◌≢◌, ◌⊎◌, inl, inr, ℕ, ◌+◌, ◌-◌, ◌^◌, ◌<◌, ◌≤◌, Bool, true, false, List, [], ◌∷◌, ◌++◌, length, None, sym, refl, ap, ap₂, ◌∙◌, subst, arith, length-append, true≢false}
use Rattle.std.specs.List.{Contains}
use Rattle.std.proofs.lemmas.List.Elements.{Contains-append_left}
use Rattle.std.proofs.lemmas.Option.{none-some}
use Rattle.problem_model.specs.declared.part.Contents.{Contents}
use Rattle.problem_model.specs.declared.part.Part.{Part}
use Rattle.problem_model.specs.declared.part.Read.{Read}
use Rattle.problem_model.specs.Noted.{AreNoted}
use Rattle.problem_model.specs.Parts.{changes_of, contents_of}
use Rattle.problem_model.specs.Problems.{IsSparse}
use Rattle.problem_model.specs.Raised.{risen, same_contents}
use Rattle.problem_model.specs.Reading.{read_of}
use Rattle.problem_model.specs.Sparse.{Sparse}
use Rattle.edit_laws.specs.Sizes.{SameSize}
use Rattle.edit_laws.specs.Telling.{IsCounted}
use Rattle.edit_laws.proofs.SameContents.{is-same_contents, same_contents-is}
use Rattle.presolve_model.specs.declared.instance.Instance.{Instance}
use Rattle.presolve_model.specs.declared.instance.Instance.TheVariants as at
use Rattle.presolve_model.specs.declared.instance.Reduction.{Reduction}
use Rattle.presolve_model.specs.declared.instance.Verdict.{Verdict}
use Rattle.presolve_model.specs.declared.outcome.Outcome.{Outcome}
use Rattle.presolve_model.specs.declared.outcome.Outcome.TheVariants.{Closed, Full, Stale, Past, NotDecimal, Applied, NoMemory}
use Rattle.presolve_model.specs.Changes.{changed}
use Rattle.presolve_model.specs.Commits.{Allows, left_by, with_instance}
use Rattle.presolve_model.specs.Enabled.{enabled_on}
use Rattle.presolve_model.specs.Instances.{reach_of, rests_on_reading, rule_at, tallied}
use Rattle.presolve_model.specs.Ledger.{Ledger}
use Rattle.presolve_model.specs.Ordered.{Committed}
use Rattle.presolve_model.specs.Scans.{proposal_of}
use Rattle.presolve_model.specs.Tables.{heads, more}
use Rattle.presolve_model.proofs.ByCases.{refusals_rest, sleepers_read_ends, verdicts_do_not_rest}
use Rattle.presolve_model.proofs.Readings.{enabled_same, reads_told}
use Rattle.presolve_model.proofs.Tightened.{tightened_rise}
use Rattle.presolve_model.specs.Tallies.{Open, open_on}
use Rattle.problem_model.specs.declared.part.Part.TheVariants as part
use Rattle.place_laws.specs.Standing.{Moves}
use Rattle.round_laws.proofs.Openness.{open_before, open_cases, Tightens}
use Rattle.presolve_model.proofs.Tabled.{counted_changed, same_size, sound_changed}
use Rattle.place_laws.specs.Choosing.{proposals}
use Rattle.place_laws.specs.Marks.{AreStirred, Grows, IsMarked, IsNoted, is_refusal, Marks, parts_for, RestsOnReading}
use Rattle.place_laws.specs.Standing.{IsFresh, IsLaterAt}
use Rattle.round_laws.specs.Passing.{Follows, IsSameBook, Passed}
use Rattle.round_laws.proofs.Committing.{passed_at, passed_over}
use Rattle.round_laws.proofs.Tracking.{grows_none, tracks_changed, tracks_marked, tracks_more, tracks_over}

-- ---- a part stands, or has changed once more
abbrev pub Moved : Sparse → Sparse → Part → Type 0
Moved p q a = (read_of q a ≡ read_of p a) ⊎ (changes_of q a ≡ risen (changes_of p a))

same_read : (p q : Sparse) (a : Part) → changes_of q a ≡ changes_of p a → contents_of q a ≡ contents_of p a → read_of q a ≡ read_of p a
same_read p q a e f = ap₂ (λ (n : ℕ) (c : Contents). let r : Read = record { part = a; changes = n; contents = c } in r) e f

pub moved : (p q : Sparse) (a : Part) → IsCounted p q a → Moved p q a
moved p q a h = by (same_contents (contents_of q a) (contents_of p a)) refl
  where
    by : (b : Bool) → same_contents (contents_of q a) (contents_of p a) ≡ b → Moved p q a
    by true e = let same = same_contents-is (contents_of q a) (contents_of p a) e in inl (same_read p q a (h.same same) same)
    by false e = inr (h.other (λ f. let g = sym (is-same_contents (contents_of q a) (contents_of p a) f) ∙ e in cc))

-- ---- the book's problem comes after f
same_size_here : (p : Sparse) → SameSize p p
same_size_here p = record { rows = refl; columns = refl; constant = refl }

pub follows_start : (b : Ledger) → ((a : Part) → changes_of b.problem a ≤ length b.history) → b.limit < 2 ^ 64 → IsSparse b.problem → Follows (open_on b.tally) b.problem b
follows_start b counted short sparse = record { later = λ a. inl refl; counted = counted; short = short; sparse = sparse; size = same_size_here b.problem; moves = λ j side. inl refl }

-- from one round to the next
pub follows_next : (opens : Open) (f : Sparse) (b : Ledger) → Follows opens f b → Follows (open_on b.tally) b.problem b
follows_next opens f b h = record { later = λ a. inl refl; counted = h.counted; short = h.short; sparse = h.sparse; size = same_size_here b.problem; moves = λ j side. inl refl }

later_then : (f p q : Sparse) (a : Part) (h : ℕ) → changes_of p a ≤ h → h < 2 ^ 64 - 1 → IsLaterAt f p a → Moved p q a → IsLaterAt f q a
later_then f p q a h few low (inl e) (inl g) = inl (g ∙ e)
later_then f p q a h few low (inr l) (inl g) = let m : changes_of q a ≡ changes_of p a = ap (λ (r : Read). r.changes) g in inr (omega (arith, l, m))
later_then f p q a h few low (inl e) (inr g) = let m : changes_of p a ≡ changes_of f a = ap (λ (r : Read). r.changes) e in inr (omega (arith, m, g, few, low))
later_then f p q a h few low (inr l) (inr g) = inr (omega (arith, l, g, few, low))

counted_then : (p q : Sparse) (a : Part) (h k : ℕ) → k ≡ h + 1 → changes_of p a ≤ h → Moved p q a → changes_of q a ≤ k
counted_then p q a h k e few (inl g) = let m : changes_of q a ≡ changes_of p a = ap (λ (r : Read). r.changes) g in omega (arith, m, few, e)
counted_then p q a h k e few (inr g) = omega (arith, g, few, e)

-- where another bound may be tightened after a reduction, the bounds of its column have changed
moves_applied : (opens : Open) (f : Sparse) (b : Ledger) (r : Reduction) → Follows opens f b → enabled_on b.problem (at.Reduction r) ≡ true → length b.history < b.limit → Moves f (changed r b.problem) opens (open_on (tallied r b.tally))
moves_applied opens f b r h on room j side = by (open_cases r b.tally j side) (h.moves j side)
  where
    low : length b.history < 2 ^ 64 - 1
    low = let short : b.limit < 2 ^ 64 = h.short in omega (arith, room, short)

    few : changes_of b.problem (part.Bounds j) ≤ length b.history
    few = h.counted (part.Bounds j)

    still : changes_of f (part.Bounds j) < changes_of b.problem (part.Bounds j) → Moved b.problem (changed r b.problem) (part.Bounds j) → changes_of f (part.Bounds j) < changes_of (changed r b.problem) (part.Bounds j)
    still l (inl g) = let m : changes_of (changed r b.problem) (part.Bounds j) ≡ changes_of b.problem (part.Bounds j) = ap (λ (x : Read). x.changes) g in omega (arith, l, m)
    still l (inr g) = omega (arith, l, g, few, low)

    risen_by : Tightens r j side → changes_of (changed r b.problem) (part.Bounds j) ≡ risen (changes_of b.problem (part.Bounds j))
    risen_by (i, e) = subst (λ (x : Reduction). changes_of (changed x b.problem) (part.Bounds j) ≡ risen (changes_of b.problem (part.Bounds j))) (sym e)
        (tightened_rise b.problem i j side h.sparse (subst (λ (x : Reduction). enabled_on b.problem (at.Reduction x) ≡ true) e on))

    above : IsLaterAt f b.problem (part.Bounds j) → changes_of (changed r b.problem) (part.Bounds j) ≡ risen (changes_of b.problem (part.Bounds j)) → changes_of f (part.Bounds j) < changes_of (changed r b.problem) (part.Bounds j)
    above (inl e) g = let m : changes_of b.problem (part.Bounds j) ≡ changes_of f (part.Bounds j) = ap (λ (x : Read). x.changes) e in omega (arith, m, g, few, low)
    above (inr l) g = omega (arith, l, g, few, low)

    by : (open_on (tallied r b.tally) j side ≡ open_on b.tally j side) ⊎ Tightens r j side → (open_on b.tally j side ≡ opens j side) ⊎ (changes_of f (part.Bounds j) < changes_of b.problem (part.Bounds j))
        → (open_on (tallied r b.tally) j side ≡ opens j side) ⊎ (changes_of f (part.Bounds j) < changes_of (changed r b.problem) (part.Bounds j))
    by (inl same) (inl e) = inl (same ∙ e)
    by (inl same) (inr l) = inr (still l (moved b.problem (changed r b.problem) (part.Bounds j) (counted_changed b.problem r h.sparse on (part.Bounds j))))
    by (inr tightens) x = inr (above (h.later (part.Bounds j)) (risen_by tightens))

pub follows_applied : (opens : Open) (f : Sparse) (b : Ledger) (v : ℕ) (r : Reduction) → Follows opens f b → enabled_on b.problem (at.Reduction r) ≡ true → length b.history < b.limit → Follows opens f (with_instance b 0 v (at.Reduction r))
follows_applied opens f b v r h on room =
    let moves : (a : Part) → Moved b.problem (changed r b.problem) a = λ a. moved b.problem (changed r b.problem) a (counted_changed b.problem r h.sparse on a) in
    let long : length (b.history ++ r ∷ []) ≡ length b.history + 1 = length-append b.history (r ∷ []) in
    let size : SameSize b.problem (changed r b.problem) = same_size b.problem r in
    record {
      later = λ a. later_then f b.problem (changed r b.problem) a (length b.history) (h.counted a) (omega (arith, room, h.short)) (h.later a) (moves a);
      counted = λ a. counted_then b.problem (changed r b.problem) a (length b.history) (length (b.history ++ r ∷ [])) long (h.counted a) (moves a);
      short = h.short;
      sparse = sound_changed b.problem r h.sparse on;
      size = record { rows = size.rows ∙ h.size.rows; columns = size.columns ∙ h.size.columns; constant = size.constant ∙ h.size.constant };
      moves = moves_applied opens f b r h on room;
    }

-- ---- a refusal that rests on the reading is the same wherever it is read
module _ (b : Ledger) where
  past_rests : (e : Instance) (w : ℕ) → rests_on_reading (rule_at e) ≡ true → enabled_on b.problem e ≡ true → Allows b (proposal_of b.problem w e) Past → RestsOnReading b.numbers b.problem e
  past_rests (at.Reduction r) w t on ok = λ q same. inl (λ fits. ok.1 ((refusals_rest b.numbers b.problem q r t on same).0 fits))
  past_rests (at.Verdict v) w t on ok = absurd (verdicts_do_not_rest v t)

  not_decimal_rests : (e : Instance) (w : ℕ) → rests_on_reading (rule_at e) ≡ true → enabled_on b.problem e ≡ true → Allows b (proposal_of b.problem w e) NotDecimal → RestsOnReading b.numbers b.problem e
  not_decimal_rests (at.Reduction r) w t on ok = λ q same. inr (
    (refusals_rest b.numbers q b.problem r t (enabled_same b.problem q (at.Reduction r) (reads_told b.problem q (at.Reduction r) same) ∙ on) (sym same)).0 ok.1,
    λ written. ok.2 ((refusals_rest b.numbers b.problem q r t on same).1 written),
  )
  not_decimal_rests (at.Verdict v) w t on ok = absurd (verdicts_do_not_rest v t)

-- ---- an instance at its turn
same_book : (b : Ledger) → IsSameBook b b
same_book b = record { start = refl; numbers = refl; limit = refl }

-- it isn't enabled
pub met_over : (opens : Open) (f : Sparse) (v : ℕ) (e : Instance) (n : Marks) (b : Ledger) → Follows opens f b → (enabled_on b.problem e ≡ true → ⊥) → Passed opens f v (e ∷ []) n b n b
met_over opens f v e n b h off = record {
  book = same_book b;
  before = h;
  committed = passed_over f b v e h.later (λ on fresh. off on);
  follows = h;
  tracks = λ rest t. tracks_over n e rest b t off;
  moved = λ a. inl refl;
  grows = grows_none n;
}

-- the marks of an instance that was not applied, with a head of it
pub noted_head : (p : Sparse) (m : List Part) (e : Instance) (a : Part) → Contains (heads e) a → Contains m a → IsNoted p m e
noted_head p m e a h c = (a, Contains-append_left (heads e) (more e _) a h, c)

module _ (opens : Open) (f : Sparse) (v : ℕ) (n m : Marks) (b : Ledger) (h : Follows opens f b) (kept : Grows n m) where
  -- the book stays
  pub met_still : (e : Instance) → IsMarked b.numbers b.problem m e → Committed b (proposals f v (e ∷ [])) b → Passed opens f v (e ∷ []) n b m b
  met_still e marked k = record {
    book = same_book b;
    before = h;
    committed = k;
    follows = h;
    tracks = λ rest t. tracks_marked m e rest b (tracks_more n m (e ∷ rest) b kept t) marked;
    moved = λ a. inl refl;
    grows = kept;
  }

  -- a reduction is applied
  met_applied : (r : Reduction) → enabled_on b.problem (at.Reduction r) ≡ true → b.verdict ≡ None → length b.history < b.limit → AreNoted b.problem (changed r b.problem) n.noted m.noted → AreStirred b.problem (changed r b.problem) n m
      → IsNoted (changed r b.problem) (parts_for m (reach_of (rule_at (at.Reduction r)))) (at.Reduction r)
      → Committed b (proposals f v (at.Reduction r ∷ [])) (with_instance b 0 v (at.Reduction r)) → Passed opens f v (at.Reduction r ∷ []) n b m (with_instance b 0 v (at.Reduction r))
  met_applied r on none room noted stirred own k = record {
    book = record { start = refl; numbers = refl; limit = refl };
    before = h;
    committed = k;
    follows = follows_applied opens f b v r h on room;
    tracks = λ rest t. tracks_marked m (at.Reduction r) rest (with_instance b 0 v (at.Reduction r)) (tracks_changed n m (at.Reduction r ∷ rest) b (with_instance b 0 v (at.Reduction r)) noted stirred refl kept.asleep (open_before r b.tally) none room t) (inl own);
    moved = λ a. by a (noted.changed a);
    grows = kept;
  }
    where
      by : (a : Part) → (read_of (changed r b.problem) a ≡ read_of b.problem a) ⊎ Contains m.noted a → (changes_of (changed r b.problem) a ≡ changes_of b.problem a) ⊎ Contains m.noted a
      by a (inl e) = inl (ap (λ (x : Read). x.changes) e)
      by a (inr c) = inr c

  -- a verdict is applied
  met_verdict : (x : Verdict) → Committed b (proposals f v (at.Verdict x ∷ [])) (with_instance b 0 v (at.Verdict x)) → Passed opens f v (at.Verdict x ∷ []) n b m (with_instance b 0 v (at.Verdict x))
  met_verdict x k = record {
    book = record { start = refl; numbers = refl; limit = refl };
    before = h;
    committed = k;
    follows = record { later = h.later; counted = h.counted; short = h.short; sparse = h.sparse; size = h.size; moves = h.moves };
    tracks = λ rest t none room. absurd (none-some x (sym none));
    moved = λ a. inl refl;
    grows = kept;
  }

-- it is enabled and stale: it is marked
pub met_stale : (opens : Open) (f : Sparse) (v : ℕ) (n m : Marks) (b : Ledger) (e : Instance) (a : Part) → Follows opens f b → (IsFresh f b.problem e → ⊥) → Grows n m → Contains (heads e) a → Contains (parts_for m (reach_of (rule_at e))) a → Passed opens f v (e ∷ []) n b m b
met_stale opens f v n m b e a h stale kept own c = met_still opens f v n m b h kept e (inl (noted_head b.problem (parts_for m (reach_of (rule_at e))) e a own c)) (passed_over f b v e h.later (λ on fresh. stale fresh))

-- it is enabled and its parts stand: whatever the answer is
module _ (opens : Open) (f : Sparse) (v : ℕ) (n m : Marks) (b : Ledger) (h : Follows opens f b) (e : Instance) (fresh : IsFresh f b.problem e) (on : enabled_on b.problem e ≡ true) where
  abbrev count : List Part
  count = parts_for m (reach_of (rule_at e))

  met_by : (o : Outcome) → o ≢ NoMemory → Allows b (proposal_of b.problem v e) o → AreNoted b.problem (left_by b 0 (proposal_of b.problem v e) o).problem n.noted m.noted
      → AreStirred b.problem (left_by b 0 (proposal_of b.problem v e) o).problem n m → Grows n m → (a : Part) → Contains (heads e) a → Contains count a → Passed opens f v (e ∷ []) n b m (left_by b 0 (proposal_of b.problem v e) o)
  met_by (Closed x) mem ok noted stirred kept a own c = met_still opens f v n m b h kept e (inl (noted_head b.problem count e a own c)) (passed_at f b v e (Closed x) fresh on mem ok)
  met_by Full mem ok noted stirred kept a own c = met_still opens f v n m b h kept e (inl (noted_head b.problem count e a own c)) (passed_at f b v e Full fresh on mem ok)
  met_by (Stale k) mem ok noted stirred kept a own c = met_still opens f v n m b h kept e (inl (noted_head b.problem count e a own c)) (passed_at f b v e (Stale k) fresh on mem ok)
  met_by Past mem ok noted stirred kept a own c = met_still opens f v n m b h kept e (inl (noted_head b.problem count e a own c)) (passed_at f b v e Past fresh on mem ok)
  met_by NotDecimal mem ok noted stirred kept a own c = met_still opens f v n m b h kept e (inl (noted_head b.problem count e a own c)) (passed_at f b v e NotDecimal fresh on mem ok)
  met_by (Applied k) mem ok noted stirred kept a own c = by e fresh on ok noted stirred own c
    where
      by : (e : Instance) → IsFresh f b.problem e → enabled_on b.problem e ≡ true → Allows b (proposal_of b.problem v e) (Applied k) → AreNoted b.problem (with_instance b 0 v e).problem n.noted m.noted
          → AreStirred b.problem (with_instance b 0 v e).problem n m → Contains (heads e) a → Contains (parts_for m (reach_of (rule_at e))) a → Passed opens f v (e ∷ []) n b m (with_instance b 0 v e)
      by (at.Reduction r) fresh on ok noted stirred own c = met_applied opens f v n m b h kept r on ok.0.undecided ok.0.room noted stirred (noted_head (changed r b.problem) (parts_for m (reach_of (rule_at (at.Reduction r)))) (at.Reduction r) a own c)
          (passed_at f b v (at.Reduction r) (Applied k) fresh on mem ok)
      by (at.Verdict x) fresh on ok noted stirred own c = met_verdict opens f v n m b h kept x (passed_at f b v (at.Verdict x) (Applied k) fresh on mem ok)
  met_by NoMemory mem ok noted stirred kept a own c = absurd (mem refl)

  -- it is refused for a number, and sleeps
  asleep_by : (o : Outcome) → is_refusal o ≡ true → rests_on_reading (rule_at e) ≡ true → Allows b (proposal_of b.problem v e) o → Grows n m → (a : Part) → Contains (heads e) a → Contains m.asleep a
      → Passed opens f v (e ∷ []) n b m (left_by b 0 (proposal_of b.problem v e) o)
  asleep_by (Closed x) refused rests ok kept a own c = absurd (true≢false (sym refused))
  asleep_by Full refused rests ok kept a own c = absurd (true≢false (sym refused))
  asleep_by (Stale k) refused rests ok kept a own c = absurd (true≢false (sym refused))
  asleep_by Past refused rests ok kept a own c =
      met_still opens f v n m b h kept e (inr (record { told = noted_head b.problem m.asleep e a own c; rests = past_rests b e v rests on ok; by_ends = sleepers_read_ends (rule_at e) rests })) (passed_at f b v e Past fresh on (λ x. cc) ok)
  asleep_by NotDecimal refused rests ok kept a own c =
      met_still opens f v n m b h kept e (inr (record { told = noted_head b.problem m.asleep e a own c; rests = not_decimal_rests b e v rests on ok; by_ends = sleepers_read_ends (rule_at e) rests })) (passed_at f b v e NotDecimal fresh on (λ x. cc) ok)
  asleep_by (Applied k) refused rests ok kept a own c = absurd (true≢false (sym refused))
  asleep_by NoMemory refused rests ok kept a own c = absurd (true≢false (sym refused))

pub met : (opens : Open) (f : Sparse) (v : ℕ) (n m : Marks) (b c : Ledger) (e : Instance) (o : Outcome) (a : Part) → Follows opens f b → IsFresh f b.problem e → enabled_on b.problem e ≡ true → o ≢ NoMemory → Allows b (proposal_of b.problem v e) o
    → c ≡ left_by b 0 (proposal_of b.problem v e) o → AreNoted b.problem c.problem n.noted m.noted → AreStirred b.problem c.problem n m → ((x : Part) → Contains n.asleep x → Contains m.asleep x)
    → Contains (heads e) a → Contains (parts_for m (reach_of (rule_at e))) a → Passed opens f v (e ∷ []) n b m c
met opens f v n m b c e o a h fresh on mem ok left noted stirred sleeps own there =
    subst (λ (x : Ledger). Passed opens f v (e ∷ []) n b m x) (sym left)
    (met_by opens f v n m b h e fresh on o mem ok (subst (λ (x : Ledger). AreNoted b.problem x.problem n.noted m.noted) left noted) (subst (λ (x : Ledger). AreStirred b.problem x.problem n m) left stirred)
    (record { noted = noted.kept; stirred = stirred.stirred.kept; roused = stirred.roused.kept; asleep = sleeps }) a own there)

pub met_asleep : (opens : Open) (f : Sparse) (v : ℕ) (n m : Marks) (b c : Ledger) (e : Instance) (o : Outcome) (a : Part) → Follows opens f b → IsFresh f b.problem e → enabled_on b.problem e ≡ true → is_refusal o ≡ true → rests_on_reading (rule_at e) ≡ true
    → Allows b (proposal_of b.problem v e) o → c ≡ left_by b 0 (proposal_of b.problem v e) o → Grows n m → Contains (heads e) a → Contains m.asleep a → Passed opens f v (e ∷ []) n b m c
met_asleep opens f v n m b c e o a h fresh on refused rests ok left kept own there =
    subst (λ (x : Ledger). Passed opens f v (e ∷ []) n b m x) (sym left) (asleep_by opens f v n m b h e fresh on o refused rests ok kept a own there)
