-- Rounds that follow one another, and the last.
use Rattle.std.proofs.Common.{◌≡◌, ◌≢◌, ◌⊎◌, inl, inr, ℕ, suc, ◌+◌, ◌^◌, ◌<◌, ◌≤◌, true, false, Bool, List, [], ◌∷◌, ◌++◌, length, take, get_or, Option, Some, None, sym, refl, ap, ◌∙◌, subst, arith, append_assoc}
use Rattle.std.specs.Prelude.{◌&&◌, if◌then◌else◌, is_some}
use Rattle.std.specs.List.{Contains, filter, flat_map}
use Rattle.std.proofs.lemmas.List.{append-nil, take_more}
use Rattle.std.proofs.lemmas.Option.{none-some}
use Rattle.std.proofs.lemmas.List.Elements.{Contains-append_left, Contains-append_right}
use Rattle.problem_model.specs.declared.part.Part.{Part}
use Rattle.problem_model.specs.Noted.{AreNoted}
use Rattle.problem_model.specs.declared.part.Read.{Read}
use Rattle.problem_model.specs.Parts.{changes_of, contents_of}
use Rattle.problem_model.specs.Problems.{IsSparse}
use Rattle.problem_model.specs.Sparse.{Sparse}
use Rattle.edit_laws.specs.Sizes.{SameSize}
use Rattle.line_groups.specs.Groups.{AreGroupsOf, LineGroups}
use Rattle.presolve_model.specs.declared.conclusion.End.TheVariants.{LimitReached}
use Rattle.presolve_model.specs.declared.instance.Instance.{Instance}
use Rattle.presolve_model.specs.declared.instance.Instance.TheVariants as at
use Rattle.presolve_model.specs.declared.instance.Rule.{Rule}
use Rattle.presolve_model.specs.declared.instance.Verdict.{Verdict}
use Rattle.presolve_model.specs.declared.outcome.Outcome.{Outcome}
use Rattle.presolve_model.specs.declared.outcome.Outcome.TheVariants.{NoMemory}
use Rattle.presolve_model.specs.Commits.{Allows, left_by, with_instance}
use Rattle.presolve_model.specs.Enabled.{enabled_on}
use Rattle.presolve_model.specs.Ledger.{instance_count, Ledger, Stands}
use Rattle.presolve_model.specs.Order.{verdict_order}
use Rattle.presolve_model.specs.Ordered.{Closes, Committed, enabled_verdicts, Ordered, round_list}
use Rattle.presolve_model.specs.Scans.{all_ids, all_of, instances_at, proposal_of}
use Rattle.presolve_model.specs.Stuck.{skipped_on, Stuck}
use Rattle.presolve_model.specs.Instances.{instances_from, reach_of, rests_on_reading, rule_at}
use Rattle.presolve_model.specs.Tables.{heads}
use Rattle.presolve_model.proofs.Histories.{counted_along}
use Rattle.presolve_model.proofs.Readings.{reading_agrees}
use Rattle.history_laws.proofs.Keeping.{sparse_replay}
use Rattle.place_laws.specs.Choosing.{all_around, AreSorted, Around, HasEach, HoldsAround, IsComplete, visited}
use Rattle.dual_laws.specs.declared.form.Form.{Form}
use Rattle.dual_laws.specs.Forms.{LetsByCost, LetsInPairs}
use Rattle.presolve_model.specs.declared.instance.Reach.{Reach}
use Rattle.presolve_model.specs.declared.instance.Reach.TheVariants.{OwnRow, OwnColumn, RowsOfBounds, ColumnsOfSides, RowsOfBoth, SoleColumns, RowsBeside, ColumnsBeside}
use Rattle.place_laws.specs.Marks.{AreStirred, Grows, IsMarked, IsNoted, is_refusal, LetsNoMore, Marks, parts_for}
use Rattle.place_laws.specs.Standing.{IsFresh, IsLaterAt}
use Rattle.round_laws.specs.Passing.{Follows, IsSameBook, Passed}
use Rattle.place_laws.proofs.Choosing.{all_each, all_sorted, marked_complete}
use Rattle.round_laws.proofs.Committing.{left_open}
use Rattle.place_laws.proofs.Places.{IsVerdict, verdict_from}
use Rattle.round_laws.proofs.Rounds.{committed_grows, passed_marked, passed_round, round_stuck, undecided_none}
use Rattle.place_laws.proofs.ShortLists.{comes_from}
use Rattle.run_laws.proofs.Runs.{run_full}
use Rattle.round_laws.proofs.Tracking.{passed_none, passed_on}
use Rattle.round_laws.proofs.Turns.{follows_next, follows_start, met, met_asleep, met_stale}
use Rattle.round_marks.specs.Marking.{all_marked, AreReached, left_by as left_for, left_over, marked, Watched}
use Rattle.round_marks.specs.Forming.{AreFormsOf, Formed, forms_of}
use Rattle.round_marks.proofs.Reforming.{formed}
use Rattle.presolve_rounds.specs.Walking.{IsGoing, IsPassed}
use Rattle.presolve_model.specs.Tallies.{Open, open_on}
use Rattle.presolve_rounds.specs.Readiness.{AreMarked, IsReady}
use Rattle.presolve_rounds.specs.Running.{EndsWith, IsAtFixpoint, IsFirst}
use Rattle.round_marks.specs.Stamping.{AreStampsOf, restamped, Stamped, stamps_of}
use Rattle.round_marks.proofs.Restamping.{restamped_right, stamped}

-- ---- what is marked
-- a part more
more_in : (m : List Part) (a : Part) → ((b : Part) → Contains m b → Contains (m ++ a ∷ []) b) × Contains (m ++ a ∷ []) a
more_in m a = (λ b c. Contains-append_left m (a ∷ []) b c, Contains-append_right m (a ∷ []) a (0, omega arith, refl))

noted_more : (p q : Sparse) (n m : List Part) (a : Part) → AreNoted p q n m → AreNoted p q n (m ++ a ∷ [])
noted_more p q n m a h = record { kept = λ b c. (more_in m a).0 b (h.kept b c); changed = λ b. wider b (h.changed b) }
  where
    wider : {A : Type 0} (b : Part) → A ⊎ Contains m b → A ⊎ Contains (m ++ a ∷ []) b
    wider b (inl x) = inl x
    wider b (inr c) = inr ((more_in m a).0 b c)

module _ (R : Form → Form → Type 0) (p q : Sparse) (n m : List Part) (a : Part) where
  lets_more : LetsNoMore R p q n m → LetsNoMore R p q n (m ++ a ∷ [])
  lets_more h = record { kept = λ b c. (more_in m a).0 b (h.kept b c); changed = λ b. wider b (h.changed b) }
    where
      wider : {A : Type 0} (b : Part) → A ⊎ Contains m b → A ⊎ Contains (m ++ a ∷ []) b
      wider b (inl x) = inl x
      wider b (inr c) = inr ((more_in m a).0 b c)

-- what is left over counts for its reach
pub over_counts : (r : Reach) (k : Marks) (a : Part) → Contains (parts_for (left_for r k a) r) a
over_counts OwnRow k a = (more_in k.noted a).1
over_counts OwnColumn k a = (more_in k.noted a).1
over_counts RowsOfBounds k a = (more_in k.noted a).1
over_counts ColumnsOfSides k a = (more_in k.stirred a).1
over_counts RowsOfBoth k a = (more_in k.roused a).1
over_counts SoleColumns k a = (more_in k.noted a).1
over_counts RowsBeside k a = (more_in k.noted a).1
over_counts ColumnsBeside k a = (more_in k.noted a).1

more_noted : (k : Marks) (a : Part) → Grows k (record k { noted = k.noted ++ a ∷ [] })
more_noted k a = record { noted = (more_in k.noted a).0; stirred = λ x c. c; roused = λ x c. c; asleep = λ x c. c }

pub over_grows : (r : Reach) (k : Marks) (a : Part) → Grows k (left_for r k a)
over_grows OwnRow k a = more_noted k a
over_grows OwnColumn k a = more_noted k a
over_grows RowsOfBounds k a = more_noted k a
over_grows ColumnsOfSides k a = record { noted = λ x c. c; stirred = (more_in k.stirred a).0; roused = λ x c. c; asleep = λ x c. c }
over_grows RowsOfBoth k a = record { noted = λ x c. c; stirred = λ x c. c; roused = (more_in k.roused a).0; asleep = λ x c. c }
over_grows SoleColumns k a = more_noted k a
over_grows RowsBeside k a = more_noted k a
over_grows ColumnsBeside k a = more_noted k a

pub over_noted : (p q : Sparse) (n : List Part) (r : Reach) (k : Marks) (a : Part) → AreNoted p q n k.noted → AreNoted p q n (left_for r k a).noted
over_noted p q n OwnRow k a h = noted_more p q n k.noted a h
over_noted p q n OwnColumn k a h = noted_more p q n k.noted a h
over_noted p q n RowsOfBounds k a h = noted_more p q n k.noted a h
over_noted p q n ColumnsOfSides k a h = h
over_noted p q n RowsOfBoth k a h = h
over_noted p q n SoleColumns k a h = noted_more p q n k.noted a h
over_noted p q n RowsBeside k a h = noted_more p q n k.noted a h
over_noted p q n ColumnsBeside k a h = noted_more p q n k.noted a h

pub over_stirred : (p q : Sparse) (n : Marks) (r : Reach) (k : Marks) (a : Part) → AreStirred p q n k → AreStirred p q n (left_for r k a)
over_stirred p q n OwnRow k a h = record { stirred = h.stirred; roused = h.roused }
over_stirred p q n OwnColumn k a h = record { stirred = h.stirred; roused = h.roused }
over_stirred p q n RowsOfBounds k a h = record { stirred = h.stirred; roused = h.roused }
over_stirred p q n ColumnsOfSides k a h = record { stirred = lets_more LetsByCost p q n.stirred k.stirred a h.stirred; roused = h.roused }
over_stirred p q n RowsOfBoth k a h = record { stirred = h.stirred; roused = lets_more LetsInPairs p q n.roused k.roused a h.roused }
over_stirred p q n SoleColumns k a h = record { stirred = h.stirred; roused = h.roused }
over_stirred p q n RowsBeside k a h = record { stirred = h.stirred; roused = h.roused }
over_stirred p q n ColumnsBeside k a h = record { stirred = h.stirred; roused = h.roused }

-- a stale instance is left over
pub stale_left : (f : Ledger) (w v : Watched) (b : Ledger) (e : Instance) (a : Part) → IsGoing f w b → (IsFresh f.problem b.problem e → ⊥) → v ≡ record { marks = left_over w.marks e a; forms = w.forms } → Contains (heads e) a → IsPassed f (e ∷ []) w b v b
stale_left f w v b e a going stale is own = subst (λ (x : Watched). IsPassed f (e ∷ []) w b x b) (sym is) (record {
  passed = met_stale (open_on f.tally) f.problem (instance_count f) w.marks (left_over w.marks e a) b e a going.follows stale (over_grows (reach_of (rule_at e)) w.marks a) own (over_counts (reach_of (rule_at e)) w.marks a);
  forms = going.forms;
})

-- an instance after its turn: k is what was marked when it was applied, and m with a part of it
module _ (opens : Open) (f : Sparse) (w : ℕ) (n k m : Marks) (b c : Ledger) (e : Instance) (o : Outcome) (a : Part) (h : Follows opens f b) (fresh : IsFresh f b.problem e) (on : enabled_on b.problem e ≡ true) (answered : o ≢ NoMemory)
    (allows : Allows b (proposal_of b.problem w e) o) (left : c ≡ left_by b 0 (proposal_of b.problem w e) o) (noted : AreNoted b.problem c.problem n.noted k.noted) (stirred : AreStirred b.problem c.problem n k)
    (asleep : k.asleep ≡ n.asleep) (own : Contains (heads e) a) where
  sleeps_still : (x : Part) → Contains n.asleep x → Contains k.asleep x
  sleeps_still x d = subst (λ (xs : List Part). Contains xs x) (sym asleep) d

  -- it is left over
  met_left : Passed opens f w (e ∷ []) n b (left_over k e a) c
  met_left = let r : Reach = reach_of (rule_at e) in
      met opens f w n (left_for r k a) b c e o a h fresh on answered allows left (over_noted b.problem c.problem n.noted r k a noted) (over_stirred b.problem c.problem n r k a stirred)
      (λ x d. (over_grows r k a).asleep x (sleeps_still x d)) own (over_counts r k a)

  pub met_marked : m ≡ marked k e o a → Passed opens f w (e ∷ []) n b m c
  met_marked is = subst (λ (x : Marks). Passed opens f w (e ∷ []) n b x c) (sym is) (by (is_refusal o) (rests_on_reading (rule_at e)) refl refl)
    where
      by : (s t : Bool) → is_refusal o ≡ s → rests_on_reading (rule_at e) ≡ t → Passed opens f w (e ∷ []) n b (if s && t then record k { asleep = k.asleep ++ a ∷ [] } else left_over k e a) c
      by true true refused rests = met_asleep opens f w n (record k { asleep = k.asleep ++ a ∷ [] }) b c e o a h fresh on refused rests allows left
          (record { noted = noted.kept; stirred = stirred.stirred.kept; roused = stirred.roused.kept; asleep = λ x d. (more_in k.asleep a).0 x (sleeps_still x d) }) own (more_in k.asleep a).1
      by true false refused rests = met_left
      by false t refused rests = met_left

-- ---- before the first round
sparse_of : (b : Ledger) → Stands b → IsSparse b.problem
sparse_of b s = subst IsSparse (sym s.problem) (sparse_replay b.numbers b.start b.history s.sound s.replays)

-- no part has changed more often than reductions were applied
counted_of : (b : Ledger) → Stands b → (a : Part) → changes_of b.problem a ≤ length b.history
counted_of b h a =
    let few : changes_of b.problem a ≤ changes_of b.start a + length b.history = subst (λ (p : Sparse). changes_of p a ≤ changes_of b.start a + length b.history) (sym h.problem) (counted_along b.numbers b.start b.history a h.sound h.replays) in
    omega (arith, few, h.unchanged a)

pub ready_from : (b : Ledger) (s : Stamped) (n : Around) (w : Watched) → Stands b → b.limit < 2 ^ 64 → s ≡ stamps_of b.problem → AreSorted n → HasEach (open_on b.tally) b.problem n → w.forms ≡ forms_of b.problem → IsReady b s n w
ready_from b s n w h short es sorted each ew = record {
  follows = follows_start b (counted_of b h) short (sparse_of b h);
  stamps = subst (λ (x : Stamped). AreStampsOf x b.problem) (sym es) (stamped b.problem);
  forms = subst (λ (x : Formed). AreFormsOf x b.problem) (sym ew) (formed b.problem);
  sorted = sorted;
  complete = λ e on free. inl (each e on free);
}

-- all ids have each
pub all_have : (b : Ledger) (n : Around) → n ≡ all_around b.problem → AreSorted n × HasEach (open_on b.tally) b.problem n
all_have b n en = (subst AreSorted (sym en) (all_sorted b.problem), subst (HasEach (open_on b.tally) b.problem) (sym en) (all_each (open_on b.tally) b.problem))

pub ready_first : (b : Ledger) (s : Stamped) (n : Around) (w : Watched) → Stands b → b.limit < 2 ^ 64 → s ≡ stamps_of b.problem → n ≡ all_around b.problem → w.forms ≡ forms_of b.problem → IsReady b s n w
ready_first b s n w h short es en ew = let k = all_have b n en in ready_from b s n w h short es k.0 k.1 ew

-- as a round begins
pub ready_begun : (b : Ledger) (s : Stamped) (n : Around) (w v : Watched) → IsReady b s n w → v ≡ record { marks = record { noted = []; stirred = []; roused = []; asleep = w.marks.asleep }; forms = w.forms } → IsReady b s n v
ready_begun b s n w v ready is = record {
  follows = ready.follows;
  stamps = ready.stamps;
  forms = subst (λ (x : Watched). AreFormsOf x.forms b.problem) (sym is) ready.forms;
  sorted = ready.sorted;
  complete = subst (λ (x : Watched). IsComplete b.numbers (open_on b.tally) b.problem n x.marks.asleep) (sym is) ready.complete;
}

-- ---- from one round to the next
module _ (b c : Ledger) (s : Stamped) (n : Around) (w v : Watched) (ready : IsReady b s n w) (h : IsPassed b (visited (open_on b.tally) b.problem n) w b v c) where
  pub round_committed : Committed b (round_list b) c
  round_committed = passed_round b c n w.marks v.marks ready.sorted ready.complete h.passed

  pub round_marked : c.verdict ≡ None → length c.history < c.limit → AreMarked c v.marks
  round_marked none room = passed_marked b c n w.marks v.marks ready.sorted ready.complete h.passed none room

  pub ready_next : (t : Stamped) (l : Around) → t ≡ restamped s c.problem v.marks.noted → AreSorted l → HoldsAround c.problem v.marks l → c.verdict ≡ None → length c.history < c.limit → IsReady c t l v
  ready_next t l e sorted holds none room = record {
    follows = follows_next (open_on b.tally) b.problem c h.passed.follows;
    stamps = subst (λ (x : Stamped). AreStampsOf x c.problem) (sym e) (restamped_right b.problem c.problem s v.marks.noted ready.stamps ready.follows.sparse h.passed.follows.sparse h.passed.follows.size h.passed.moved);
    forms = h.forms;
    sorted = sorted;
    complete = marked_complete c.numbers (open_on c.tally) c.problem v.marks l h.passed.follows.sparse holds (round_marked none room);
  }

-- each enabled instance reads a part that is marked
pub marked_reached : (b : Ledger) (m : Marks) → AreMarked b m → AreReached (open_on b.tally) b.problem (all_marked m)
marked_reached b m h e on free = by (h e on free)
  where
    counted : List Part
    counted = m.noted ++ m.stirred ++ m.roused

    noted : (a : Part) → Contains m.noted a → Contains (all_marked m) a
    noted a c = Contains-append_left counted m.asleep a (Contains-append_left (m.noted ++ m.stirred) m.roused a (Contains-append_left m.noted m.stirred a c))

    among : (r : Reach) (a : Part) → Contains (parts_for m r) a → Contains (all_marked m) a
    among OwnRow a c = noted a c
    among OwnColumn a c = noted a c
    among RowsOfBounds a c = noted a c
    among ColumnsOfSides a c = Contains-append_left counted m.asleep a (Contains-append_left (m.noted ++ m.stirred) m.roused a (Contains-append_right m.noted m.stirred a c))
    among RowsOfBoth a c = Contains-append_left counted m.asleep a (Contains-append_right (m.noted ++ m.stirred) m.roused a c)
    among SoleColumns a c = noted a c
    among RowsBeside a c = noted a c
    among ColumnsBeside a c = noted a c

    by : IsMarked b.numbers b.problem m e → IsNoted b.problem (all_marked m) e
    by (inl (a, r, c)) = (a, r, among (reach_of (rule_at e)) a c)
    by (inr k) = let told = k.told in (told.0, told.1, Contains-append_right counted m.asleep told.0 told.2)

-- a round that applied something
pub more_applied : (b c : Ledger) → Committed b (round_list b) c → length c.history ≢ length b.history → length b.history < length c.history
more_applied b c h other = let g = committed_grows b c (round_list b) h in omega (arith, g, other)

-- a round that applied nothing
pub at_fixpoint : (b c : Ledger) (n : ℕ) → b.verdict ≡ None → length b.history < b.limit → Committed b (round_list b) c → c.verdict ≡ None → length c.history ≡ length b.history → n ≡ skipped_on (open_on c.tally) c.problem → IsAtFixpoint c n
at_fixpoint b c n before room h none long e =
    let s = round_stuck b c before room h none long in
    let both : (length c.history < c.limit) × Stuck c.numbers (open_on c.tally) c.problem = subst (λ (y : Ledger). (length y.history < y.limit) × Stuck y.numbers (open_on y.tally) y.problem) (sym s.0) (room, s.1) in
    (both.0, both.1, e)

-- it is stuck where nothing was applied, and its history has not become shorter
pub stuck_after : (b c : Ledger) → b.verdict ≡ None → length b.history < b.limit → Committed b (round_list b) c → c.verdict ≡ None → length c.history ≡ length b.history → Stuck c.numbers (open_on c.tally) c.problem
stuck_after b c before room h none long = (at_fixpoint b c (skipped_on (open_on c.tally) c.problem) before room h none long refl).1

pub committed_grown : (b c : Ledger) → Committed b (round_list b) c → length b.history ≤ length c.history
committed_grown b c h = committed_grows b c (round_list b) h

-- ---- a book that is full
pub full_undecided : (b : Ledger) → enabled_verdicts (open_on b.tally) b.problem ≡ [] → b.limit ≤ length b.history → length b.history ≤ b.limit → Ordered b (Some LimitReached) b × EndsWith (Some LimitReached) b
full_undecided b none full within =
    (run_full b b (Some LimitReached) full (subst (λ (vs : List Instance). Closes b vs (Some LimitReached) b) (sym none) (refl, refl)), (omega (arith, full, within), undecided_none (open_on b.tally) b.problem none))

-- the first of what passes passes
first_passes : (P : Instance → Bool) (es : List Instance) (v : Instance) (rest : List Instance) → filter P es ≡ v ∷ rest → (P v ≡ true) × Contains es v
first_passes P [] v rest h = absurd (let f = h in cc)
first_passes P (e ∷ es) v rest h = by (P e) refl h (first_passes P es v rest)
  where
    by : (b : Bool) → P e ≡ b → (if b then e ∷ filter P es else filter P es) ≡ v ∷ rest → (filter P es ≡ v ∷ rest → (P v ≡ true) × Contains es v) → (P v ≡ true) × Contains (e ∷ es) v
    by true t g ih = let same : e ≡ v = cc in (subst (λ (x : Instance). P x ≡ true) same t, (0, omega arith, same))
    by false t g ih = let k = ih g in (k.0, (let c = k.1 in by_more c))
      where
        by_more : Contains es v → Contains (e ∷ es) v
        by_more (i, l, f) = (suc i, omega (arith, l), f)

verdict_there : (opens : Open) (p : Sparse) (v : Instance) → Contains (all_of opens p verdict_order) v → IsVerdict v
verdict_there opens p v c =
    let r = comes_from (λ (rule : Rule). instances_at opens p rule (all_ids p rule)) verdict_order v c in
    let k = comes_from (instances_from opens p r.0) (all_ids p r.0) v r.2 in
    verdict_from opens p r.0 k.0 v r.1 k.2

pub full_enabled : (b : Ledger) (v : Instance) → IsFirst (enabled_verdicts (open_on b.tally) b.problem) (Some v) → enabled_on b.problem v ≡ true
full_enabled b v h = (first_passes (enabled_on b.problem) (all_of (open_on b.tally) b.problem verdict_order) v h.0 h.1).0

pub full_decided : (b c : Ledger) (w : ℕ) (v : Instance) (o : Outcome) → b.verdict ≡ None → b.limit ≤ length b.history → IsFirst (enabled_verdicts (open_on b.tally) b.problem) (Some v) → o ≢ NoMemory
    → Allows b (proposal_of b.problem w v) o → c ≡ left_by b 0 (proposal_of b.problem w v) o → Ordered b None c × (c.verdict ≢ None) × IsSameBook b c
full_decided b c w v o none full h mem a left = by (verdict_there (open_on b.tally) b.problem v (first_passes (enabled_on b.problem) (all_of (open_on b.tally) b.problem verdict_order) v h.0 h.1).1)
  where
    by : IsVerdict v → Ordered b None c × (c.verdict ≢ None) × IsSameBook b c
    by (x, same) =
        let opened : left_by b 0 (proposal_of b.problem w (at.Verdict x)) o ≡ with_instance b 0 w (at.Verdict x) =
        left_open b (proposal_of b.problem w (at.Verdict x)) o mem (subst (λ (e : Instance). Allows b (proposal_of b.problem w e) o) same a) (record { undecided = none; room = tt; agrees = reading_agrees b.problem (at.Verdict x) }) tt tt in
        let is : c ≡ with_instance b 0 w (at.Verdict x) = left ∙ ap (λ (e : Instance). left_by b 0 (proposal_of b.problem w e) o) same ∙ opened in (
          run_full b c None full (subst (λ (vs : List Instance). Closes b vs None c) (sym h.1) (refl, is ∙ ap (with_instance b 0 (instance_count b)) (sym same))),
          subst (λ (y : Ledger). y.verdict ≢ None) (sym is) (λ f. none-some x (sym f)),
          subst (λ (y : Ledger). IsSameBook b y) (sym is) (record { start = refl; numbers = refl; limit = refl }),
        )

-- ---- the loop of rounds
pub none_of : (o v : Option Verdict) → o ≡ v → false ≡ is_some o → v ≡ None
none_of o None e h = refl
none_of o (Some x) e h = absurd (let f = ap is_some e in let g : false ≡ true = h ∙ f in cc)

pub some_of : (o v : Option Verdict) → o ≡ v → true ≡ is_some o → v ≢ None
some_of o v e h f = absurd (let g : true ≡ false = h ∙ ap is_some (e ∙ f) in cc)

-- books that were opened alike one after the other
pub same_twice : (a b c : Ledger) → IsSameBook a b → IsSameBook b c → IsSameBook a c
same_twice a b c x y = record { start = y.start ∙ x.start; numbers = y.numbers ∙ x.numbers; limit = y.limit ∙ x.limit }

-- ---- passes in a row
flat_both : {X : Type 0} (g : X → List Instance) (xs ys : List X) → flat_map g (xs ++ ys) ≡ flat_map g xs ++ flat_map g ys
flat_both g [] ys = refl
flat_both g (x ∷ xs) ys = ap (λ (es : List Instance). g x ++ es) (flat_both g xs ys) ∙ sym (append_assoc (g x) (flat_map g xs) (flat_map g ys))

-- one pass after another
pub both_passed : (a : Ledger) (es fs : List Instance) (w v u : Watched) (b c d : Ledger) → IsPassed a es w b v c → IsPassed a fs v c u d → IsPassed a (es ++ fs) w b u d
both_passed a es fs w v u b c d h k = record { passed = passed_on (open_on a.tally) a.problem (instance_count a) es fs w.marks v.marks u.marks b c d h.passed k.passed; forms = k.forms }

pub none_passed : (a : Ledger) (w : Watched) (b : Ledger) → IsGoing a w b → IsPassed a [] w b w b
none_passed a w b h = record { passed = passed_none (open_on a.tally) a.problem (instance_count a) w.marks b h.follows; forms = h.forms }

pub goes_on : (a : Ledger) (es : List Instance) (w v : Watched) (b c : Ledger) → IsGoing a w b → IsPassed a es w b v c → IsGoing a v c
goes_on a es w v b c going h = record { began = going.began; follows = h.passed.follows; forms = h.forms; noted = λ x. after x (going.noted x) (h.passed.moved x) }
  where
    after : (x : Part) → (changes_of b.problem x ≡ changes_of a.problem x) ⊎ Contains w.marks.noted x → (changes_of c.problem x ≡ changes_of b.problem x) ⊎ Contains v.marks.noted x → (changes_of c.problem x ≡ changes_of a.problem x) ⊎ Contains v.marks.noted x
    after x before (inr d) = inr d
    after x (inl e) (inl f) = inl (f ∙ e)
    after x (inr d) (inl f) = inr (h.passed.grows.noted x d)

-- what comes of one of a list more
pub one_more : {X : Type 0} (a : Ledger) (g : X → List Instance) (xs : List X) (i : ℕ) (x : X) (w v u : Watched) (b c d : Ledger) → i < length xs → IsPassed a (flat_map g (take i xs)) w b v c → IsPassed a (g (get_or xs i x)) v c u d
    → IsPassed a (flat_map g (take (i + 1) xs)) w b u d
one_more a g xs i x w v u b c d inside h k =
    let more : flat_map g (take (i + 1) xs) ≡ flat_map g (take i xs) ++ g (get_or xs i x) =
    ap (flat_map g) (take_more xs i x inside) ∙ flat_both g (take i xs) (get_or xs i x ∷ []) ∙ ap (λ (es : List Instance). flat_map g (take i xs) ++ es) (append-nil (g (get_or xs i x))) in
    subst (λ (es : List Instance). IsPassed a es w b u d) (sym more) (both_passed a (flat_map g (take i xs)) (g (get_or xs i x)) w v u b c d h k)

pub one_instance_more : (a : Ledger) (es : List Instance) (i : ℕ) (e : Instance) (w v u : Watched) (b c d : Ledger) → i < length es → IsPassed a (take i es) w b v c → IsPassed a (get_or es i e ∷ []) v c u d → IsPassed a (take (i + 1) es) w b u d
one_instance_more a es i e w v u b c d inside h k = subst (λ (fs : List Instance). IsPassed a fs w b u d) (sym (take_more es i e inside)) (both_passed a (take i es) (get_or es i e ∷ []) w v u b c d h k)

-- a list that is not empty has a first
pub first_there : (es : List Instance) (d : Instance) → 0 < length es → IsFirst es (Some (get_or es 0 d))
first_there [] d l = absurd (omega (arith, l))
first_there (e ∷ es) d l = (es, refl)

-- what the groups of the problem before tell of the one after a round
pub contents_kept : (a c : Ledger) (w : Watched) → Follows (open_on a.tally) a.problem c → ((x : Part) → (changes_of c.problem x ≡ changes_of a.problem x) ⊎ Contains w.marks.noted x) → (x : Part) → (contents_of c.problem x ≡ contents_of a.problem x) ⊎ Contains w.marks.noted x
contents_kept a c w h noted x = by (noted x) (h.later x)
  where
    by : (changes_of c.problem x ≡ changes_of a.problem x) ⊎ Contains w.marks.noted x → IsLaterAt a.problem c.problem x → (contents_of c.problem x ≡ contents_of a.problem x) ⊎ Contains w.marks.noted x
    by (inr d) l = inr d
    by (inl e) (inl same) = inl (ap (λ (r : Read). r.contents) same)
    by (inl e) (inr more) = absurd (omega (arith, e, more))

pub groups_next : (old new : LineGroups) (b d : Ledger) (v : Watched) (p : Sparse) (parts : List Part) → p ≡ d.problem → parts ≡ v.marks.noted → AreGroupsOf old b.problem → Follows (open_on b.tally) b.problem d
    → ((x : Part) → (changes_of d.problem x ≡ changes_of b.problem x) ⊎ Contains v.marks.noted x)
    → ((f : Sparse) → AreGroupsOf old f → SameSize f p → ((x : Part) → (contents_of p x ≡ contents_of f x) ⊎ Contains parts x) → AreGroupsOf new p) → AreGroupsOf new d.problem
groups_next old new b d v p parts e f told follows moved h = subst (AreGroupsOf new) e (h b.problem told (subst (SameSize b.problem) (sym e) follows.size) (λ x. by x (contents_kept b d v follows moved x)))
  where
    by : (x : Part) → (contents_of d.problem x ≡ contents_of b.problem x) ⊎ Contains v.marks.noted x → (contents_of p x ≡ contents_of b.problem x) ⊎ Contains parts x
    by x (inl s) = inl (ap (λ (q : Sparse). contents_of q x) e ∙ s)
    by x (inr c) = inr (subst (λ (ps : List Part). Contains ps x) (sym f) c)
