-- No side of a column is tightened more than ten times: what was open as a round began is open at its turn, where its reading stands.
use Rattle.std.proofs.Common.{◌≡◌, ◌≢◌, ◌⊎◌, inl, inr, ℕ, zero, suc, ◌+◌, ◌<◌, ◌≤◌, ◌^◌, min, nat_eq, Bool, true, false, ◌&&◌, cond, List, [], ◌∷◌, ◌++◌, length, length-append, map, Some, sym, refl, ap, ◌∙◌, subst, arith}
use Rattle.std.specs.List.{All, Contains, filter, flat_map}
use Rattle.std.proofs.lemmas.Bool.{cases_eq, ltb-true, ne_eqb}
use Rattle.std.proofs.lemmas.List.Elements.{All-append, All-cons, All-head, All-nil, All-tail, filter-append}
use Rattle.lp_model.specs.ProgramData.{ProgramData}
use Rattle.undo_records.specs.declared.side.Side.{Side}
use Rattle.undo_records.specs.declared.side.Side.TheVariants.{Lower, Upper}
use Rattle.undo_records.specs.declared.undo.Undo.{Undo}
use Rattle.problem_model.specs.declared.part.Part.{Part}
use Rattle.problem_model.specs.declared.part.Part.TheVariants as part
use Rattle.problem_model.specs.declared.part.Read.{Read}
use Rattle.problem_model.specs.Parts.{changes_of}
use Rattle.problem_model.specs.Problems.{IsSparse}
use Rattle.problem_model.specs.Programs.{IsProblemOf}
use Rattle.problem_model.specs.Reading.{Agrees, read_of}
use Rattle.problem_model.specs.Sparse.{Sparse}
use Rattle.presolve_model.specs.declared.conclusion.End.{End}
use Rattle.presolve_model.specs.declared.conclusion.Options.{Options}
use Rattle.presolve_model.specs.declared.instance.Instance.{Instance}
use Rattle.presolve_model.specs.declared.instance.Instance.TheVariants as at
use Rattle.presolve_model.specs.declared.instance.Reduction.{Reduction}
use Rattle.presolve_model.specs.declared.instance.Reduction.TheVariants.{EmptyRow, SingletonRow, FixedColumn, RoundedBounds, RedundantRow, RedundantSide, ForcingRow, BoundTightening, CoefficientTightening, DualFixing, DominatedColumn, DoubletonEquation, FreeColumnSingleton, SlackColumnSingleton, ParallelRows, ParallelColumns, EmptyColumn}
use Rattle.presolve_model.specs.declared.instance.Rule.{Rule}
use Rattle.presolve_model.specs.declared.outcome.Outcome.{Outcome}
use Rattle.presolve_model.specs.declared.outcome.Outcome.TheVariants.{Closed, Full, Stale, Past, NotDecimal, Applied, NoMemory}
use Rattle.presolve_model.specs.Changes.{changed}
use Rattle.presolve_model.specs.Commits.{Allows, HasRoom, IsOpen, left_by, with_instance}
use Rattle.presolve_model.specs.Enabled.{enabled_on, reading_of, reads}
use Rattle.presolve_model.specs.Given.{Proposed}
use Rattle.presolve_model.specs.Instances.{instances_from, is_open}
use Rattle.presolve_model.specs.Ledger.{instance_count, Ledger, Stands}
use Rattle.presolve_model.specs.Order.{reduction_order, verdict_order}
use Rattle.presolve_model.specs.Ordered.{Closes, Committed, enabled_verdicts, new_book, Ordered, round_list, RunsTo, Stops, StopsAfter}
use Rattle.presolve_model.specs.Scans.{all_ids, listed, proposal_of}
use Rattle.presolve_model.specs.Tables.{record_of}
use Rattle.presolve_model.specs.Tallies.{AreCountsOf, count_on, is_tightening, IsTally, Open, open_on, same_side, tightenings}
use Rattle.presolve_model.proofs.ByCases.{records_tallied, tallied_long}
use Rattle.presolve_model.proofs.Histories.{counted_along}
use Rattle.presolve_model.proofs.Listing.{listed_is}
use Rattle.presolve_model.proofs.Tabled.{same_size}
use Rattle.presolve_model.proofs.Tallying.{none_long, none_tallied}
use Rattle.presolve_model.proofs.Tightened.{tightened_read}
use Rattle.history_laws.proofs.Keeping.{sparse_replay}
use Rattle.place_laws.specs.Standing.{IsFresh}
use Rattle.place_laws.proofs.Places.{from_is}
use Rattle.place_laws.proofs.ShortLists.{comes_from, none_in}
use Rattle.round_laws.specs.Passing.{Follows}
use Rattle.round_laws.proofs.Committing.{fresh_enables}
use Rattle.round_laws.proofs.Numbers.{never_changed}
use Rattle.round_laws.proofs.Openness.{Tightens}
use Rattle.round_laws.proofs.Turns.{follows_applied, follows_next, follows_start}

-- ---- one record more
with_one : (us : List Undo) (u : Undo) (k : ℕ) (s : Side) → tightenings (us ++ u ∷ []) k s ≡ tightenings us k s + length (cond (is_tightening k s u) (u ∷ []) [])
with_one us u k s = ap length (filter-append (is_tightening k s) us (u ∷ [])) ∙ length-append (filter (is_tightening k s) us) (filter (is_tightening k s) (u ∷ []))

pub most_one : (us : List Undo) (u : Undo) (k : ℕ) (s : Side) → tightenings us k s ≤ 10 → (is_tightening k s u ≡ true → tightenings us k s < 10) → tightenings (us ++ u ∷ []) k s ≤ 10
most_one us u k s most few = by (is_tightening k s u) refl (with_one us u k s)
  where
    by : (b : Bool) → is_tightening k s u ≡ b → tightenings (us ++ u ∷ []) k s ≡ tightenings us k s + length (cond b (u ∷ []) []) → tightenings (us ++ u ∷ []) k s ≤ 10
    by true t e = let l = few t in omega (arith, l, e)
    by false t e = omega (arith, most, e)

both : (a b : Bool) → (a && b) ≡ true → (a ≡ true) × (b ≡ true)
both true b e = (refl, e)
both false b e = absurd (let f = e in cc)

one_id : (j k : ℕ) → nat_eq j k ≡ true → j ≡ k
one_id j k e = by (cases_eq j k)
  where
    by : (j ≡ k) ⊎ (j ≢ k) → j ≡ k
    by (inl f) = f
    by (inr n) = absurd (let f = sym (ne_eqb j k n) ∙ e in cc)

one_side : (s t : Side) → same_side s t ≡ true → s ≡ t
one_side Lower Lower e = refl
one_side Lower Upper e = absurd (let f = e in cc)
one_side Upper Lower e = absurd (let f = e in cc)
one_side Upper Upper e = refl

-- a record of a tightened bound is that of a reduction that tightens it
pub record_tightens : (p : Sparse) (r : Reduction) (k : ℕ) (s : Side) → is_tightening k s (record_of r p) ≡ true → Tightens r k s
unfolding record_of
record_tightens p (EmptyRow i) k s e = absurd (let f = e in cc)
record_tightens p (SingletonRow i) k s e = absurd (let f = e in cc)
record_tightens p (FixedColumn j) k s e = absurd (let f = e in cc)
record_tightens p (RoundedBounds j) k s e = absurd (let f = e in cc)
record_tightens p (RedundantRow i) k s e = absurd (let f = e in cc)
record_tightens p (RedundantSide i) k s e = absurd (let f = e in cc)
record_tightens p (ForcingRow i) k s e = absurd (let f = e in cc)
record_tightens p (BoundTightening i j side) k s e =
    let parts : (nat_eq j k ≡ true) × (same_side side s ≡ true) = both (nat_eq j k) (same_side side s) e in
    let id : j ≡ k = one_id j k parts.0 in
    let same : side ≡ s = one_side side s parts.1 in
    (i, λ t. BoundTightening i (id t) (same t))
record_tightens p (CoefficientTightening i j) k s e = absurd (let f = e in cc)
record_tightens p (DualFixing j) k s e = absurd (let f = e in cc)
record_tightens p (DominatedColumn i j l) k s e = absurd (let f = e in cc)
record_tightens p (DoubletonEquation i j l) k s e = absurd (let f = e in cc)
record_tightens p (FreeColumnSingleton j i) k s e = absurd (let f = e in cc)
record_tightens p (SlackColumnSingleton j i) k s e = absurd (let f = e in cc)
record_tightens p (ParallelRows i l) k s e = absurd (let f = e in cc)
record_tightens p (ParallelColumns j l) k s e = absurd (let f = e in cc)
record_tightens p (EmptyColumn j) k s e = absurd (let f = e in cc)

-- ---- what a book keeps: the tally is that of the records, of which no side of a column has more than ten
record IsWithinTen (b : Ledger) : Type 0 where
  counts : AreCountsOf (length b.problem.matrix.columns) b.tally
  tally : IsTally b.tally b.records
  most : (j : ℕ) (side : Side) → tightenings b.records j side ≤ 10

fewer : (b : Ledger) (r : Reduction) (j : ℕ) (side : Side) → IsTally b.tally b.records → is_open (open_on b.tally) (at.Reduction r) ≡ true → Tightens r j side → tightenings b.records j side < 10
fewer b r j side tally free (i, e) =
    let l : count_on b.tally j side < 10 = ltb-true (count_on b.tally j side) 10 (subst (λ (x : Reduction). is_open (open_on b.tally) (at.Reduction x) ≡ true) e free) in
    let same : count_on b.tally j side ≡ min (tightenings b.records j side) 10 = tally j side in
    omega (arith, l, same)

within_more : (b : Ledger) (v : ℕ) (r : Reduction) → IsWithinTen b → enabled_on b.problem (at.Reduction r) ≡ true → is_open (open_on b.tally) (at.Reduction r) ≡ true → IsWithinTen (with_instance b 0 v (at.Reduction r))
within_more b v r k on free = record {
  counts = tallied_long r b.tally (length (changed r b.problem).matrix.columns) (subst (λ (n : ℕ). AreCountsOf n b.tally) (sym (same_size b.problem r).columns) k.counts);
  tally = records_tallied b.problem r b.tally b.records on k.counts k.tally;
  most = λ j side. most_one b.records (record_of r b.problem) j side (k.most j side) (λ t. fewer b r j side k.tally free (record_tightens b.problem r j side t));
}

-- ---- at its turn in a round
-- what is fresh reads of each part what it read
pub fresh_at : (f p : Sparse) (ps : List Part) → Agrees p (map (read_of f) ps) → (a : Part) → Contains ps a → read_of p a ≡ read_of f a
fresh_at f p [] h a c = absurd (none_in a c)
fresh_at f p (b ∷ ps) h a (zero, l, e) = let same : read_of p b ≡ read_of f b = let g = h in cc in subst (λ (x : Part). read_of p x ≡ read_of f x) e same
fresh_at f p (b ∷ ps) h a (suc k, l, e) = fresh_at f p ps (let g = h in cc) a (k, omega (arith, l), e)

module _ (opens : Open) (f : Sparse) where
  -- a proposal of f that is open and enabled there
  record IsFound (p : Proposed) : Type 0 where
    read : p.reading ≡ reading_of f p.instance
    free : is_open opens p.instance ≡ true
    on : enabled_on f p.instance ≡ true

  open_still : (b : Ledger) (r : Reduction) → Follows opens f b → is_open opens (at.Reduction r) ≡ true → enabled_on f (at.Reduction r) ≡ true → IsFresh f b.problem (at.Reduction r) → is_open (open_on b.tally) (at.Reduction r) ≡ true
  open_still b (BoundTightening i j side) h free on fresh = by (h.moves j side)
    where
      same : read_of b.problem (part.Bounds j) ≡ read_of f (part.Bounds j)
      same = fresh_at f b.problem (reads f (at.Reduction (BoundTightening i j side))) fresh (part.Bounds j) (tightened_read f i j side on)

      by : (open_on b.tally j side ≡ opens j side) ⊎ (changes_of f (part.Bounds j) < changes_of b.problem (part.Bounds j)) → open_on b.tally j side ≡ true
      by (inl e) = e ∙ free
      by (inr l) = absurd (let e : changes_of b.problem (part.Bounds j) ≡ changes_of f (part.Bounds j) = ap (λ (x : Read). x.changes) same in omega (arith, l, e))
  open_still b r h free on fresh = refl

  abbrev Holds : Ledger → Type 0
  Holds b = Follows opens f b × IsWithinTen b

  applied : (b : Ledger) (e : Instance) (p : Proposed) → p.instance ≡ e → Holds b → is_open opens e ≡ true → enabled_on f e ≡ true → IsOpen b p → IsFresh f b.problem e → Holds (with_instance b 0 p.version e)
  applied b (at.Reduction r) p is (h, k) free on o fresh =
      let now : enabled_on b.problem (at.Reduction r) ≡ true = fresh_enables f b.problem (at.Reduction r) fresh ∙ on in
      (follows_applied opens f b p.version r h now (has_room p is o), within_more b p.version r k now (open_still b r h free on fresh))
    where
      has_room : (p : Proposed) → p.instance ≡ at.Reduction r → IsOpen b p → length b.history < b.limit
      has_room p is o = subst (λ (x : Instance). HasRoom b x) is o.room
  applied b (at.Verdict v) p is (h, k) free on o fresh = (
    record { later = h.later; counted = h.counted; short = h.short; sparse = h.sparse; size = h.size; moves = h.moves },
    record { counts = k.counts; tally = k.tally; most = k.most },
  )

  step : (b : Ledger) (p : Proposed) (o : Outcome) → Holds b → IsFound p → Allows b p o → Holds (left_by b 0 p o)
  step b p (Applied k) h found a = applied b p.instance p refl h found.free found.on a.0 (subst (Agrees b.problem) found.read a.0.agrees)
  step b p (Closed v) h found a = h
  step b p Full h found a = h
  step b p (Stale k) h found a = h
  step b p Past h found a = h
  step b p NotDecimal h found a = h
  step b p NoMemory h found a = h

  steps : (b c : Ledger) (ps : List Proposed) → Holds b → All IsFound ps → Committed b ps c → Holds c
  steps b c [] h all e = subst Holds (sym e) h
  steps b c (p ∷ ps) h all (o, answered, a, rest) = steps (left_by b 0 p o) c ps (step b p o h (All-head IsFound p ps all) a) (All-tail IsFound p ps all) rest

  -- ---- what a round lists is found
  found_each : (v : ℕ) (es : List Instance) → ((e : Instance) → Contains es e → is_open opens e ≡ true) → All IsFound (map (proposal_of f v) (filter (enabled_on f) es))
  found_each v [] h = All-nil IsFound
  found_each v (e ∷ es) h = by (enabled_on f e) refl (found_each v es (λ x c. h x (suc c.0, (let l = c.1 in omega (arith, l)), c.2)))
    where
      by : (b : Bool) → enabled_on f e ≡ b → All IsFound (map (proposal_of f v) (filter (enabled_on f) es)) → All IsFound (map (proposal_of f v) (cond b (e ∷ filter (enabled_on f) es) (filter (enabled_on f) es)))
      by true on rest = All-cons IsFound (proposal_of f v e) (map (proposal_of f v) (filter (enabled_on f) es)) (record { read = refl; free = h e (zero, omega arith, refl); on = on }) rest
      by false off rest = rest

  found_all : (v : ℕ) (rules : List Rule) → All IsFound (listed opens f v (all_ids f) rules)
  found_all v rules = subst (All IsFound) (sym (listed_is opens f v (all_ids f) rules))
      (found_each v (flat_map (λ rule. flat_map (instances_from opens f rule) (all_ids f rule)) rules) (λ e c.
      let of_rule = comes_from (λ rule. flat_map (instances_from opens f rule) (all_ids f rule)) rules e c in
      let of_id = comes_from (instances_from opens f of_rule.0) (all_ids f of_rule.0) e of_rule.2 in
      (from_is opens f of_rule.0 of_id.0 e of_id.2).2))

round_keeps : (b c : Ledger) → Follows (open_on b.tally) b.problem b → IsWithinTen b → Committed b (round_list b) c → Follows (open_on b.tally) b.problem c × IsWithinTen c
round_keeps b c h k done =
    let opens : Open = open_on b.tally in
    let n : ℕ = instance_count b in
    steps opens b.problem b c (round_list b) (h, k) (All-append (IsFound opens b.problem) (listed opens b.problem n (all_ids b.problem) verdict_order) (listed opens b.problem n (all_ids b.problem) reduction_order)
    (found_all opens b.problem n verdict_order) (found_all opens b.problem n reduction_order)) done

-- ---- along a run to its end
closes_within : (b c : Ledger) (e : End) (vs : List Instance) → IsWithinTen b → Closes b vs (Some e) c → IsWithinTen c
closes_within b c e [] k x = subst IsWithinTen (sym x.1) k
closes_within b c e (v ∷ vs) k x = absurd (let g = x.0 in cc)

stops_within : (b c : Ledger) (e : End) → Follows (open_on b.tally) b.problem b → IsWithinTen b → Stops b (Some e) c → IsWithinTen c
stops_within b c e h k (inl (round, ends)) = (round_keeps b c h k round.committed).1
stops_within b c e h k (inr (full, closed)) = closes_within b c e (enabled_verdicts (open_on b.tally) b.problem) k closed

run_within : (n : ℕ) (b c : Ledger) (e : End) → Follows (open_on b.tally) b.problem b → IsWithinTen b → StopsAfter n b (Some e) c → IsWithinTen c
run_within zero b c e h k x = stops_within b c e h k x
run_within (suc n) b c e h k (d, goes, x) =
    let next = round_keeps b d h k goes.round.committed in
    run_within n d c e (follows_next (open_on b.tally) b.problem d next.0) next.1 x

new_within : (options : Options) (p : Sparse) → IsWithinTen (new_book options p)
new_within options p = record {
  counts = none_long (length p.matrix.columns);
  tally = none_tallied (length p.matrix.columns);
  most = λ j side. omega arith;
}

new_follows : (options : Options) (program : ProgramData) (p : Sparse) → IsProblemOf program p → options.limit < 2 ^ 64 → Follows (open_on (new_book options p).tally) p (new_book options p)
new_follows options program p o short = follows_start (new_book options p) (λ a. let n : changes_of p a ≡ 0 = never_changed program p o a in omega (arith, n)) short o.sound

pub ten_at_most : (options : Options) (program : ProgramData) (ended : End) (b : Ledger) → options.limit < 2 ^ 64 → RunsTo options program (Some ended) b → (j : ℕ) (side : Side) → tightenings b.records j side ≤ 10
ten_at_most options program ended b short runs =
    let within : IsWithinTen b =
    run_within runs.run.0 (new_book options runs.start) b ended (new_follows options program runs.start runs.opened short) (new_within options runs.start) runs.run.1 in
    within.most

-- ---- from a book that stands on
stands_within : (b : Ledger) → Stands b → ((j : ℕ) (side : Side) → tightenings b.records j side ≤ 10) → IsWithinTen b
stands_within b s few = record { counts = s.counts; tally = s.tally; most = few }

stands_follows : (b : Ledger) → Stands b → b.limit < 2 ^ 64 → Follows (open_on b.tally) b.problem b
stands_follows b s short = follows_start b counted short (subst IsSparse (sym s.problem) (sparse_replay b.numbers b.start b.history s.sound s.replays))
  where
    counted : (a : Part) → changes_of b.problem a ≤ length b.history
    counted a =
        let few : changes_of b.problem a ≤ changes_of b.start a + length b.history = subst (λ (p : Sparse). changes_of p a ≤ changes_of b.start a + length b.history) (sym s.problem) (counted_along b.numbers b.start b.history a s.sound s.replays) in
        omega (arith, few, s.unchanged a)

pub round_few : (b c : Ledger) → Stands b → b.limit < 2 ^ 64 → ((j : ℕ) (side : Side) → tightenings b.records j side ≤ 10) → Committed b (round_list b) c → (j : ℕ) (side : Side) → tightenings c.records j side ≤ 10
round_few b c s short few done = (round_keeps b c (stands_follows b s short) (stands_within b s few) done).1.most

pub run_few : (b c : Ledger) (ended : End) → Stands b → b.limit < 2 ^ 64 → ((j : ℕ) (side : Side) → tightenings b.records j side ≤ 10) → Ordered b (Some ended) c → (j : ℕ) (side : Side) → tightenings c.records j side ≤ 10
run_few b c ended s short few (n, stops) = (run_within n b c ended (stands_follows b s short) (stands_within b s few) stops).most
