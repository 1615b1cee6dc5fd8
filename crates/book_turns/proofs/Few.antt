-- No side of a column is tightened more than ten times.
use Rattle.std.proofs.Common.{◌≡◌, ◌⊎◌, inl, inr, ℕ, zero, suc, ◌+◌, ◌<◌, ◌≤◌, ◌^◌, Bool, true, false, cond, List, [], ◌∷◌, ◌++◌, length, length-append, take, drop, refl, sym, ap, ◌∙◌, subst, arith}
use Rattle.std.specs.List.{filter}
use Rattle.std.proofs.lemmas.Bool.{ltb-true}
use Rattle.std.proofs.lemmas.List.Elements.{filter-append}
use Rattle.fractions.specs.declared.Numbers.{Numbers}
use Rattle.shared_book.specs.declared.call.Call.TheVariants.{Commit, Freeze}
use Rattle.shared_book.specs.History.{IsAnswered}
use Rattle.undo_records.specs.declared.side.Side.{Side}
use Rattle.undo_records.specs.declared.undo.Undo.{Undo}
use Rattle.problem_model.specs.declared.part.Part.TheVariants as part
use Rattle.problem_model.specs.declared.part.Read.{Read}
use Rattle.problem_model.specs.Parts.{changes_of}
use Rattle.problem_model.specs.Problems.{IsSparse}
use Rattle.problem_model.specs.Raised.{risen}
use Rattle.problem_model.specs.Reading.{Agrees}
use Rattle.problem_model.specs.Sparse.{Sparse}
use Rattle.presolve_model.specs.declared.instance.Instance.{Instance}
use Rattle.presolve_model.specs.declared.instance.Instance.TheVariants as at
use Rattle.presolve_model.specs.declared.instance.Reduction.{Reduction}
use Rattle.presolve_model.specs.declared.instance.Reduction.TheVariants.{BoundTightening}
use Rattle.presolve_model.specs.declared.outcome.Outcome.TheVariants.{Closed, Full, Stale, Past, NotDecimal, Applied, NoMemory}
use Rattle.presolve_model.specs.Changes.{changed}
use Rattle.presolve_model.specs.Commits.{with_instance}
use Rattle.presolve_model.specs.Enabled.{enabled_on, reading_of, reads}
use Rattle.presolve_model.specs.Given.{Proposed}
use Rattle.presolve_model.specs.Instances.{is_open}
use Rattle.presolve_model.specs.Ledger.{Ledger, Stands}
use Rattle.presolve_model.specs.Replay.{records, replay, Replays}
use Rattle.presolve_model.specs.Tables.{record_of}
use Rattle.presolve_model.specs.Tallies.{is_tightening, open_by, tightenings}
use Rattle.presolve_model.proofs.Histories.{counted_along}
use Rattle.presolve_model.proofs.Tabled.{counted_changed, sound_changed}
use Rattle.presolve_model.proofs.Tightened.{tightened_read, tightened_rise}
use Rattle.history_laws.proofs.Keeping.{sparse_replay}
use Rattle.round_laws.proofs.Openness.{Tightens}
use Rattle.round_laws.proofs.Turns.{Moved, moved}
use Rattle.run_laws.proofs.TenTimes.{fresh_at, most_one, record_tightens}
use Rattle.txn_book.specs.Sharing.{after_call, allows_call, IsFrom, past_problem, past_records}
use Rattle.txn_book.proofs.Numbered.{long_parts, replay_parts, replays_front, replays_rest}
use Rattle.book_turns.specs.Turns.{GoesOn, IsHistory, left_of, Turn}
use Rattle.book_turns.proofs.Going.{one_call}

records_parts : (p : Sparse) (n : ℕ) (rs : List Reduction) → records p rs ≡ records p (take n rs) ++ records (replay p (take n rs)) (drop n rs)
records_parts p zero rs = refl
records_parts p (suc n) [] = refl
records_parts p (suc n) (r ∷ rs) = ap (λ (us : List Undo). record_of r p ∷ us) (records_parts (changed r p) n rs)

tightenings_parts : (us vs : List Undo) (j : ℕ) (side : Side) → tightenings (us ++ vs) j side ≡ tightenings us j side + tightenings vs j side
tightenings_parts us vs j side = ap length (filter-append (is_tightening j side) us vs) ∙ length-append (filter (is_tightening j side) us) (filter (is_tightening j side) vs)

-- ---- along reductions a side is not tightened, or its bounds have changed more often
not_fallen : (p q : Sparse) (j n : ℕ) → changes_of p (part.Bounds j) ≤ n → n + 1 < 2 ^ 64 → Moved p q (part.Bounds j) → changes_of p (part.Bounds j) ≤ changes_of q (part.Bounds j)
not_fallen p q j n few low (inl e) = let same : changes_of q (part.Bounds j) ≡ changes_of p (part.Bounds j) = ap (λ (r : Read). r.changes) e in omega (arith, same)
not_fallen p q j n few low (inr e) = omega (arith, e, few, low)

few_after : (p q : Sparse) (j n : ℕ) → changes_of p (part.Bounds j) ≤ n → Moved p q (part.Bounds j) → changes_of q (part.Bounds j) ≤ n + 1
few_after p q j n few (inl e) = let same : changes_of q (part.Bounds j) ≡ changes_of p (part.Bounds j) = ap (λ (r : Read). r.changes) e in omega (arith, same, few)
few_after p q j n few (inr e) = omega (arith, e, few)

module _ (numbers : Numbers) (j : ℕ) (side : Side) where
  -- never fewer changes
  grown : (p : Sparse) (n : ℕ) (rs : List Reduction) → IsSparse p → Replays numbers p rs → changes_of p (part.Bounds j) ≤ n → n + length rs < 2 ^ 64 → changes_of p (part.Bounds j) ≤ changes_of (replay p rs) (part.Bounds j)
  grown p n [] s h few low = omega arith
  grown p n (r ∷ rs) s h few low =
      let m : Moved p (changed r p) (part.Bounds j) = moved p (changed r p) (part.Bounds j) (counted_changed p r s h.0.enabled (part.Bounds j)) in
      let one = not_fallen p (changed r p) j n few (omega (arith, low)) m in
      let more = grown (changed r p) (n + 1) rs (sound_changed p r s h.0.enabled) h.1 (few_after p (changed r p) j n few m) (omega (arith, low)) in
      omega (arith, one, more)

  since : (p : Sparse) (n : ℕ) (rs : List Reduction) → IsSparse p → Replays numbers p rs → changes_of p (part.Bounds j) ≤ n → n + length rs < 2 ^ 64
      → (tightenings (records p rs) j side ≡ 0) ⊎ (changes_of p (part.Bounds j) < changes_of (replay p rs) (part.Bounds j))
  since p n [] s h few low = inl refl
  since p n (r ∷ rs) s h few low =
      let sound : IsSparse (changed r p) = sound_changed p r s h.0.enabled in
      let m : Moved p (changed r p) (part.Bounds j) = moved p (changed r p) (part.Bounds j) (counted_changed p r s h.0.enabled (part.Bounds j)) in
      let after : changes_of (changed r p) (part.Bounds j) ≤ n + 1 = few_after p (changed r p) j n few m in
      by (is_tightening j side (record_of r p)) refl m (grown (changed r p) (n + 1) rs sound h.1 after (omega (arith, low))) (since (changed r p) (n + 1) rs sound h.1 after (omega (arith, low)))
    where
      rises : Tightens r j side → changes_of p (part.Bounds j) < changes_of (changed r p) (part.Bounds j)
      rises (i, e) =
          let on : enabled_on p (at.Reduction (BoundTightening i j side)) ≡ true = subst (λ (x : Reduction). enabled_on p (at.Reduction x) ≡ true) e h.0.enabled in
          let up : changes_of (changed r p) (part.Bounds j) ≡ risen (changes_of p (part.Bounds j)) = ap (λ (x : Reduction). changes_of (changed x p) (part.Bounds j)) e ∙ tightened_rise p i j side s on in
          omega (arith, up, few, low)

      by : (b : Bool) → is_tightening j side (record_of r p) ≡ b → Moved p (changed r p) (part.Bounds j)
          → changes_of (changed r p) (part.Bounds j) ≤ changes_of (replay (changed r p) rs) (part.Bounds j)
          → (tightenings (records (changed r p) rs) j side ≡ 0) ⊎ (changes_of (changed r p) (part.Bounds j) < changes_of (replay (changed r p) rs) (part.Bounds j))
          → (length (cond b (record_of r p ∷ filter (is_tightening j side) (records (changed r p) rs)) (filter (is_tightening j side) (records (changed r p) rs))) ≡ 0) ⊎ (changes_of p (part.Bounds j) < changes_of (replay (changed r p) rs) (part.Bounds j))
      by true t m more rest = inr (let one = rises (record_tightens p r j side t) in omega (arith, one, more))
      by false t m more (inl z) = inl z
      by false t m more (inr g) = inr (let one = not_fallen p (changed r p) j n few (omega (arith, low)) m in omega (arith, one, g))

-- ---- what was open when it was read, and still reads the same, is open still
module _ (b : Ledger) (s : Stands b) (short : b.limit < 2 ^ 64) (p : Proposed) (t : IsFrom b p) (agrees : Agrees b.problem p.reading) (i j : ℕ) (side : Side) (is : p.instance ≡ at.Reduction (BoundTightening i j side)) where
  on : enabled_on (past_problem b p.version) (at.Reduction (BoundTightening i j side)) ≡ true
  on = ap (enabled_on (past_problem b p.version)) (sym is) ∙ t.enabled

  reading : Agrees b.problem (reading_of (past_problem b p.version) (at.Reduction (BoundTightening i j side)))
  reading = subst (λ (e : Instance). Agrees b.problem (reading_of (past_problem b p.version) e)) is (subst (Agrees b.problem) t.reading agrees)

  same : changes_of b.problem (part.Bounds j) ≡ changes_of (past_problem b p.version) (part.Bounds j)
  same = ap (λ (r : Read). r.changes) (fresh_at (past_problem b p.version) b.problem (reads (past_problem b p.version) (at.Reduction (BoundTightening i j side))) reading (part.Bounds j) (tightened_read (past_problem b p.version) i j side on))

  front : Replays b.numbers b.start (take p.version b.history)
  front = replays_front b.numbers b.start p.version b.history s.replays

  few : changes_of (past_problem b p.version) (part.Bounds j) ≤ length (take p.version b.history)
  few =
      let up : changes_of (past_problem b p.version) (part.Bounds j) ≤ changes_of b.start (part.Bounds j) + length (take p.version b.history) =
      counted_along b.numbers b.start (take p.version b.history) (part.Bounds j) s.sound front in
      omega (arith, up, s.unchanged (part.Bounds j))

  now_is : changes_of b.problem (part.Bounds j) ≡ changes_of (replay (past_problem b p.version) (drop p.version b.history)) (part.Bounds j)
  now_is = ap (λ (q : Sparse). changes_of q (part.Bounds j)) (s.problem ∙ replay_parts b.start p.version b.history)

  none_since : tightenings (records (past_problem b p.version) (drop p.version b.history)) j side ≡ 0
  none_since = by (since b.numbers j side (past_problem b p.version) (length (take p.version b.history)) (drop p.version b.history)
      (sparse_replay b.numbers b.start (take p.version b.history) s.sound front) (replays_rest b.numbers b.start p.version b.history s.replays) few
      (let long = long_parts p.version b.history in omega (arith, long, short, s.within)))
    where
      by : (tightenings (records (past_problem b p.version) (drop p.version b.history)) j side ≡ 0) ⊎ (changes_of (past_problem b p.version) (part.Bounds j) < changes_of (replay (past_problem b p.version) (drop p.version b.history)) (part.Bounds j))
          → tightenings (records (past_problem b p.version) (drop p.version b.history)) j side ≡ 0
      by (inl z) = z
      by (inr g) = absurd (omega (arith, g, now_is, same))

  past_few : tightenings (past_records b p.version) j side < 10
  past_few = ltb-true (tightenings (past_records b p.version) j side) 10 (ap (is_open (open_by (past_records b p.version))) (sym is) ∙ t.free)

  pub open_still : tightenings b.records j side < 10
  open_still =
      let told : tightenings b.records j side ≡ tightenings (past_records b p.version) j side + tightenings (records (past_problem b p.version) (drop p.version b.history)) j side =
      ap (λ (us : List Undo). tightenings us j side) (s.records ∙ records_parts b.start p.version b.history) ∙ tightenings_parts (past_records b p.version) (records (past_problem b p.version) (drop p.version b.history)) j side in
      omega (arith, told, none_since, past_few)

-- ---- call by call
one_within : (b : Ledger) (c : Turn) → Stands b → b.limit < 2 ^ 64 → ((j : ℕ) (side : Side) → tightenings b.records j side ≤ 10) → IsAnswered IsFrom allows_call b c → (j : ℕ) (side : Side) → tightenings (after_call b c).records j side ≤ 10
one_within b (Freeze reply) s short k a j side = k j side
one_within b (Commit w p (Applied place)) s short k a j side = applied p.instance refl
  where
    applied : (e : Instance) → p.instance ≡ e → tightenings (with_instance b w p.version e).records j side ≤ 10
    applied (at.Reduction r) is = most_one b.records (record_of r b.problem) j side (k j side) (λ g. let tightens : Tightens r j side = record_tightens b.problem r j side g in
        open_still b s short p a.0 a.1.0.agrees tightens.0 j side (is ∙ ap (λ (x : Reduction). at.Reduction x) tightens.1))
    applied (at.Verdict v) is = k j side
one_within b (Commit w p (Closed v)) s short k a j side = k j side
one_within b (Commit w p Full) s short k a j side = k j side
one_within b (Commit w p (Stale place)) s short k a j side = k j side
one_within b (Commit w p Past) s short k a j side = k j side
one_within b (Commit w p NotDecimal) s short k a j side = k j side
one_within b (Commit w p NoMemory) s short k a j side = k j side

pub few_along : (b : Ledger) (cs : List Turn) → Stands b → b.limit < 2 ^ 64 → ((j : ℕ) (side : Side) → tightenings b.records j side ≤ 10) → IsHistory b cs → (j : ℕ) (side : Side) → tightenings (left_of b cs).records j side ≤ 10
few_along b [] s short k h = k
few_along b (c ∷ cs) s short k h =
    let one : GoesOn b (after_call b c) = one_call b c s h.0 in
    few_along (after_call b c) cs one.stands (subst (λ (n : ℕ). n < 2 ^ 64) (sym one.limit) short) (one_within b c s short k h.0) h.1
