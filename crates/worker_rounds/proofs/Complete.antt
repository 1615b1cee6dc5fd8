-- Where all tasks of a round are done, all that was enabled and open was found; and where a part of it is marked, the next round looks at all that
-- is enabled and open then.
use Rattle.std.proofs.Common.{◌≡◌, ◌⊎◌, inl, inr, ℕ, zero, suc, ◌+◌, ◌*◌, ◌<◌, ◌≤◌, Bool, true, List, [], ◌∷◌, ◌++◌, length, map, None, sym, refl, ap, ◌∙◌, subst, arith}
use Rattle.std.specs.List.{All, Contains, filter, range_with_len}
use Rattle.std.proofs.lemmas.Bool.{cases_lt}
use Rattle.std.proofs.lemmas.List.Elements.{Contains-append_left, Contains-append_right}
use Rattle.problem_model.specs.declared.part.Part.{Part}
use Rattle.problem_model.specs.Noted.{AreNoted}
use Rattle.problem_model.specs.Parts.{changes_of}
use Rattle.problem_model.specs.Problems.{IsSparse}
use Rattle.problem_model.specs.Reading.{read_of}
use Rattle.problem_model.specs.Sparse.{Sparse}
use Rattle.edit_laws.specs.Sizes.{SameSize}
use Rattle.presolve_model.specs.declared.instance.Instance.{Instance}
use Rattle.presolve_model.specs.declared.instance.Instance.TheVariants as at
use Rattle.presolve_model.specs.declared.instance.Rule.{Rule}
use Rattle.presolve_model.specs.Enabled.{enabled_on, reads}
use Rattle.presolve_model.specs.Instances.{id_at, instances_from, is_open, rule_at}
use Rattle.presolve_model.specs.Ledger.{Ledger}
use Rattle.presolve_model.specs.Order.{reduction_order, verdict_order}
use Rattle.presolve_model.specs.Scans.{chunk_ids, instances_at, proposal_of}
use Rattle.presolve_model.specs.Tables.{heads}
use Rattle.presolve_model.specs.Tallies.{open_on}
use Rattle.presolve_model.specs.Worlds.{Version}
use Rattle.presolve_model.proofs.ByCases.{reductions_ordered, verdicts_ordered}
use Rattle.presolve_model.proofs.Lists.{contains_flat}
use Rattle.place_laws.specs.Choosing.{Around, HasEach, HoldsAround, ids_of}
use Rattle.place_laws.specs.Marks.{AreStirred, IsAsleep, IsMarked}
use Rattle.place_laws.specs.Standing.{IsLaterAt}
use Rattle.place_laws.proofs.Choosing.{marked_complete}
use Rattle.place_laws.proofs.Places.{enabled_listed}
use Rattle.place_laws.proofs.ShortLists.{none_in, passes_still}
use Rattle.round_laws.specs.Passing.{Follows, IsTracked, Tracks}
use Rattle.round_laws.proofs.Tracking.{tracks_changed}
use Rattle.round_marks.specs.Forming.{AreFormsOf}
use Rattle.round_marks.specs.Marking.{Notes, Watched}
use Rattle.round_marks.proofs.Watching.{notes_forms, notes_noted, notes_stirred}
use Rattle.round_marks.specs.Stamping.{stamp_at, Stamped, stamps_of}
use Rattle.round_marks.proofs.Restamping.{stamped}
use Rattle.round_tasks.specs.Changes.{NoticesAll}
use Rattle.round_tasks.specs.Cutting.{AreTasksOf, IsGivenOut, TaskList}
use Rattle.worker_tasks.specs.Tasks.{found_of, TaskData}
use Rattle.worker_tasks.specs.Work.{instances_in}
use Rattle.worker_rounds.specs.Marking.{AreAllLeft, HasLeft, IsLater, IsLeft, LeavesFound, LooksAt}
use Rattle.worker_rounds.specs.Workers.{HasFound, IsDone, WorkerData}

-- ---- what a task finds
instances_back : (p : Sparse) (version : ℕ) (es : List Instance) → instances_in (map (proposal_of p version) es) ≡ es
instances_back p version [] = refl
instances_back p version (e ∷ es) = ap (λ (xs : List Instance). e ∷ xs) (instances_back p version es)

filter_has : (P : Instance → Bool) (es : List Instance) (e : Instance) → P e ≡ true → Contains es e → Contains (filter P es) e
filter_has P es e on c = subst (λ (xs : List Instance). Contains xs e) (nil (filter P es)) (passes_still P es [] e on (subst (λ (xs : List Instance). Contains xs e) (sym (nil es)) c))
  where
    nil : (xs : List Instance) → xs ++ [] ≡ xs
    nil [] = refl
    nil (x ∷ xs) = ap (λ (ys : List Instance). x ∷ ys) (nil xs)

-- an id of a chunk
first_or_later : (a k : ℕ) → a ≤ k → (a ≡ k) ⊎ (a + 1 ≤ k)
first_or_later a k l = by (cases_lt a k)
  where
    by : (a < k) ⊎ (k ≤ a) → (a ≡ k) ⊎ (a + 1 ≤ k)
    by (inl m) = inr (omega (arith, m))
    by (inr m) = inl (omega (arith, l, m))

in_range : (a n k : ℕ) → a ≤ k → k < a + n → Contains (range_with_len a n) k
in_range a zero k l u = absurd (omega (arith, l, u))
in_range a (suc n) k l u = by (first_or_later a k l) (λ m. in_range (a + 1) n k m (omega (arith, u)))
  where
    by : (a ≡ k) ⊎ (a + 1 ≤ k) → (a + 1 ≤ k → Contains (range_with_len (a + 1) n) k) → Contains (range_with_len a (suc n)) k
    by (inl e) later = (zero, omega arith, e)
    by (inr m) later = let r = later m in (suc r.0, (let j = r.1 in omega (arith, j)), r.2)

task_finds : (v : Version) (t : TaskData) (e : Instance) → enabled_on v.problem e ≡ true → is_open (open_on v.tally) e ≡ true → t.rule ≡ rule_at e → t.chunk * 1024 ≤ id_at e → id_at e < t.chunk * 1024 + 1024 → Contains (instances_in (found_of v t)) e
task_finds v t e on free is first last =
    let here : Contains (instances_from (open_on v.tally) v.problem t.rule (id_at e)) e = subst (λ (r : Rule). Contains (instances_from (open_on v.tally) v.problem r (id_at e)) e) (sym is) (enabled_listed (open_on v.tally) v.problem e free on).there in
    subst (λ (es : List Instance). Contains es e) (sym (instances_back v.problem v.applied (filter (enabled_on v.problem) (instances_at (open_on v.tally) v.problem t.rule (chunk_ids t.chunk)))))
    (filter_has (enabled_on v.problem) (instances_at (open_on v.tally) v.problem t.rule (chunk_ids t.chunk)) e on
    (contains_flat (instances_from (open_on v.tally) v.problem t.rule) (chunk_ids t.chunk) (id_at e) e (in_range (t.chunk * 1024) 1024 (id_at e) first last) here))

-- ---- all of a round
rule_among : (e : Instance) → Contains (verdict_order ++ reduction_order) (rule_at e)
rule_among (at.Verdict v) = Contains-append_left verdict_order reduction_order (rule_at (at.Verdict v)) (verdicts_ordered v)
rule_among (at.Reduction r) = Contains-append_right verdict_order reduction_order (rule_at (at.Reduction r)) (reductions_ordered r)

pub all_left : (v : Version) (n : Around) (t : TaskList) (ws : List WorkerData) (w u : Watched) → HasEach (open_on v.tally) v.problem n → AreTasksOf v n t → t.whole ≡ true → ((i : ℕ) → i < length t.tasks → IsDone ws i) → All (λ x. HasFound v t.tasks x.1) ws
    → LeavesFound ws w u → AreAllLeft v u.marks
all_left v n t ws w u each tasks whole done found left e on free = by (tasks.given whole (rule_at e) (id_at e) (rule_among e) (each e on free))
  where
    by : IsGivenOut t.tasks (rule_at e) (id_at e) → IsLeft u.marks e
    by g =
        let among = g.among in
        let d = done among.0 among.1 in
        let member = d.1 in
        let has : HasFound v t.tasks d.0.1 = subst (λ (x : WorkerData). HasFound v t.tasks x.1) member.2 (found member.0 d.0 member.1) in
        left.left e (d.0, member, has among.0 g.task d.2 (record { inside = among.1; is = among.2 }) e (task_finds v g.task e on free g.rule g.first g.last))

-- ---- the next round
pub same_sizes : (v x : Version) → IsLater v x → SameSize v.problem x.problem
same_sizes v x later = subst (λ (y : Version). SameSize y.problem x.problem) (sym later.before) (subst (λ (y : Version). SameSize later.earlier.problem y.problem) (sym later.after) later.follows.size)

module _ (v x : Version) (changed : List Part) (w u : Watched) (later : IsLater v x) (stamps : Stamped) (same : stamps ≡ stamps_of v.problem) (notices : NoticesAll stamps x.problem changed) (notes : Notes x.problem changed w u) (forms : AreFormsOf w.forms v.problem) (awake : w.marks.asleep ≡ []) where
  abbrev d : Ledger
  d = later.earlier

  abbrev c : Ledger
  c = later.later

  follows : Follows (open_on v.tally) v.problem c
  follows = subst (λ (y : Version). Follows (open_on y.tally) y.problem c) (sym later.before) later.follows

  at_later : (a : Part) → IsLaterAt v.problem x.problem a
  at_later a = subst (λ (y : Version). IsLaterAt v.problem y.problem a) (sym later.after) (follows.later a)

  noticed : AreNoted v.problem x.problem [] changed
  noticed = record { kept = λ a k. absurd (none_in a k); changed = λ a. by a (as_counted a (notices a)) (at_later a) }
    where
      told : (a : Part) → stamp_at stamps a ≡ changes_of v.problem a
      told a = subst (λ (s : Stamped). stamp_at s a ≡ changes_of v.problem a) (sym same) ((stamped v.problem).tell a)

      as_counted : (a : Part) → (changes_of x.problem a ≡ stamp_at stamps a) ⊎ Contains changed a → (changes_of x.problem a ≡ changes_of v.problem a) ⊎ Contains changed a
      as_counted a (inl e) = inl (e ∙ told a)
      as_counted a (inr k) = inr k

      by : (a : Part) → (changes_of x.problem a ≡ changes_of v.problem a) ⊎ Contains changed a → IsLaterAt v.problem x.problem a → (read_of x.problem a ≡ read_of v.problem a) ⊎ Contains changed a
      by a (inr k) l = inr k
      by a (inl e) (inl same) = inl same
      by a (inl e) (inr less) = absurd (omega (arith, e, less))

  size : SameSize v.problem x.problem
  size = same_sizes v x later

  pub then_noted : AreNoted v.problem x.problem w.marks.noted u.marks.noted
  then_noted = notes_noted v.problem x.problem changed w u noticed notes

  pub then_forms : AreFormsOf u.forms x.problem
  then_forms = notes_forms v.problem x.problem changed w u noticed notes forms size

  pub then_awake : u.marks.asleep ≡ []
  then_awake = notes.asleep ∙ awake

  stirred : AreStirred v.problem x.problem w.marks u.marks
  stirred = notes_stirred v.problem x.problem changed w u noticed notes forms size

  -- books of the two versions, in which a run would go on
  abbrev early : Ledger
  early = record d { problem = v.problem; tally = v.tally; verdict = None; limit = length d.history + 1 }

  abbrev late : Ledger
  late = record d { problem = x.problem; tally = x.tally; verdict = None; limit = length d.history + 1 }

  opened : (e : Instance) → is_open (open_on x.tally) e ≡ true → is_open (open_on v.tally) e ≡ true
  opened e free = subst (λ (y : Version). is_open (open_on y.tally) e ≡ true) (sym later.before) (later.opened e (subst (λ (y : Version). is_open (open_on y.tally) e ≡ true) later.after free))

  head_read : (p : Sparse) (e : Instance) (a : Part) → Contains (heads e) a → Contains (reads p e) a
  head_read p e a own = Contains-append_left (heads e) _ a own

  tracked : AreAllLeft v w.marks → Tracks w.marks [] early
  tracked left none room e on free = let l = left e on free in inl (inl (l.0, head_read v.problem e l.0 l.1, l.2))

  marked : AreAllLeft v w.marks → (e : Instance) → enabled_on x.problem e ≡ true → is_open (open_on x.tally) e ≡ true → IsMarked d.numbers x.problem u.marks e
  marked left e on free = by (tracks_changed w.marks u.marks [] early late then_noted stirred refl (λ a k. absurd (none_in a (subst (λ (ps : List Part). Contains ps a) awake k))) opened refl (omega arith) (tracked left) refl (omega arith) e on free)
    where
      by : IsTracked u.marks [] late e → IsMarked d.numbers x.problem u.marks e
      by (inl k) = k
      by (inr k) = absurd (none_in e k)

  pub next_each : AreAllLeft v w.marks → (n : Around) → HoldsAround x.problem u.marks n → HasEach (open_on x.tally) x.problem n
  next_each left n holds e on free = by (marked_complete d.numbers (open_on x.tally) x.problem u.marks n sparse holds (marked left) e on free)
    where
      sparse : IsSparse x.problem
      sparse = subst (λ (y : Version). IsSparse y.problem) (sym later.after) follows.sparse

      by : Contains (ids_of n (rule_at e)) (id_at e) ⊎ IsAsleep d.numbers x.problem u.marks.asleep e → Contains (ids_of n (rule_at e)) (id_at e)
      by (inl there) = there
      by (inr asleep) = let told = asleep.told in absurd (none_in told.0 (subst (λ (ps : List Part). Contains ps told.0) then_awake told.2))

pub next_looks : (v x : Version) (changed : List Part) (stamps : Stamped) (w u : Watched) → HasLeft v stamps w x → NoticesAll stamps x.problem changed → Notes x.problem changed w u → w.marks.asleep ≡ [] → (n : Around) → HoldsAround x.problem u.marks n → LooksAt x u n
next_looks v x changed stamps w u left notices notes awake n holds = record {
  forms = then_forms v x changed w u left.later stamps left.stamps notices notes left.forms awake;
  each = next_each v x changed w u left.later stamps left.stamps notices notes left.forms awake left.left n holds;
}
