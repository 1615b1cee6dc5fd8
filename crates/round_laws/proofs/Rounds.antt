-- A pass is a round; and what a round that applied nothing says.
use Rattle.std.proofs.Common.{◌≡◌, ◌⊎◌, inl, inr, ℕ, zero, suc, ◌+◌, ◌<◌, ◌≤◌, Bool, true, false, List, [], ◌∷◌, ◌++◌, length, map, Some, None, sym, refl, ap, ap₂, ◌∙◌, subst, arith, length-append, true≢false}
use Rattle.std.specs.Prelude.{if◌then◌else◌}
use Rattle.std.specs.List.{Contains, filter}
use Rattle.std.proofs.lemmas.List.{append-nil}
use Rattle.std.proofs.lemmas.List.Elements.{Contains-append_cases, Contains-append_left, Contains-append_right, filter-append}
use Rattle.std.proofs.lemmas.Option.{none-some}
use Rattle.problem_model.specs.Sparse.{Sparse}
use Rattle.presolve_model.specs.declared.instance.Instance.{Instance}
use Rattle.presolve_model.specs.declared.instance.Instance.TheVariants as at
use Rattle.presolve_model.specs.declared.instance.Verdict.{Verdict}
use Rattle.presolve_model.specs.declared.outcome.Outcome.{Outcome}
use Rattle.presolve_model.specs.Commits.{CanWrite, Fits, IsOpen, left_by, with_instance}
use Rattle.presolve_model.specs.Enabled.{enabled_on}
use Rattle.presolve_model.specs.Given.{Proposed}
use Rattle.presolve_model.specs.Instances.{id_at, instances_from, is_open, rule_at}
use Rattle.presolve_model.specs.Tallies.{Open, open_on}
use Rattle.presolve_model.specs.Ledger.{instance_count, Ledger}
use Rattle.presolve_model.specs.Order.{reduction_order, verdict_order}
use Rattle.presolve_model.specs.Ordered.{Committed, enabled_verdicts, round_list}
use Rattle.presolve_model.specs.Scans.{all_ids, all_of, instances_at, listed, proposal_of}
use Rattle.presolve_model.specs.Stuck.{IsUndecided, Stuck}
use Rattle.presolve_model.proofs.ByCases.{reductions_ordered, verdicts_listed, verdicts_ordered}
use Rattle.presolve_model.proofs.Listing.{among_all, listed_is, reduction_listed, verdict_listed}
use Rattle.presolve_model.proofs.Readings.{reading_agrees}
use Rattle.place_laws.specs.Choosing.{AreSorted, ids_of, instances_of, IsComplete, Around, proposals, visited}
use Rattle.place_laws.specs.Marks.{IsAsleep, IsMarked, Marks}
use Rattle.round_laws.specs.Passing.{IsTracked, Passed, Tracks}
use Rattle.place_laws.proofs.Choosing.{among_there, enabled_kept_there, is_there}
use Rattle.round_laws.proofs.Committing.{left_how, left_open, proposals_append}
use Rattle.place_laws.proofs.ShortLists.{comes_from, contains_in}
use Rattle.place_laws.proofs.Places.{from_is}
use Rattle.presolve_model.specs.declared.instance.Rule.{Rule}
use Rattle.round_laws.proofs.Thinning.{committed_more, IsIdle}

-- ---- a pass over rows and columns where each enabled instance is, or sleeps, is a round
-- all instances, in their order
abbrev all_instances : Open → Sparse → List Instance
all_instances opens p = all_of opens p verdict_order ++ all_of opens p reduction_order

listed_all : (opens : Open) (p : Sparse) (v : ℕ) → proposals p v (all_instances opens p) ≡ listed opens p v (all_ids p) verdict_order ++ listed opens p v (all_ids p) reduction_order
listed_all opens p v =
    proposals_append p v (all_of opens p verdict_order) (all_of opens p reduction_order)
    ∙ ap₂ (λ (xs ys : List Proposed). xs ++ ys) (sym (listed_is opens p v (all_ids p) verdict_order)) (sym (listed_is opens p v (all_ids p) reduction_order))

-- they are open
rules_open : (opens : Open) (p : Sparse) (rules : List Rule) (e : Instance) → Contains (all_of opens p rules) e → is_open opens e ≡ true
rules_open opens p rules e c =
    let r = comes_from (λ (rule : Rule). instances_at opens p rule (all_ids p rule)) rules e c in
    let k = comes_from (instances_from opens p r.0) (all_ids p r.0) e r.2 in
    (from_is opens p r.0 k.0 e k.2).2

all_open_there : (opens : Open) (p : Sparse) (e : Instance) → Contains (all_instances opens p) e → is_open opens e ≡ true
all_open_there opens p e c = by (Contains-append_cases (all_of opens p verdict_order) (all_of opens p reduction_order) e c)
  where
    by : Contains (all_of opens p verdict_order) e ⊎ Contains (all_of opens p reduction_order) e → is_open opens e ≡ true
    by (inl d) = rules_open opens p verdict_order e d
    by (inr d) = rules_open opens p reduction_order e d

-- what is enabled of those that are looked at, and of all that have their first id there
visited_kept : (opens : Open) (p : Sparse) (n : Around) (v : ℕ) → AreSorted n → proposals p v (visited opens p n) ≡ proposals p v (filter (is_there n) (all_instances opens p))
visited_kept opens p n v sorted =
    let both : filter (enabled_on p) (visited opens p n) ≡ filter (enabled_on p) (filter (is_there n) (all_instances opens p)) =
    filter-append (enabled_on p) (instances_of opens p n verdict_order) (instances_of opens p n reduction_order)
    ∙ ap₂ (λ (xs ys : List Instance). xs ++ ys) (enabled_kept_there opens p n sorted verdict_order) (enabled_kept_there opens p n sorted reduction_order)
    ∙ sym (filter-append (enabled_on p) (filter (is_there n) (all_of opens p verdict_order)) (filter (is_there n) (all_of opens p reduction_order)))
    ∙ ap (filter (enabled_on p)) (sym (filter-append (is_there n) (all_of opens p verdict_order) (all_of opens p reduction_order))) in
    ap (map (proposal_of p v)) both

pub passed_round : (b c : Ledger) (n : Around) (k m : Marks) → AreSorted n → IsComplete b.numbers (open_on b.tally) b.problem n k.asleep → Passed (open_on b.tally) b.problem (instance_count b) (visited (open_on b.tally) b.problem n) k b m c → Committed b (round_list b) c
passed_round b c n k m sorted complete h =
    let v : ℕ = instance_count b in
    let kept : Committed b (proposals b.problem v (filter (is_there n) (all_instances (open_on b.tally) b.problem))) c = subst (λ (ps : List Proposed). Committed b ps c) (visited_kept (open_on b.tally) b.problem n v sorted) h.committed in
    subst (λ (ps : List Proposed). Committed b ps c) (listed_all (open_on b.tally) b.problem v) (committed_more (open_on b.tally) b.problem v c (is_there n) (all_instances (open_on b.tally) b.problem) b h.before out kept)
  where
    out : (e : Instance) → Contains (all_instances (open_on b.tally) b.problem) e → enabled_on b.problem e ≡ true → is_there n e ≡ false → IsIdle b.problem b e
    out e among on off = by (complete e on (all_open_there (open_on b.tally) b.problem e among))
      where
        by : Contains (ids_of n (rule_at e)) (id_at e) ⊎ IsAsleep b.numbers b.problem k.asleep e → IsIdle b.problem b e
        by (inl there) = absurd (true≢false (sym (contains_in (ids_of n (rule_at e)) (id_at e) there) ∙ off))
        by (inr asleep) = inr asleep.rests

visited_there : (opens : Open) (p : Sparse) (n : Around) → AreSorted n → (e : Instance) → enabled_on p e ≡ true → is_open opens e ≡ true → Contains (ids_of n (rule_at e)) (id_at e) → Contains (visited opens p n) e
visited_there opens p n sorted (at.Verdict v) on free there = Contains-append_left (instances_of opens p n verdict_order) (instances_of opens p n reduction_order) (at.Verdict v) (among_there opens p n sorted verdict_order (at.Verdict v) on free there (verdicts_ordered v))
visited_there opens p n sorted (at.Reduction r) on free there = Contains-append_right (instances_of opens p n verdict_order) (instances_of opens p n reduction_order) (at.Reduction r) (among_there opens p n sorted reduction_order (at.Reduction r) on free there (reductions_ordered r))

-- and each enabled instance is marked after it, if the run goes on
pub passed_marked : (b c : Ledger) (n : Around) (k m : Marks) → AreSorted n → IsComplete b.numbers (open_on b.tally) b.problem n k.asleep → Passed (open_on b.tally) b.problem (instance_count b) (visited (open_on b.tally) b.problem n) k b m c → c.verdict ≡ None → length c.history < c.limit
    → (e : Instance) → enabled_on c.problem e ≡ true → is_open (open_on c.tally) e ≡ true → IsMarked c.numbers c.problem m e
passed_marked b c n k m sorted complete h none room e on free = by (h.tracks [] start none room e on free)
  where
    start : Tracks k (visited (open_on b.tally) b.problem n ++ []) b
    start none' room' x on' free' = first (complete x on' free')
      where
        first : Contains (ids_of n (rule_at x)) (id_at x) ⊎ IsAsleep b.numbers b.problem k.asleep x → IsTracked k (visited (open_on b.tally) b.problem n ++ []) b x
        first (inl there) = inr (subst (λ (es : List Instance). Contains es x) (sym (append-nil (visited (open_on b.tally) b.problem n))) (visited_there (open_on b.tally) b.problem n sorted x on' free' there))
        first (inr asleep) = inl (inr asleep)

    by : IsTracked m [] c e → IsMarked c.numbers c.problem m e
    by (inl x) = x
    by (inr x) = absurd (omega (arith, x.1))

-- ---- commits that applied nothing were refused, each of them
abbrev CanCommit : Ledger → Proposed → Type 0
CanCommit b p = IsOpen b p × Fits p.instance b.problem × CanWrite b p.instance

-- an instance more is one more in the history, or a verdict
with_more : (b : Ledger) (v : ℕ) (e : Instance) → (length b.history < length (with_instance b 0 v e).history) ⊎ ((x : Verdict) × ((with_instance b 0 v e).verdict ≡ Some x))
with_more b v (at.Reduction r) = let n : length (b.history ++ r ∷ []) ≡ length b.history + 1 = length-append b.history (r ∷ []) in inl (omega (arith, n))
with_more b v (at.Verdict x) = inr (x, refl)

with_grows : (b : Ledger) (v : ℕ) (e : Instance) → length b.history ≤ length (with_instance b 0 v e).history
with_grows b v (at.Reduction r) = let n : length (b.history ++ r ∷ []) ≡ length b.history + 1 = length-append b.history (r ∷ []) in omega (arith, n)
with_grows b v (at.Verdict x) = omega arith

module _ (b : Ledger) (p : Proposed) (o : Outcome) where
  left_grows : (left_by b 0 p o ≡ b) ⊎ (left_by b 0 p o ≡ with_instance b 0 p.version p.instance) → length b.history ≤ length (left_by b 0 p o).history
  left_grows (inl e) = let n : length (left_by b 0 p o).history ≡ length b.history = ap (λ (x : Ledger). length x.history) e in omega (arith, n)
  left_grows (inr e) = let n : length (left_by b 0 p o).history ≡ length (with_instance b 0 p.version p.instance).history = ap (λ (x : Ledger). length x.history) e in omega (arith, n, with_grows b p.version p.instance)

pub committed_grows : (b c : Ledger) (ps : List Proposed) → Committed b ps c → length b.history ≤ length c.history
committed_grows b c [] h = let n : length c.history ≡ length b.history = ap (λ (x : Ledger). length x.history) h in omega (arith, n)
committed_grows b c (p ∷ ps) (o, n, a, h) = by (left_how b p o a) (committed_grows (left_by b 0 p o) c ps h)
  where
    by : (left_by b 0 p o ≡ b) ⊎ CanCommit b p → length (left_by b 0 p o).history ≤ length c.history → length b.history ≤ length c.history
    by (inl e) l = let g = left_grows b p o (inl e) in omega (arith, g, l)
    by (inr k) l = let g = left_grows b p o (inr (left_open b p o n a k.0 k.1 k.2)) in omega (arith, g, l)

committed_closed : (b c : Ledger) (ps : List Proposed) (v : Verdict) → Committed b ps c → b.verdict ≡ Some v → c.verdict ≡ Some v
committed_closed b c [] v h e = ap (λ (x : Ledger). x.verdict) h ∙ e
committed_closed b c (p ∷ ps) v (o, n, a, h) e = by (left_how b p o a) (committed_closed (left_by b 0 p o) c ps v h)
  where
    by : (left_by b 0 p o ≡ b) ⊎ CanCommit b p → ((left_by b 0 p o).verdict ≡ Some v → c.verdict ≡ Some v) → c.verdict ≡ Some v
    by (inl s) rest = rest (ap (λ (x : Ledger). x.verdict) s ∙ e)
    by (inr k) rest = absurd (none-some v (sym k.0.undecided ∙ e))

pub committed_still : (b c : Ledger) (ps : List Proposed) → Committed b ps c → c.verdict ≡ None → length c.history ≡ length b.history → (c ≡ b) × ((p : Proposed) → Contains ps p → CanCommit b p → ⊥)
committed_still b c [] h none long = (h, λ p k can. omega (arith, k.1))
committed_still b c (p ∷ ps) (o, n, a, h) none long = by (left_how b p o a) (committed_still (left_by b 0 p o) c ps h none)
  where
    -- the first is not applied
    applied : CanCommit b p → ⊥
    applied k = more (with_more b p.version p.instance)
      where
        left : left_by b 0 p o ≡ with_instance b 0 p.version p.instance
        left = left_open b p o n a k.0 k.1 k.2

        rest : length (left_by b 0 p o).history ≤ length c.history
        rest = committed_grows (left_by b 0 p o) c ps h

        more : (length b.history < length (with_instance b 0 p.version p.instance).history) ⊎ ((v : Verdict) × ((with_instance b 0 p.version p.instance).verdict ≡ Some v)) → ⊥
        more (inl l) = let m : length (left_by b 0 p o).history ≡ length (with_instance b 0 p.version p.instance).history = ap (λ (x : Ledger). length x.history) left in omega (arith, l, m, rest, long)
        more (inr (v, e)) = none-some v (sym none ∙ committed_closed (left_by b 0 p o) c ps v h (ap (λ (x : Ledger). x.verdict) left ∙ e))

    stays : left_by b 0 p o ≡ b → (c ≡ left_by b 0 p o) × ((q : Proposed) → Contains ps q → CanCommit (left_by b 0 p o) q → ⊥) → (c ≡ b) × ((q : Proposed) → Contains (p ∷ ps) q → CanCommit b q → ⊥)
    stays e k = (k.0 ∙ e, each)
      where
        each : (q : Proposed) → Contains (p ∷ ps) q → CanCommit b q → ⊥
        each q (zero, l, f) can = applied (subst (CanCommit b) (sym f) can)
        each q (suc i, l, f) can = k.1 q (i, omega (arith, l), f) (subst (λ (x : Ledger). CanCommit x q) (sym e) can)

    by : (left_by b 0 p o ≡ b) ⊎ CanCommit b p → (length c.history ≡ length (left_by b 0 p o).history → (c ≡ left_by b 0 p o) × ((q : Proposed) → Contains ps q → CanCommit (left_by b 0 p o) q → ⊥))
        → (c ≡ b) × ((q : Proposed) → Contains (p ∷ ps) q → CanCommit b q → ⊥)
    by (inl e) rest = stays e (rest (long ∙ ap (λ (x : Ledger). length x.history) (sym e)))
    by (inr k) rest = absurd (applied k)

not_enabled : (b : Bool) → (b ≡ true → ⊥) → b ≡ false
not_enabled true h = absurd (h refl)
not_enabled false h = refl

-- a round that applied nothing leaves the book as it was, and nothing can be applied there
pub round_stuck : (b c : Ledger) → b.verdict ≡ None → length b.history < b.limit → Committed b (round_list b) c → c.verdict ≡ None → length c.history ≡ length b.history → (c ≡ b) × Stuck b.numbers (open_on b.tally) b.problem
round_stuck b c before room h none long =
    let k = committed_still b c (round_list b) h none long in
    let v : ℕ = instance_count b in
    let vs : List Proposed = listed (open_on b.tally) b.problem v (all_ids b.problem) verdict_order in
    let rs : List Proposed = listed (open_on b.tally) b.problem v (all_ids b.problem) reduction_order in (
      k.0,
      record {
        undecided = λ w. not_enabled _ (λ on. k.1 (proposal_of b.problem v (at.Verdict w)) (Contains-append_left vs rs _ (verdict_listed (open_on b.tally) b.problem v w on))
            (record { undecided = before; room = tt; agrees = reading_agrees b.problem (at.Verdict w) }, tt, tt));
        reductions = λ r free can. k.1 (proposal_of b.problem v (at.Reduction r)) (Contains-append_right vs rs _ (reduction_listed (open_on b.tally) b.problem v r free can.enabled))
            (record { undecided = before; room = room; agrees = reading_agrees b.problem (at.Reduction r) }, can.fits, can.written);
      },
    )

-- no verdict is enabled where none is found
none_found : (P : Instance → Bool) (es : List Instance) (e : Instance) → filter P es ≡ [] → Contains es e → P e ≡ true → ⊥
none_found P [] e h c on = omega (arith, c.1)
none_found P (x ∷ es) e h c on = by (P x) refl h c (λ g k. none_found P es e g k on)
  where
    by : (b : Bool) → P x ≡ b → (if b then x ∷ filter P es else filter P es) ≡ [] → Contains (x ∷ es) e → (filter P es ≡ [] → Contains es e → ⊥) → ⊥
    by true t g k rest = cc
    by false t g (zero, l, f) rest = let d = sym t ∙ ap P f ∙ on in cc
    by false t g (suc i, l, f) rest = rest g (i, omega (arith, l), f)

pub undecided_none : (opens : Open) (p : Sparse) → enabled_verdicts opens p ≡ [] → IsUndecided p
undecided_none opens p h v = not_enabled _ (λ on. none_found (enabled_on p) (all_of opens p verdict_order) (at.Verdict v) h (among_all opens p verdict_order (at.Verdict v) (verdicts_ordered v) (verdicts_listed opens p v on)) on)
