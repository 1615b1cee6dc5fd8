-- Looks at all first ids, with no case: one induction over the rules in order.
use Rattle.std.proofs.Common.{◌≡◌, ℕ, zero, suc, ◌<◌, Bool, true, false, List, [], ◌∷◌, ◌++◌, map, length, get_or, refl, sym, ap, ◌∙◌, subst, arith}
use Rattle.std.specs.Prelude.{if◌then◌else◌}
use Rattle.std.specs.List.{All, Contains, filter, flat_map}
use Rattle.std.proofs.lemmas.List.{length-map, map-append}
use Rattle.std.proofs.lemmas.List.Elements.{All-head, All-tail, All-contains_itself, filter-append}
use Rattle.problem_model.specs.Sparse.{Sparse}
use Rattle.presolve_model.specs.declared.instance.Rule.{Rule}
use Rattle.presolve_model.specs.declared.instance.Reduction.{Reduction}
use Rattle.presolve_model.specs.declared.instance.Verdict.{Verdict}
use Rattle.presolve_model.specs.declared.instance.Instance.{Instance}
use Rattle.presolve_model.specs.declared.instance.Instance.TheVariants as at
use Rattle.presolve_model.specs.Enabled.{enabled_on}
use Rattle.presolve_model.specs.Instances.{instances_from, id_count, is_open, rule_at, id_at}
use Rattle.presolve_model.specs.Given.{Proposed}
use Rattle.presolve_model.specs.Scans.{proposal_of, found_at, listed, all_ids, all_of}
use Rattle.presolve_model.specs.Stuck.{skipped_on}
use Rattle.presolve_model.specs.Order.{verdict_order, reduction_order}
use Rattle.presolve_model.specs.Tallies.{Open}
use Rattle.presolve_model.proofs.ByCases.{IsListed, reductions_listed, verdicts_listed, reductions_ordered, verdicts_ordered}
use Rattle.presolve_model.proofs.Lists.{contains_flat, contains_range}

-- what is listed are the enabled ones among all
pub listed_is : (opens : Open) (p : Sparse) (v : ℕ) (ids : Rule → List ℕ) (rules : List Rule)
    → listed opens p v ids rules ≡ map (proposal_of p v) (filter (enabled_on p) (flat_map (λ rule. flat_map (instances_from opens p rule) (ids rule)) rules))
listed_is opens p v ids [] = refl
listed_is opens p v ids (rule ∷ rules) =
    let here : List Instance = flat_map (instances_from opens p rule) (ids rule) in
    let rest : List Instance = flat_map (λ rule. flat_map (instances_from opens p rule) (ids rule)) rules in
    ap (λ ps. found_at opens p v rule (ids rule) ++ ps) (listed_is opens p v ids rules)
    ∙ sym (ap (map (proposal_of p v)) (filter-append (enabled_on p) here rest) ∙ map-append (proposal_of p v) (filter (enabled_on p) here) (filter (enabled_on p) rest))

-- how many are listed
pub listed_all : (opens : Open) (p : Sparse) (v : ℕ) → length (listed opens p v (all_ids p) reduction_order) ≡ skipped_on opens p
listed_all opens p v = ap length (listed_is opens p v (all_ids p) reduction_order) ∙ length-map (filter (enabled_on p) (all_of opens p reduction_order)) (proposal_of p v)

-- ---- what holds of all that was listed holds of each that is enabled
kept_of : (P : Proposed → Type 0) (f : Instance → Proposed) (q : Instance → Bool) (xs : List Instance) (x : Instance) (k : ℕ) → k < length xs → get_or xs k x ≡ x → q x ≡ true → All P (map f (filter q xs)) → P (f x)
kept_of P f q [] x k l e t h = absurd (omega (arith, l))
kept_of P f q (y ∷ xs) x k l e t h = by k l e (q y) refl (λ k l e. kept_of P f q xs x k l e t) h
  where
    by : (k : ℕ) → k < length (y ∷ xs) → get_or (y ∷ xs) k x ≡ x → (b : Bool) → q y ≡ b → ((k : ℕ) → k < length xs → get_or xs k x ≡ x → All P (map f (filter q xs)) → P (f x))
        → All P (map f (if b then y ∷ filter q xs else filter q xs)) → P (f x)
    by zero l e true g ih h = subst (λ z. P (f z)) e (All-head P (f y) (map f (filter q xs)) h)
    by zero l e false g ih h = absurd (let d = sym g ∙ ap q e ∙ t in cc)
    by (suc k) l e true g ih h = ih k (omega (arith, l)) e (All-tail P (f y) (map f (filter q xs)) h)
    by (suc k) l e false g ih h = ih k (omega (arith, l)) e h

pub among_all : (opens : Open) (p : Sparse) (rules : List Rule) (e : Instance) → Contains rules (rule_at e) → IsListed opens p e → Contains (all_of opens p rules) e
among_all opens p rules e c i = contains_flat (λ rule. flat_map (instances_from opens p rule) (all_ids p rule)) rules (rule_at e) e c
    (contains_flat (instances_from opens p (rule_at e)) (all_ids p (rule_at e)) (id_at e) e (contains_range (id_count p (rule_at e)) (id_at e) i.within) i.there)

pub listed_holds : (P : Proposed → Type 0) (opens : Open) (p : Sparse) (v : ℕ) (rules : List Rule) (e : Instance) → Contains rules (rule_at e) → IsListed opens p e → enabled_on p e ≡ true
    → All P (listed opens p v (all_ids p) rules) → P (proposal_of p v e)
listed_holds P opens p v rules e c i on h = let m = among_all opens p rules e c i in
    kept_of P (proposal_of p v) (enabled_on p) (all_of opens p rules) e m.0 m.1 m.2 on (subst (All P) (listed_is opens p v (all_ids p) rules) h)

pub each_reduction : (P : Proposed → Type 0) (opens : Open) (p : Sparse) (v : ℕ) (r : Reduction) → is_open opens (at.Reduction r) ≡ true → enabled_on p (at.Reduction r) ≡ true → All P (listed opens p v (all_ids p) reduction_order) → P (proposal_of p v (at.Reduction r))
each_reduction P opens p v r o on h = listed_holds P opens p v reduction_order (at.Reduction r) (reductions_ordered r) (reductions_listed opens p r o on) on h

pub each_verdict : (P : Proposed → Type 0) (opens : Open) (p : Sparse) (v : ℕ) (w : Verdict) → enabled_on p (at.Verdict w) ≡ true → All P (listed opens p v (all_ids p) verdict_order) → P (proposal_of p v (at.Verdict w))
each_verdict P opens p v w on h = listed_holds P opens p v verdict_order (at.Verdict w) (verdicts_ordered w) (verdicts_listed opens p w on) on h

pub reduction_listed : (opens : Open) (p : Sparse) (v : ℕ) (r : Reduction) → is_open opens (at.Reduction r) ≡ true → enabled_on p (at.Reduction r) ≡ true → Contains (listed opens p v (all_ids p) reduction_order) (proposal_of p v (at.Reduction r))
reduction_listed opens p v r o on = let all : List Proposed = listed opens p v (all_ids p) reduction_order in each_reduction (Contains all) opens p v r o on (All-contains_itself all)

pub verdict_listed : (opens : Open) (p : Sparse) (v : ℕ) (w : Verdict) → enabled_on p (at.Verdict w) ≡ true → Contains (listed opens p v (all_ids p) verdict_order) (proposal_of p v (at.Verdict w))
verdict_listed opens p v w on = let all : List Proposed = listed opens p v (all_ids p) verdict_order in each_verdict (Contains all) opens p v w on (All-contains_itself all)
