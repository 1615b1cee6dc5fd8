-- What is counted adds up.
use Rattle.std.proofs.Common.{◌≡◌, ◌≢◌, ℕ, ◌+◌, ◌<◌, Bool, true, false, cond, List, [], ◌∷◌, ◌++◌, map, length, Option, Some, None, sym, refl, ap, ◌∙◌, arith}
use Rattle.std.specs.Prelude.{not, if◌then◌else◌, IfSome}
use Rattle.std.specs.List.{All, filter, sum_by}
use Rattle.std.proofs.lemmas.List.{length-map}
use Rattle.std.proofs.lemmas.List.Elements.{All-head, All-tail}
use Rattle.std.proofs.lemmas.List.Sums.{sum_by-cons}
use Rattle.std.proofs.lemmas.Option.{none-some}
use Rattle.presolve_model.specs.declared.conclusion.End.{End}
use Rattle.presolve_model.specs.declared.conclusion.End.TheVariants.{Fixpoint, LimitReached}
use Rattle.presolve_model.specs.declared.instance.Instance.{Instance}
use Rattle.presolve_model.specs.declared.instance.Instance.TheVariants as at
use Rattle.presolve_model.specs.declared.instance.Rule.{Rule}
use Rattle.presolve_model.specs.declared.instance.Rule.TheVariants as rule
use Rattle.presolve_model.specs.declared.instance.Verdict.{Verdict}
use Rattle.presolve_model.specs.declared.outcome.Outcome.{Outcome}
use Rattle.presolve_model.specs.declared.outcome.Outcome.TheVariants.{Closed, Full, Stale, Past, NotDecimal, Applied, NoMemory}
use Rattle.presolve_model.specs.Enabled.{enabled_on}
use Rattle.presolve_model.specs.Instances.{rule_at}
use Rattle.presolve_model.specs.Ledger.{closes, instance_count, Ledger, Stands}
use Rattle.presolve_model.specs.Stuck.{IsUndecided, skipped_on}
use Rattle.presolve_model.specs.Tallies.{open_on}
use Rattle.place_laws.specs.Marks.{is_refusal}
use Rattle.run_report.specs.declared.look.Held.{Held}
use Rattle.run_report.specs.Holding.{AreHeld, IsHeld}
use Rattle.presolve_rounds.specs.Running.{EndsWith}
use Rattle.run_report.specs.declared.counts.RuleCount.{RuleCount}
use Rattle.run_report.specs.Counts.{AddsUp, applied_in, applied_sum, closing, count_of, counts_of, left_in, left_sum, refused_in, refused_sum, rule_count, SkipsAs}
use Rattle.run_report.specs.Rules.{all_rules, is_same}

-- ---- sums
sum_both : {X : Type 0} (f g : X → ℕ) (xs : List X) → sum_by (λ x. f x + g x) xs ≡ sum_by f xs + sum_by g xs
sum_both f g [] = refl
sum_both f g (x ∷ xs) = let a = sum_by-cons (λ x. f x + g x) x xs in let b = sum_by-cons f x xs in let c = sum_by-cons g x xs in let d = sum_both f g xs in omega (arith, a, b, c, d)

sum_same : {X : Type 0} (f g : X → ℕ) (xs : List X) → ((x : X) → f x ≡ g x) → sum_by f xs ≡ sum_by g xs
sum_same f g [] h = refl
sum_same f g (x ∷ xs) h = let a = sum_by-cons f x xs in let b = sum_by-cons g x xs in let c = sum_same f g xs h in let d = h x in omega (arith, a, b, c, d)

sum_mapped : {X Y : Type 0} (f : Y → ℕ) (g : X → Y) (xs : List X) → sum_by f (map g xs) ≡ sum_by (λ x. f (g x)) xs
sum_mapped f g [] = refl
sum_mapped f g (x ∷ xs) = let a = sum_by-cons f (g x) (map g xs) in let b = sum_by-cons (λ x. f (g x)) x xs in let c = sum_mapped f g xs in omega (arith, a, b, c)

-- ---- each instance is one of one rule
once : (r : Rule) → sum_by (λ s. cond (is_same s r) 1 0) all_rules ≡ 1
once rule.CrossedBounds = refl
once rule.CrossedSides = refl
once rule.InfeasibleRow = refl
once rule.UnboundedColumn = refl
once rule.EmptyRow = refl
once rule.SingletonRow = refl
once rule.FixedColumn = refl
once rule.RoundedBounds = refl
once rule.RedundantRow = refl
once rule.RedundantSide = refl
once rule.ForcingRow = refl
once rule.BoundTightening = refl
once rule.CoefficientTightening = refl
once rule.DualFixing = refl
once rule.DominatedColumn = refl
once rule.DoubletonEquation = refl
once rule.FreeColumnSingleton = refl
once rule.SlackColumnSingleton = refl
once rule.ParallelRows = refl
once rule.ParallelColumns = refl
once rule.EmptyColumn = refl

count_all : (es : List Instance) → sum_by (λ r. count_of r es) all_rules ≡ length es
count_all [] = refl
count_all (e ∷ es) =
    let one : Rule → ℕ = λ s. cond (is_same s (rule_at e)) 1 0 in
    let a = sum_same (λ s. count_of s (e ∷ es)) (λ s. one s + count_of s es) all_rules (λ s. sum_by-cons (λ x. cond (is_same s (rule_at x)) 1 0) e es) in
    let b = sum_both one (λ s. count_of s es) all_rules in
    let c : sum_by one all_rules ≡ 1 = once (rule_at e) in
    let d = count_all es in
    omega (arith, a, b, c, d)

-- ---- what was applied
pub length_both : {X : Type 0} (xs ys : List X) → length (xs ++ ys) ≡ length xs + length ys
length_both [] ys = omega arith
length_both (x ∷ xs) ys = let a = length_both xs ys in omega (arith, a)

closing_long : (v : Option Verdict) → length (closing v) ≡ closes v
closing_long None = refl
closing_long (Some v) = refl

applied_long : (b : Ledger) → length (applied_in b) ≡ instance_count b
applied_long b = let a = length_both (map at.Reduction b.history) (closing b.verdict) in let c = length-map b.history at.Reduction in let d = closing_long b.verdict in omega (arith, a, c, d)

-- ---- what was refused, and what was left
either_long : (p : Held → Bool) (hs : List Held) → length (filter p hs) + length (filter (λ h. not (p h)) hs) ≡ length hs
either_long p [] = refl
either_long p (h ∷ hs) = by (p h) (either_long p hs)
  where
    by : (b : Bool) → length (filter p hs) + length (filter (λ h. not (p h)) hs) ≡ length hs
        → length (if b then h ∷ filter p hs else filter p hs) + length (if not b then h ∷ filter (λ h. not (p h)) hs else filter (λ h. not (p h)) hs) ≡ length (h ∷ hs)
    by true e = omega (arith, e)
    by false e = omega (arith, e)

all_long : (p : Held → Bool) (hs : List Held) → All (λ h. p h ≡ true) hs → length (filter p hs) ≡ length hs
all_long p [] a = refl
all_long p (h ∷ hs) a = by (p h) (All-head (λ h. p h ≡ true) h hs a) (all_long p hs (All-tail (λ h. p h ≡ true) h hs a))
  where
    by : (b : Bool) → b ≡ true → length (filter p hs) ≡ length hs → length (if b then h ∷ filter p hs else filter p hs) ≡ length (h ∷ hs)
    by true t e = omega (arith, e)
    by false t e = absurd (let f = t in cc)

none_long : (p : Held → Bool) (hs : List Held) → All (λ h. p h ≡ false) hs → length (filter p hs) ≡ 0
none_long p [] a = refl
none_long p (h ∷ hs) a = by (p h) (All-head (λ h. p h ≡ false) h hs a) (none_long p hs (All-tail (λ h. p h ≡ false) h hs a))
  where
    by : (b : Bool) → b ≡ false → length (filter p hs) ≡ 0 → length (if b then h ∷ filter p hs else filter p hs) ≡ 0
    by true t e = absurd (let f = t in cc)
    by false t e = e

abbrev refuses : Held → Bool
refuses h = is_refusal h.answer

refused_long : (hs : List Held) → length (refused_in hs) ≡ length (filter refuses hs)
refused_long hs = length-map (filter refuses hs) (λ h. h.instance)

left_long : (hs : List Held) → length (left_in hs) ≡ length (filter (λ h. not (refuses h)) hs)
left_long hs = length-map (filter (λ h. not (refuses h)) hs) (λ h. h.instance)

-- ---- by the end of the run
refused_open : (b : Ledger) (e : Instance) (o : Outcome) → b.verdict ≡ None → length b.history < b.limit → IsHeld b e o → is_refusal o ≡ true
refused_open b e (Closed v) none room h = absurd (none-some v (sym none ∙ h))
refused_open b (at.Reduction r) Full none room h = let f = h.1 in absurd (omega (arith, room, f))
refused_open b (at.Verdict v) Full none room h = absurd h.1
refused_open b e Past none room h = refl
refused_open b e NotDecimal none room h = refl
refused_open b e (Stale k) none room h = absurd h
refused_open b e (Applied k) none room h = absurd h
refused_open b e NoMemory none room h = absurd h

left_full : (b : Ledger) (e : Instance) (o : Outcome) → length b.history ≡ b.limit → IsHeld b e o → is_refusal o ≡ false
left_full b (at.Reduction r) Past full h = let f = h.1 in absurd (omega (arith, full, f))
left_full b (at.Reduction r) NotDecimal full h = let f = h.1 in absurd (omega (arith, full, f))
left_full b (at.Verdict v) Past full h = absurd (h.2 tt)
left_full b (at.Verdict v) NotDecimal full h = absurd (h.3 tt)
left_full b e (Closed v) full h = refl
left_full b e Full full h = refl
left_full b e (Stale k) full h = refl
left_full b e (Applied k) full h = refl
left_full b e NoMemory full h = refl

left_closed : (b : Ledger) (e : Instance) (o : Outcome) → b.verdict ≢ None → IsHeld b e o → is_refusal o ≡ false
left_closed b e Past closed h = absurd (closed h.0)
left_closed b e NotDecimal closed h = absurd (closed h.0)
left_closed b e (Closed v) closed h = refl
left_closed b e Full closed h = refl
left_closed b e (Stale k) closed h = refl
left_closed b e (Applied k) closed h = refl
left_closed b e NoMemory closed h = refl

-- a book on whose problem no verdict is enabled has none
no_verdict : (b : Ledger) → Stands b → IsUndecided b.problem → b.verdict ≡ None
no_verdict b s u = by b.verdict s.verdict
  where
    by : (v : Option Verdict) → IfSome v (λ w. enabled_on b.problem (at.Verdict w) ≡ true) → v ≡ None
    by None h = refl
    by (Some w) h = let off = u w in absurd (let f : true ≡ false = sym h ∙ off in cc)

skips_as : (b : Ledger) (o : Option End) (hs : List Held) (cs : List RuleCount) → Stands b → EndsWith o b → All (λ h. IsHeld b h.instance h.answer) hs → length hs ≡ skipped_on (open_on b.tally) b.problem
    → refused_sum cs ≡ length (filter refuses hs) → refused_sum cs + left_sum cs ≡ length hs → SkipsAs o cs
skips_as b (Some (Fixpoint n)) hs cs s h why long sum both =
    let a = all_long refuses hs (λ k d lt. refused_open b _ _ (no_verdict b s h.1.undecided) h.0 (why k d lt)) in
    let e = h.2 in (omega (arith, a, e, long, sum), omega (arith, a, sum, both))
skips_as b (Some LimitReached) hs cs s h why long sum both = sum ∙ none_long refuses hs (λ k d lt. left_full b _ _ h.0 (why k d lt))
skips_as b None hs cs s h why long sum both = sum ∙ none_long refuses hs (λ k d lt. left_closed b _ _ h (why k d lt))

-- ---- all of it
pub adds_up : (b : Ledger) (o : Option End) (hs : List Held) → Stands b → EndsWith o b → AreHeld b hs → AddsUp b o (counts_of b hs)
adds_up b o hs s h held =
    let long : length hs ≡ skipped_on (open_on b.tally) b.problem = sym (length-map hs (λ h. h.instance)) ∙ ap length held.all in
    let made : Rule → RuleCount = rule_count (applied_in b) (refused_in hs) (left_in hs) in
    let applied : applied_sum (counts_of b hs) ≡ instance_count b = sum_mapped (λ c. c.applied) made all_rules ∙ count_all (applied_in b) ∙ applied_long b in
    let refused : refused_sum (counts_of b hs) ≡ length (filter refuses hs) = sum_mapped (λ c. c.refused) made all_rules ∙ count_all (refused_in hs) ∙ refused_long hs in
    let left : left_sum (counts_of b hs) ≡ length (filter (λ h. not (refuses h)) hs) = sum_mapped (λ c. c.left) made all_rules ∙ count_all (left_in hs) ∙ left_long hs in
    let either = either_long refuses hs in
    let both : refused_sum (counts_of b hs) + left_sum (counts_of b hs) ≡ length hs = omega (arith, refused, left, either) in
    record {
      applied = applied;
      held = both ∙ long;
      skips = skips_as b o hs (counts_of b hs) s h held.why long refused both;
    }

-- what is counted of lists that are these
pub counted : (b : Ledger) (hs : List Held) (applied refused left : List Instance) (rules : List Rule) (cs : List RuleCount) → cs ≡ map (rule_count applied refused left) rules → applied ≡ applied_in b → refused ≡ refused_in hs → left ≡ left_in hs → rules ≡ all_rules → cs ≡ counts_of b hs
counted b hs applied refused left rules cs is a r l o = is ∙ (λ t. map (rule_count (a t) (r t) (l t)) (o t))
