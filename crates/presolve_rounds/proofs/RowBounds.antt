-- The instances that tighten bounds by a row: those that are enabled and open, all stale, or met in turn.
use Rattle.std.proofs.Common.{◌≡◌, ◌⊎◌, inl, inr, ℕ, suc, true, false, List, [], ◌∷◌, map, sym, refl, ap, ap₂, ◌∙◌, subst, arith, true≢false}
use Rattle.std.specs.Prelude.{◌&&◌, Bool, if◌then◌else◌}
use Rattle.std.specs.List.{Contains, filter}
use Rattle.std.proofs.lemmas.Bool.{eq-eqb}
use Rattle.undo_records.specs.declared.side.Side.{Side}
use Rattle.problem_model.specs.declared.part.Part.{Part}
use Rattle.problem_model.specs.Parts.{changes_of}
use Rattle.problem_model.specs.Problems.{row_entries}
use Rattle.activity_laws.specs.BoundTightening.{bounds_of, enabled}
use Rattle.presolve_model.specs.declared.instance.Instance.{Instance}
use Rattle.presolve_model.specs.declared.instance.Instance.TheVariants as at
use Rattle.presolve_model.specs.declared.instance.Reduction.TheVariants.{BoundTightening}
use Rattle.presolve_model.specs.declared.instance.Rule.TheVariants as rule
use Rattle.presolve_model.specs.Enabled.{enabled_on, reads}
use Rattle.presolve_model.specs.Instances.{goes_by_form, instances_from, reach_of, rule_at}
use Rattle.presolve_model.specs.Ledger.{instance_count, Ledger}
use Rattle.presolve_model.specs.Tallies.{Open, open_on}
use Rattle.presolve_model.proofs.Lists.{each_mapped}
use Rattle.place_laws.specs.Marks.{IsNoted}
use Rattle.place_laws.specs.Standing.{IsFresh}
use Rattle.round_laws.specs.Passing.{are_unchanged, ReadAlike}
use Rattle.round_laws.proofs.Numbers.{unchanged_fresh}
use Rattle.round_laws.proofs.Sharing.{fresh_alike, row_noted}
use Rattle.round_laws.proofs.Thinning.{passed_found}
use Rattle.instances.proofs.Scanning.{passes_mapped, tests_swapped}
use Rattle.round_marks.specs.Marking.{Watched}
use Rattle.presolve_rounds.specs.Walking.{any_bound, AreAlike, AreFresh, IsGoing, IsPassed, open_bounds}
use Rattle.presolve_rounds.proofs.Sharing.{found_alike, IsLeft, left_none}
use Rattle.presolve_rounds.proofs.Running.{none_passed}

-- ---- one of them reads what each reads
pub row_alike : (opens : Open) (i : ℕ) (xs : List (ℕ × Side)) → ReadAlike (any_bound i) (open_bounds opens i xs)
row_alike opens i xs = record {
  parts = λ x c s. each_mapped (λ y. reads s y ≡ reads s (any_bound i)) (λ y. at.Reduction (BoundTightening i y.0 y.1)) (filter (λ y. opens y.0 y.1) xs) x (λ y. refl) c;
  by_value = λ x c. each_mapped (λ y. goes_by_form (reach_of (rule_at y)) ≡ false) (λ y. at.Reduction (BoundTightening i y.0 y.1)) (filter (λ y. opens y.0 y.1) xs) x (λ y. refl) c;
}

-- ---- a stale one reads a part that is noted
behind : (a : Part) (ps noted : List Part) → (x : Part) × Contains ps x × Contains noted x → (x : Part) × Contains (a ∷ ps) x × Contains noted x
behind a ps noted (x, (k, l, h), c) = (x, (suc k, omega (arith, l), h), c)

module _ (a : Ledger) (w : Watched) (b : Ledger) (going : IsGoing a w b) where
  noted_or_same : (ps : List Part) → ((x : Part) × Contains ps x × Contains w.marks.noted x) ⊎ (are_unchanged (changes_of a.problem) b.problem ps ≡ true)
  noted_or_same [] = inr refl
  noted_or_same (p ∷ ps) = by (going.noted p) (noted_or_same ps)
    where
      by : (changes_of b.problem p ≡ changes_of a.problem p) ⊎ Contains w.marks.noted p → ((x : Part) × Contains ps x × Contains w.marks.noted x) ⊎ (are_unchanged (changes_of a.problem) b.problem ps ≡ true)
          → ((x : Part) × Contains (p ∷ ps) x × Contains w.marks.noted x) ⊎ (are_unchanged (changes_of a.problem) b.problem (p ∷ ps) ≡ true)
      by (inr c) k = inl (p, (0, omega arith, refl), c)
      by (inl e) (inl k) = inl (behind p ps w.marks.noted k)
      by (inl e) (inr h) = inr (ap₂ (λ (x y : Bool). x && y) (eq-eqb (changes_of b.problem p) (changes_of a.problem p) e) h)

  pub stale_noted : (e : Instance) → (IsFresh a.problem b.problem e → ⊥) → IsNoted b.problem w.marks.noted e
  stale_noted e stale = by (noted_or_same (reads b.problem e))
    where
      by : ((x : Part) × Contains (reads b.problem e) x × Contains w.marks.noted x) ⊎ (are_unchanged (changes_of a.problem) b.problem (reads b.problem e) ≡ true) → IsNoted b.problem w.marks.noted e
      by (inl k) = k
      by (inr h) = absurd (stale (unchanged_fresh (changes_of a.problem) a.problem b.problem going.follows.later (λ x. refl) e h))

-- ---- those of a row that are enabled and open
abbrev pub tight : Ledger → ℕ → List (ℕ × Side)
tight b i = filter (λ x. enabled b.problem i x.0 x.1) (bounds_of (row_entries b.problem i))

found_is : (b : Ledger) (i : ℕ) → open_bounds (open_on b.tally) i (tight b i) ≡ filter (enabled_on b.problem) (instances_from (open_on b.tally) b.problem rule.BoundTightening i)
found_is b i =
    let f = λ (x : ℕ × Side). at.Reduction (BoundTightening i x.0 x.1) in
    let open_one = λ (x : ℕ × Side). open_on b.tally x.0 x.1 in
    let tight_one = λ (x : ℕ × Side). enabled_on b.problem (f x) in
    let all : List (ℕ × Side) = bounds_of (row_entries b.problem i) in
    ap (map f) (tests_swapped open_one tight_one all) ∙ sym (passes_mapped (enabled_on b.problem) f (filter open_one all))

module _ (a : Ledger) (w : Watched) (b : Ledger) (i : ℕ) (going : IsGoing a w b) where
  pub bounds_passed : (xs : List (ℕ × Side)) (v : Watched) (c : Ledger) → xs ≡ tight b i → IsPassed a (open_bounds (open_on b.tally) i xs) w b v c → IsPassed a (instances_from (open_on a.tally) a.problem rule.BoundTightening i) w b v c
  bounds_passed xs v c is h =
      let k : IsPassed a (filter (enabled_on b.problem) (instances_from (open_on b.tally) b.problem rule.BoundTightening i)) w b v c =
      subst (λ (es : List Instance). IsPassed a es w b v c) (ap (open_bounds (open_on b.tally) i) is ∙ found_is b i) h in
      record {
        passed = passed_found (open_on a.tally) a.problem (instance_count a) rule.BoundTightening i w.marks v.marks b c going.follows k.passed;
        forms = k.forms;
      }

  pub none_tight : tight b i ≡ [] → IsPassed a (instances_from (open_on a.tally) a.problem rule.BoundTightening i) w b w b
  none_tight e = bounds_passed [] w b (sym e) (none_passed a w b going)

  pub all_stale_bounds : (IsFresh a.problem b.problem (any_bound i) → ⊥) → IsPassed a (instances_from (open_on a.tally) a.problem rule.BoundTightening i) w b w b
  all_stale_bounds stale = bounds_passed (tight b i) w b refl (record {
    passed = row_noted (open_on a.tally) a.problem (instance_count a) w.marks b (any_bound i) (open_bounds (open_on b.tally) i (tight b i)) going.follows stale (row_alike (open_on b.tally) i (tight b i)) (stale_noted a w b going (any_bound i) stale);
    forms = going.forms;
  })

pub bounds_alike : (b : Ledger) (i : ℕ) (xs : List (ℕ × Side)) → xs ≡ tight b i → AreAlike b (open_bounds (open_on b.tally) i xs)
bounds_alike b i xs is = subst (AreAlike b) (sym (ap (open_bounds (open_on b.tally) i) is ∙ found_is b i)) (found_alike b rule.BoundTightening i refl)

pub bounds_fresh : (a b : Ledger) (i : ℕ) (xs : List (ℕ × Side)) → IsFresh a.problem b.problem (any_bound i) → AreFresh a b (open_bounds (open_on b.tally) i xs)
bounds_fresh a b i xs fresh x c = fresh_alike a.problem b.problem (any_bound i) x (open_bounds (open_on b.tally) i xs) (row_alike (open_on b.tally) i xs) c fresh

-- ---- in turn
module _ (a : Ledger) (all : List Instance) (w : Watched) (b : Ledger) (i : ℕ) (xs ys : List (ℕ × Side)) (v : Watched) (c : Ledger) (j : ℕ) (side : Side) (h : IsLeft a all w b (open_bounds (open_on b.tally) i xs) v c) (first : xs ≡ (j, side) ∷ ys) where
  by_first : (t : Bool) → open_on c.tally j side ≡ t → open_bounds (open_on b.tally) i xs ≡ (if t then at.Reduction (BoundTightening i j side) ∷ open_bounds (open_on b.tally) i ys else open_bounds (open_on b.tally) i ys)
  by_first t is = ap (open_bounds (open_on b.tally) i) first ∙ by (open_on b.tally j side) t (ap (λ (x : Ledger). open_on x.tally j side) (sym h.same) ∙ is)
    where
      kept : List (ℕ × Side)
      kept = filter (λ x. open_on b.tally x.0 x.1) ys

      by : (s t : Bool) → s ≡ t → map (λ x. at.Reduction (BoundTightening i x.0 x.1)) (if s then (j, side) ∷ kept else kept) ≡ (if t then at.Reduction (BoundTightening i j side) ∷ open_bounds (open_on b.tally) i ys else open_bounds (open_on b.tally) i ys)
      by true true e = refl
      by false false e = refl
      by true false e = absurd (true≢false e)
      by false true e = absurd (true≢false (sym e))

  pub open_left : open_on c.tally j side ≡ true → IsLeft a all w b (at.Reduction (BoundTightening i j side) ∷ open_bounds (open_on b.tally) i ys) v c
  open_left t = subst (λ (es : List Instance). IsLeft a all w b es v c) (by_first true t) h

  pub closed_left : open_on c.tally j side ≡ false → IsLeft a all w b (open_bounds (open_on b.tally) i ys) v c
  closed_left f = subst (λ (es : List Instance). IsLeft a all w b es v c) (by_first false f) h

pub all_met : (a : Ledger) (all : List Instance) (w : Watched) (b : Ledger) (i : ℕ) (xs : List (ℕ × Side)) (v : Watched) (c : Ledger) → IsLeft a all w b (open_bounds (open_on b.tally) i xs) v c → xs ≡ [] → IsPassed a all w b v c
all_met a all w b i xs v c h none = left_none a all w b [] v c (omega arith) (subst (λ (ys : List (ℕ × Side)). IsLeft a all w b (open_bounds (open_on b.tally) i ys) v c) none h)

pub at_first : (e : Instance) (es : List Instance) → Contains (e ∷ es) e
at_first e es = (0, omega arith, refl)
